-- What the functions of the reader answer.
use Rattle.std.specs.Prelude.{◌≡◌, ◌≢◌, ℕ, List, Some, None, Result, Ok, Err}
use Rattle.desk_base.specs.declared.limit.LimitName.{LimitName}
use Rattle.desk_base.specs.declared.limit.LimitName.TheVariants as limit
use Rattle.java_phrases.specs.Tree.{Token, ClassTree, FileTree}
use Rattle.java_phrases.specs.Common.{Phrase}
use Rattle.java_phrases.specs.declared.error.SyntaxError.{SyntaxError, SyntaxError as syntax}
use Rattle.java_reader.specs.declared.error.ReadError.{ReadError}
use Rattle.java_reader.specs.declared.error.ReadError.TheVariants as error
use Rattle.java_reader.specs.declared.draft.Draft.{Draft}
use Rattle.java_reader.specs.Spelling.{Spells}
use Rattle.java_reader.specs.Parts.{Part, PartSpells}
use Rattle.java_reader.specs.Reads.{first_long_name, IsFaultAt}
use Rattle.java_reader.specs.Drafts.{stage_of, added}

-- a tree that is spelled, or that none is
abbrev pub FindsAny : {A : Type 0} → (A → Phrase) → List Token → Result A SyntaxError → List Token → Type 0
FindsAny P ts (Ok x) rest = P x ts rest
FindsAny {A} P ts (Err e) rest = e ≢ syntax.OutOfMemory → (x : A) (other : List Token) → P x ts other → ⊥

-- one part more of a sort, or that none of the sort stands there
abbrev pub Adds : {A : Type 0} → (A → Part) → Draft → List Token → Result Draft SyntaxError → List Token → Type 0
Adds {A} made d ts (Ok new) rest = (x : A) × PartSpells (stage_of d) (made x) ts rest × (new ≡ added d (made x))
Adds {A} made d ts (Err e) rest = e ≢ syntax.OutOfMemory → (x : A) (other : List Token) → PartSpells (stage_of d) (made x) ts other → ⊥

-- one part more, or that no part stands there
abbrev pub Advances : Draft → List Token → Result Draft SyntaxError → List Token → Type 0
Advances = Adds (λ part. part)

-- the same, where the part begins at the place
abbrev pub AdvancesFrom : ℕ → Draft → List Token → Result Draft ReadError → List Token → Type 0
AdvancesFrom at d ts (Ok new) rest = (part : Part) × PartSpells (stage_of d) part ts rest × (new ≡ added d part)
AdvancesFrom at d ts (Err error.OutOfMemory) rest = Unit {0}
AdvancesFrom at d ts (Err (error.Grammar place)) rest = (place ≡ at) × ((part : Part) (other : List Token) → PartSpells (stage_of d) part ts other → ⊥)
AdvancesFrom at d ts (Err (error.Lex place)) rest = ⊥
AdvancesFrom at d ts (Err (error.Limit which place)) rest = ⊥

-- the file, or the end of the text where a type is open
abbrev pub IsWhole : Draft → ℕ → Result FileTree ReadError → Type 0
IsWhole d end (Ok file) = (d.current ≡ None) × (file ≡ d.file)
IsWhole d end (Err e) = (class : ClassTree) × (d.current ≡ Some class) × (e ≡ error.Grammar end)

-- ---- causes, as far as tokens go

abbrev pub IsPartCause : ℕ → List Token → ReadError → Type 0
IsPartCause end tokens (error.Limit which at) = ⊥
IsPartCause end tokens (error.Lex at) = ⊥
IsPartCause end tokens (error.Grammar at) = IsFaultAt tokens end at
IsPartCause end tokens error.OutOfMemory = Unit {0}

abbrev pub IsNameLimit : LimitName → List Token → ℕ → Type 0
IsNameLimit limit.NameBytes tokens at = (name : Token) × (first_long_name tokens ≡ Some name) × (at ≡ name.span.start)
IsNameLimit _ tokens at = ⊥

abbrev pub IsTokenCause : ℕ → List Token → ReadError → Type 0
IsTokenCause end tokens (error.Limit which at) = IsNameLimit which tokens at
IsTokenCause end tokens (error.Lex at) = ⊥
IsTokenCause end tokens (error.Grammar at) = (first_long_name tokens ≡ None) × IsFaultAt tokens end at
IsTokenCause end tokens error.OutOfMemory = Unit {0}

abbrev pub SpellsFit : List Token → FileTree → Type 0
SpellsFit tokens tree = (first_long_name tokens ≡ None) × Spells tokens tree
