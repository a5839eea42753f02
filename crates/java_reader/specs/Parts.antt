-- The parts of a file: the package line, each import line, each type's header up to its "{", each member,
-- and each type's closing "}". They say where a file that isn't spelled is at fault.
use Rattle.std.specs.Prelude.{ℕ, ◌≤◌, List, [], ◌∷◌, length}
use Rattle.java_phrases.specs.Tree.{Kind as k, Token, MemberTree, TypeKind, Package, Import}
use Rattle.java_phrases.specs.Common.{Phrase, Nothing, ◌⨾◌, ◌⊢◌, Never, Mark}
use Rattle.java_heads.specs.declared.header.Header.{Header}
use Rattle.java_heads.specs.Spelling.{PackageSpells, ImportSpells, HeaderSpells}
use Rattle.java_reader.specs.Spelling.{TypeMember}

pub data Part : Type 0 where
  PackageLine : Package → Part
  ImportLine : Import → Part
  Opening : Header → Part
  Inner : MemberTree → Part
  Closing : Part

-- What stands before a part: nothing, lines, types alone behind the lines, or the open body of a class or
-- interface of a name.
pub data Stage : Type 0 where
  Start : Stage
  Lines : Stage
  Types : Stage
  Body : TypeKind → List ℕ → Stage

-- a package line stands first alone
abbrev pub IsStart : Stage → Type 0
IsStart Start = Unit {0}
IsStart Lines = ⊥
IsStart Types = ⊥
IsStart (Body kind name) = ⊥

-- an import line stands before all types
abbrev pub IsBeforeTypes : Stage → Type 0
IsBeforeTypes Start = Unit {0}
IsBeforeTypes Lines = Unit {0}
IsBeforeTypes Types = ⊥
IsBeforeTypes (Body kind name) = ⊥

-- a header stands in no body
abbrev pub IsOutside : Stage → Type 0
IsOutside Start = Unit {0}
IsOutside Lines = Unit {0}
IsOutside Types = Unit {0}
IsOutside (Body kind name) = ⊥

-- a member stands in the body of its class or interface
abbrev pub MemberAt : Stage → MemberTree → Phrase
MemberAt Start m = Never
MemberAt Lines m = Never
MemberAt Types m = Never
MemberAt (Body kind name) m = TypeMember kind name m

-- a closing brace ends a body
abbrev pub IsBody : Stage → Type 0
IsBody Start = ⊥
IsBody Lines = ⊥
IsBody Types = ⊥
IsBody (Body kind name) = Unit {0}

-- the part, where it may stand at this stage
abbrev pub PartSpells : Stage → Part → Phrase
PartSpells stage (PackageLine p) = IsStart stage ⊢ PackageSpells p
PartSpells stage (ImportLine i) = IsBeforeTypes stage ⊢ ImportSpells i
PartSpells stage (Opening h) = IsOutside stage ⊢ HeaderSpells h
PartSpells stage (Inner m) = MemberAt stage m
PartSpells stage Closing = IsBody stage ⊢ Mark k.RBrace

-- the stage behind the part
abbrev pub stage_after : Stage → Part → Stage
stage_after stage (PackageLine p) = Lines
stage_after stage (ImportLine i) = Lines
stage_after stage (Opening h) = Body h.kind h.name.text
stage_after stage (Inner m) = stage
stage_after stage Closing = Types

-- one part after another
abbrev pub PartsSpell : Stage → List Part → Phrase
PartsSpell stage [] = Nothing
PartsSpell stage (part ∷ parts) = PartSpells stage part ⨾ PartsSpell (stage_after stage part) parts

-- what is left behind a longest list of parts that begins a file
pub record LeftByLongest (tokens rest : List Token) : Type 0 where
  pub parts : List Part
  pub begins : PartsSpell Start parts tokens rest
  pub longest : (others : List Part) (left : List Token) → PartsSpell Start others tokens left → length others ≤ length parts
