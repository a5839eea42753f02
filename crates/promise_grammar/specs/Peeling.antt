-- Reading a content from the outside in, and its tree from the inside out.
use Rattle.std.specs.Prelude.{◌≡◌, ℕ, Bool, true, false, List, [], ◌∷◌, Result, Ok, Err}
use Rattle.std.specs.Borrow.{Bor}
use Rattle.promise_grammar.specs.declared.error.PromiseError.{PromiseError}
use Rattle.promise_grammar.specs.declared.error.PromiseError.TheVariants as error
use Rattle.promise_grammar.specs.declared.kind.PromiseKind.{PromiseKind}
use Rattle.promise_grammar.specs.declared.kind.PromiseKind.TheVariants as kind
use Rattle.promise_grammar.specs.declared.layer.Layer.{Layer}
use Rattle.promise_grammar.specs.declared.layer.Layer.TheVariants as layer
use Rattle.promise_grammar.specs.declared.tree.PromiseTree.{PromiseTree}
use Rattle.promise_grammar.specs.declared.tree.PromiseTree.TheVariants as tree
use Rattle.promise_grammar.specs.Promise.{Plain, IsVouch, ReadsPromise}

-- a promise of the kind holds another one
abbrev pub nests : PromiseKind → Bool
nests kind.Promise = true
nests kind.Assume = true
nests kind.Region = false
nests kind.InRegion = false
nests kind.RegionLock = false
nests kind.RequiresLock = false
nests kind.Unique = false
nests kind.Borrowed = false
nests kind.RegionEffects = false
nests kind.Starts = false
nests kind.Vouch = false

abbrev pub around : Layer → PromiseTree → PromiseTree
around (layer.Promise scope) t = tree.Promise t scope
around (layer.Assume member) t = tree.Assume t member

-- the tree with the layers round it, the outermost first
abbrev pub wrapped : List Layer → PromiseTree → PromiseTree
wrapped [] t = t
wrapped (l ∷ ls) t = around l (wrapped ls t)

-- Without these layers the content is one of the kind k with the text.
pub record Peeled (outer : PromiseKind) (content : List ℕ) (ls : List Layer) (k : PromiseKind) (text : List ℕ) : Type 0 where
  pub inward : (t : PromiseTree) → ReadsPromise outer content t → (inner : PromiseTree) × ReadsPromise k text inner × (t ≡ wrapped ls inner)
  pub outward : (inner : PromiseTree) → ReadsPromise k text inner → ReadsPromise outer content (wrapped ls inner)

-- The content spells nothing.
abbrev pub SpellsNone : PromiseKind → List ℕ → Type 0
SpellsNone k content = (t : PromiseTree) → ReadsPromise k content t → ⊥

abbrev pub PlainAnswer : PromiseKind → List ℕ → Result PromiseTree PromiseError → Type 0
PlainAnswer k content (Ok t) = Plain k content t × ((other : PromiseTree) → Plain k content other → other ≡ t)
PlainAnswer k content (Err e) = e ≡ error.Grammar → (t : PromiseTree) → Plain k content t → ⊥

abbrev pub VouchAnswer : List ℕ → Result (List ℕ) PromiseError → Type 0
VouchAnswer content (Ok text) = (text ≡ content) × IsVouch content
VouchAnswer content (Err e) = e ≡ error.Grammar → IsVouch content → ⊥

-- Without its layers the content is one of a kind that holds no other promise; or it spells nothing.
abbrev pub Peels : PromiseKind → List ℕ → Result (PromiseKind × Bor (List ℕ)) PromiseError → List Layer → Type 0
Peels outer content (Ok found) ls = (nests found.0 ≡ false) × Peeled outer content ls found.0 found.1.now
Peels outer content (Err e) ls = e ≡ error.Grammar → SpellsNone outer content
