-- The rounds over findings whose promises and links are numbers.
use Rattle.std.specs.Prelude.{◌≡◌, ℕ, zero, suc, ◌<◌, Bool, true, false, List, length, slice_index_or, Contains, All, Vec}
use Rattle.std.specs.Global.{Global}
use Rattle.consistency.specs.declared.flat.Flat.{Flat}
use Rattle.consistency.specs.declared.graph.Clause.{Clause}
use Rattle.consistency.specs.declared.graph.Link.{Link}
use Rattle.consistency.specs.declared.graph.Link.TheVariants.{Promise, Word}
use Rattle.consistency.specs.Flat.{on_of, finding_of, barred_of, alternative_of, target_of}

-- a link survives a set; a person's word does always in Con (given is true), and never in Firm
abbrev pub Holds : Bool → (ℕ → Type 0) → Link → Type 0
Holds given S (Promise q) = S q
Holds given S (Word w) = given ≡ true

abbrev pub NextOf : Bool → List Clause → (ℕ → Type 0) → ℕ → Type 0
NextOf given fs S p = (x : Clause) → Contains fs x → x.on ≡ p → (a : Vec Link Global) × Contains x.alternatives.items a × All (Holds given S) a.items

abbrev pub In : Bool → List Clause → ℕ → ℕ → Type 0
In given fs zero p = Unit {0}
In given fs (suc k) p = NextOf given fs (In given fs k) p

-- alternative m of the graph has the links ls
pub record SameLinks (given : Bool) (g : Flat) (m : ℕ) (ls : List Link) : Type 0 where
  pub wordless : barred_of g m ≡ false → (w : ℕ) → Contains ls (Word w) → given ≡ true
  pub opens : ((w : ℕ) → Contains ls (Word w) → given ≡ true) → barred_of g m ≡ false
  pub to : (l : ℕ) → l < length g.alternative.items → alternative_of g l ≡ m → Contains ls (Promise (target_of g l))
  pub from : (q : ℕ) → Contains ls (Promise q) → (l : ℕ) × (l < length g.alternative.items) × (alternative_of g l ≡ m) × (target_of g l ≡ q)

-- the graph has the findings by number
pub record Numbered (given : Bool) (fs : List Clause) (g : Flat) : Type 0 where
  pub count : length g.on.items ≡ length fs
  pub on : (i : ℕ) (d : Clause) → i < length fs → on_of g i ≡ (slice_index_or fs i d).on
  pub there : (i : ℕ) (d : Clause) → i < length fs → (a : Vec Link Global) → Contains (slice_index_or fs i d).alternatives.items a
      → (m : ℕ) × (m < length g.finding.items) × (finding_of g m ≡ i) × SameLinks given g m a.items
  pub back : (m : ℕ) (d : Clause) → m < length g.finding.items
      → (a : Vec Link Global) × Contains (slice_index_or fs (finding_of g m) d).alternatives.items a × SameLinks given g m a.items
