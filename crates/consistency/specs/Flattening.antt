-- From findings by number to their lists.
use Rattle.std.specs.Prelude.{◌≡◌, ℕ, ◌<◌, Bool, true, false, List, [], ◌∷◌, ◌++◌, length, map, slice_index_or, Contains, Vec}
use Rattle.std.specs.List.{list_any}
use Rattle.std.specs.Global.{Global}
use Rattle.consistency.specs.declared.flat.Flat.{Flat}
use Rattle.consistency.specs.declared.graph.Clause.{Clause}
use Rattle.consistency.specs.declared.graph.Link.{Link}
use Rattle.consistency.specs.declared.graph.Link.TheVariants.{Promise, Word}
use Rattle.consistency.specs.Flat.{finding_of, alternative_of}
use Rattle.consistency.specs.Numbers.{SameLinks}

abbrev pub is_word : Link → Bool
is_word (Promise q) = false
is_word (Word w) = true

abbrev pub has_word : List Link → Bool
has_word ls = list_any (λ l. is_word l) ls

-- the promises to which links lead
abbrev pub targets : List Link → List ℕ
targets [] = []
targets (Promise q ∷ ls) = q ∷ targets ls
targets (Word w ∷ ls) = targets ls

-- the links of an alternative are put at the end
pub record AddsLinks (old new : Flat) (way : ℕ) (ls : List Link) : Type 0 where
  pub promises : new.promises ≡ old.promises
  pub on : new.on.items ≡ old.on.items
  pub finding : new.finding.items ≡ old.finding.items
  pub barred : new.barred.items ≡ old.barred.items
  pub alternative : new.alternative.items ≡ old.alternative.items ++ map (λ q. way) (targets ls)
  pub target : new.target.items ≡ old.target.items ++ targets ls

-- alternatives, by the number of their finding and their links
abbrev pub Way : Type 0
Way = ℕ × List Link

-- the lists have these alternatives
pub record HasWays (given : Bool) (ways : List Way) (g : Flat) : Type 0 where
  pub size : length g.finding.items ≡ length ways
  pub barred_size : length g.barred.items ≡ length ways
  pub target_size : length g.target.items ≡ length g.alternative.items
  pub finding : (m : ℕ) (d : Way) → m < length ways → finding_of g m ≡ (slice_index_or ways m d).0
  pub same : (m : ℕ) (d : Way) → m < length ways → SameLinks given g m (slice_index_or ways m d).1
  pub within : (l : ℕ) → l < length g.alternative.items → alternative_of g l < length ways

-- the lists have these alternatives more
pub record AddsWays (given : Bool) (old new : Flat) (more : List Way) : Type 0 where
  pub promises : new.promises ≡ old.promises
  pub on : new.on.items ≡ old.on.items
  pub ways : (ways : List Way) → HasWays given ways old → HasWays given (ways ++ more) new

abbrev pub ways_of : ℕ → List (Vec Link Global) → List Way
ways_of f alternatives = map (λ (ls : Vec Link Global). (f, ls.items)) alternatives

-- the alternatives are those of the first n findings
pub record AreWays (cs : List Clause) (n : ℕ) (ways : List Way) : Type 0 where
  pub there : (i : ℕ) (d : Clause) (a : Vec Link Global) → i < n → Contains (slice_index_or cs i d).alternatives.items a → Contains ways (i, a.items)
  pub back : (w : Way) → Contains ways w → (w.0 < n) × ((d : Clause) → (a : Vec Link Global) × Contains (slice_index_or cs w.0 d).alternatives.items a × (w.1 ≡ a.items))

-- the lists are those of the first n findings
abbrev pub FlatTo : Bool → List Clause → ℕ → Flat → Type 0
FlatTo given cs n g = (ways : List Way) × HasWays given ways g × AreWays cs n ways
