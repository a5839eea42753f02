-- Texts in the order in which they were put, and a set of them to look them up in.
use Rattle.std.specs.Prelude.{◌≡◌, ℕ, Bool, List}
use Rattle.std.specs.List.{list_any}
use Rattle.std.specs.Str.{bytes_eq}
use Rattle.std.specs.Ordering.{nat_cmp}
use Rattle.std.specs.Cmp.Lexicographic.{slice_cmp}
use Rattle.std.specs.BTreeSet.{BTreeSet, contains}

-- the text is among these
abbrev pub is_among : List ℕ → List (List ℕ) → Bool
is_among text texts = list_any (λ t. bytes_eq t text) texts

-- the set has the texts of the list and no others
pub record Lists (set : BTreeSet (List ℕ)) (list : List (List ℕ)) : Type 0 where
  pub lists : (text : List ℕ) → contains (slice_cmp nat_cmp) set text ≡ is_among text list
