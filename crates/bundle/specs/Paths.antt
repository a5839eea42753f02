-- The paths that have come so far.
use Rattle.std.specs.Prelude.{ℕ, Bool, List, nat_eq}
use Rattle.std.specs.List.{list_any}
use Rattle.std.specs.Borrow.{Bor}
use Rattle.std.specs.BTreeSet.{BTreeSet}
use Rattle.std.specs.Cmp.Lexicographic.{pointwise}

abbrev pub list_eq : List ℕ → List ℕ → Bool
list_eq p q = pointwise nat_eq p q

-- a path is among those of the set
abbrev pub has_path : BTreeSet (Bor (List ℕ)) → List ℕ → Bool
has_path seen q = list_any (λ k. list_eq q k.now) seen.keys
