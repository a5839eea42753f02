-- Methods of interfaces in the program, and the names that have been met.
use Rattle.std.specs.Prelude.{ℕ, Bool, List, [], ◌∷◌, map, Option, Some, None}
use Rattle.std.specs.Borrow.{Bor}
use Rattle.std.specs.BTreeSet.{BTreeSet}
use Rattle.std.specs.List.{list_any}
use Rattle.std.specs.Str.{bytes_eq}
use Rattle.bound_unit.specs.Implemented.{Above}
use Rattle.bound_unit.specs.declared.interfaces.Above.{Above as KeptAbove}

abbrev pub above_as : KeptAbove → Above
above_as a = record { interface = a.interface.now; member = a.member.now }

abbrev pub aboves_as : List KeptAbove → List Above
aboves_as list = map above_as list

abbrev pub aboves_if_any : Option KeptAbove → List Above
aboves_if_any None = []
aboves_if_any (Some a) = above_as a ∷ []

-- a name is among those of the set
abbrev pub has_name : BTreeSet (Bor (List ℕ)) → List ℕ → Bool
has_name met q = list_any (λ k. bytes_eq q k.now) met.keys
