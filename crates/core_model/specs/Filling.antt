-- Filling the fields of an object one by one.
use Rattle.std.specs.Prelude.{◌+◌, List, [], ◌∷◌, ◌++◌}
use Rattle.core_model.specs.declared.make.Filling.{Filling}
use Rattle.core_model.specs.declared.program.Initial.{Initial}
use Rattle.core_model.specs.declared.program.Initial.TheVariants.{Held, FreshObject}
use Rattle.core_model.specs.declared.value.Value.TheVariants as value

-- with one more field
abbrev pub filled : Filling → Initial → Filling
filled f (Held v) = record f { values = f.values ++ v ∷ [] }
filled f FreshObject = record { values = f.values ++ value.Ref f.next ∷ []; next = f.next + 1 }

abbrev pub all_filled : Filling → List Initial → Filling
all_filled f [] = f
all_filled f (i ∷ is) = all_filled (filled f i) is
