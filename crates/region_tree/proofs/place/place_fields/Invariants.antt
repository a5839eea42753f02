use Rattle.std.proofs.Common.{take}
use Rattle.region_tree.specs.Faults.{AllPlaced}
use Rattle.region_tree.specs.Names.{Places}
use Rattle.region_tree.proofs.place.place_fields.Given as goal

abbrev pub invariant-loop-put : goal.invariant-loop-put
invariant-loop-put l = record {
  good : AllPlaced l.declared l.fields l.put-index;
  places : Places l.places l.declared (take l.put-index l.fields);
}
