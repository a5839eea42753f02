use Rattle.std.proofs.Common.{take}
use Rattle.std.specs.List.{flat_map}
use Rattle.class_faces.specs.Assigned.{Puts, item_names}
use Rattle.class_faces.proofs.assigned.+assigned.Given as goal

-- the names of the items so far are put
abbrev pub invariant-put_block-loop-item : goal.invariant-put_block-loop-item
invariant-put_block-loop-item l = Puts l.initial.names l.names (flat_map item_names (take l.item-index l.item-items))
