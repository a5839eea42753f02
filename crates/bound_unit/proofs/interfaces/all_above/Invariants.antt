use Rattle.std.proofs.Common.{◌≡◌, ℕ, List, ◌++◌, take, drop}
use Rattle.std.specs.List.{flat_map}
use Rattle.views.specs.Face.{face}
use Rattle.bound_unit.specs.Aboves.{aboves_as, has_name}
use Rattle.bound_unit.specs.Implemented.{above_in, is_among, new_names, each_once}
use Rattle.bound_unit.proofs.interfaces.all_above.Given as goal

-- the names before are met, and the methods so far and those of the new names that are left are all
abbrev pub invariant-loop-interface : goal.invariant-loop-interface
invariant-loop-interface l =
    ((q : List ℕ) → has_name l.met q ≡ is_among (take l.interface-index l.interface-items) q)
    × (aboves_as l.list.items ++ flat_map (above_in (face l.view) l.member l.name l.count) (new_names (take l.interface-index l.interface-items) (drop l.interface-index l.interface-items))
    ≡ flat_map (above_in (face l.view) l.member l.name l.count) (each_once l.interface-items))
