use Rattle.std.proofs.Common.{◌≡◌, map, take}
use Rattle.views.specs.Face.{face}
use Rattle.bound_unit.specs.Aboves.{aboves_as}
use Rattle.lock_check.specs.Roles.{above_of}
use Rattle.lock_check.proofs.roles.aboves_of.Given as goal

abbrev pub invariant-loop-method : goal.invariant-loop-method
invariant-loop-method l = l.aboves ≡ map (above_of (face l.view)) (aboves_as (take l.method-index l.methods))
