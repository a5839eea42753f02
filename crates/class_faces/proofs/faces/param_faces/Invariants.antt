use Rattle.std.proofs.Common.{◌≡◌, map, take}
use Rattle.class_faces.specs.Assigned.{Names}
use Rattle.class_faces.specs.Faces.{Holds, param_face}
use Rattle.class_faces.proofs.faces.param_faces.Given as goal

-- the parameters so far
abbrev pub invariant-loop-param : goal.invariant-loop-param
invariant-loop-param l = (names : Names) → Holds l.assigned names → l.faces ≡ map (param_face names) (take l.param-index l.params)
