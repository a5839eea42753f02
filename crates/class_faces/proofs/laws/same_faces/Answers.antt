use Rattle.class_faces.specs.Same.{field_decides, param_decides, ty_decides}
use Rattle.class_faces.proofs.laws.same_faces.Goals as goal

pub returns : goal.returns
returns c = record { types = ty_decides; fields = field_decides; params = param_decides }
