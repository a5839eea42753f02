use Rattle.class_faces.proofs.KeyLaws.{one_class}
use Rattle.class_faces.proofs.laws.keys_tell_classes.Goals as goal

pub returns : goal.returns
returns c = one_class
