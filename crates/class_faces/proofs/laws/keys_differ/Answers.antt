use Rattle.class_faces.proofs.KeyLaws.{units_distinct}
use Rattle.class_faces.proofs.laws.keys_differ.Goals as goal

pub returns : goal.returns
returns c = units_distinct
