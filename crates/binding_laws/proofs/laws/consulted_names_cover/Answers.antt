use Rattle.binding_laws.proofs.Covering.{binding-covers}
use Rattle.binding_laws.proofs.laws.consulted_names_cover.Goals as goal

pub returns : goal.returns
returns c = binding-covers
