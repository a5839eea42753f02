use Rattle.core_model.proofs.Codes.{onto-popped}
use Rattle.core_model.proofs.body.Body.pop.Goals as goal

pub returns : goal.returns
returns c = rw (← c.self.view_is) (onto-popped c.pop.result c.self.inside.instrs c.pop.new.self c.pop.ensures)
