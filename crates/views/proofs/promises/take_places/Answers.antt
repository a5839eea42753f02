use Rattle.views.proofs.Gathering.{forgets}
use Rattle.views.proofs.promises.take_places.Goals as goal

pub returns-in-Some-clause-left : goal.returns-in-Some-clause-left
returns-in-Some-clause-left c = forgets c.args.index.now c.remove.new.self c.args.unit.now c.in-Some.ensures.updates
