use Rattle.class_faces.specs.Assigned.{by_first, by_step}
use Rattle.class_faces.proofs.Assigns.{puts_after}
use Rattle.class_faces.proofs.assigned.put_parts.Goals as goal

pub returns : goal.returns
returns c =
    puts_after c.put_step.result c.args.names.now c.put_first.new.names c.put_step.new.names (by_first c.args.first.now) (by_step c.args.step.now)
    c.in_ok-put_first.ensures c.put_step.ensures
