use Rattle.std.proofs.Common.{refl}
use Rattle.finding_order.proofs.Counting.{number_step}
use Rattle.finding_order.proofs.number.numbered.Goals as goal

pub returns : goal.returns
returns c = λ before was.
    number_step c.count_group.new.counts before c.args.finding _ c.in_ok-group.group c.in_ok-finding.field-0 c.in_ok-group.ensures refl
    (c.in_ok-finding.ensures before was)
