use Rattle.std.proofs.Common.{◌≡◌, ◌+◌, arith}
use Rattle.std.proofs.lemmas.Grind.{common_steps}
use Rattle.finding_order.specs.Numbers.{count_in}
use Rattle.finding_order.proofs.Counting.{count_step}
use Rattle.finding_order.proofs.number.count_group.Goals as goal

pub returns : goal.returns
returns c =
    let one : c.in_ok-times.times ≡ count_in c.args.counts.now c.args.group + 1 = grind (arith, common_steps) in
    λ before was. count_step c.args.counts.now c.insert.new.self c.args.group c.in_ok-times.times before c.in_ok-insert.ensures.updates one was
