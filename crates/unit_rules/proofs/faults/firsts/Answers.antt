use Rattle.std.proofs.Common.{◌++◌, ◌∷◌, []}
use Rattle.unit_rules.proofs.Lists.{firsts_all, firsts_step}
use Rattle.unit_rules.proofs.faults.firsts.Goals as goal

pub loop-finding-preserved : goal.loop-finding-preserved
loop-finding-preserved c =
    let more = firsts_step c.loop-finding.last c.in_ok-last.last c.loop-finding.yielded c.loop-finding.out c.put_first.new.out c.in-Some.finding c.in_ok-last.ensures.place c.in_ok-last.ensures.out c.loop-finding.invariant.whatever in
    record { whatever = more; so_far = firsts_all c.in_ok-last.last (c.loop-finding.yielded ++ c.in-Some.finding ∷ []) c.put_first.new.out more }
