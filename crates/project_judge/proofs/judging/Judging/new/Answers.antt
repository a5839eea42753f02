use Rattle.std.proofs.Common.{[]}
use Rattle.project_judge.proofs.JudgeSteps.{none_judged}
use Rattle.project_judge.proofs.judging.Judging.new.Goals as goal

pub returns : goal.returns
returns c surfaces = none_judged surfaces c.args.promises (record { units = c.new.result; tally = c.add_promises.new.self }) c.new.ensures.items (c.add_promises.ensures 0 [] c.new-tally.ensures)
