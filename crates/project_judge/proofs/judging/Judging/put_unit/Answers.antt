use Rattle.std.specs.Option.{option_copied}
use Rattle.project_judge.proofs.JudgeSteps.{unit_judged}
use Rattle.project_judge.proofs.judging.Judging.put_unit.Goals as goal

pub returns-clause-put : goal.returns-clause-put
returns-clause-put c surfaces units n is judged =
    unit_judged surfaces units n c.args.self.now (record { units = c.push.new.self; tally = c.add.new.self }) c.args.at.now c.args.lines.now.text.now (option_copied c.args.member) c.args.key.now
    c.in_ok-clone.field-0 c.in_ok-findings.findings c.as_slice.result.now c.unit_tokens-tokens.result.now (record { key = c.in_ok-clone-2.field-0; found = c.in_ok-found.found })
    is judged c.in_ok-clone.ensures.cases c.in_ok-findings.ensures c.as_slice.ensures c.unit_tokens-tokens.ensures c.in_ok-clone-2.ensures.cases c.in_ok-found.ensures.sited c.in_ok-push.ensures.items c.add.ensures
