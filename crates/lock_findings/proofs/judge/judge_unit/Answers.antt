use Rattle.std.proofs.Common.{◌≡◌}
use Rattle.lock_findings.proofs.Places.{three}
use Rattle.lock_findings.proofs.judge.judge_unit.Goals as goal

pub returns-clause-ok : goal.returns-clause-ok
returns-clause-ok g c =
    three c.args.out.now c.put_absent.new.out c.put_role.new.out c.put_code.new.out _ _ _
    c.in_ok-put_absent.ensures.ok c.in_ok-put_role.ensures.ok c.in_ok-put_code.ensures.ok
