use Rattle.consistency.specs.Among.{FindingAmong}
use Rattle.consistency.proofs.Known.{all_at}
use Rattle.consistency.proofs.Standing.{clauses_more}
use Rattle.consistency.proofs.making.clauses_of.Goals as goal

pub loop-finding-preserved : goal.loop-finding-preserved
loop-finding-preserved c =
    rw c.in_ok-push.ensures.items (clauses_more c.args.keys.now c.loop-finding.words.items c.clause_of.new.words.items c.loop-finding.made.items c.args.findings.now c.loop-finding.finding-index c.in_ok-clause_of.field-0 c.finding-item.result
    c.loop-finding-test.true c.finding-item.is c.in_ok-clause_of.ensures.words c.loop-finding.invariant c.in_ok-clause_of.ensures.clause)

pub clause_of-requires-clause-among : goal.clause_of-requires-clause-among
clause_of-requires-clause-among c =
    all_at (FindingAmong c.args.keys.now) c.args.findings.now c.loop-finding.finding-index c.finding-item.result c.requires.among c.loop-finding-test.true c.finding-item.is
