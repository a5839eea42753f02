use Rattle.std.proofs.Common.{arith}
use Rattle.region_tree.proofs.Faulty.{good_more}
use Rattle.region_tree.proofs.check.check_declared.Goals as goal

pub loop-i-preserved : goal.loop-i-preserved
loop-i-preserved c =
    good_more c.args.declared.now c.loop-i.i c.index-declared-i.result c.loop-i-test.true c.index-declared-i.is c.loop-i.invariant c.in_ok-check_decl.ensures.good

pub returns-clause-good : goal.returns-clause-good
returns-clause-good c = λ i decl less there. c.loop-i.invariant i decl (omega (arith, less, c.loop-i-test.false)) there
