use Rattle.region_scrub.proofs.Beginning.{own_all}
use Rattle.region_scrub.proofs.make.own_keys.Goals as goal

pub returns : goal.returns
returns c = own_all c.args.declared.now c.loop-decl.decl-index c.loop-decl.own.items c.loop-decl-test.false c.loop-decl.invariant
