use Rattle.region_tree.proofs.Numbers.{parents_pushed}
use Rattle.region_tree.proofs.names.find_parents.Goals as goal

pub loop-decl-preserved : goal.loop-decl-preserved
loop-decl-preserved c =
    parents_pushed c.args.numbers.now c.args.declared.now c.loop-decl.decl-index c.decl-item.result c.number_written.result
    c.loop-decl.parents.items c.push-in-loop-decl.new.self.items
    c.loop-decl-test.true c.requires c.decl-item.is c.number_written.ensures c.in_ok-push-3.ensures.items c.loop-decl.invariant
