use Rattle.region_tree.proofs.Numbers.{roots_numbered, more_numbered}
use Rattle.region_tree.proofs.names.number_names.Goals as goal

pub loop-i-init : goal.loop-i-init
loop-i-init c =
    roots_numbered c.new-numbers.result c.put_first.new.numbers c.put_first-2.new.numbers c.args.declared.now
    c.in_ok-from_slice.field-0 c.in_ok-from_slice-2.field-0 c.new-numbers.ensures.empty
    c.in_ok-from_slice.ensures c.in_ok-from_slice-2.ensures c.in_ok-put_first.ensures c.in_ok-put_first-2.ensures

pub loop-i-preserved : goal.loop-i-preserved
loop-i-preserved c =
    more_numbered c.loop-i.numbers c.put_first-in-loop-i.new.numbers c.args.declared.now c.loop-i.i c.index-declared-i.result
    c.in_ok-clone.field-0 c.loop-i-test.true c.index-declared-i.is c.in_ok-clone.ensures.cases c.loop-i.invariant c.in_ok-put_first-3.ensures
