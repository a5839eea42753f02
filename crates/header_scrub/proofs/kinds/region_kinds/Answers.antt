use Rattle.header_scrub.proofs.Gathering.{regions_more, roots_kinds}
use Rattle.header_scrub.proofs.kinds.region_kinds.Goals as goal

pub loop-decl-init : goal.loop-decl-init
loop-decl-init c =
    roots_kinds c.new-kinds.result c.put_first.new.kinds c.put_first-2.new.kinds c.in_ok-from_slice.field-0 c.in_ok-from_slice-2.field-0 c.new-kinds.ensures.empty
    c.in_ok-from_slice.ensures c.in_ok-from_slice-2.ensures c.in_ok-put_first.ensures c.in_ok-put_first-2.ensures

pub loop-decl-preserved : goal.loop-decl-preserved
loop-decl-preserved c =
    regions_more c.args.declared.now c.loop-decl.decl-index c.decl-item.result c.loop-decl.kinds c.put_first-in-loop-decl.new.kinds c.in_ok-clone.field-0
    c.loop-decl-test.true c.decl-item.is c.in_ok-clone.ensures.cases c.loop-decl.invariant c.in_ok-put_first-3.ensures
