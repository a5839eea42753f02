use Rattle.tree_places.specs.Numbers.{number_of}
use Rattle.unit_rules.specs.Annotations.{inner_begins}
use Rattle.unit_rules.proofs.Lists.{flat_step}
use Rattle.unit_rules.proofs.annotations.put_all_inner.Goals as goal

pub loop-annot-preserved : goal.loop-annot-preserved
loop-annot-preserved c =
    flat_step (inner_begins (number_of c.args.places.now) c.args.kind) c.args.inner.now c.loop-annot.annot-index c.annot-item.result c.loop-annot.out c.put_inner.new.out _
    c.loop-annot-test.true c.annot-item.is c.in_ok-put_inner.ensures c.loop-annot.invariant
