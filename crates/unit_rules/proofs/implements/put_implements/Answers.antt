use Rattle.tree_places.specs.Numbers.{number_of}
use Rattle.views.specs.Face.{face}
use Rattle.bound_unit.specs.Aboves.{has_name}
use Rattle.unit_rules.proofs.Implementing.{implements_step, met_next}
use Rattle.unit_rules.proofs.implements.put_implements.Goals as goal

pub loop-word-preserved : goal.loop-word-preserved
loop-word-preserved c = record {
  met = met_next (has_name c.loop-word.met) (has_name c.meet.new.met) c.args.names.now c.loop-word.word-index c.word-item.result c.loop-word-test.true c.word-item.is
      c.loop-word.invariant.met c.in_ok-is_new.ensures.kept;
  notes = implements_step (face c.args.view.now) (number_of c.args.places.now) c.args.class.now (has_name c.loop-word.met) c.args.names.now c.loop-word.word-index c.word-item.result
      c.in_ok-is_new.is_new c.place-at.result c.loop-word.notes c.put_implemented.new.notes _ c.loop-word-test.true c.word-item.is c.loop-word.invariant.met c.in_ok-is_new.ensures.new
      c.place-at.ensures c.in_ok-put_implemented.ensures c.loop-word.invariant.notes;
}
