use Rattle.std.proofs.Common.{refl, ◌∙◌, sym, rules}
use Rattle.java_heads.proofs.NestLoop.{begins, turn_goes, loop_fails, loop_ends}
use Rattle.java_heads.proofs.AnnotationSound.{turn-shorter}
use Rattle.java_heads.proofs.annotation.nested.Goals as goal

pub nest-init : goal.nest-init
nest-init c = record { reads = begins _ _; moved = refl }

pub returns-in_err-nest : goal.returns-in_err-nest
returns-in_err-nest c =
    let fails = loop_fails _ _ _ _ c.nest.invariant.reads (sym c.is_whole.ensures ∙ c.nest-test.true) in
    search rules

pub nest-smaller : goal.nest-smaller
nest-smaller c = turn-shorter _ _ _ _ c.in_ok-nest.ensures.0

pub nest-preserved : goal.nest-preserved
nest-preserved c = record {
  reads = turn_goes _ _ _ _ _ _ c.nest.invariant.reads (sym c.is_whole.ensures ∙ c.nest-test.true) c.in_ok-nest.ensures.0 (turn-shorter _ _ _ _ c.in_ok-nest.ensures.0);
  moved = c.in_ok-nest.ensures.1 ∙ c.nest.invariant.moved;
}

pub returns : goal.returns
returns c = (loop_ends _ _ _ _ c.nest.invariant.reads (sym c.is_whole.ensures ∙ c.nest-test.false), c.nest.invariant.moved)
