use Rattle.std.proofs.Common.{get_or, arith, length, ◌∙◌, ◌<◌}
use Rattle.std.proofs.lemmas.List.{get_or_default, length-set}
use Rattle.consistency.proofs.Marks.{counted_put, counted_kept, count_small}
use Rattle.consistency.proofs.rounds.counts.Goals as goal
use Rattle.consistency.proofs.rounds.counts.Goals.{then-not-dead-a, else-not-dead-a}

pub overflow_add-index_mut : goal.overflow_add-index_mut
overflow_add-index_mut c =
    let a = c.loop-a.a in
    let f = get_or c.args.finding.now a 0 in
    let la : a < length c.args.finding.now = omega arith in
    let i0 = c.loop-a.invariant.0 in
    let lf = c.requires.finding_in a la in
    let lf2 : f < length c.loop-a.living.items = omega (arith, i0, lf) in
    let v = c.index_mut.ensures.value in
    let s = count_small c.args.finding.now c.args.dead.now c.loop-a.living.items a f la lf2 c.loop-a.invariant.1 in
    let dd = get_or_default c.loop-a.living.items f c.index_mut.result.now 0 lf2 in
    let few = c.requires.few in
    omega (arith, v, s, dd, few, la)

pub loop-a-preserved : goal.loop-a-preserved
loop-a-preserved c =
    let a = c.loop-a.a in
    let f = get_or c.args.finding.now a 0 in
    let la : a < length c.args.finding.now = omega arith in
    let ds = c.requires.dead_size in
    let ld : a < length c.args.dead.now = omega arith in
    let i0 = c.loop-a.invariant.0 in
    let lf = c.requires.finding_in a la in
    let lf2 : f < length c.loop-a.living.items = omega (arith, i0, lf) in
    elim c.if-not-dead-a.branch [
      | then-not-dead-a w ↦ (let v = w.index_mut.ensures.value ∙ get_or_default c.loop-a.living.items f w.index_mut.result.now 0 lf2 in
          rw w.living-is (length-set c.loop-a.living.items f _ ∙ i0, counted_put c.args.finding.now c.args.dead.now c.loop-a.living.items a w.index_mut.result.now la ld w.if-not-dead-a.true lf2 v c.loop-a.invariant.1))
      | else-not-dead-a w ↦ rw w.living-is (i0, counted_kept c.args.finding.now c.args.dead.now c.loop-a.living.items a la ld w.if-not-dead-a.false c.loop-a.invariant.1)
    ]
