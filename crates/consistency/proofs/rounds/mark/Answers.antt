use Rattle.std.proofs.Common.{get_or, arith}
use Rattle.consistency.proofs.Counting.{living_counted}
use Rattle.consistency.proofs.Marks.{counted_marked}
use Rattle.std.proofs.Common.{refl}
use Rattle.consistency.proofs.rounds.mark.Goals as goal

pub overflow_sub-living : goal.overflow_sub-living
overflow_sub-living c =
    let f = get_or c.args.finding.now c.args.a 0 in
    let n = c.requires.counts f (c.requires.finding_in c.args.a c.requires.within) in
    let z = c.requires.dead_size in let w = c.requires.within in
    let m = living_counted f c.args.finding.now c.args.dead.now c.args.a w (omega (arith, z, w)) refl c.if-dead-a.false in
    omega (arith, n, m)

pub returns-clause-counts : goal.returns-clause-counts
returns-clause-counts c = counted_marked c.args.finding.now c.args.dead.now c.args.living.now c.args.a c.requires.within c.requires.dead_size
    (c.requires.finding_in c.args.a c.requires.within) c.if-dead-a.false c.requires.counts
