use Rattle.std.proofs.Common.{◌≡◌, ◌+◌, ◌∷◌, ◌++◌, [], arith, length}
use Rattle.std.proofs.lemmas.List.{length-append}
use Rattle.consistency.proofs.Leaves.{rows_more}
use Rattle.consistency.proofs.solving.judge_all.Goals as goal

pub loop-p-preserved : goal.loop-p-preserved
loop-p-preserved c =
    let rows = c.loop-p.judged.items in
    let row = c.in_ok-judge_one.field-0 in
    let size : length (rows ++ row ∷ []) ≡ c.loop-p.p + 1 = (let a = length-append rows (row ∷ []) in let s = c.loop-p.invariant.0 in omega (arith, a, s)) in
    rw c.in_ok-push.ensures.items (
      size,
      rows_more c.args.graph.now.clauses.items c.args.graph.now.words.items c.args.con.now c.args.firm.now c.args.blames.now c.args.leaves.now c.loop-p.p rows row
          c.loop-p.invariant.0 c.in_ok-judge_one.ensures c.loop-p.invariant.1,
    )
