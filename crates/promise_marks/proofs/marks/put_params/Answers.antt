use Rattle.std.proofs.Common.{sym, subst, take, List}
use Rattle.std.specs.Prelude.{Some}
use Rattle.promise_marks.specs.Given.{Given, by_params, by_mods}
use Rattle.promise_marks.specs.Marks.{PutsMarks}
use Rattle.promise_marks.proofs.Putting.{params_more, puts_more}
use Rattle.promise_marks.proofs.marks.put_params.Goals as goal

pub loop-i-preserved : goal.loop-i-preserved
loop-i-preserved c =
    let ps = c.args.params.now in
    let i = c.loop-i.i in
    let p = c.index-params-i.result in
    subst (λ (gs : List Given). PutsMarks c.args.marks.now c.put_mods.new.marks gs) (sym (params_more i ps p c.loop-i-test.true c.index-params-i.is))
    (puts_more c.args.marks.now c.loop-i.marks c.put_mods.new.marks (by_params 0 (take i ps)) (by_mods (Some i) p.mods) c.loop-i.invariant
    (subst (λ mods. PutsMarks c.loop-i.marks c.put_mods.new.marks (by_mods (Some i) mods)) c.as_slice.ensures c.in_ok-put_mods.ensures))
