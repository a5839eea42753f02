use Rattle.std.proofs.Common.{arith, get_or, Bool, List, ℕ}
use Rattle.std.specs.Prelude.{true, false, Option}
use Rattle.std.proofs.lemmas.List.Elements.{Contains-get_or}
use Rattle.desk_base.specs.declared.key.PromiseKey.{PromiseKey}
use Rattle.result_records.specs.declared.finding.Finding.{Finding}
use Rattle.consistency.specs.Rounds.{IsGreatest}
use Rattle.consistency.specs.Verdicts.{RunOf}
use Rattle.consistency.proofs.Leaves.{verdicts_of}
use Rattle.consistency.proofs.solving.solve.Goals as goal

pub blames_of-requires-clause-ons : goal.blames_of-requires-clause-ons
blames_of-requires-clause-ons c =
    let g = c.args.graph.now in
    rw c.deref.ensures.value (λ k d lt.
    let w = g.wired.ons (get_or g.clauses.items k d) (Contains-get_or g.clauses.items k d lt) in
    let s = c.in_ok-con.ensures.size in let o = g.keys.ok.0 in omega (arith, w, s, o))

pub leaves_of-requires-clause-ons : goal.leaves_of-requires-clause-ons
leaves_of-requires-clause-ons c =
    let g = c.args.graph.now in
    rw c.deref-2.ensures.value (λ k d lt.
    let w = g.wired.ons (get_or g.clauses.items k d) (Contains-get_or g.clauses.items k d lt) in
    let s = c.in_ok-firm.ensures.size in let o = g.keys.ok.0 in omega (arith, w, s, o))

pub returns-clause-verdicts : goal.returns-clause-verdicts
returns-clause-verdicts c = λ ps fs is.
    let g = c.args.graph.now in
    let blames = rw c.deref.ensures.value at c.in_ok-blames.ensures.blames in
    let leaves = rw (c.deref-2.ensures.value, c.deref-3.ensures.value) at c.in_ok-leaves.ensures.leaves in
    let rows = rw (c.deref-4.ensures.value, c.deref-5.ensures.value, c.deref-6.ensures.value, c.deref-7.ensures.value) at c.in_ok-judged.ensures in
    let known = rw c.deref-8.ensures.value at c.in_ok-numbers_of.ensures in
    verdicts_of ps fs g c.in_ok-con.con.left.items c.in_ok-firm.firm.left.items c.in_ok-blames.blames.items c.in_ok-leaves.leaves.items _ is
    c.in_ok-con.ensures.runs c.in_ok-firm.ensures.runs blames leaves rows known

greatest_by : (ps : List PromiseKey) (fs : List Finding) (con firm : List (Option ℕ)) (given : Bool) → RunOf ps fs true con → RunOf ps fs false firm → IsGreatest ps fs given
greatest_by ps fs con firm true a b = a.greatest
greatest_by ps fs con firm false a b = b.greatest

pub returns-clause-greatest : goal.returns-clause-greatest
returns-clause-greatest c = λ ps fs given is.
    greatest_by ps fs c.in_ok-con.con.left.items c.in_ok-firm.firm.left.items given (c.in_ok-con.ensures.runs ps fs is) (c.in_ok-firm.ensures.runs ps fs is)
