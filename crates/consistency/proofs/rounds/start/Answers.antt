use Rattle.std.proofs.Common.{get_or, arith, length, ◌≡◌, ◌∙◌, replicate}
use Rattle.std.specs.Prelude.{None}
use Rattle.std.proofs.lemmas.List.Elements.{Contains-get_or}
use Rattle.consistency.proofs.Takes.{put_back}
use Rattle.consistency.proofs.Levels.{level_first}
use Rattle.consistency.proofs.Gone.{taken_start}
use Rattle.consistency.proofs.Orders.{grows_of}
use Rattle.consistency.proofs.rounds.start.Goals as goal

pub leave-requires-clause-within : goal.leave-requires-clause-within
leave-requires-clause-within c =
    let em = rw c.deref-4.ensures.value at c.in_ok-emptied.ensures in
    rw (c.deref-6.ensures.value, c.deref-5.ensures.value) (λ k d lt.
    let w = em.sound (get_or c.in_ok-emptied.emptied.items k d) (Contains-get_or c.in_ok-emptied.emptied.items k d lt) in
    let w0 = w.0 in
    let s = c.in_ok-living.ensures.size in let l = c.len.ensures in let o = c.args.flat.now.on.ok.0 in omega (arith, w0, s, l, o))

pub returns-clause-level : goal.returns-clause-level
returns-clause-level c =
    let g = c.args.flat.now in
    let db : c.in_ok-dead.dead.items ≡ g.barred.items = c.in_ok-dead.ensures ∙ c.deref.ensures.value in
    let counted = rw (c.deref-2.ensures.value, c.deref-3.ensures.value, db) at c.in_ok-living.ensures.counts in
    let em = rw c.deref-4.ensures.value at c.in_ok-emptied.ensures in
    let e0 = rw (c.deref-5.ensures.value, c.deref-6.ensures.value, c.deref_mut.ensures.value) at c.in_ok-front.ensures in
    let e = rw c.in_ok-left.ensures at e0 in
    let size : length c.in_ok-living.living.items ≡ length g.on.items = (let s = c.in_ok-living.ensures.size in let l = c.len.ensures in let o = g.on.ok.0 in omega (arith, s, l, o)) in
    let b = put_back c.leave.new.left c.in_ok-left.left.items c.in_ok-left.left.len e0.size c.in_ok-left.left.ok.0 in
    rw (b, db) (level_first g c.in_ok-living.living.items c.in_ok-emptied.emptied.items c.leave.new.left c.in_ok-front.front.items c.requires size counted em e)

pub returns-clause-taken : goal.returns-clause-taken
returns-clause-taken c =
    let g = c.args.flat.now in
    let e = rw (c.deref-5.ensures.value, c.deref-6.ensures.value, c.deref_mut.ensures.value) at c.in_ok-front.ensures in
    let b = put_back c.leave.new.left c.in_ok-left.left.items c.in_ok-left.left.len e.size c.in_ok-left.left.ok.0 in
    rw b (taken_start g.on.items c.in_ok-emptied.emptied.items c.in_ok-left.left.items c.leave.new.left c.in_ok-front.front.items e)

pub returns-clause-first : goal.returns-clause-first
returns-clause-first c =
    let g = c.args.flat.now in
    let e0 = rw (c.deref-5.ensures.value, c.deref-6.ensures.value, c.deref_mut.ensures.value) at c.in_ok-front.ensures in
    let e = rw c.in_ok-left.ensures at e0 in
    let b = put_back c.leave.new.left c.in_ok-left.left.items c.in_ok-left.left.len e0.size c.in_ok-left.left.ok.0 in
    rw b (grows_of g.on.items c.in_ok-emptied.emptied.items 1 (replicate g.promises None) c.leave.new.left c.in_ok-front.front.items e)
