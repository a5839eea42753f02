use Rattle.std.proofs.Common.{ℕ, Vec, Global, get_or, arith, map, ◌+◌}
use Rattle.std.proofs.lemmas.List.{length-map}
use Rattle.std.proofs.lemmas.List.Elements.{Contains-get_or}
use Rattle.consistency.proofs.Takes.{put_back}
use Rattle.consistency.proofs.Levels.{dying_of, dying_within, emptied_within, level_step}
use Rattle.consistency.proofs.Gone.{taken_level}
use Rattle.consistency.proofs.Orders.{grows_of}
use Rattle.consistency.proofs.rounds.level.Goals as goal

pub dying-requires : goal.dying-requires
dying-requires c = rw c.deref.ensures.value (λ k d lt.
    let w = c.requires.level.front_in (get_or c.args.state.front.items k d) (Contains-get_or c.args.state.front.items k d lt) in
    let s = c.requires.rows.size in
    let z = length-map c.args.dependents.now (λ (x : Vec ℕ Global). x.items) in
    let w0 = w.0 in
    omega arith)

pub kill-requires-clause-within : goal.kill-requires-clause-within
kill-requires-clause-within c =
    let g = c.args.flat.now in
    let front = c.args.state.front.items in
    let found = rw c.deref.ensures.value at c.in_ok-dying.ensures.found in
    let only = rw c.deref.ensures.value at c.in_ok-dying.ensures.only in
    let dy = dying_of g (map (λ (x : Vec ℕ Global). x.items) c.args.dependents.now) front c.in_ok-dying.dying.items c.requires.rows (λ q k. let w = c.requires.level.front_in q k in w.0) found only in
    rw (c.deref-3.ensures.value, c.deref-2.ensures.value) (dying_within g front c.in_ok-dying.dying.items c.requires.fits dy)

pub leave-requires-clause-within : goal.leave-requires-clause-within
leave-requires-clause-within c =
    let m = c.in_ok-emptied.ensures in
    rw (c.deref-5.ensures.value, c.deref-4.ensures.value) (λ k d lt.
    let w = emptied_within c.deref-2.result.now c.deref-3.result.now c.deref_mut.result.now c.kill.new.dead c.deref_mut-2.result.now c.kill.new.living c.in_ok-emptied.emptied.items m k d lt in
    let w2 = rw c.deref_mut-2.ensures.value at w in
    let z = c.requires.level.living_size in omega arith)

pub returns-clause-level : goal.returns-clause-level
returns-clause-level c =
    let g = c.args.flat.now in
    let s = c.args.state in
    let front = s.front.items in
    let found = rw c.deref.ensures.value at c.in_ok-dying.ensures.found in
    let only = rw c.deref.ensures.value at c.in_ok-dying.ensures.only in
    let dy = dying_of g (map (λ (x : Vec ℕ Global). x.items) c.args.dependents.now) front c.in_ok-dying.dying.items c.requires.rows (λ q k. let w = c.requires.level.front_in q k in w.0) found only in
    let m = rw (c.deref-2.ensures.value, c.deref-3.ensures.value, c.deref_mut.ensures.value, c.deref_mut-2.ensures.value) at c.in_ok-emptied.ensures in
    let e = rw (c.deref-4.ensures.value, c.deref-5.ensures.value, c.deref_mut-3.ensures.value) at c.in_ok-state.ensures in
    let b1 = put_back c.kill.new.dead s.dead.items s.dead.len m.dead_size s.dead.ok.0 in
    let b2 = put_back c.kill.new.living s.living.items s.living.len m.living_size s.living.ok.0 in
    let b3 = put_back c.leave.new.left s.left.items s.left.len e.size s.left.ok.0 in
    rw (b1, b2, b3) (level_step g c.args.round s.dead.items s.living.items s.left.items front c.in_ok-dying.dying.items c.kill.new.dead c.kill.new.living c.in_ok-emptied.emptied.items
    c.leave.new.left c.in_ok-state.field-0.items c.requires.some c.requires.fits c.requires.level dy m e)

pub returns-clause-taken : goal.returns-clause-taken
returns-clause-taken c =
    let s = c.args.state in
    let e = rw (c.deref-4.ensures.value, c.deref-5.ensures.value, c.deref_mut-3.ensures.value) at c.in_ok-state.ensures in
    let b3 = put_back c.leave.new.left s.left.items s.left.len e.size s.left.ok.0 in
    rw b3 (taken_level c.args.flat.now.on.items c.in_ok-emptied.emptied.items c.args.round s.left.items c.leave.new.left s.front.items c.in_ok-state.field-0.items
    c.requires.some e c.requires.taken c.requires.more)

pub returns-clause-grows : goal.returns-clause-grows
returns-clause-grows c =
    let s = c.args.state in
    let e = rw (c.deref-4.ensures.value, c.deref-5.ensures.value, c.deref_mut-3.ensures.value) at c.in_ok-state.ensures in
    let b3 = put_back c.leave.new.left s.left.items s.left.len e.size s.left.ok.0 in
    rw b3 (grows_of c.args.flat.now.on.items c.in_ok-emptied.emptied.items (c.args.round + 1) s.left.items c.leave.new.left c.in_ok-state.field-0.items e)
