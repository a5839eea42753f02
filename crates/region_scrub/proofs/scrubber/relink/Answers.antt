use Rattle.std.proofs.Common.{ℕ, ◌+◌, ◌<◌, ◌≤◌, List, length, arith, refl, sym, ap, subst}
use Rattle.std.specs.Prelude.{Option}
use Rattle.region_scrub.specs.Indexes.{LeastFrom}
use Rattle.region_scrub.proofs.Indexing.{key_past, key_read}
use Rattle.region_scrub.proofs.Walking.{Relinked, rest, rest_less, relink_begins, relink_on, relink_skip, relink_ends, child_low, untrue}
use Rattle.region_scrub.proofs.scrubber.relink.Goals as goal
use Rattle.region_scrub.proofs.scrubber.relink.Goals.{then-stands, else-stands}

pub loop-next-smaller : goal.loop-next-smaller
loop-next-smaller c =
    let r = subst (Relinked c.args.below.now.keys.items c.args.heads.now c.args.aside.now c.loop-next.parents.items c.args.key) c.in-Some.is c.loop-next.invariant in
    let low : c.in-Some.child < length c.args.below.now.keys.items = key_past c.args.below.now.keys.items c.in-Some.child c.args.key r.at_key in
    let next_low : c.in-Some.child < length c.args.below.now.next.items = omega (arith, c.requires.indexed.long_next) in
    let least = subst (LeastFrom c.args.below.now.keys.items c.args.key (c.in-Some.child + 1))
    (key_read c.args.below.now.next.items c.in-Some.child c.index-next-in-Some.result.now next_low c.index-next-in-Some.ensures)
    (c.requires.indexed.next_is c.in-Some.child c.args.key r.at_key) in
    subst (λ (z : Option ℕ). rest (length c.args.below.now.keys.items) c.index-next-in-Some.result.now < rest (length c.args.below.now.keys.items) z) (sym c.in-Some.is)
    (rest_less c.args.below.now.keys.items c.args.key c.in-Some.child c.index-next-in-Some.result.now r.at_key least)

pub loop-next-preserved : goal.loop-next-preserved
loop-next-preserved c =
    let r = subst (Relinked c.args.below.now.keys.items c.args.heads.now c.args.aside.now c.loop-next.parents.items c.args.key) c.in-Some.is c.loop-next.invariant in
    let low : c.in-Some.child < length c.args.below.now.keys.items = key_past c.args.below.now.keys.items c.in-Some.child c.args.key r.at_key in
    let next_low : c.in-Some.child < length c.args.below.now.next.items = omega (arith, c.requires.indexed.long_next) in
    let least = subst (LeastFrom c.args.below.now.keys.items c.args.key (c.in-Some.child + 1))
    (key_read c.args.below.now.next.items c.in-Some.child c.index-next-in-Some.result.now next_low c.index-next-in-Some.ensures)
    (c.requires.indexed.next_is c.in-Some.child c.args.key r.at_key) in
    let two : 2 ≤ c.in-Some.child = child_low c.args.below.now.keys.items c.args.key c.in-Some.child c.requires.roots r.at_key in
    elim c.if-stands.branch [
      | then-stands w ↦ subst (λ (z : List (Option ℕ)). Relinked c.args.below.now.keys.items c.args.heads.now c.args.aside.now z c.args.key c.index-next-in-Some.result.now)
          (sym (ap (λ v. v.items) w.parents-is))
          (relink_on c.args.below.now.keys.items c.args.heads.now c.args.aside.now c.loop-next.parents.items c.args.key c.in-Some.child c.head_of-head.result c.index-next-in-Some.result.now r least
          (w.if-stands.ensures.stands refl).1 c.head_of-head.ensures)
      | else-stands w ↦ subst (λ (z : List (Option ℕ)). Relinked c.args.below.now.keys.items c.args.heads.now c.args.aside.now z c.args.key c.index-next-in-Some.result.now)
          (sym (ap (λ v. v.items) w.parents-is))
          (relink_skip c.args.below.now.keys.items c.args.heads.now c.args.aside.now c.loop-next.parents.items c.args.key c.in-Some.child c.index-next-in-Some.result.now r least
          (λ left. untrue (w.if-stands.ensures.only two left)))
    ]

pub loop-next-init : goal.loop-next-init
loop-next-init c =
    let low : c.args.key < length c.args.below.now.first.items = omega (arith, c.requires.there, c.requires.indexed.long_first) in
    relink_begins c.args.below.now.keys.items c.args.heads.now c.args.aside.now c.args.parents.now.items c.args.key c.index-next.result.now c.requires.long
    (subst (LeastFrom c.args.below.now.keys.items c.args.key 0)
    (key_read c.args.below.now.first.items c.args.key c.index-next.result.now low c.index-next.ensures) (c.requires.indexed.first_is c.args.key c.requires.there))
    c.requires.others

pub returns : goal.returns
returns c =
    relink_ends c.args.below.now.keys.items c.args.heads.now c.args.aside.now c.loop-next.parents.items c.args.key
    (subst (Relinked c.args.below.now.keys.items c.args.heads.now c.args.aside.now c.loop-next.parents.items c.args.key) c.in_default.is c.loop-next.invariant)
