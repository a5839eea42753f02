use Rattle.std.proofs.Common.{◌≡◌, ℕ, ◌+◌, ◌<◌, ◌≤◌, length, arith, refl, sym, ◌∙◌, subst}
use Rattle.std.specs.Prelude.{Option, Some, None}
use Rattle.region_scrub.specs.Indexes.{LeastFrom}
use Rattle.region_scrub.specs.Stages.{IsLater, faults_by}
use Rattle.region_scrub.proofs.Indexing.{key_past, key_read}
use Rattle.region_scrub.proofs.Walking.{IsWalk, rest, rest_less, walk_begins, walk_on, walk_ends, untrue}
use Rattle.region_scrub.proofs.scrubber.later.Goals as goal

pub index-next-requires-in-Some : goal.index-next-requires-in-Some
index-next-requires-in-Some c =
    let walk = subst (IsWalk c.args.same.now.keys.items (faults_by c.args.aside.now) c.loop-next.invariant.0 c.args.region) c.in-Some.is c.loop-next.invariant.2 in
    let low : c.in-Some.at < length c.args.same.now.keys.items = key_past c.args.same.now.keys.items c.in-Some.at c.loop-next.invariant.0 walk.0 in
    omega (arith, c.requires.indexed.long_next)

pub loop-next-smaller : goal.loop-next-smaller
loop-next-smaller c =
    let walk = subst (IsWalk c.args.same.now.keys.items (faults_by c.args.aside.now) c.loop-next.invariant.0 c.args.region) c.in-Some.is c.loop-next.invariant.2 in
    let low : c.in-Some.at < length c.args.same.now.keys.items = key_past c.args.same.now.keys.items c.in-Some.at c.loop-next.invariant.0 walk.0 in
    let next_low : c.in-Some.at < length c.args.same.now.next.items = omega (arith, c.requires.indexed.long_next) in
    let least = subst (LeastFrom c.args.same.now.keys.items c.loop-next.invariant.0 (c.in-Some.at + 1))
    (key_read c.args.same.now.next.items c.in-Some.at c.index-next-in-Some.result.now next_low c.index-next-in-Some.ensures)
    (c.requires.indexed.next_is c.in-Some.at c.loop-next.invariant.0 walk.0) in
    subst (λ (z : Option ℕ). rest (length c.args.same.now.keys.items) c.index-next-in-Some.result.now < rest (length c.args.same.now.keys.items) z) (sym c.in-Some.is)
    (rest_less c.args.same.now.keys.items c.loop-next.invariant.0 c.in-Some.at c.index-next-in-Some.result.now walk.0 least)

pub loop-next-preserved : goal.loop-next-preserved
loop-next-preserved c =
    let walk = subst (IsWalk c.args.same.now.keys.items (faults_by c.args.aside.now) c.loop-next.invariant.0 c.args.region) c.in-Some.is c.loop-next.invariant.2 in
    let low : c.in-Some.at < length c.args.same.now.keys.items = key_past c.args.same.now.keys.items c.in-Some.at c.loop-next.invariant.0 walk.0 in
    let next_low : c.in-Some.at < length c.args.same.now.next.items = omega (arith, c.requires.indexed.long_next) in
    let two : 2 ≤ c.in-Some.at = omega (arith, walk.1, c.requires.low) in
    let least = subst (LeastFrom c.args.same.now.keys.items c.loop-next.invariant.0 (c.in-Some.at + 1))
    (key_read c.args.same.now.next.items c.in-Some.at c.index-next-in-Some.result.now next_low c.index-next-in-Some.ensures)
    (c.requires.indexed.next_is c.in-Some.at c.loop-next.invariant.0 walk.0) in (
      c.loop-next.invariant.0,
      c.loop-next.invariant.1,
      walk_on c.args.same.now.keys.items (faults_by c.args.aside.now) c.loop-next.invariant.0 c.args.region c.in-Some.at c.index-next-in-Some.result.now walk
          (λ left. untrue (c.if-stands.ensures.only two left)) least,
    )

pub loop-next-init : goal.loop-next-init
loop-next-init c =
    let low : c.args.region < length c.args.same.now.next.items = omega (arith, c.requires.there, c.requires.indexed.long_next) in (
      c.requires.named.0,
      c.requires.named.1,
      walk_begins c.args.same.now.keys.items (faults_by c.args.aside.now) c.requires.named.0 c.args.region c.index-next.result.now
          (subst (LeastFrom c.args.same.now.keys.items c.requires.named.0 (c.args.region + 1))
          (key_read c.args.same.now.next.items c.args.region c.index-next.result.now low c.index-next.ensures) (c.requires.indexed.next_is c.args.region c.requires.named.0 c.requires.named.1)),
    )

pub returns : goal.returns
returns c = λ key is.
    let one : Some c.loop-next.invariant.0 ≡ Some key = sym c.loop-next.invariant.1 ∙ is in
    let same : c.loop-next.invariant.0 ≡ key = cc in
    subst (λ (z : ℕ). IsLater c.args.same.now.keys.items (faults_by c.args.aside.now) z c.args.region None) same
    (subst (IsWalk c.args.same.now.keys.items (faults_by c.args.aside.now) c.loop-next.invariant.0 c.args.region) c.in_default.is c.loop-next.invariant.2)

pub returns-then-stands : goal.returns-then-stands
returns-then-stands c = λ key is.
    let one : Some c.loop-next.invariant.0 ≡ Some key = sym c.loop-next.invariant.1 ∙ is in
    let same : c.loop-next.invariant.0 ≡ key = cc in
    let walk = subst (IsWalk c.args.same.now.keys.items (faults_by c.args.aside.now) c.loop-next.invariant.0 c.args.region) c.in-Some.is c.loop-next.invariant.2 in
    subst (λ (z : ℕ). IsLater c.args.same.now.keys.items (faults_by c.args.aside.now) z c.args.region (Some c.in-Some.at)) same
    (walk_ends c.args.same.now.keys.items (faults_by c.args.aside.now) c.loop-next.invariant.0 c.args.region c.in-Some.at walk (c.if-stands.ensures.stands refl).1)
