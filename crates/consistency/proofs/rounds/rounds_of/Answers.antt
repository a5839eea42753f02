use Rattle.std.proofs.Common.{ℕ, arith, rules, length, ◌+◌, ◌-◌, ◌<◌, ◌≡◌, subst}
use Rattle.consistency.specs.Steps.{Level, Taken}
use Rattle.consistency.proofs.Gone.{round_within, ends_solved, ends_consistent}
use Rattle.consistency.proofs.Orders.{order_first, order_next, by_first, by_next}
use Rattle.consistency.proofs.rounds.rounds_of.Goals as goal

pub level-requires-clause-next : goal.level-requires-clause-next
level-requires-clause-next c =
    let s = c.levels.state in
    let some : 0 < length s.front.items = search rules in
    let b = round_within c.args.flat.now c.levels.round s.dead.items s.living.items s.left.items s.front.items c.levels.invariant.0 c.levels.invariant.1 c.levels.invariant.2 some in
    let few = c.requires.few_promises in
    omega (arith, b, few)

pub overflow_add-round : goal.overflow_add-round
overflow_add-round c =
    let s = c.levels.state in
    let some : 0 < length s.front.items = search rules in
    let b = round_within c.args.flat.now c.levels.round s.dead.items s.living.items s.left.items s.front.items c.levels.invariant.0 c.levels.invariant.1 c.levels.invariant.2 some in
    let few = c.requires.few_promises in
    omega (arith, b, few)

pub levels-smaller : goal.levels-smaller
levels-smaller c =
    let s = c.levels.state in
    let some : 0 < length s.front.items = search rules in
    let b = round_within c.args.flat.now c.levels.round s.dead.items s.living.items s.left.items s.front.items c.levels.invariant.0 c.levels.invariant.1 c.levels.invariant.2 some in
    let less : c.args.flat.now.promises + 1 - (c.levels.round + 1) < c.args.flat.now.promises + 1 - c.levels.round = omega (arith, b) in
    less

pub levels-init : goal.levels-init
levels-init c =
    let g = c.args.flat.now in
    let s = c.in_ok-state.state in
    let first = c.in_ok-state.ensures.first in (
      omega arith,
      c.in_ok-state.ensures.level,
      c.in_ok-state.ensures.taken,
      rw (c.in_ok-extend_from_slice.ensures.items, c.new-order.ensures.items, c.deref.ensures.value) (order_first g.promises s.left.items s.front.items first),
      by_first g.promises s.left.items s.front.items first,
    )

pub levels-preserved : goal.levels-preserved
levels-preserved c =
    let s = c.in_ok-state-2.state in
    let was = c.levels.state in
    let e : c.levels.round ≡ c.levels.round + 1 - 1 = omega arith in (
      omega arith,
      subst (λ (z : ℕ). Level c.args.flat.now z s.dead.items s.living.items s.left.items s.front.items) e c.in_ok-state-2.ensures.level,
      subst (λ (z : ℕ). Taken z s.left.items s.front.items) e c.in_ok-state-2.ensures.taken,
      rw (c.in_ok-extend_from_slice-2.ensures.items, c.deref-in-levels-2.ensures.value)
          (order_next c.levels.round was.left.items s.left.items c.levels.order.items s.front.items c.levels.invariant.4 c.levels.invariant.3 c.in_ok-state-2.ensures.grows),
      by_next c.levels.round was.left.items s.left.items s.front.items c.levels.invariant.4 c.in_ok-state-2.ensures.grows,
    )

pub returns-clause-solved : goal.returns-clause-solved
returns-clause-solved c =
    let s = c.levels.state in
    let none : length s.front.items ≡ 0 = search rules in
    ends_solved c.args.flat.now (c.levels.round - 1) s.dead.items s.living.items s.left.items s.front.items c.requires c.levels.invariant.1 c.levels.invariant.2 none

pub returns-clause-consistent : goal.returns-clause-consistent
returns-clause-consistent c =
    let s = c.levels.state in
    let none : length s.front.items ≡ 0 = search rules in
    ends_consistent c.args.flat.now (c.levels.round - 1) s.dead.items s.living.items s.left.items s.front.items c.requires c.levels.invariant.1 c.levels.invariant.2 none
