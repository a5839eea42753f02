use Rattle.std.proofs.Common.{◌≡◌, ◌<◌, ℕ, length, arith}
use Rattle.std.specs.Prelude.{Option, Some, None, List}
use Rattle.region_tree.specs.declared.disjoint.HeldState.{HeldState}
use Rattle.region_tree.specs.declared.disjoint.HeldState.TheVariants as state
use Rattle.region_tree.specs.Chains.{parent_at}
use Rattle.region_tree.specs.Disjoint.{state_at}
use Rattle.region_tree.specs.Marks.{mark_at, rank_of}
use Rattle.region_tree.proofs.Apart.{state_read, climbing_none, climbing_more, climbing_end}
use Rattle.region_tree.proofs.Climbs.{parent_read}
use Rattle.region_tree.proofs.disjoint.DisjointRegions.mark_up.Goals as goal

pub loop-self-init : goal.loop-self-init
loop-self-init c = record {
  within = c.requires.within;
  climbing = climbing_none c.args.tree.now.parents.items _ c.args.self.now.states.items c.args.start c.args.given;
}

pub loop-self-preserved : goal.loop-self-preserved
loop-self-preserved c =
    let tree = c.args.tree.now in
    let parents : List (Option ℕ) = tree.parents.items in
    let old : List HeldState = c.args.self.now.states.items in
    let new : List HeldState = c.loop-self.self.states.items in
    let rank : ℕ → ℕ = λ z. rank_of (mark_at tree.marks.items z) in
    let at : ℕ = c.loop-self.at in
    let inv = c.loop-self.invariant in
    let near : at < length new = omega (arith, c.requires.long, inv.within, inv.climbing.long) in
    let free : state_at new at ≡ state.Free = state_read new at _ _ near c.index.ensures c.in-Free.is in
    let up : parent_at parents at ≡ Some c.in-Some.parent = parent_read parents at _ _ inv.within c.index-in-Free.ensures c.in-Some.is in
    record {
      within = tree.within at c.in-Some.parent up;
      climbing = climbing_more parents rank old new c.args.start at c.in-Some.parent c.args.given tree.falls inv.climbing near free up;
    }

pub returns-in-None : goal.returns-in-None
returns-in-None c =
    let tree = c.args.tree.now in
    let parents : List (Option ℕ) = tree.parents.items in
    let old : List HeldState = c.args.self.now.states.items in
    let new : List HeldState = c.loop-self.self.states.items in
    let rank : ℕ → ℕ = λ z. rank_of (mark_at tree.marks.items z) in
    let at : ℕ = c.loop-self.at in
    let inv = c.loop-self.invariant in
    let near : at < length new = omega (arith, c.requires.long, inv.within, inv.climbing.long) in
    let free : state_at new at ≡ state.Free = state_read new at _ _ near c.index.ensures c.in-Free.is in
    let none : parent_at parents at ≡ None = parent_read parents at _ _ inv.within c.index-in-Free.ensures c.in-None.is in
    climbing_end parents rank old new c.args.start at c.args.given inv.climbing near free none
