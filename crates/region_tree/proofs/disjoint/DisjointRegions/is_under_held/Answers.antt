use Rattle.std.proofs.Common.{◌≡◌, ◌<◌, ℕ, length, arith, ◌⊎◌, inl, inr}
use Rattle.std.specs.Prelude.{Option, Some, None, List}
use Rattle.region_tree.specs.declared.disjoint.HeldState.{HeldState}
use Rattle.region_tree.specs.declared.disjoint.HeldState.TheVariants as state
use Rattle.region_tree.specs.Chains.{parent_at}
use Rattle.region_tree.specs.Disjoint.{state_at}
use Rattle.region_tree.proofs.Apart.{state_read, climb_back, climb_there, climb_end, held_under}
use Rattle.region_tree.proofs.Climbs.{parent_read}
use Rattle.region_tree.proofs.disjoint.DisjointRegions.is_under_held.Goals as goal

pub loop-parent-preserved : goal.loop-parent-preserved
loop-parent-preserved c =
    let parents : List (Option ℕ) = c.args.tree.now.parents.items in
    let states : List HeldState = c.args.self.now.states.items in
    let at : ℕ = c.loop-parent.at in
    let inv = c.loop-parent.invariant in
    let near : at < length states = omega (arith, c.requires.of.long, inv.within) in
    let free : state_at states at ≡ state.Free = state_read states at _ _ near c.index.ensures c.in-Free.is in
    let up : parent_at parents at ≡ Some c.in-Some.parent = parent_read parents at _ _ inv.within c.index-in-Free.ensures c.in-Some.is in
    record {
      within = c.args.tree.now.within at c.in-Some.parent up;
      there = λ u. inv.there (climb_there parents states at c.in-Some.parent up u);
      back = λ u. climb_back parents states at c.in-Some.parent free up (inv.back u);
    }

pub returns-in-None-clause-none : goal.returns-in-None-clause-none
returns-in-None-clause-none c =
    let parents : List (Option ℕ) = c.args.tree.now.parents.items in
    let states : List HeldState = c.args.self.now.states.items in
    let at : ℕ = c.loop-parent.at in
    let inv = c.loop-parent.invariant in
    let near : at < length states = omega (arith, c.requires.of.long, inv.within) in
    let free : state_at states at ≡ state.Free = state_read states at _ _ near c.index.ensures c.in-Free.is in
    let none : parent_at parents at ≡ None = parent_read parents at _ _ inv.within c.index-in-Free.ensures c.in-None.is in
    λ u. climb_end parents states at free none (inv.back u)

pub returns-in-Held : goal.returns-in-Held
returns-in-Held c =
    let parents : List (Option ℕ) = c.args.tree.now.parents.items in
    let states : List HeldState = c.args.self.now.states.items in
    let at : ℕ = c.loop-parent.at in
    let inv = c.loop-parent.invariant in
    let near : at < length states = omega (arith, c.requires.of.long, inv.within) in
    let here : (state_at states at ≡ state.Held) ⊎ (state_at states at ≡ state.Under) =
    elim c.in-Held.is [
      | inl held ↦ inl (state_read states at _ _ near c.index-2.ensures held)
      | inr under ↦ inr (state_read states at _ _ near c.index-2.ensures under)
    ] in
    record { some = inv.there (held_under parents states at c.requires.of here); none = tt }
