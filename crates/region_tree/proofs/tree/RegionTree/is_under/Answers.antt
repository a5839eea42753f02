use Rattle.std.proofs.Common.{◌≡◌, ◌<◌, ◌≤◌, ℕ, arith, rules}
use Rattle.std.specs.Prelude.{Option, Some, None, List}
use Rattle.region_tree.specs.declared.chain_state.ChainState.{ChainState}
use Rattle.region_tree.specs.Chains.{parent_at}
use Rattle.region_tree.specs.Marks.{mark_at, rank_of}
use Rattle.region_tree.proofs.Climbs.{parent_read}
use Rattle.region_tree.proofs.Rooted.{under_step, step_back, none_back, at_goal, from_goal}
use Rattle.region_tree.proofs.tree.RegionTree.is_under.Goals as goal

pub loop-at-init : goal.loop-at-init
loop-at-init c = record { within = c.requires.a_within; there = λ u. u; back = λ u. u }

pub loop-at-preserved : goal.loop-at-preserved
loop-at-preserved c =
    let tree = c.args.self.now in
    let parents : List (Option ℕ) = tree.parents.items in
    let marks : List ChainState = tree.marks.items in
    let inv = c.loop-at.invariant in
    let rank : ℕ → ℕ = λ z. rank_of (mark_at marks z) in
    let higher : rank c.args.b.number < rank c.loop-at.at = omega (arith, c.rank.ensures, c.rank-height.ensures, c.loop-at-test.true) in
    let up : parent_at parents c.loop-at.at ≡ Some c.in-Some.parent = parent_read parents c.loop-at.at _ _ inv.within c.index.ensures c.in-Some.is in
    record {
      within = tree.within c.loop-at.at c.in-Some.parent up;
      there = λ u. inv.there (under_step parents c.loop-at.at c.in-Some.parent c.args.b.number up u);
      back = λ u. step_back parents rank c.loop-at.at c.in-Some.parent c.args.b.number higher up (inv.back u);
    }

pub returns-in-None : goal.returns-in-None
returns-in-None c =
    let tree = c.args.self.now in
    let parents : List (Option ℕ) = tree.parents.items in
    let marks : List ChainState = tree.marks.items in
    let inv = c.loop-at.invariant in
    let rank : ℕ → ℕ = λ z. rank_of (mark_at marks z) in
    let higher : rank c.args.b.number < rank c.loop-at.at = omega (arith, c.rank.ensures, c.rank-height.ensures, c.loop-at-test.true) in
    let none : parent_at parents c.loop-at.at ≡ None = parent_read parents c.loop-at.at _ _ inv.within c.index.ensures c.in-None.is in
    (λ f. absurd (search rules), λ u. absurd (none_back parents rank c.loop-at.at c.args.b.number higher none (inv.back u)))

pub returns : goal.returns
returns c =
    let tree = c.args.self.now in
    let parents : List (Option ℕ) = tree.parents.items in
    let marks : List ChainState = tree.marks.items in
    let inv = c.loop-at.invariant in
    let low : rank_of (mark_at marks c.loop-at.at) ≤ rank_of (mark_at marks c.args.b.number) =
    omega (arith, c.rank.ensures, c.rank-height.ensures, c.loop-at-test.false) in (
      λ same. inv.there (from_goal parents c.loop-at.at c.args.b.number same),
      λ u. at_goal parents marks c.loop-at.at c.args.b.number tree.falls low (inv.back u),
    )
