use Rattle.std.proofs.Common.{◌≡◌, ◌<◌, List, ℕ, length, arith, sym, ◌∙◌, inr}
use Rattle.std.specs.Prelude.{Some, None}
use Rattle.region_tree.specs.Chains.{parent_at}
use Rattle.region_scrub.specs.declared.chain_state.ChainState.{ChainState}
use Rattle.region_scrub.specs.declared.chain_state.ChainState.TheVariants as mark
use Rattle.region_scrub.specs.Rooting.{mark_at}
use Rattle.region_scrub.proofs.Settling.{mark_is, option_is, fresh_read, begun_read, climb_steps_to, climb_falls_to, passed_to, pass_begun, pass_stays, start_begun, climb_reaches, climb_misses, climb_passed, parent_there}
use Rattle.region_scrub.proofs.rooting.Rooting.climb.Goals as goal

pub loop-self-preserved : goal.loop-self-preserved
loop-self-preserved c =
    let inv = c.loop-self.invariant in
    let marks : List ChainState = c.loop-self.self.marks.items in
    let at : ℕ = c.loop-self.at in
    let fresh = fresh_read marks at _ _ inv.within c.index.ensures c.is_fresh.ensures c.loop-self-test.true in
    let near : at < length c.loop-self.self.parents.items = omega (arith, inv.climb.long, inv.within) in
    let parent : parent_at c.loop-self.self.parents.items at ≡ Some c.in-Some.parent =
    option_is c.loop-self.self.parents.items at _ near c.index-in-loop-self.ensures ∙ c.in-Some.is in
    record {
      parents = inv.parents;
      roots = inv.roots;
      climb = climb_steps_to _ marks _ _ at c.in_ok-push.ensures.items inv.climb inv.within fresh _ parent;
      within = parent_there _ marks at _ mark.Passing inv.climb.long inv.roots parent;
      begun = inr (pass_begun marks at _ inv.within inv.begun);
      stays = pass_stays _ marks at inv.stays inv.within fresh;
    }

pub returns-in-None-clause-climbed : goal.returns-in-None-clause-climbed
returns-in-None-clause-climbed c =
    let inv = c.loop-self.invariant in
    let marks : List ChainState = c.loop-self.self.marks.items in
    let at : ℕ = c.loop-self.at in
    let fresh = fresh_read marks at _ _ inv.within c.index.ensures c.is_fresh.ensures c.loop-self-test.true in
    let near : at < length c.loop-self.self.parents.items = omega (arith, inv.climb.long, inv.within) in
    let parent : parent_at c.loop-self.self.parents.items at ≡ None =
    option_is c.loop-self.self.parents.items at _ near c.index-in-loop-self.ensures ∙ c.in-None.is in
    climb_falls_to _ marks _ _ at c.in_ok-push.ensures.items inv.climb inv.within fresh parent

pub returns-in-None-clause-passed : goal.returns-in-None-clause-passed
returns-in-None-clause-passed c =
    let inv = c.loop-self.invariant in
    let marks : List ChainState = c.loop-self.self.marks.items in
    let at : ℕ = c.loop-self.at in
    let fresh = fresh_read marks at _ _ inv.within c.index.ensures c.is_fresh.ensures c.loop-self-test.true in
    passed_to _ marks _ _ at c.in_ok-push.ensures.items inv.climb inv.within fresh

pub returns-in-Rooted-clause-climbed : goal.returns-in-Rooted-clause-climbed
returns-in-Rooted-clause-climbed c =
    let inv = c.loop-self.invariant in
    let marks : List ChainState = c.loop-self.self.marks.items in
    let at : ℕ = c.loop-self.at in
    let begun = begun_read marks at _ _ inv.within c.index.ensures c.is_fresh.ensures c.loop-self-test.false in
    climb_reaches _ marks _ at inv.climb begun (mark_is marks at _ inv.within c.index-2.ensures ∙ c.in-Rooted.is)

pub returns-in_default : goal.returns-in_default
returns-in_default c =
    let inv = c.loop-self.invariant in
    let marks : List ChainState = c.loop-self.self.marks.items in
    let at : ℕ = c.loop-self.at in
    let begun = begun_read marks at _ _ inv.within c.index.ensures c.is_fresh.ensures c.loop-self-test.false in
    let is : mark_at marks at ≡ c.index-2.result.now = mark_is marks at _ inv.within c.index-2.ensures in
    record {
      parents = inv.parents;
      climbed = climb_misses _ marks _ at inv.climb begun (λ e. c.in_default.not-Rooted (sym is ∙ e));
      passed = climb_passed _ marks _ at inv.climb;
      begun = start_begun marks at _ inv.begun begun;
      stays = inv.stays;
    }
