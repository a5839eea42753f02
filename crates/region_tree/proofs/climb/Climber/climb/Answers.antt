use Rattle.std.proofs.Common.{◌≡◌, ◌≢◌, ◌<◌, List, ℕ, [], ◌∷◌, ◌++◌, length, arith, sym, ◌∙◌, inr}
use Rattle.std.specs.Prelude.{Some, None}
use Rattle.region_tree.specs.declared.chain_state.ChainState.{ChainState}
use Rattle.region_tree.specs.declared.chain_state.ChainState.TheVariants as mark
use Rattle.region_tree.specs.Chains.{parent_at}
use Rattle.region_tree.specs.Marks.{mark_at}
use Rattle.region_tree.proofs.Climbs.{set_stays, pass_marked, pass_lost, pass_path, pass_begun, climb_falls, mark_read, parent_read, passing-not-fresh, down_of, pass_path_to, pass_climbs_to, end_falls_to, parent_within, mark_is, start_begun}
use Rattle.region_tree.proofs.climb.Climber.climb.Goals as goal

pub loop-self-preserved : goal.loop-self-preserved
loop-self-preserved c =
    let inv = c.loop-self.invariant in
    let marks : List ChainState = c.loop-self.self.marks.items in
    let at : ℕ = c.loop-self.at in
    let fresh : mark_at marks at ≡ mark.Fresh = mark_read marks at _ mark.Fresh inv.within c.index.ensures c.in-Fresh.is in
    let near : at < length c.loop-self.self.parents.items = omega (arith, inv.marked.long, inv.within) in
    let parent : parent_at c.loop-self.self.parents.items at ≡ Some c.in-Some.parent =
    parent_read c.loop-self.self.parents.items at _ _ near c.index-in-Fresh.ensures c.in-Some.is in
    let pushed : c.push.new.self.items ≡ c.loop-self.self.path.items ++ at ∷ [] = c.in_ok-push.ensures.items in
    record {
      parents = inv.parents;
      marked = pass_marked _ marks _ at inv.marked inv.within fresh;
      lost = pass_lost _ marks at inv.lost inv.within fresh;
      path = pass_path_to marks _ _ at pushed inv.path inv.within fresh;
      climbs = pass_climbs_to _ _ _ at _ pushed inv.climbs parent;
      within = parent_within _ marks _ at _ mark.Passing inv.marked parent;
      begun = inr (pass_begun marks at _ inv.within inv.begun);
      stays = set_stays _ marks at mark.Passing inv.stays inv.within passing-not-fresh;
    }

pub returns-in-None-clause-marked : goal.returns-in-None-clause-marked
returns-in-None-clause-marked c =
    let inv = c.loop-self.invariant in
    let marks : List ChainState = c.loop-self.self.marks.items in
    let at : ℕ = c.loop-self.at in
    pass_marked _ marks _ at inv.marked inv.within (mark_read marks at _ mark.Fresh inv.within c.index.ensures c.in-Fresh.is)

pub returns-in-None-clause-falls : goal.returns-in-None-clause-falls
returns-in-None-clause-falls c =
    let inv = c.loop-self.invariant in
    let marks : List ChainState = c.loop-self.self.marks.items in
    let at : ℕ = c.loop-self.at in
    let fresh : mark_at marks at ≡ mark.Fresh = mark_read marks at _ mark.Fresh inv.within c.index.ensures c.in-Fresh.is in
    let near : at < length c.loop-self.self.parents.items = omega (arith, inv.marked.long, inv.within) in
    let parent : parent_at c.loop-self.self.parents.items at ≡ None =
    parent_read c.loop-self.self.parents.items at _ _ near c.index-in-Fresh.ensures c.in-None.is in
    let pushed : c.push.new.self.items ≡ c.loop-self.self.path.items ++ at ∷ [] = c.in_ok-push.ensures.items in
    end_falls_to _ _ _ _ at pushed (pass_lost _ marks at inv.lost inv.within fresh) (pass_path marks _ at inv.path inv.within fresh) inv.climbs parent

pub returns-in_default-matches : goal.returns-in_default-matches
returns-in_default-matches c =
    let inv = c.loop-self.invariant in
    let marks : List ChainState = c.loop-self.self.marks.items in
    let at : ℕ = c.loop-self.at in
    let is : mark_at marks at ≡ c.index.result.now = mark_is marks at _ inv.within c.index.ensures in
    let is_again : mark_at marks at ≡ c.index-2.result.now = mark_is marks at _ inv.within c.index-2.ensures in
    let begun : mark_at marks at ≢ mark.Fresh = λ e. c.in_default.not-Fresh (sym is ∙ e) in
    let down = down_of marks at begun (λ r e. c.in_default-matches.not-Ranked r (sym is_again ∙ e)) in
    record {
      parents = inv.parents;
      marked = inv.marked;
      lost = inv.lost;
      path = inv.path;
      rooted = tt;
      falls = climb_falls _ marks _ at inv.lost inv.path inv.climbs down;
      begun = start_begun marks at _ inv.begun begun;
      stays = inv.stays;
    }
