use Rattle.std.proofs.Common.{◌≡◌, List, ℕ, [], ◌∷◌, ◌++◌, subst}
use Rattle.region_tree.specs.declared.chain_state.ChainState.{ChainState}
use Rattle.region_tree.specs.declared.chain_state.ChainState.TheVariants as mark
use Rattle.region_tree.specs.Marks.{OnPath, LostFalls}
use Rattle.region_tree.proofs.Climbs.{set_stays, top_within, top_passing, pop_path, lose_marked, lose_falls, lost-not-passing, lost-not-fresh}
use Rattle.region_tree.proofs.climb.Climber.lose_path.Goals as goal

pub loop-region-preserved : goal.loop-region-preserved
loop-region-preserved c =
    let marks : List ChainState = c.loop-region.self.marks.items in
    let rest : List ℕ = c.pop.new.self.items in
    let region : ℕ = c.in-Some.region in
    let inv = c.loop-region.invariant in
    let is : c.loop-region.self.path.items ≡ rest ++ region ∷ [] = c.in-Some.ensures.items in
    let on : OnPath marks (rest ++ region ∷ []) = subst (λ (p : List ℕ). OnPath marks p) is inv.path in
    let falls : LostFalls c.loop-region.self.parents.items marks (rest ++ region ∷ []) =
    subst (λ (p : List ℕ). LostFalls c.loop-region.self.parents.items marks p) is inv.falls in
    let within = top_within marks rest region on in
    let passing = top_passing marks rest region on in
    record {
      parents = inv.parents;
      marked = lose_marked _ marks _ region inv.marked within passing;
      falls = lose_falls _ marks rest region falls within;
      path = pop_path marks rest region mark.Lost on lost-not-passing;
      stays = set_stays _ marks region mark.Lost inv.stays within lost-not-fresh;
    }
