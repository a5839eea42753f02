use Rattle.std.proofs.Common.{◌≡◌, List, ℕ, [], ◌∷◌, ◌++◌, subst}
use Rattle.region_tree.specs.declared.chain_state.ChainState.{ChainState}
use Rattle.region_tree.specs.declared.chain_state.ChainState.TheVariants as mark
use Rattle.region_tree.specs.Marks.{OnPath, ClimbsTo}
use Rattle.region_tree.proofs.Climbs.{set_stays, top_within, top_passing, top_parent, pop_path, rank_marked, rank_lost, rank_climbs, ranked-not-passing, ranked-not-fresh, set_here}
use Rattle.region_tree.proofs.climb.Climber.rank_path.Goals as goal

pub loop-region-preserved : goal.loop-region-preserved
loop-region-preserved c =
    let marks : List ChainState = c.loop-region.self.marks.items in
    let rest : List ℕ = c.pop.new.self.items in
    let region : ℕ = c.in-Some.region in
    let inv = c.loop-region.invariant in
    let end : ℕ = inv.rooted.0 in
    let is : c.loop-region.self.path.items ≡ rest ++ region ∷ [] = c.in-Some.ensures.items in
    let on : OnPath marks (rest ++ region ∷ []) = subst (λ (p : List ℕ). OnPath marks p) is inv.path in
    let climbs : ClimbsTo c.loop-region.self.parents.items (rest ++ region ∷ []) end =
    subst (λ (p : List ℕ). ClimbsTo c.loop-region.self.parents.items p end) is inv.rooted.2 in
    let within = top_within marks rest region on in
    let passing = top_passing marks rest region on in
    record {
      parents = inv.parents;
      marked = rank_marked _ marks _ region end inv.marked within passing inv.rooted.1 (top_parent _ rest region end climbs);
      lost = rank_lost _ marks _ region inv.lost within passing;
      path = pop_path marks rest region (mark.Ranked c.loop-region.self.next) on (ranked-not-passing _);
      rooted = (region, (c.loop-region.self.next, set_here marks region _ within), rank_climbs _ rest region end climbs);
      stays = set_stays _ marks region (mark.Ranked c.loop-region.self.next) inv.stays within (ranked-not-fresh _);
    }
