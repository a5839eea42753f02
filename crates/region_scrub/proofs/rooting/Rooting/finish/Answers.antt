use Rattle.std.proofs.Common.{◌<◌, List, ℕ, length, arith}
use Rattle.region_scrub.specs.declared.chain_state.ChainState.{ChainState}
use Rattle.region_scrub.proofs.Settling.{popped_within, popped_finished, popped_begun, popped_passed, popped_stays}
use Rattle.region_scrub.proofs.rooting.Rooting.finish.Goals as goal

pub index_mut-requires : goal.index_mut-requires
index_mut-requires c =
    let inv = c.loop-region.invariant in
    let marks : List ChainState = c.loop-region.self.marks.items in
    let low : c.in-Some.region < length marks = popped_within _ marks _ _ _ _ _ c.in-Some.ensures.items inv.climbed inv.mark in
    omega arith

pub loop-region-preserved : goal.loop-region-preserved
loop-region-preserved c =
    let inv = c.loop-region.invariant in
    let is = c.in-Some.ensures.items in
    let marks : List ChainState = c.loop-region.self.marks.items in
    let region : ℕ = c.in-Some.region in
    record {
      parents = inv.parents;
      mark = inv.mark;
      climbed = popped_finished _ marks _ _ region _ _ is inv.climbed inv.mark;
      passed = popped_passed _ marks _ _ region _ _ is inv.climbed inv.mark _ inv.passed;
      stays = popped_stays _ marks _ _ region _ _ is inv.climbed inv.mark _ inv.passed inv.stays;
      begun = λ k b. popped_begun _ marks _ _ region _ _ is inv.climbed inv.mark k (inv.begun k b);
    }
