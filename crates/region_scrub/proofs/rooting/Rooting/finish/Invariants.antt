use Rattle.std.proofs.Common.{◌≡◌, ◌≢◌, ℕ, vec_len}
use Rattle.region_scrub.specs.declared.chain_state.ChainState.TheVariants.{Fresh, Passing}
use Rattle.region_scrub.specs.Rooting.{mark_at, IsClimbed, IsPassed}
use Rattle.region_scrub.specs.Rooting as spec
use Rattle.region_scrub.proofs.rooting.Rooting.finish.Given as goal

abbrev pub invariant-loop-region : goal.invariant-loop-region
invariant-loop-region l = record {
  parents : l.self.parents.items ≡ l.initial.self.parents.items;
  mark : l.mark ≡ spec.mark_of l.reaches;
  climbed : IsClimbed l.self.parents.items l.self.marks.items l.self.path.items l.reaches;
  passed : IsPassed l.initial.self.marks.items l.self.path.items;
  stays : (k : ℕ) → mark_at l.initial.self.marks.items k ≢ Passing → mark_at l.self.marks.items k ≡ mark_at l.initial.self.marks.items k;
  begun : (k : ℕ) → mark_at l.initial.self.marks.items k ≢ Fresh → mark_at l.self.marks.items k ≢ Fresh;
}

abbrev pub decreases-loop-region : goal.decreases-loop-region
decreases-loop-region l = vec_len l.self.path
