use Rattle.std.proofs.Common.{ℕ, ◌<◌, ◌≤◌}
use Rattle.region_scrub.specs.Rooting.{Has}
use Rattle.region_scrub.proofs.make.all_declared.Given as goal

abbrev pub invariant-loop-region : goal.invariant-loop-region
invariant-loop-region l = (k : ℕ) → 2 ≤ k → k < l.region → Has l.work k
