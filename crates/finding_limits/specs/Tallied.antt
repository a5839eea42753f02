-- What the code counts.
use Rattle.std.specs.Prelude.{◌≡◌, ℕ, ◌-◌, ◌^◌, min, List}
use Rattle.result_records.specs.declared.finding.Finding.{Finding}
use Rattle.finding_limits.specs.declared.tally.Tally.{Tally}
use Rattle.finding_limits.specs.Quantities.{finding_count, link_count}

-- so many promises, and these findings with their links, up to the greatest number
pub record Tallies (tally : Tally) (promises : ℕ) (findings : List Finding) : Type 0 where
  pub of_promises : tally.promises ≡ min promises (2 ^ 64 - 1)
  pub of_findings : tally.findings ≡ min (finding_count findings) (2 ^ 64 - 1)
  pub of_links : tally.links ≡ min (link_count findings) (2 ^ 64 - 1)
