-- The findings of a unit.
use Rattle.std.specs.Prelude.{ℕ, List, ◌++◌, Option, map}
use Rattle.result_records.specs.declared.finding.Finding.{Finding}
use Rattle.finding_order.specs.Numbers.{in_order}
use Rattle.unit_findings.specs.declared.promise.UnitPromise.{UnitPromise}
use Rattle.unit_findings.specs.Promises.{standing_findings, aside_findings}
use Rattle.unit_findings.specs.Vouches.{vouched}

-- what is set aside and what was found, with the vouch where they fail
abbrev pub others : List ℕ → Option (List ℕ) → List UnitPromise → List Finding → List Finding
others unit vouch promises found = map (vouched vouch) (aside_findings unit promises) ++ map (vouched vouch) found

-- that promises are of the project comes before all else
abbrev pub unit_findings : List ℕ → Option (List ℕ) → List UnitPromise → List Finding → List Finding
unit_findings unit vouch promises found = in_order (standing_findings unit promises) ++ in_order (others unit vouch promises found)
