-- The rows of findings.
use Rattle.std.specs.Prelude.{ℕ, List, [], ◌∷◌, ◌++◌, map, filter, unwrap_or, if◌then◌else◌}
use Rattle.std.specs.List.{slice_get}
use Rattle.result_records.specs.declared.finding.Finding.{Finding}
use Rattle.report.specs.declared.answers.FindingRow.{FindingRow}
use Rattle.unit_findings.specs.Vouches.{has_no_way}
use Rattle.project_answers.specs.declared.sited.Site.{Site}
use Rattle.project_answers.specs.declared.sited.Sited.{Sited}
use Rattle.project_answers.specs.Gathered.{is_standing_code, says_more}

-- the path of the file of that number
abbrev pub path_at : List (List ℕ) → ℕ → List ℕ
path_at paths file = unwrap_or (slice_get paths file) []

abbrev pub row_of : List (List ℕ) → Finding → Site → FindingRow
row_of paths finding site = record {
  finding = finding;
  path = path_at paths site.file;
  line = site.line;
  fails = has_no_way finding.alternatives;
}

abbrev pub sited_row : List (List ℕ) → Sited → FindingRow
sited_row paths s = row_of paths s.finding s.site

-- a row for each finding that says more than that a promise is one of the project
abbrev pub finding_rows : List (List ℕ) → List Sited → List FindingRow
finding_rows paths found = map (sited_row paths) (filter says_more found)

-- ---- the same of findings and places that are kept apart

abbrev pub row_if : List (List ℕ) → Finding → Site → List FindingRow
row_if paths finding site = if is_standing_code finding.key.code then [] else row_of paths finding site ∷ []

abbrev pub joined_rows : List (List ℕ) → List Finding → List Site → List FindingRow
joined_rows paths [] sites = []
joined_rows paths (f ∷ fs) [] = []
joined_rows paths (f ∷ fs) (s ∷ ss) = row_if paths f s ++ joined_rows paths fs ss
