-- The answers on a project.
use Rattle.std.specs.Prelude.{◌≡◌, ℕ, List, map}
use Rattle.std.specs.List.{AllZip}
use Rattle.desk_base.specs.declared.key.PromiseKey.{PromiseKey}
use Rattle.report.specs.declared.answers.Answers.{Answers}
use Rattle.project_answers.specs.declared.answers.Sizes.{Sizes}
use Rattle.project_answers.specs.declared.sited.Sited.{Sited}
use Rattle.project_answers.specs.Gathered.{finding_of}
use Rattle.project_answers.specs.Judged.{IsRowOf}
use Rattle.project_answers.specs.Rows.{finding_rows}

-- of a project of these sizes, paths, promises and findings: a row for each finding and each promise, in
-- their order
pub record AreAnswers (sizes : Sizes) (paths : List (List ℕ)) (promises : List PromiseKey) (found : List Sited) (answers : Answers) : Type 0 where
  pub files : answers.files ≡ sizes.files
  pub types : answers.types ≡ sizes.types
  pub units : answers.units ≡ sizes.units
  pub findings : answers.findings ≡ finding_rows paths found
  pub verdicts : AllZip (IsRowOf promises (map finding_of found)) promises answers.verdicts
