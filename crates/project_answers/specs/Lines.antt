-- The lines of findings.
use Rattle.std.specs.Prelude.{ℕ, ◌+◌, ◌-◌, ◌==◌, List, Option, Some, None, take, count_by}
use Rattle.std.specs.List.{slice_get}
use Rattle.java_tree.specs.declared.token.Token.{Token}
use Rattle.result_records.specs.declared.finding.Finding.{Finding}
use Rattle.project_answers.specs.declared.sited.Sited.{Sited}

-- one more than the line feeds before a place
abbrev pub line_at : List ℕ → ℕ → ℕ
line_at text at = 1 + count_by (λ b. b == 10) (take at text)

abbrev pub start_of : Option Token → ℕ
start_of (Some token) = token.span.start
start_of None = 0

-- the byte at which a token of a unit begins; they are numbered from 1
abbrev pub start_at : List Token → ℕ → ℕ
start_at tokens place = start_of (slice_get tokens (place - 1))

-- a finding of a unit with where it is: in a file of this number and text, at the line of its token
abbrev pub sited : ℕ → List ℕ → List Token → Finding → Sited
sited file text tokens finding = record {
  finding = finding;
  site = record { file = file; line = line_at text (start_at tokens finding.place) };
}
