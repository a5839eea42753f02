-- What an inconsistent verdict is blamed on has a row.
use Rattle.std.proofs.Common.{◌≡◌, ℕ, zero, suc, ◌<◌, List, [], ◌∷◌, length, map, get_or, refl, sym, ◌∙◌, ap, subst, arith, Bool, true, false, cond}
use Rattle.std.specs.Prelude.{filter, not, Option, Some, None, All}
use Rattle.std.specs.List.{AllByRecursion, AllZip}
use Rattle.std.proofs.lemmas.List.Elements.{All-from_recursion, recursion_from_All}
use Rattle.desk_base.specs.declared.key.PromiseKey.{PromiseKey}
use Rattle.result_records.specs.declared.finding.Finding.{Finding}
use Rattle.result_records.specs.declared.finding.FindingKey.{FindingKey}
use Rattle.result_records.specs.declared.finding.FindingLink.{FindingLink}
use Rattle.consistency.specs.declared.verdict.Verdict.{Verdict}
use Rattle.consistency.specs.declared.verdict.Verdict.TheVariants as verdict
use Rattle.consistency.specs.Verdicts.{BlamedBy}
use Rattle.report.specs.declared.answers.Answers.{Answers}
use Rattle.report.specs.declared.answers.FindingRow.{FindingRow}
use Rattle.report.specs.declared.answers.VerdictRow.{VerdictRow}
use Rattle.unit_findings.specs.Vouches.{has_no_way}
use Rattle.project_answers.specs.declared.answers.Sizes.{Sizes}
use Rattle.project_answers.specs.declared.sited.Sited.{Sited}
use Rattle.project_answers.specs.Answered.{AreAnswers}
use Rattle.project_answers.specs.Gathered.{finding_of, is_standing, says_more}
use Rattle.project_answers.specs.Judged.{IsRowOf}
use Rattle.project_answers.specs.Laws.{HasWay, HasFailingRow, BlameIsRow, IsBlamedByRow}
use Rattle.project_answers.specs.Rows.{finding_rows, sited_row}

-- a row behind another one
later : (r : FindingRow) (rows : List FindingRow) (b : FindingKey) → HasFailingRow rows b → HasFailingRow (r ∷ rows) b
later r rows b h = record { row = h.row; among = (suc h.among.0, omega (arith, h.among.1), h.among.2); named = h.named; fails = h.fails }

no_way : (ways : List (List FindingLink)) → ways ≡ [] → has_no_way ways ≡ true
no_way [] e = refl
no_way (w ∷ ws) e = absurd cc

-- the row of the first finding
here : (paths : List (List ℕ)) (s : Sited) (found : List Sited) (x : Finding) → s.finding ≡ x → HasWay s → x.alternatives ≡ [] → (b : Bool) → is_standing s ≡ b
    → HasFailingRow (map (sited_row paths) (cond (not b) (s ∷ filter says_more found) (filter says_more found))) x.key
here paths s found x same way none true e =
    let fails : has_no_way s.finding.alternatives ≡ true = no_way s.finding.alternatives (ap (λ (f : Finding). f.alternatives) same ∙ none) in
    let not_so : has_no_way s.finding.alternatives ≡ false = way e in
    absurd cc
here paths s found x same way none false e = record {
  row = sited_row paths s;
  among = (0, omega arith, refl);
  named = ap (λ (f : Finding). f.key) same;
  fails = no_way s.finding.alternatives (ap (λ (f : Finding). f.alternatives) same ∙ none);
}

there : (paths : List (List ℕ)) (s : Sited) (found : List Sited) (k : FindingKey) → HasFailingRow (finding_rows paths found) k → (b : Bool)
    → HasFailingRow (map (sited_row paths) (cond (not b) (s ∷ filter says_more found) (filter says_more found))) k
there paths s found k h true = h
there paths s found k h false = later (sited_row paths s) (finding_rows paths found) k h

failing_row : (paths : List (List ℕ)) (found : List Sited) (x : Finding) (i : ℕ) → i < length (map finding_of found) → get_or (map finding_of found) i x ≡ x
    → AllByRecursion HasWay found → x.alternatives ≡ [] → HasFailingRow (finding_rows paths found) x.key
failing_row paths [] x i low is ways none = absurd (omega arith)
failing_row paths (s ∷ found) x zero low is ways none = here paths s found x is ways.0 none (is_standing s) refl
failing_row paths (s ∷ found) x (suc i) low is ways none =
    there paths s found x.key (failing_row paths found x i (omega arith) is ways.1 none) (is_standing s)

blamed_by : (ps : List PromiseKey) (paths : List (List ℕ)) (found : List Sited) (p : PromiseKey) (v : Verdict) (blame : Option FindingKey) → AllByRecursion HasWay found
    → BlamedBy ps (map finding_of found) p v blame → BlameIsRow (finding_rows paths found) v blame
blamed_by ps paths found p verdict.Firm blame ways h = tt
blamed_by ps paths found p verdict.Contingent blame ways h = tt
blamed_by ps paths found p verdict.Inconsistent None ways h = h
blamed_by ps paths found p verdict.Inconsistent (Some b) ways h =
    let x = h.1.0 in
    subst (HasFailingRow (finding_rows paths found)) h.1.2 (failing_row paths found x h.1.1.0 h.1.1.1 h.1.1.2 ways h.1.3)

each_blamed : (ps : List PromiseKey) (paths : List (List ℕ)) (found : List Sited) (keys : List PromiseKey) (rows : List VerdictRow) → AllByRecursion HasWay found
    → AllZip (IsRowOf ps (map finding_of found)) keys rows → AllByRecursion (IsBlamedByRow (finding_rows paths found)) rows
each_blamed ps paths found [] [] ways h = tt
each_blamed ps paths found [] (r ∷ rows) ways h = absurd h
each_blamed ps paths found (k ∷ keys) [] ways h = absurd h
each_blamed ps paths found (k ∷ keys) (r ∷ rows) ways h =
    (blamed_by ps paths found k r.verdict r.blame ways h.0.blame, each_blamed ps paths found keys rows ways h.1)

pub all_blamed : (sizes : Sizes) (paths : List (List ℕ)) (ps : List PromiseKey) (found : List Sited) (answers : Answers) → AreAnswers sizes paths ps found answers → All HasWay found
    → All (IsBlamedByRow answers.findings) answers.verdicts
all_blamed sizes paths ps found answers are ways =
    let P : List FindingRow → Type 0 = λ (rows : List FindingRow). All (IsBlamedByRow rows) answers.verdicts in
    subst P (sym are.findings)
    (All-from_recursion (IsBlamedByRow (finding_rows paths found)) answers.verdicts
    (each_blamed ps paths found ps answers.verdicts (recursion_from_All HasWay found ways) are.verdicts))
