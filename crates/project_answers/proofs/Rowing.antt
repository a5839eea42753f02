-- Rows of findings and places that are kept apart.
use Rattle.std.proofs.Common.{◌≡◌, ℕ, ◌+◌, ◌<◌, ◌≤◌, List, [], ◌∷◌, ◌++◌, length, map, drop, get_or, refl, sym, ◌∙◌, ap, append_assoc, append-nil, Bool, true, false, cond}
use Rattle.std.specs.Prelude.{filter, not, reverse}
use Rattle.std.proofs.lemmas.List.{reverse-append, reverse-reverse, drop_more, drop_all}
use Rattle.result_records.specs.declared.finding.Finding.{Finding}
use Rattle.report.specs.declared.answers.FindingRow.{FindingRow}
use Rattle.project_answers.specs.declared.sited.Site.{Site}
use Rattle.project_answers.specs.declared.sited.Sited.{Sited}
use Rattle.project_answers.specs.Gathered.{finding_of, site_of, is_standing_code, says_more}
use Rattle.project_answers.specs.Rows.{row_if, row_of, sited_row, joined_rows, finding_rows}

-- one more place, with its finding
pub rows_step : (paths : List (List ℕ)) (rows new : List FindingRow) (left fs : List Finding) (f : Finding) (ss : List Site) (i : ℕ) (s : Site) (all : List FindingRow)
    → i < length ss → s ≡ get_or ss i s → left ≡ fs ++ f ∷ [] → rows ++ joined_rows paths (reverse left) (drop i ss) ≡ all
    → new ≡ rows ++ row_if paths f s → new ++ joined_rows paths (reverse fs) (drop (i + 1) ss) ≡ all
rows_step paths rows new left fs f ss i s all low is taken before put =
    let places : drop i ss ≡ s ∷ drop (i + 1) ss = drop_more ss i s low ∙ ap (λ x. x ∷ drop (i + 1) ss) (sym is) in
    let findings : reverse left ≡ f ∷ reverse fs = ap reverse taken ∙ reverse-append fs (f ∷ []) in
    ap (λ r. r ++ joined_rows paths (reverse fs) (drop (i + 1) ss)) put
    ∙ append_assoc rows (row_if paths f s) (joined_rows paths (reverse fs) (drop (i + 1) ss))
    ∙ ap (λ xs. rows ++ joined_rows paths xs (s ∷ drop (i + 1) ss)) (sym findings)
    ∙ ap (λ xs. rows ++ joined_rows paths (reverse left) xs) (sym places)
    ∙ before

-- no finding is left
pub rows_over : (paths : List (List ℕ)) (rows : List FindingRow) (left after : List Finding) (ss : List Site) (i : ℕ) (all : List FindingRow)
    → left ≡ [] → after ≡ [] → rows ++ joined_rows paths (reverse left) (drop i ss) ≡ all → rows ++ joined_rows paths (reverse after) (drop (i + 1) ss) ≡ all
rows_over paths rows left after ss i all none still before =
    ap (λ xs. rows ++ joined_rows paths (reverse xs) (drop (i + 1) ss)) still
    ∙ ap (λ xs. rows ++ joined_rows paths (reverse xs) (drop i ss)) (sym none)
    ∙ before

-- no place is left
pub no_place : (paths : List (List ℕ)) (fs : List Finding) → joined_rows paths fs [] ≡ []
no_place paths [] = refl
no_place paths (f ∷ fs) = refl

one_row : (paths : List (List ℕ)) (x : Sited) (xs : List Sited) (b : Bool)
    → cond b [] (row_of paths x.finding x.site ∷ []) ++ finding_rows paths xs ≡ map (sited_row paths) (cond (not b) (x ∷ filter says_more xs) (filter says_more xs))
one_row paths x xs true = refl
one_row paths x xs false = refl

-- apart and joined again
pub rows_are_joined : (paths : List (List ℕ)) (xs : List Sited) → joined_rows paths (map finding_of xs) (map site_of xs) ≡ finding_rows paths xs
rows_are_joined paths [] = refl
rows_are_joined paths (x ∷ xs) =
    ap (λ rows. row_if paths x.finding x.site ++ rows) (rows_are_joined paths xs) ∙ one_row paths x xs (is_standing_code x.finding.key.code)

-- the rows when no place is left
pub rows_end : (paths : List (List ℕ)) (rows : List FindingRow) (left turned fs : List Finding) (items ss : List Site) (i : ℕ) → length items ≤ i → turned ≡ reverse fs → items ≡ ss
    → rows ++ joined_rows paths (reverse left) (drop i items) ≡ joined_rows paths (reverse turned) items → rows ≡ joined_rows paths fs ss
rows_end paths rows left turned fs items ss i past turn same before =
    sym (append-nil rows)
    ∙ ap (λ r. rows ++ r) (sym (no_place paths (reverse left)))
    ∙ ap (λ xs. rows ++ joined_rows paths (reverse left) xs) (sym (drop_all i items past))
    ∙ before
    ∙ ap (λ xs. joined_rows paths (reverse xs) items) turn
    ∙ ap (λ xs. joined_rows paths xs items) (reverse-reverse fs)
    ∙ ap (joined_rows paths fs) same

-- the rows of findings that were taken apart
pub rows_of_apart : (paths : List (List ℕ)) (xs : List Sited) (fs : List Finding) (ss : List Site) (rows : List FindingRow) → fs ≡ map finding_of xs → ss ≡ map site_of xs
    → rows ≡ joined_rows paths fs ss → rows ≡ finding_rows paths xs
rows_of_apart paths xs fs ss rows findings sites are =
    are ∙ ap (λ l. joined_rows paths l ss) findings ∙ ap (joined_rows paths (map finding_of xs)) sites ∙ rows_are_joined paths xs
