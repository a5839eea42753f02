-- Verdicts with what they are blamed on and rest on.
use Rattle.std.proofs.Common.{◌≡◌, ℕ, zero, suc, ◌+◌, ◌<◌, List, [], ◌∷◌, ◌++◌, length, take, get_or, refl, sym, ◌∙◌, ap, subst, arith, true, false}
use Rattle.std.specs.Prelude.{Option, Some, None, All, Contains, MatchOption}
use Rattle.std.specs.Borrow.{Bor}
use Rattle.std.specs.List.{AllZip}
use Rattle.std.proofs.lemmas.List.{take_more}
use Rattle.std.specs.Option.{option_copied}
use Rattle.desk_base.specs.declared.key.PromiseKey.{PromiseKey}
use Rattle.result_records.specs.declared.finding.Finding.{Finding}
use Rattle.result_records.specs.declared.finding.FindingKey.{FindingKey}
use Rattle.result_records.specs.declared.finding.FindingLink.{FindingLink}
use Rattle.result_records.specs.declared.finding.FindingLink.TheVariants as link
use Rattle.consistency.specs.declared.verdict.Verdict.{Verdict}
use Rattle.consistency.specs.declared.verdict.Verdict.TheVariants as verdict
use Rattle.consistency.specs.Rounds.{Holds, Round, Con, Firm, HasVerdict}
use Rattle.consistency.specs.Blame.{Blame, Leaf, IsWord}
use Rattle.consistency.specs.Verdicts.{BlamedBy, RestsBy, IsFailing, VerdictsOf}
use Rattle.consistency.specs.declared.verdicts.Verdicts.{Verdicts}
use Rattle.report.specs.declared.answers.VerdictRow.{VerdictRow}
use Rattle.project_answers.specs.Judged.{IsKnown, IsRowOf}

module _ (ps : List PromiseKey) (fs : List Finding) where
  -- what survives where words don't count does where they do
  holds_too : (S T : PromiseKey → Type 0) → ((p : PromiseKey) → S p → T p) → (l : FindingLink) → Holds false S l → Holds true T l
  holds_too S T more (link.Promise key) h = more key h
  holds_too S T more (link.Vouched key) h = refl
  holds_too S T more (link.Assumed class promise) h = refl

  in_both : (k : ℕ) (p : PromiseKey) → Round ps fs false k p → Round ps fs true k p
  in_both zero p there = there
  in_both (suc k) p (there, each) =
      (there, λ x among on. let kept = each x among on in (kept.0, kept.1, λ i d low. holds_too (Round ps fs false k) (Round ps fs true k) (in_both k) (get_or kept.0 i d) (kept.2 i d low)))

  firm_is_con : (p : PromiseKey) → Firm ps fs p → Con ps fs p
  firm_is_con p firm = in_both (length ps) p firm

  pub blamed : (p : PromiseKey) (v : Verdict) (blame : Option (Bor FindingKey)) → Contains ps p → HasVerdict ps fs p v
      → MatchOption blame (Contains ps p → Con ps fs p) (λ b. Contains ps p × (Con ps fs p → ⊥) × Blame ps fs p b.now × IsFailing fs b.now)
      → BlamedBy ps fs p v (option_copied blame)
  blamed p verdict.Firm None there has says = refl
  blamed p verdict.Firm (Some b) there has says = absurd (says.1 (firm_is_con p has))
  blamed p verdict.Contingent None there has says = refl
  blamed p verdict.Contingent (Some b) there has says = absurd (says.1 has.0)
  blamed p verdict.Inconsistent None there has says = absurd (has (says there))
  blamed p verdict.Inconsistent (Some b) there has says = (says.2, says.3)

  pub rests : (p : PromiseKey) (v : Verdict) (leaf : Option (Bor FindingLink)) → Contains ps p → HasVerdict ps fs p v
      → MatchOption leaf (Contains ps p → Con ps fs p → (Firm ps fs p → ⊥) → ⊥) (λ l. Contains ps p × Con ps fs p × (Firm ps fs p → ⊥) × Leaf ps fs p l.now × IsWord l.now)
      → RestsBy ps fs p v (option_copied leaf)
  rests p verdict.Firm None there has says = refl
  rests p verdict.Firm (Some l) there has says = absurd (says.2 has)
  rests p verdict.Contingent None there has says = absurd (says there has.0 has.1)
  rests p verdict.Contingent (Some l) there has says = (says.3, says.4)
  rests p verdict.Inconsistent None there has says = refl
  rests p verdict.Inconsistent (Some l) there has says = absurd (has says.1)

-- the promise at a place is one of those that are judged
pub known_at : (v : Verdicts) (ps : List PromiseKey) (i : ℕ) (p : PromiseKey) → All (IsKnown v) ps → i < length ps → p ≡ get_or ps i p → IsKnown v p
known_at v ps i p all low is = subst (IsKnown v) (sym is) (all i p low)

pub known : (v : Verdicts) (ps : List PromiseKey) (fs : List Finding) → VerdictsOf ps fs v → All (IsKnown v) ps
known v ps fs judged = λ i d low. record { promises = ps; findings = fs; judged = judged; among = (i, low, get_same ps i d low) }
  where
    get_same : (xs : List PromiseKey) (i : ℕ) (d : PromiseKey) → i < length xs → get_or xs i (get_or xs i d) ≡ get_or xs i d
    get_same [] i d low = refl
    get_same (x ∷ xs) zero d low = refl
    get_same (x ∷ xs) (suc i) d low = get_same xs i d (omega arith)

zip_push : {X Y : Type 0} (R : X → Y → Type 0) (xs : List X) (ys : List Y) (x : X) (y : Y) → AllZip R xs ys → R x y → AllZip R (xs ++ x ∷ []) (ys ++ y ∷ [])
zip_push R [] [] x y each one = (one, tt)
zip_push R [] (b ∷ ys) x y each one = absurd each
zip_push R (a ∷ xs) [] x y each one = absurd each
zip_push R (a ∷ xs) (b ∷ ys) x y each one = (each.0, zip_push R xs ys x y each.1 one)

-- one more row
pub row_more : (ps : List PromiseKey) (v : Verdicts) (i : ℕ) (p : PromiseKey) (rows new : List VerdictRow) (row : VerdictRow) → i < length ps → p ≡ get_or ps i p
    → ((fs : List Finding) → VerdictsOf ps fs v → AllZip (IsRowOf ps fs) (take i ps) rows)
    → ((qs : List PromiseKey) (fs : List Finding) → VerdictsOf qs fs v → Contains qs p → IsRowOf qs fs p row)
    → new ≡ rows ++ row ∷ [] → (fs : List Finding) → VerdictsOf ps fs v → AllZip (IsRowOf ps fs) (take (i + 1) ps) new
row_more ps v i p rows new row low is before one put fs judged =
    let R = IsRowOf ps fs in
    let more : take i ps ++ p ∷ [] ≡ take (i + 1) ps = ap (λ q. take i ps ++ q ∷ []) is ∙ sym (take_more ps i p low) in
    let P : List VerdictRow → Type 0 = λ (l : List VerdictRow). AllZip R (take (i + 1) ps) l in
    let Q : List PromiseKey → Type 0 = λ (qs : List PromiseKey). AllZip R qs (rows ++ row ∷ []) in
    subst P (sym put) (subst Q more (zip_push R (take i ps) rows p row (before fs judged) (one ps fs judged (i, low, sym is))))
