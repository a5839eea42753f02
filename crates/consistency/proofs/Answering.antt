-- What the verdicts answer of a promise.
use Rattle.std.proofs.Common.{◌≡◌, ℕ, List, refl, sym, ◌∙◌, ap, subst, Bor}
use Rattle.std.specs.Prelude.{Contains, Option, Some, None, MatchOption}
use Rattle.std.specs.Option.{option_copied}
use Rattle.desk_base.specs.declared.key.PromiseKey.{PromiseKey}
use Rattle.result_records.specs.declared.finding.Finding.{Finding}
use Rattle.result_records.specs.declared.finding.FindingKey.{FindingKey}
use Rattle.result_records.specs.declared.finding.FindingLink.{FindingLink}
use Rattle.consistency.specs.declared.verdict.Verdict.{Verdict}
use Rattle.consistency.specs.declared.verdict.Verdict.TheVariants as verdict
use Rattle.consistency.specs.declared.verdicts.Judged.{Judged}
use Rattle.consistency.specs.declared.verdicts.Verdicts.{Verdicts}
use Rattle.consistency.specs.Blame.{Blame, IsWord, Leaf}
use Rattle.consistency.specs.Keys.{number_in}
use Rattle.consistency.specs.Rounds.{Con, Firm, HasVerdict}
use Rattle.consistency.specs.Verdicts.{BlamedBy, IsFailing, IsJudged, RestsBy, VerdictsOf, row_at, row_in}
use Rattle.consistency.proofs.Judging.{get_contains, get_within, place_of}
use Rattle.consistency.proofs.Laws.{con_of_firm}

some_same : {X : Type 0} (x y : X) → Some x ≡ Some y → x ≡ y
some_same {X} x y e = cc

present_at : (ps : List PromiseKey) (fs : List Finding) (v : Verdicts) → VerdictsOf ps fs v → (key : PromiseKey) (row : Judged) (o : Option ℕ) → number_in v.numbers key ≡ o
    → row_at v o ≡ Some row → Contains ps key × IsJudged ps fs key row
present_at ps fs v is key row None none h = absurd cc
present_at ps fs v is key row (Some n) some h =
    let s = is.numbers.sound key n some in
    let j = is.judged n key s.1 in
    let same : j.0 ≡ row = some_same j.0 row (sym j.1 ∙ h) in
    (get_contains ps n key s.1, subst (λ (z : Judged). IsJudged ps fs key z) same j.2)

pub present : (ps : List PromiseKey) (fs : List Finding) (v : Verdicts) → VerdictsOf ps fs v → (key : PromiseKey) (row : Judged) → row_in v key ≡ Some row
    → Contains ps key × IsJudged ps fs key row
present ps fs v is key row h = present_at ps fs v is key row (number_in v.numbers key) refl h

pub absent : (ps : List PromiseKey) (fs : List Finding) (v : Verdicts) → VerdictsOf ps fs v → (key : PromiseKey) → row_in v key ≡ None → Contains ps key → ⊥
absent ps fs v is key none c =
    let place = place_of ps key c in
    let j = is.judged place.0 key place.1 in
    let n = is.numbers.whole is.distinct key place.0 (get_within ps place.0 key place.1) place.1 in
    let row : row_in v key ≡ Some j.0 = ap (λ (o : Option ℕ). row_at v o) n ∙ j.1 in
    let both : None ≡ Some j.0 = sym none ∙ row in
    cc

abbrev pub BlameSays : List PromiseKey → List Finding → PromiseKey → Option (Bor FindingKey) → Type 0
BlameSays ps fs key r = MatchOption r (Contains ps key → Con ps fs key) (λ b. Contains ps key × (Con ps fs key → ⊥) × Blame ps fs key b.now × IsFailing fs b.now)

blame_by : (ps : List PromiseKey) (fs : List Finding) (key : PromiseKey) → Contains ps key → (verdict_ : Verdict) (blame : Option FindingKey) (r : Option (Bor FindingKey)) → option_copied r ≡ blame
    → HasVerdict ps fs key verdict_ → BlamedBy ps fs key verdict_ blame → BlameSays ps fs key r
blame_by ps fs key c verdict.Firm blame None e h b = λ _. con_of_firm ps fs key h
blame_by ps fs key c verdict.Firm blame (Some x) e h b = absurd (let z = e ∙ b in cc)
blame_by ps fs key c verdict.Contingent blame None e h b = λ _. h.0
blame_by ps fs key c verdict.Contingent blame (Some x) e h b = absurd (let z = e ∙ b in cc)
blame_by ps fs key c verdict.Inconsistent None r e h b = absurd b
blame_by ps fs key c verdict.Inconsistent (Some y) None e h b = absurd cc
blame_by ps fs key c verdict.Inconsistent (Some y) (Some x) e h b =
    let same : y ≡ x.now = some_same y x.now (sym e) in
    (c, h, subst (λ (z : FindingKey). Blame ps fs key z) same b.0, subst (λ (z : FindingKey). IsFailing fs z) same b.1)

pub blame_answers : (ps : List PromiseKey) (fs : List Finding) (v : Verdicts) → VerdictsOf ps fs v → (key : PromiseKey) (row : Judged) → row_in v key ≡ Some row
    → (r : Option (Bor FindingKey)) → option_copied r ≡ row.blame → BlameSays ps fs key r
blame_answers ps fs v is key row at r e =
    let p = present ps fs v is key row at in
    let j = p.1 in
    blame_by ps fs key p.0 row.verdict row.blame r e j.verdict j.blame

abbrev pub LeafSays : List PromiseKey → List Finding → PromiseKey → Option (Bor FindingLink) → Type 0
LeafSays ps fs key r = MatchOption r (Contains ps key → Con ps fs key → (Firm ps fs key → ⊥) → ⊥)
    (λ l. Contains ps key × Con ps fs key × (Firm ps fs key → ⊥) × Leaf ps fs key l.now × IsWord l.now)

leaf_by : (ps : List PromiseKey) (fs : List Finding) (key : PromiseKey) → Contains ps key → (verdict_ : Verdict) (leaf : Option FindingLink) (r : Option (Bor FindingLink)) → option_copied r ≡ leaf
    → HasVerdict ps fs key verdict_ → RestsBy ps fs key verdict_ leaf → LeafSays ps fs key r
leaf_by ps fs key c verdict.Firm leaf None e h b = λ _ _ out. out h
leaf_by ps fs key c verdict.Firm leaf (Some x) e h b = absurd (let z = e ∙ b in cc)
leaf_by ps fs key c verdict.Inconsistent leaf None e h b = λ _ con _. h con
leaf_by ps fs key c verdict.Inconsistent leaf (Some x) e h b = absurd (let z = e ∙ b in cc)
leaf_by ps fs key c verdict.Contingent None r e h b = absurd b
leaf_by ps fs key c verdict.Contingent (Some y) None e h b = absurd cc
leaf_by ps fs key c verdict.Contingent (Some y) (Some x) e h b =
    let same : y ≡ x.now = some_same y x.now (sym e) in
    (c, h.0, h.1, subst (λ (z : FindingLink). Leaf ps fs key z) same b.0, subst (λ (z : FindingLink). IsWord z) same b.1)

pub leaf_answers : (ps : List PromiseKey) (fs : List Finding) (v : Verdicts) → VerdictsOf ps fs v → (key : PromiseKey) (row : Judged) → row_in v key ≡ Some row
    → (r : Option (Bor FindingLink)) → option_copied r ≡ row.leaf → LeafSays ps fs key r
leaf_answers ps fs v is key row at r e =
    let p = present ps fs v is key row at in
    let j = p.1 in
    leaf_by ps fs key p.0 row.verdict row.leaf r e j.verdict j.leaf
