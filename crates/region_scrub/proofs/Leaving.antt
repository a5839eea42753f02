-- The declarations that are left, as they are taken one by one.
use Rattle.std.proofs.Common.{◌≡◌, ℕ, zero, suc, ◌+◌, ◌<◌, ◌≤◌, List, [], ◌∷◌, ◌++◌, length, get_or, take, refl, sym, ◌∙◌, ap, arith}
use Rattle.std.specs.Prelude.{Option, Some, None}
use Rattle.region_tree.specs.declared.decl.RegionDecl.{RegionDecl}
use Rattle.region_scrub.specs.declared.fault.RegionFault.{RegionFault}
use Rattle.region_scrub.specs.Clearing.{left, aside_at}

take_suc : (d : RegionDecl) (ds : List RegionDecl) (i : ℕ) → take (suc i + 1) (d ∷ ds) ≡ d ∷ take (i + 1) ds
take_suc d ds i = let same : suc i + 1 ≡ suc (i + 1) = omega arith in ap (λ (n : ℕ). take n (d ∷ ds)) same

-- one that is left
pub left_one : (ds : List RegionDecl) (aside : List (Option RegionFault)) (i : ℕ) (d : RegionDecl) → i < length ds → d ≡ get_or ds i d → aside_at aside i ≡ None
    → left (take (i + 1) ds) aside ≡ left (take i ds) aside ++ d ∷ []
left_one [] aside i d low is none = absurd (omega arith)
left_one (x ∷ ds) [] zero d low is none = ap (λ (z : RegionDecl). z ∷ []) (sym is)
left_one (x ∷ ds) (None ∷ more) zero d low is none = ap (λ (z : RegionDecl). z ∷ []) (sym is)
left_one (x ∷ ds) (Some why ∷ more) zero d low is none = absurd (cc)
left_one (x ∷ ds) [] (suc i) d low is none = ap (λ (z : List RegionDecl). left z []) (take_suc x ds i) ∙ ap (λ (z : List RegionDecl). x ∷ z) (whole (take (i + 1) ds)) ∙ ap (λ (z : List RegionDecl). x ∷ z) (left_one ds [] i d (omega arith) is none)
    ∙ ap (λ (z : List RegionDecl). x ∷ (z ++ d ∷ [])) (sym (whole (take i ds)))
  where
    whole : (zs : List RegionDecl) → zs ≡ left zs []
    whole [] = refl
    whole (z ∷ zs) = refl
left_one (x ∷ ds) (None ∷ more) (suc i) d low is none =
    ap (λ (z : List RegionDecl). left z (None ∷ more)) (take_suc x ds i) ∙ ap (λ (z : List RegionDecl). x ∷ z) (left_one ds more i d (omega arith) is none)
left_one (x ∷ ds) (Some why ∷ more) (suc i) d low is none =
    ap (λ (z : List RegionDecl). left z (Some why ∷ more)) (take_suc x ds i) ∙ left_one ds more i d (omega arith) is none

-- one that is set aside
pub left_none : (ds : List RegionDecl) (aside : List (Option RegionFault)) (i : ℕ) → i < length ds → (aside_at aside i ≡ None → ⊥)
    → left (take (i + 1) ds) aside ≡ left (take i ds) aside
left_none [] aside i low some = absurd (omega arith)
left_none (x ∷ ds) [] i low some = absurd (some refl)
left_none (x ∷ ds) (None ∷ more) zero low some = absurd (some refl)
left_none (x ∷ ds) (Some why ∷ more) zero low some = none_left ds more
  where
    none_left : (zs : List RegionDecl) (m : List (Option RegionFault)) → left (take 0 zs) m ≡ []
    none_left [] m = refl
    none_left (z ∷ zs) m = refl
left_none (x ∷ ds) (None ∷ more) (suc i) low some =
    ap (λ (z : List RegionDecl). left z (None ∷ more)) (take_suc x ds i) ∙ ap (λ (z : List RegionDecl). x ∷ z) (left_none ds more i (omega arith) some)
left_none (x ∷ ds) (Some why ∷ more) (suc i) low some =
    ap (λ (z : List RegionDecl). left z (Some why ∷ more)) (take_suc x ds i) ∙ left_none ds more i (omega arith) some

take_past : (ds : List RegionDecl) (i : ℕ) → length ds ≤ i → take i ds ≡ ds
take_past [] zero past = refl
take_past [] (suc i) past = refl
take_past (d ∷ ds) zero past = absurd (omega arith)
take_past (d ∷ ds) (suc i) past = ap (λ (z : List RegionDecl). d ∷ z) (take_past ds i (omega arith))

pub left_whole : (ds : List RegionDecl) (aside : List (Option RegionFault)) (i : ℕ) → length ds ≤ i → left (take i ds) aside ≡ left ds aside
left_whole ds aside i past = ap (λ (z : List RegionDecl). left z aside) (take_past ds i past)
