-- Splits of a content: as the code finds them, and where they are.
use Rattle.std.proofs.Common.{◌≡◌, ℕ, suc, ◌+◌, ◌-◌, ◌<◌, ◌≤◌, Bool, true, false, not, cond, eqb, List, [], ◌∷◌, ◌++◌, length, take, drop, get_or, Some, None, refl, sym, ap, ◌∙◌, arith}
use Rattle.std.specs.List.{position_or_len, list_all}
use Rattle.std.proofs.Math.Seq.{drop-cons}
use Rattle.std.proofs.lemmas.List.{take-append-drop}
use Rattle.promise_grammar.specs.Word.{is_blank}
use Rattle.promise_grammar.specs.Split.{first_split, longer_front, closing_split}
use Rattle.promise_grammar.proofs.Cutting.{rest_whole}

-- ---- the first such byte

abbrev place : ℕ → List ℕ → ℕ
place s bs = position_or_len (λ b. eqb b s) bs

found_by : (s b : ℕ) (bs : List ℕ) (k : ℕ) (t : Bool) → (k < length bs → first_split s bs ≡ Some (take k bs, drop (suc k) bs))
    → cond (not t) (1 + k) 0 < length (b ∷ bs)
    → cond t (Some ([], bs)) (longer_front b (first_split s bs)) ≡ Some (take (cond (not t) (1 + k) 0) (b ∷ bs), drop (suc (cond (not t) (1 + k) 0)) (b ∷ bs))
found_by s b bs k true later within = refl
found_by s b bs k false later within =
    let one : 1 + k ≡ suc k = omega arith in
    let below : k < length bs = omega arith in
    rw (one, later below) refl

found_at : (s : ℕ) (bs : List ℕ) → place s bs < length bs → first_split s bs ≡ Some (take (place s bs) bs, drop (suc (place s bs)) bs)
found_at s [] within = absurd (omega arith)
found_at s (b ∷ bs) within = found_by s b bs (place s bs) (eqb b s) (found_at s bs) within

pub first_split_at : (s : ℕ) (bs : List ℕ) (n : ℕ) → n ≡ place s bs → n < length bs → first_split s bs ≡ Some (take n bs, take (length bs - (n + 1)) (drop (n + 1) bs))
first_split_at s bs n e within =
    let there : place s bs < length bs = omega arith in
    let next : n + 1 ≡ suc n = omega arith in
    rw (rest_whole (n + 1) bs, next, e) (found_at s bs there)

none_by : (s b : ℕ) (bs : List ℕ) (k : ℕ) (t : Bool) → (length bs ≤ k → first_split s bs ≡ None) → length (b ∷ bs) ≤ cond (not t) (1 + k) 0
    → cond t (Some ([], bs)) (longer_front b (first_split s bs)) ≡ None
none_by s b bs k true later past = absurd (omega arith)
none_by s b bs k false later past = let beyond : length bs ≤ k = omega arith in rw (later beyond) refl

none_at : (s : ℕ) (bs : List ℕ) → length bs ≤ place s bs → first_split s bs ≡ None
none_at s [] past = refl
none_at s (b ∷ bs) past = none_by s b bs (place s bs) (eqb b s) (none_at s bs) past

pub first_split_none : (s : ℕ) (bs : List ℕ) (n : ℕ) → n ≡ place s bs → length bs ≤ n → first_split s bs ≡ None
first_split_none s bs n e past = let beyond : length bs ≤ place s bs = omega arith in none_at s bs beyond

-- ---- the last `)` that more than blanks follow

pub closing_at : (front rest : List ℕ) → closing_split rest ≡ None → list_all is_blank rest ≡ false → closing_split (front ++ (41 ∷ rest)) ≡ Some (front, rest)
closing_at [] rest none more = rw (none, more) refl
closing_at (b ∷ front) rest none more = rw (closing_at front rest none more) refl

pub closed_here : (bs : List ℕ) (at : ℕ) (ends : Bool) → 0 < at → at ≤ length bs → closing_split (drop at bs) ≡ None → ends ≡ list_all is_blank (drop at bs) → ends ≡ false
    → get_or bs (at - 1) 0 ≡ 41 → closing_split bs ≡ Some (take (at - 1) bs, take (length bs - (at - 1 + 1)) (drop (at - 1 + 1) bs))
closed_here bs at ends some within none blank more byte =
    let same : at - 1 + 1 ≡ at = omega arith in
    let next : suc (at - 1) ≡ at = omega arith in
    let below : at - 1 < length bs = omega arith in
    let cell : drop (at - 1) bs ≡ get_or bs (at - 1) 0 ∷ drop (suc (at - 1)) bs = drop-cons bs (at - 1) 0 below in
    let there : drop (at - 1) bs ≡ 41 ∷ drop at bs = cell ∙ ap (λ (b : ℕ). b ∷ drop (suc (at - 1)) bs) byte ∙ ap (λ (k : ℕ). 41 ∷ drop k bs) next in
    let whole : bs ≡ take (at - 1) bs ++ (41 ∷ drop at bs) = sym (take-append-drop (at - 1) bs) ∙ ap (λ (r : List ℕ). take (at - 1) bs ++ r) there in
    let split = closing_at (take (at - 1) bs) (drop at bs) none (sym blank ∙ more) in
    rw (rest_whole (at - 1 + 1) bs, same) (ap closing_split whole ∙ split)
