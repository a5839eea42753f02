-- The place of the annotation that a detail numbers.
use Rattle.std.proofs.Common.{◌≡◌, ◌≢◌, ℕ, zero, suc, ◌+◌, ◌-◌, ◌<◌, ◌≤◌, ◌^◌, ◌++◌, Bool, true, false, cond, List, [], ◌∷◌, length, refl, sym, ap, ◌∙◌, arith}
use Rattle.std.specs.Prelude.{unwrap_or, codes, decimal, Some, None}
use Rattle.std.specs.List.{slice_get}
use Rattle.std.specs.Str.{bytes_eq}
use Rattle.std.proofs.lemmas.Slice.Eq.{bytes_eq-Decides}
use Rattle.std.proofs.lemmas.Fmt.{decimal_injective}
use Rattle.promise_scrub.specs.Verdicts.{numbered}
use Rattle.unit_judge.specs.Promises.{place_at, place_from}

tail_same : (x : ℕ) (a b : List ℕ) → x ∷ a ≡ x ∷ b → a ≡ b
tail_same x a b e = cc

numbers_same : (m n : ℕ) → m < 2 ^ 64 → n < 2 ^ 64 → numbered m ≡ numbered n → m ≡ n
numbers_same m n low high e = decimal_injective m n low high (tail_same 35 (decimal m) (decimal n) e)

no_place : (m : ℕ) → 1 ≡ unwrap_or (slice_get {X = ℕ} [] m) 1
no_place zero = refl
no_place (suc m) = refl

here : (at : ℕ) (places : List ℕ) (m : ℕ) → m ≡ 0 → at ≡ unwrap_or (slice_get (at ∷ places) m) 1
here at places zero e = refl
here at places (suc m) e = absurd (omega arith)

there : (at : ℕ) (places : List ℕ) (n m : ℕ) → n ≡ suc m → unwrap_or (slice_get places m) 1 ≡ unwrap_or (slice_get (at ∷ places) n) 1
there at places n m e = sym (ap (λ x. unwrap_or (slice_get (at ∷ places) x) 1) e)

-- the detail says a number from n on
found_at : (detail : List ℕ) (k n : ℕ) (places : List ℕ) → k < 2 ^ 64 → n + length places ≤ 2 ^ 64 → detail ≡ numbered k → n ≤ k
    → place_from detail n places ≡ unwrap_or (slice_get places (k - n)) 1
found_at detail k n [] small fits is low = no_place (k - n)
found_at detail k n (at ∷ places) small fits is low =
    go (bytes_eq detail (numbered n)) refl (λ up. found_at detail k (n + 1) places small (omega arith) is up)
  where
    go : (b : Bool) → bytes_eq detail (numbered n) ≡ b → (n + 1 ≤ k → place_from detail (n + 1) places ≡ unwrap_or (slice_get places (k - (n + 1))) 1)
        → cond b at (place_from detail (n + 1) places) ≡ unwrap_or (slice_get (at ∷ places) (k - n)) 1
    go true same later =
        let e : n ≡ k = numbers_same n k (omega arith) small (sym ((bytes_eq-Decides detail (numbered n)).0 same) ∙ is) in
        here at places (k - n) (omega arith)
    go false other later =
        let apart : n ≢ k = λ e. let t : bytes_eq detail (numbered n) ≡ true = (bytes_eq-Decides detail (numbered n)).1 (is ∙ ap numbered (sym e)) in cc in
        later (omega arith) ∙ there at places (k - n) (k - (n + 1)) (omega arith)

-- it says none
none_at : (detail : List ℕ) (n : ℕ) (places : List ℕ) → n + length places ≤ 2 ^ 64 → ((k : ℕ) → k < 2 ^ 64 → detail ≢ numbered k) → place_from detail n places ≡ 1
none_at detail n [] fits none = refl
none_at detail n (at ∷ places) fits none = go (bytes_eq detail (numbered n)) refl (none_at detail (n + 1) places (omega arith) none)
  where
    go : (b : Bool) → bytes_eq detail (numbered n) ≡ b → place_from detail (n + 1) places ≡ 1 → cond b at (place_from detail (n + 1) places) ≡ 1
    go true same later = absurd (none n (omega arith) ((bytes_eq-Decides detail (numbered n)).0 same))
    go false other later = later

-- it says zero, which is the number of none
none_at_zero : (detail : List ℕ) (n : ℕ) (places : List ℕ) → 0 < n → n + length places ≤ 2 ^ 64 → detail ≡ numbered 0 → place_from detail n places ≡ 1
none_at_zero detail n [] low fits is = refl
none_at_zero detail n (at ∷ places) low fits is = go (bytes_eq detail (numbered n)) refl (none_at_zero detail (n + 1) places (omega arith) (omega arith) is)
  where
    go : (b : Bool) → bytes_eq detail (numbered n) ≡ b → place_from detail (n + 1) places ≡ 1 → cond b at (place_from detail (n + 1) places) ≡ 1
    go true same later =
        let e : n ≡ 0 = numbers_same n 0 (omega arith) (omega arith) (sym ((bytes_eq-Decides detail (numbered n)).0 same) ∙ is) in
        absurd (omega arith)
    go false other later = later

pub place_by_number : (detail : List ℕ) (k : ℕ) (places : List ℕ) → k < 2 ^ 64 → length places < 2 ^ 64 → detail ≡ numbered k → place_at places k ≡ place_from detail 1 places
place_by_number detail zero places small fits is = sym (none_at_zero detail 1 places (omega arith) (omega arith) is)
place_by_number detail (suc k) places small fits is =
    let same : suc k - 1 ≡ k = omega arith in
    sym (found_at detail (suc k) 1 places small (omega arith) is (omega arith) ∙ ap (λ i. unwrap_or (slice_get places i) 1) same)

pub place_by_none : (detail places : List ℕ) → length places < 2 ^ 64 → ((k : ℕ) → k < 2 ^ 64 → detail ≢ numbered k) → 1 ≡ place_from detail 1 places
place_by_none detail places fits none = sym (none_at detail 1 places (omega arith) none)

pub place_by_code : (places : List ℕ) (k : ℕ) (place : ℕ) → k ≢ 0 → place ≡ unwrap_or (slice_get places (k - 1)) 1 → place ≡ place_at places k
place_by_code places zero place some is = absurd (some refl)
place_by_code places (suc k) place some is = let same : suc k - 1 ≡ k = omega arith in is ∙ ap (λ i. unwrap_or (slice_get places i) 1) same
