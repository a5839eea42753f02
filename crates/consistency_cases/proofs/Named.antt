-- Keys that are named by their numbers are distinct.
use Rattle.std.proofs.Common.{◌≡◌, ℕ, zero, suc, ◌+◌, ◌<◌, ◌^◌, List, [], ◌∷◌, ◌++◌, length, get_or, arith, refl, sym, ◌∙◌, ap, subst, ◌⊎◌, inl, inr}
use Rattle.std.specs.Prelude.{Option, Some, None, codes, decimal}
use Rattle.std.specs.List.{slice_get}
use Rattle.std.specs.Str.Parse.{digits_value}
use Rattle.std.proofs.Math.Seq.{get_or-append_seam}
use Rattle.std.proofs.lemmas.List.{get_or_append_left, length-append}
use Rattle.std.proofs.lemmas.Fmt.{decimal_is_IsNumeral}
use Rattle.desk_base.specs.declared.key.PromiseKey.{PromiseKey}
use Rattle.consistency.specs.Keys.{Distinct}

-- each key's target is named by its place
abbrev pub Named : List PromiseKey → Type 0
Named keys = (k : ℕ) (d : PromiseKey) → k < length keys → (get_or keys k d).target ≡ codes "P" ++ decimal k

last_or_below : (l n : ℕ) → l < n + 1 → (l ≡ n) ⊎ (l < n)
last_or_below l n h = grind arith

read_seam : (keys : List PromiseKey) (key d : PromiseKey) (k : ℕ) → k ≡ length keys → get_or (keys ++ key ∷ []) k d ≡ key
read_seam keys key d k e = subst (λ (z : ℕ). get_or (keys ++ key ∷ []) z d ≡ key) (sym e) (get_or-append_seam keys key [] d)

pub named_more : (keys : List PromiseKey) (key : PromiseKey) (n : ℕ) → length keys ≡ n → key.target ≡ codes "P" ++ decimal n → Named keys → Named (keys ++ key ∷ [])
named_more keys key n size is h k d lt = elim (last_or_below k (length keys) (let a = length-append keys (key ∷ []) in omega (arith, a, lt))) [
  | inl last ↦ ap (λ (z : PromiseKey). z.target) (read_seam keys key d k last) ∙ is ∙ ap (λ (z : ℕ). codes "P" ++ decimal z) (sym (last ∙ size))
  | inr below ↦ ap (λ (z : PromiseKey). z.target) (get_or_append_left keys (key ∷ []) d k below) ∙ h k d below
]

read_at : (keys : List PromiseKey) (i : ℕ) (p : PromiseKey) → slice_get keys i ≡ Some p → (i < length keys) × (get_or keys i p ≡ p)
read_at [] zero p h = absurd cc
read_at [] (suc i) p h = absurd cc
read_at (x ∷ xs) zero p h = (omega arith, some_same x p h)
  where
    some_same : (a b : PromiseKey) → Some a ≡ Some b → a ≡ b
    some_same a b e = cc
read_at (x ∷ xs) (suc i) p h = let w = read_at xs i p h in (let l = w.0 in omega arith, w.1)

tail_same : (xs ys : List ℕ) → codes "P" ++ xs ≡ codes "P" ++ ys → xs ≡ ys
tail_same xs ys e = cc

decimal_same : (a b : ℕ) → a < 2 ^ 64 → b < 2 ^ 64 → decimal a ≡ decimal b → a ≡ b
decimal_same a b la lb e =
    let x = decimal_is_IsNumeral a la in
    let y = decimal_is_IsNumeral b lb in
    sym x.1 ∙ ap (λ (z : List ℕ). digits_value 10 z) e ∙ y.1

pub distinct_of : (keys : List PromiseKey) → length keys < 2 ^ 64 → Named keys → Distinct keys
distinct_of keys few h i j p hi hj =
    let x = read_at keys i p hi in
    let y = read_at keys j p hj in
    let li = x.0 in
    let lj = y.0 in
    let a = sym (h i p li) ∙ ap (λ (z : PromiseKey). z.target) x.1 in
    let b = sym (h j p lj) ∙ ap (λ (z : PromiseKey). z.target) y.1 in
    decimal_same i j (omega (arith, li, few)) (omega (arith, lj, few)) (tail_same (decimal i) (decimal j) (a ∙ sym b))
