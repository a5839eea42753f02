-- How far runs, comments and strings go, against what the loops count.
use Rattle.std.proofs.Common.{◌≡◌, ℕ, zero, suc, ◌+◌, ◌≤◌, Bool, true, false, ◌&&◌, ◌==◌, cond, Some, None, List, [], ◌∷◌, ◌++◌, length, take, slice_index, refl, sym, ◌∙◌, ap, inl, inr, arith, one-add}
use Rattle.std.specs.List.{prefix_len, list_all}
use Rattle.std.proofs.lemmas.Bool.{eqb-true, or_parts, or_from, and_parts, and_from, both_ways, cond_both}
use Rattle.java_lexer.specs.Chars.{is_plain, is_escaped}
use Rattle.java_lexer.specs.Lumps.{has_close, IsStringTail}
use Rattle.java_lexer.specs.Lumps.IsStringTail.{closes, goes_on, escapes}
use Rattle.java_lexer.specs.Scan.{close_from, string_from}
use Rattle.java_lexer.proofs.Bytes.{chosen, plain_is}

pub all_prefix : (p : ℕ → Bool) (xs rest : List ℕ) → list_all p xs ≡ true → length xs ≤ prefix_len p (xs ++ rest)
all_prefix p [] rest h = omega arith
all_prefix p (x ∷ xs) rest h =
    let e : (p x ≡ true) × (list_all p xs ≡ true) = and_parts (p x) (list_all p xs) h in
    rw e.0 (omega (arith, all_prefix p xs rest e.1))

pub prefix_all : (p : ℕ → Bool) (z : List ℕ) → list_all p (take (prefix_len p z) z) ≡ true
prefix_all p [] = refl
prefix_all p (x ∷ xs) = cond_both (p x) (1 + prefix_len p xs) 0 (λ n. list_all p (take n (x ∷ xs)) ≡ true)
    (λ e. rw (one-add (prefix_len p xs)) (and_from (p x) (list_all p (take (prefix_len p xs) xs)) e (prefix_all p xs)))
    (λ e. refl)

first_joined : (body more rest : List ℕ) (c : ℕ) → slice_index (body ++ c ∷ rest) 0 ≡ slice_index (body ++ c ∷ more) 0
first_joined [] more rest c = refl
first_joined (b ∷ body) more rest c = refl

-- the first `*/` behind bytes in which none begins
pub close_found : (body rest : List ℕ) (at : ℕ) → has_close (body ++ 42 ∷ []) ≡ false → close_from at (body ++ 42 ∷ 47 ∷ rest) ≡ Some (at + length body + 2)
close_found [] rest at h = ap Some (omega arith)
close_found (b ∷ body) rest at h =
    let none : ((b == 42 && slice_index (body ++ 42 ∷ []) 0 == 47) ≡ false) × (has_close (body ++ 42 ∷ []) ≡ false) = or_parts _ _ h in
    let here : (b == 42 && slice_index (body ++ 42 ∷ 47 ∷ rest) 0 == 47) ≡ false = rw (first_joined body [] (47 ∷ rest) 42) none.0 in
    rw here (close_found body rest (at + 1) none.1 ∙ ap Some (omega arith))

pub close_least : (z : List ℕ) (at n : ℕ) → close_from at z ≡ Some n → at + 2 ≤ n
close_least [] at n h = cc
close_least (b ∷ z) at n h = elim (chosen (b == 42 && slice_index z 0 == 47) (Some (at + 2)) (close_from (at + 1) z) (Some n) h) [
  | inl y ↦ let e : at + 2 ≡ n = cc in omega arith
  | inr y ↦ omega (arith, close_least z (at + 1) n y.1)
]

-- bytes without a `*/` end before the first one
pub close_late : (body rest : List ℕ) (at n : ℕ) → close_from at (body ++ rest) ≡ Some n → has_close body ≡ false → at + length body ≤ n
close_late [] rest at n h none = omega (arith, close_least rest at n h)
close_late (b ∷ []) rest at n h none = elim (chosen (b == 42 && slice_index rest 0 == 47) (Some (at + 2)) (close_from (at + 1) rest) (Some n) h) [
  | inl y ↦ let e : at + 2 ≡ n = cc in omega arith
  | inr y ↦ omega (arith, close_least rest (at + 1) n y.1)
]
close_late (b ∷ c ∷ body) rest at n h none =
    let no : ((b == 42 && c == 47) ≡ false) × (has_close (c ∷ body) ≡ false) = or_parts _ _ none in
    elim (chosen (b == 42 && c == 47) (Some (at + 2)) (close_from (at + 1) (c ∷ (body ++ rest))) (Some n) h) [
      | inl y ↦ absurd (both_ways (b == 42 && c == 47) no.0 y.0)
      | inr y ↦ omega (arith, close_late (c ∷ body) rest (at + 1) n y.1 no.1)
    ]

pub close_none : (z : List ℕ) (at : ℕ) → close_from at z ≡ None → has_close z ≡ false
close_none [] at h = refl
close_none (b ∷ z) at h = elim (chosen (b == 42 && slice_index z 0 == 47) (Some (at + 2)) (close_from (at + 1) z) None h) [
  | inl y ↦ cc
  | inr y ↦ or_from _ _ y.0 (close_none z (at + 1) y.1)
]

first_taken : (k : ℕ) (z w : List ℕ) (c : ℕ) → take k z ≡ c ∷ w → slice_index z 0 ≡ c
first_taken zero z w c h = cc
first_taken (suc k) [] w c h = cc
first_taken (suc k) (b ∷ z) w c h = cc

first_before : (body rest : List ℕ) (k : ℕ) (z : List ℕ) (c : ℕ) → take k z ≡ body ++ c ∷ rest → slice_index z 0 ≡ slice_index (body ++ c ∷ []) 0
first_before [] rest k z c h = first_taken k z rest c h
first_before (b ∷ body) rest k z c h = first_taken k z (body ++ c ∷ rest) b h

-- the bytes through the first `*/`
pub record Closed (z : List ℕ) (at n : ℕ) : Type 0 where
  pub len : ℕ
  pub end : n ≡ at + len
  pub body : List ℕ
  pub bytes : take len z ≡ body ++ 42 ∷ 47 ∷ []
  pub open_before : has_close (body ++ 42 ∷ []) ≡ false

closed_here : (b : ℕ) (z : List ℕ) (at n : ℕ) → (b == 42 && slice_index z 0 == 47) ≡ true → at + 2 ≡ n → Closed (b ∷ z) at n
closed_here b [] at n h e = let f : false ≡ true = (and_parts (b == 42) false h).1 in cc
closed_here b (c ∷ z) at n h e =
    let both : ((b == 42) ≡ true) × ((c == 47) ≡ true) = and_parts (b == 42) (c == 47) h in
    let first : b ≡ 42 = eqb-true b 42 both.0 in
    let second : c ≡ 47 = eqb-true c 47 both.1 in
    record { len = 2; end = sym e; body = []; bytes = cc; open_before = refl }

pub close_splits : (z : List ℕ) (at n : ℕ) → close_from at z ≡ Some n → Closed z at n
close_splits [] at n h = cc
close_splits (b ∷ z) at n h = elim (chosen (b == 42 && slice_index z 0 == 47) (Some (at + 2)) (close_from (at + 1) z) (Some n) h) [
  | inl y ↦ closed_here b z at n y.0 (cc)
  | inr y ↦
      let r = close_splits z (at + 1) n y.1 in
      let e : n ≡ at + suc r.len = omega (arith, r.end) in
      let same = first_before r.body (47 ∷ []) r.len z 42 r.bytes in
      let here : (b == 42 && slice_index (r.body ++ 42 ∷ []) 0 == 47) ≡ false = rw (← same) y.0 in
      record { len = suc r.len; end = e; body = b ∷ r.body; bytes = ap (λ (w : List ℕ). b ∷ w) r.bytes; open_before = or_from _ _ here r.open_before }
]

-- ---- strings

pub string_found : (tail : List ℕ) → IsStringTail tail → (rest : List ℕ) (at : ℕ) → string_from false at (tail ++ rest) ≡ Some (at + length tail)
string_found _ (closes q e) rest at = rw e refl
string_found _ (goes_on b tail p t) rest at =
    let no = plain_is b p in
    rw (p, no.0, no.1) (string_found tail t rest (at + 1) ∙ ap Some (omega arith))
string_found _ (escapes slash b tail e p t) rest at = rw (e, p) (string_found tail t rest (at + 1 + 1) ∙ ap Some (omega arith))

abbrev pub TailAt : Bool → List ℕ → Type 0
TailAt false bytes = IsStringTail bytes
TailAt true bytes = (slash : ℕ) → slash ≡ 92 → IsStringTail (slash ∷ bytes)

pub record Ends (escaped : Bool) (z : List ℕ) (at n : ℕ) : Type 0 where
  pub len : ℕ
  pub end : n ≡ at + len
  pub tail : TailAt escaped (take len z)

pub string_tail : (escaped : Bool) (z : List ℕ) (at n : ℕ) → string_from escaped at z ≡ Some n → Ends escaped z at n
string_tail true [] at n h = cc
string_tail false [] at n h = cc
string_tail true (b ∷ z) at n h = elim (chosen (is_escaped b) (string_from false (at + 1) z) None (Some n) h) [
  | inl y ↦ let r = string_tail false z (at + 1) n y.1 in
      record { len = suc r.len; end = omega (arith, r.end); tail = λ slash e. escapes slash b (take r.len z) e y.0 r.tail }
  | inr y ↦ cc
]
string_tail false (b ∷ z) at n h = elim (chosen (b == 34) (Some (at + 1)) (cond (b == 92) (string_from true (at + 1) z) (cond (is_plain b) (string_from false (at + 1) z) None)) (Some n) h) [
  | inl y ↦ let e : at + 1 ≡ n = cc in
      record { len = 1; end = sym e; tail = closes b (eqb-true b 34 y.0) }
  | inr y ↦ elim (chosen (b == 92) (string_from true (at + 1) z) (cond (is_plain b) (string_from false (at + 1) z) None) (Some n) y.1) [
    | inl w ↦ let r = string_tail true z (at + 1) n w.1 in
        record { len = suc r.len; end = omega (arith, r.end); tail = r.tail b (eqb-true b 92 w.0) }
    | inr w ↦ elim (chosen (is_plain b) (string_from false (at + 1) z) None (Some n) w.1) [
      | inl v ↦ let r = string_tail false z (at + 1) n v.1 in
          record { len = suc r.len; end = omega (arith, r.end); tail = goes_on b (take r.len z) v.0 r.tail }
      | inr v ↦ cc
    ]
  ]
]
