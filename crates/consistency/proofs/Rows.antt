-- The rows of dependents, one link further; the dying, one row further.
use Rattle.std.proofs.Common.{◌≡◌, ℕ, ◌+◌, ◌<◌, List, [], ◌∷◌, ◌++◌, length, get_or, take, arith, sym, ◌∙◌, subst, ◌⊎◌, inl, inr}
use Rattle.std.specs.Prelude.{Contains}
use Rattle.std.proofs.Math.ListN.{set}
use Rattle.std.proofs.lemmas.List.{length-set, get_or-set_same, get_or-set_other}
use Rattle.std.proofs.lemmas.List.Elements.{Contains-append_left, Contains-append_right, Contains-append_cases, Contains-push, Contains-push_cases}
use Rattle.consistency.specs.declared.flat.Flat.{Flat}
use Rattle.consistency.specs.Flat.{alternative_of, target_of}
use Rattle.consistency.specs.Steps.{Dependents}
use Rattle.consistency.proofs.Takes.{before, here, cases}
use Rattle.consistency.proofs.Marks.{same_or_not}

pub last_or_below : (l n : ℕ) → l < n + 1 → (l ≡ n) ⊎ (l < n)
last_or_below l n h = grind arith

pub dependents_more : (g : Flat) (n : ℕ) (rows : List (List ℕ)) → target_of g n < g.promises → Dependents g n rows
    → Dependents g (n + 1) (set rows (target_of g n) (get_or rows (target_of g n) [] ++ alternative_of g n ∷ []))
dependents_more g n rows lt d =
    let t = target_of g n in
    let row = get_or rows t [] ++ alternative_of g n ∷ [] in
    let same : get_or (set rows t row) t [] ≡ row = get_or-set_same rows t row [] (let z = d.size in omega arith) in
    record {
      size = length-set rows t row ∙ d.size;
      sound = λ q a lq c. elim (same_or_not q t) [
        | inl e ↦ elim (Contains-push_cases (get_or rows t []) (alternative_of g n) a (subst (λ (z : List ℕ). Contains z a) (let s = subst (λ (z : ℕ). get_or (set rows t row) z [] ≡ row) (sym e) same in s) c)) [
          | inl old ↦ (let w = d.sound t a lt old in (w.0, let z = w.1 in omega arith, w.2, w.3 ∙ sym e))
          | inr new ↦ (n, omega arith, new, sym e)
        ]
        | inr ne ↦ (let w = d.sound q a lq (subst (λ (z : List ℕ). Contains z a) (get_or-set_other rows t q row [] ne) c) in (w.0, let z = w.1 in omega arith, w.2, w.3))
      ];
      whole = λ l ll. elim (last_or_below l n ll) [
        | inl e ↦ subst (λ (z : ℕ). Contains (get_or (set rows t row) (target_of g z) []) (alternative_of g z)) (sym e)
            (subst (λ (z : List ℕ). Contains z (alternative_of g n)) (sym same) (Contains-push (get_or rows t []) (alternative_of g n)))
        | inr below ↦ elim (same_or_not (target_of g l) t) [
          | inl e ↦ subst (λ (z : ℕ). Contains (get_or (set rows t row) z []) (alternative_of g l)) (sym e)
              (subst (λ (z : List ℕ). Contains z (alternative_of g l)) (sym same)
              (Contains-append_left (get_or rows t []) (alternative_of g n ∷ []) (alternative_of g l) (subst (λ (z : ℕ). Contains (get_or rows z []) (alternative_of g l)) e (d.whole l below))))
          | inr ne ↦ subst (λ (z : List ℕ). Contains z (alternative_of g l)) (sym (get_or-set_other rows t (target_of g l) row [] ne)) (d.whole l below)
        ]
      ];
    }

-- what the rows of a list of promises contain
abbrev pub FoundIn : List (List ℕ) → List ℕ → List ℕ → Type 0
FoundIn rows front found =
    ((q a : ℕ) → Contains front q → Contains (get_or rows q []) a → Contains found a)
    × ((a : ℕ) → Contains found a → (q : ℕ) × Contains front q × Contains (get_or rows q []) a)

pub dying_more : (rows : List (List ℕ)) (front : List ℕ) (i : ℕ) (found row : List ℕ) → i < length front → get_or rows (get_or front i 0) [] ≡ row
    → FoundIn rows (take i front) found → FoundIn rows (take (i + 1) front) (found ++ row)
dying_more rows front i found row li is f = (
  λ q a c d. elim (cases front i 0 q li c) [
    | inl old ↦ Contains-append_left found row a (f.0 q a old d)
    | inr e ↦ Contains-append_right found row a (subst (λ (z : List ℕ). Contains z a) is (subst (λ (z : ℕ). Contains (get_or rows z []) a) (sym e) d))
  ],
  λ a c. elim (Contains-append_cases found row a c) [
    | inl old ↦ (let w = f.1 a old in (w.0, before front i 0 w.0 li w.1, w.2))
    | inr new ↦ (get_or front i 0, here front i 0 li, subst (λ (z : List ℕ). Contains z a) (sym is) new)
  ],
)

pub dependents_step : (g : Flat) (n : ℕ) (rows : List (List ℕ)) (q a : ℕ) (row : List ℕ) → q ≡ target_of g n → a ≡ alternative_of g n → get_or rows q [] ≡ row
    → target_of g n < g.promises → Dependents g n rows → Dependents g (n + 1) (set rows q (row ++ a ∷ []))
dependents_step g n rows q a row eq ea er lt d =
    let same : set rows (target_of g n) (get_or rows (target_of g n) [] ++ alternative_of g n ∷ []) ≡ set rows q (row ++ a ∷ []) = cc in
    subst (λ (z : List (List ℕ)). Dependents g (n + 1) z) same (dependents_more g n rows lt d)
