-- The findings with no living alternative, one further.
use Rattle.std.proofs.Common.{◌≡◌, ◌≢◌, ℕ, ◌+◌, List, [], ◌∷◌, ◌++◌, get_or, arith, sym, subst, inl, inr}
use Rattle.std.specs.Prelude.{Contains}
use Rattle.std.proofs.lemmas.List.Elements.{Contains-append_left, Contains-push, Contains-push_cases}
use Rattle.consistency.specs.Steps.{Empties}
use Rattle.consistency.proofs.Rows.{last_or_below}

pub empties_put : (living : List ℕ) (n : ℕ) (empty : List ℕ) → get_or living n 0 ≡ 0 → Empties living n empty → Empties living (n + 1) (empty ++ n ∷ [])
empties_put living n empty z e = record {
  sound = λ f c. elim (Contains-push_cases empty n f c) [
    | inl old ↦ (let w = e.sound f old in (let x = w.0 in omega arith, w.1))
    | inr is ↦ (omega arith, subst (λ (x : ℕ). get_or living x 0 ≡ 0) is z)
  ];
  whole = λ f lt h. elim (last_or_below f n lt) [
    | inl is ↦ subst (λ (x : ℕ). Contains (empty ++ n ∷ []) x) (sym is) (Contains-push empty n)
    | inr below ↦ Contains-append_left empty (n ∷ []) f (e.whole f below h)
  ];
}

pub empties_kept : (living : List ℕ) (n : ℕ) (empty : List ℕ) → get_or living n 0 ≢ 0 → Empties living n empty → Empties living (n + 1) empty
empties_kept living n empty z e = record {
  sound = λ f c. let w = e.sound f c in (let x = w.0 in omega arith, w.1);
  whole = λ f lt h. elim (last_or_below f n lt) [
    | inl is ↦ absurd (z (subst (λ (x : ℕ). get_or living x 0 ≡ 0) is h))
    | inr below ↦ e.whole f below h
  ];
}
