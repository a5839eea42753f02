-- One more finding is emptied: its promise leaves, if it had not left.
use Rattle.std.proofs.Common.{◌≡◌, ℕ, ◌+◌, ◌<◌, List, [], ◌∷◌, ◌++◌, length, get_or, take, arith, refl, sym, ◌∙◌, subst, inl, inr}
use Rattle.std.specs.Prelude.{Option, Some, None, Contains, Bool, true, false, not, is_some}
use Rattle.std.proofs.Math.ListN.{set}
use Rattle.std.proofs.lemmas.List.{length-set, get_or-set_same, get_or-set_other}
use Rattle.std.proofs.lemmas.List.Elements.{Contains-append_left, Contains-push, Contains-push_cases}
use Rattle.consistency.specs.Steps.{Leave}
use Rattle.consistency.proofs.Takes.{before, here, cases}
use Rattle.consistency.proofs.Marks.{same_or_not}

pub leave_kept : (on emptied : List ℕ) (i round : ℕ) (was now : List (Option ℕ)) (front : List ℕ)
    → i < length emptied → (get_or now (get_or on (get_or emptied i 0) 0) None ≡ None → ⊥)
    → Leave on (take i emptied) round was now front → Leave on (take (i + 1) emptied) round was now front
leave_kept on emptied i round was now front li gone e = record {
  size = e.size;
  stays = e.stays;
  leaves = λ f c. elim (cases emptied i 0 f li c) [
    | inl old ↦ e.leaves f old
    | inr same ↦ subst (λ (z : ℕ). get_or now (get_or on z 0) None ≡ None → ⊥) same gone
  ];
  cause = λ p h. elim (e.cause p h) [ inl s ↦ inl s | inr w ↦ inr (w.0, (w.1.0, before emptied i 0 w.1.0 li w.1.1, w.1.2)) ];
  front_in = e.front_in;
  front_all = e.front_all;
}

not_yet : (was now : List (Option ℕ)) (p : ℕ) (o : Option ℕ) → get_or was p None ≡ o → ((r : ℕ) → get_or was p None ≡ Some r → get_or now p None ≡ Some r)
    → get_or now p None ≡ None → get_or was p None ≡ None
not_yet was now p None is stays none = is
not_yet was now p (Some r) is stays none = absurd (let z = stays r is in cc)

pub leave_more : (on emptied : List ℕ) (i round p : ℕ) (was now : List (Option ℕ)) (front : List ℕ)
    → i < length emptied → get_or on (get_or emptied i 0) 0 ≡ p → p < length now → get_or now p None ≡ None
    → Leave on (take i emptied) round was now front
    → Leave on (take (i + 1) emptied) round was (set now p (Some round)) (front ++ p ∷ [])
leave_more on emptied i round p was now front li is lp none e =
    let same = get_or-set_same now p (Some round) None lp in
    record {
      size = length-set now p (Some round) ∙ e.size;
      stays = λ q r h. elim (same_or_not q p) [
        | inl eq ↦ absurd (let s = e.stays q r h in let s2 = subst (λ (z : ℕ). get_or now z None ≡ Some r) eq s in cc)
        | inr ne ↦ get_or-set_other now p q (Some round) None ne ∙ e.stays q r h
      ];
      leaves = λ f c h. elim (same_or_not (get_or on f 0) p) [
        | inl eq ↦ (let s = subst (λ (z : ℕ). get_or (set now p (Some round)) z None ≡ None) eq h in cc)
        | inr ne ↦ elim (cases emptied i 0 f li c) [
          | inl old ↦ e.leaves f old (sym (get_or-set_other now p (get_or on f 0) (Some round) None ne) ∙ h)
          | inr at ↦ ne (subst (λ (z : ℕ). get_or on z 0 ≡ p) at is)
        ]
      ];
      cause = λ q h. elim (same_or_not q p) [
        | inl eq ↦ inr (subst (λ (z : ℕ). get_or (set now p (Some round)) z None ≡ Some round) (sym eq) same, (get_or emptied i 0, here emptied i 0 li, is ∙ sym eq))
        | inr ne ↦ elim (e.cause q h) [
          | inl s ↦ inl (get_or-set_other now p q (Some round) None ne ∙ s)
          | inr w ↦ inr (get_or-set_other now p q (Some round) None ne ∙ w.0, (w.1.0, before emptied i 0 w.1.0 li w.1.1, w.1.2))
        ]
      ];
      front_in = λ q c. elim (Contains-push_cases front p q c) [
        | inl old ↦ (let w = e.front_in q old in (
          w.0,
          elim (same_or_not q p) [
            | inl eq ↦ subst (λ (z : ℕ). get_or (set now p (Some round)) z None ≡ Some round) (sym eq) same
            | inr ne ↦ get_or-set_other now p q (Some round) None ne ∙ w.1
          ],
          w.2,
        ))
        | inr eq ↦ (
          let z = e.size in omega arith,
          subst (λ (z : ℕ). get_or (set now p (Some round)) z None ≡ Some round) eq same,
          subst (λ (z : ℕ). get_or was z None ≡ None) eq (not_yet was now p (get_or was p None) refl (e.stays p) none),
        )
      ];
      front_all = λ q lt h h2. elim (same_or_not q p) [
        | inl eq ↦ subst (λ (z : ℕ). Contains (front ++ p ∷ []) z) (sym eq) (Contains-push front p)
        | inr ne ↦ Contains-append_left front (p ∷ []) q (e.front_all q lt h (sym (get_or-set_other now p q (Some round) None ne) ∙ h2))
      ];
    }

pub is_nothing : (o : Option ℕ) (r : Bool) → is_some o ≡ not r → r ≡ true → o ≡ None
is_nothing None r e h = refl
is_nothing (Some x) true e h = cc
is_nothing (Some x) false e h = cc

pub is_something : (o : Option ℕ) (r : Bool) → is_some o ≡ not r → r ≡ false → o ≡ None → ⊥
is_something None true e h n = cc
is_something None false e h n = cc
is_something (Some x) r e h n = cc
