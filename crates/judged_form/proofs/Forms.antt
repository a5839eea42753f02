-- What stands in the way of judging a type, and that nothing does.
use Rattle.std.proofs.Common.{◌≡◌, List, [], ◌∷◌, refl, sym, ◌∙◌, Bool, true, false}
use mathlib.Core.Bool.{◌||◌, true≢false}
use Rattle.std.specs.Prelude.{◌↔◌, IsTrue}
use Rattle.std.specs.List.{AllByRecursion, list_any}
use Rattle.std.proofs.lemmas.List.Elements.{All-from_recursion, recursion_from_All}
use Rattle.promise_scrub.specs.declared.surface.Surface.{Surface}
use Rattle.judged_form.specs.Form.{IsJudged, stands_unjudged, aside_unjudged}

one_of : {X : Type 0} (p : X → Bool) (xs : List X) → list_any p xs ≡ true → AllByRecursion (λ x. p x ≡ false) xs → ⊥
one_of p [] any none = absurd cc
one_of {X} p (x ∷ xs) any none = go (p x) any none.0 (λ more. one_of p xs more none.1)
  where
    go : (b : Bool) → (b || list_any p xs) ≡ true → b ≡ false → (list_any p xs ≡ true → ⊥) → ⊥
    go true any not more = absurd cc
    go false any not more = more any

none_of : {X : Type 0} (p : X → Bool) (xs : List X) → list_any p xs ≡ false → AllByRecursion (λ x. p x ≡ false) xs
none_of p [] none = tt
none_of {X} p (x ∷ xs) none = go (p x) refl none (none_of p xs)
  where
    go : (b : Bool) → p x ≡ b → (b || list_any p xs) ≡ false → (list_any p xs ≡ false → AllByRecursion (λ x. p x ≡ false) xs) → AllByRecursion (λ x. p x ≡ false) (x ∷ xs)
    go true is none more = absurd cc
    go false is none more = (is, more none)

module _ (s : Surface) where
  pub not_by_standing : list_any stands_unjudged s.standing ≡ true → IsTrue false ↔ IsJudged s
  not_by_standing any =
      (λ bad. absurd (true≢false (sym bad)), λ so. absurd (one_of stands_unjudged s.standing any (recursion_from_All (λ p. stands_unjudged p ≡ false) s.standing so.standing)))

  pub not_by_aside : list_any aside_unjudged s.aside ≡ true → IsTrue false ↔ IsJudged s
  not_by_aside any =
      (λ bad. absurd (true≢false (sym bad)), λ so. absurd (one_of aside_unjudged s.aside any (recursion_from_All (λ p. aside_unjudged p ≡ false) s.aside so.aside)))

  pub not_by_assumption : (b : Bool) → IsTrue b ↔ (s.assumptions ≡ []) → b ≡ false → IsTrue false ↔ IsJudged s
  not_by_assumption b says is = (λ bad. absurd (true≢false (sym bad)), λ so. absurd (true≢false (sym (says.1 so.no_assumption) ∙ is)))

  pub is_by_all : (a b : Bool) → list_any stands_unjudged s.standing ≡ false → list_any aside_unjudged s.aside ≡ false → IsTrue a ↔ (s.assumptions ≡ []) → a ≡ true
      → IsTrue b ↔ (s.vouched ≡ []) → IsTrue b ↔ IsJudged s
  is_by_all a b standing aside assumes empty vouches = (
    (λ so. record {
      standing = All-from_recursion (λ p. stands_unjudged p ≡ false) s.standing (none_of stands_unjudged s.standing standing);
      aside = All-from_recursion (λ p. aside_unjudged p ≡ false) s.aside (none_of aside_unjudged s.aside aside);
      no_assumption = assumes.0 empty;
      no_vouch = vouches.0 so;
    }),
    (λ so. vouches.1 so.no_vouch),
  )
