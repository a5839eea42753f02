-- A list of one word.
use Rattle.std.proofs.Common.{◌≡◌, ◌≢◌, ℕ, Bool, List, [], ◌∷◌, length, map, get_or, refl, ap, sym, ◌∙◌, arith, nat_eq}
use Rattle.std.specs.Prelude.{IsTrue, ◌↔◌}
use Rattle.std.specs.Cmp.Lexicographic.{pointwise}
use Rattle.std.proofs.lemmas.Slice.Eq.{bytes_eq-Decides}

one_word : {X : Type 0} (f : X → List ℕ) (ws : List X) (w : X) → length ws ≡ 1 → w ≡ get_or ws 0 w → map f ws ≡ f w ∷ []
one_word f [] w one is = absurd (omega arith)
one_word f (x ∷ []) w one is = ap (λ y. f y ∷ []) (sym is)
one_word f (x ∷ y ∷ ws) w one is = absurd (omega arith)

heads : (x y : List ℕ) → x ∷ [] ≡ y ∷ [] → x ≡ y
heads x y e = cc

pub check_law : {X : Type 0} (f : X → List ℕ) (ws : List X) (w : X) (want : List ℕ) (r : Bool) → length ws ≡ 1 → w ≡ get_or ws 0 w → r ≡ pointwise nat_eq (f w) want → IsTrue r ↔ (map f ws ≡ want ∷ [])
check_law f ws w want r one is e =
    let words = one_word f ws w one is in (
      (λ t. words ∙ ap (λ x. x ∷ []) ((bytes_eq-Decides (f w) want).0 (sym e ∙ t))),
      (λ same. e ∙ (bytes_eq-Decides (f w) want).1 (heads _ _ (sym words ∙ same))),
    )

pub other_count : {X : Type 0} (f : X → List ℕ) (ws : List X) (want : List ℕ) → length ws ≢ 1 → map f ws ≡ want ∷ [] → ⊥
other_count f [] want other same = cc
other_count f (x ∷ []) want other same = other refl
other_count f (x ∷ y ∷ ws) want other same = cc
