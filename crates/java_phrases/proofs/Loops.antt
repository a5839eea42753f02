-- A loop over the tokens ahead beside its count of turns.
use Rattle.std.proofs.Common.{◌≡◌, ℕ, zero, suc, ◌<◌, Bool, true, false, List, length, refl, ◌∙◌, sym, arith}
use Rattle.java_phrases.specs.Tree.{Token}
use Rattle.java_phrases.specs.Common.{Found, Lost, Parser, turns_from, turns}

module _ {A : Type 0} (goes : List Token → Bool) (turn : A → Parser A) where
  -- Reading on from x with so many turns finds what the whole loop finds.
  pub record Continues (start : List Token) (first x : A) (ts : List Token) : Type 0 where
    pub left : ℕ
    pub enough : length ts < left
    pub same : turns_from goes turn left x ts ≡ turns goes turn first start

  pub turn_once : (k : ℕ) (x y : A) (ts rest : List Token) → length ts < k → goes ts ≡ true → turn x ts ≡ Found y rest → length rest < length ts
      → (j : ℕ) × (length rest < j) × (turns_from goes turn k x ts ≡ turns_from goes turn j y rest)
  unfolding turns_from
  turn_once zero x y ts rest enough on is less = absurd (omega arith)
  turn_once (suc j) x y ts rest enough on is less = (j, omega arith, rw (on, is) refl)

  pub turn_fails : (k : ℕ) (x : A) (ts : List Token) → length ts < k → goes ts ≡ true → turn x ts ≡ Lost → turns_from goes turn k x ts ≡ Lost
  unfolding turns_from
  turn_fails zero x ts enough on is = absurd (omega arith)
  turn_fails (suc j) x ts enough on is = rw (on, is) refl

  pub turn_ends : (k : ℕ) (x : A) (ts : List Token) → length ts < k → goes ts ≡ false → turns_from goes turn k x ts ≡ Found x ts
  unfolding turns_from
  turn_ends zero x ts enough off = absurd (omega arith)
  turn_ends (suc j) x ts enough off = rw off refl

  pub begins : (start : List Token) (x : A) → Continues start x x start
  unfolding turns
  begins start x = record { left = suc (length start); enough = omega arith; same = refl }

  pub turn_goes : (start : List Token) (first x y : A) (ts rest : List Token) → Continues start first x ts → goes ts ≡ true → turn x ts ≡ Found y rest → length rest < length ts
      → Continues start first y rest
  turn_goes start first x y ts rest go on is less =
      let (j, enough, same) = turn_once go.left x y ts rest go.enough on is less in
      record { left = j; enough = enough; same = sym same ∙ go.same }

  pub loop_fails : (start : List Token) (first x : A) (ts : List Token) → Continues start first x ts → goes ts ≡ true → turn x ts ≡ Lost → turns goes turn first start ≡ Lost
  loop_fails start first x ts go on is = sym go.same ∙ turn_fails go.left x ts go.enough on is

  pub loop_ends : (start : List Token) (first x : A) (ts : List Token) → Continues start first x ts → goes ts ≡ false → turns goes turn first start ≡ Found x ts
  loop_ends start first x ts go off = sym go.same ∙ turn_ends go.left x ts go.enough off
