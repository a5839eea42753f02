-- The loop over open annotations beside its count of turns.
use Rattle.std.proofs.Common.{◌≡◌, ℕ, zero, suc, ◌<◌, true, false, List, length, refl, ◌∙◌, sym, arith}
use Rattle.java_phrases.specs.Tree.{Token}
use Rattle.java_phrases.specs.Common.{Found, Lost}
use Rattle.java_heads.specs.declared.nest.Nest.{Nest}
use Rattle.java_heads.specs.Reading.{turn, is_whole, nested_from, nested}

-- Turning on from x with so many turns finds what the whole loop finds.
pub record Turning (start : List Token) (first x : Nest) (ts : List Token) : Type 0 where
  pub left : ℕ
  pub enough : length ts < left
  pub same : nested_from left x ts ≡ nested first start

pub turn_once : (n : ℕ) (x y : Nest) (ts rest : List Token) → length ts < n → is_whole x ≡ false → turn x ts ≡ Found y rest → length rest < length ts
    → (j : ℕ) × (length rest < j) × (nested_from n x ts ≡ nested_from j y rest)
unfolding nested_from
turn_once zero x y ts rest enough on is less = absurd (omega arith)
turn_once (suc j) x y ts rest enough on is less = (j, omega arith, rw (on, is) refl)

turn_fails : (n : ℕ) (x : Nest) (ts : List Token) → length ts < n → is_whole x ≡ false → turn x ts ≡ Lost → nested_from n x ts ≡ Lost
unfolding nested_from
turn_fails zero x ts enough on is = absurd (omega arith)
turn_fails (suc j) x ts enough on is = rw (on, is) refl

pub turn_ends : (n : ℕ) (x : Nest) (ts : List Token) → length ts < n → is_whole x ≡ true → nested_from n x ts ≡ Found x ts
unfolding nested_from
turn_ends zero x ts enough off = absurd (omega arith)
turn_ends (suc j) x ts enough off = rw off refl

pub begins : (start : List Token) (x : Nest) → Turning start x x start
unfolding nested
begins start x = record { left = suc (length start); enough = omega arith; same = refl }

pub turn_goes : (start : List Token) (first x y : Nest) (ts rest : List Token) → Turning start first x ts → is_whole x ≡ false → turn x ts ≡ Found y rest → length rest < length ts → Turning start first y rest
turn_goes start first x y ts rest go on is less =
    let (j, enough, same) = turn_once go.left x y ts rest go.enough on is less in
    record { left = j; enough = enough; same = sym same ∙ go.same }

pub loop_fails : (start : List Token) (first x : Nest) (ts : List Token) → Turning start first x ts → is_whole x ≡ false → turn x ts ≡ Lost → nested first start ≡ Lost
loop_fails start first x ts go on is = sym go.same ∙ turn_fails go.left x ts go.enough on is

pub loop_ends : (start : List Token) (first x : Nest) (ts : List Token) → Turning start first x ts → is_whole x ≡ true → nested first start ≡ Found x ts
loop_ends start first x ts go off = sym go.same ∙ turn_ends go.left x ts go.enough off
