-- The number of a place, found by halving.
use Rattle.std.proofs.Common.{◌≡◌, ◌≤◌, ◌+◌, cond, ℕ, zero, suc, Bool, true, false, List, [], ◌∷◌, length, nat_lt, nat_le, IsTrue, ap, ◌∙◌, sym, arith}
use Rattle.std.specs.List.{IsAllAdjacentAnswer}
use Rattle.std.specs.List.Sorted.{IsNonDecreasingBy, IsPartitionPoint}
use Rattle.std.proofs.lemmas.Bool.{leb-true}
use Rattle.std.proofs.lemmas.List.Sorted.{IsNonDecreasingBy-from_all_adjacent}
use Rattle.std.proofs.lemmas.List.Sums.{sum_by-cons}
use Rattle.desk_base.specs.declared.span.Span.{Span}
use Rattle.java_tree.specs.declared.token.Token.{Token}
use Rattle.tree_places.specs.Numbers.{number_of}

abbrev pub before : Span → Token → Bool
before at t = nat_lt t.span.start at.start

counted : (at : Span) (b : Bool) (t : Token) (ts : List Token) → before at t ≡ b → number_of (t ∷ ts) at ≡ cond b 1 0 + number_of ts at
counted at b t ts is = sum_by-cons (λ (u : Token). cond (nat_lt u.span.start at.start) 1 0) t ts ∙ ap (λ c. cond c 1 0 + number_of ts at) is

-- the place between the tokens that begin before and the others is their number
pub point-number : (at : Span) (ts : List Token) (n : ℕ) → n ≤ length ts → IsPartitionPoint (λ t. before at t ≡ true) (λ t. before at t ≡ false) ts n → number_of ts at ≡ n
point-number at [] n low point = omega arith
point-number at (t ∷ ts) zero low (early, late) =
    let rest : number_of ts at ≡ 0 = point-number at ts 0 (omega arith) (λ j d a b. absurd (omega arith), λ j d a b. late (suc j) d (omega arith) (omega arith)) in
    omega (arith, rest, counted at false t ts (late zero t (omega arith) (omega arith)))
point-number at (t ∷ ts) (suc n) low (early, late) =
    let rest : number_of ts at ≡ n = point-number at ts n (omega arith) (λ j d a b. early (suc j) d (omega arith) (omega arith), λ j d a b. late (suc j) d (omega arith) (omega arith)) in
    omega (arith, rest, counted at true t ts (early zero t (omega arith) (omega arith)))

-- what the test of neighbours says where it holds
pub in_order-answer : (ts : List Token) (r : Bool) → IsAllAdjacentAnswer (λ (x y : Token) b. b ≡ nat_le x.span.start y.span.start) ts r → IsTrue r → IsNonDecreasingBy (λ (t : Token). t.span.start) ts
in_order-answer ts true answer holds = IsNonDecreasingBy-from_all_adjacent (λ (t : Token). t.span.start) ts (λ k d low. leb-true _ _ (sym (answer k d low)))
in_order-answer ts false answer holds = cc
