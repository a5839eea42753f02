-- Counts that end at two.
use Rattle.std.proofs.Common.{◌≡◌, ℕ, ◌+◌, ◌==◌, min, arith}

pub min_both : (a b x y : ℕ) → x ≡ min a 2 → y ≡ min b 2 → min (x + y) 2 ≡ min (a + b) 2
min_both a b x y e f = omega arith

pub once : (n : ℕ) → (min n 2 == 1) ≡ (n == 1)
once n = grind arith
