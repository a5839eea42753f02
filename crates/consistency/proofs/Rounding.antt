-- Rounds only lose promises.
use Rattle.std.proofs.Common.{◌≡◌, ℕ, zero, suc, ◌≤◌, ◌+◌, ◌-◌, refl, arith, subst}
use Rattle.std.specs.Prelude.{Some}
use Rattle.consistency.specs.declared.flat.Flat.{Flat}
use Rattle.consistency.specs.Flat.{Survives, Alive, Left, target_of}

pub alive_down : (g : Flat) (k p : ℕ) → Alive g (suc k) p → Alive g k p
alive_down g zero p h = tt
alive_down g (suc k) p h =
    λ f in' on. let w = h f in' on in (w.0, w.1, w.2, (w.3.0, λ l lin al. alive_down g k (target_of g l) (w.3.1 l lin al)))

pub survives_down : (g : Flat) (k a : ℕ) → Survives g (Alive g (suc k)) a → Survives g (Alive g k) a
survives_down g k a s = (s.0, λ l lin al. alive_down g k (target_of g l) (s.1 l lin al))

alive_sum : (g : Flat) (d j k p : ℕ) → k ≡ d + j → Alive g k p → Alive g j p
alive_sum g zero j k p e h = subst (λ (z : ℕ). Alive g z p) (let s : k ≡ j = omega arith in s) h
alive_sum g (suc d) j k p e h =
    let s : k ≡ suc (d + j) = omega arith in
    alive_sum g d j (d + j) p refl (alive_down g (d + j) p (subst (λ (z : ℕ). Alive g z p) s h))

pub alive_below : (g : Flat) (j k p : ℕ) → j ≤ k → Alive g k p → Alive g j p
alive_below g j k p le h = alive_sum g (k - j) j k p (omega arith) h

-- what has left stays so
pub left_more : (g : Flat) (k p r : ℕ) → Left g k p (Some r) → Left g (suc k) p (Some r)
left_more g k p zero h = h
left_more g k p (suc r) h = (omega (arith, h.0), h.1, h.2)
