-- The living alternatives of a finding, counted.
use Rattle.std.proofs.Common.{◌≡◌, ◌≢◌, ℕ, zero, suc, ◌+◌, ◌<◌, ◌≤◌, List, [], ◌∷◌, length, get_or, take, arith, add-one, refl, ◌⊎◌, inl, inr}
use Rattle.std.specs.Prelude.{Bool, true, false}
use Rattle.std.proofs.Math.ListN.{set}
use Rattle.std.proofs.lemmas.Bool.Decides.{nat_tests}
use Rattle.consistency.specs.Flat.{living_of}

-- a living alternative is counted
pub living_counted : (f : ℕ) (os : List ℕ) (ds : List Bool) (a : ℕ) → a < length os → a < length ds → get_or os a 0 ≡ f → get_or ds a false ≡ false → 0 < living_of f os ds
living_counted f [] ds a l m e d = absurd (omega arith)
living_counted f (o ∷ os) [] a l m e d = absurd (omega arith)
living_counted f (o ∷ os) (x ∷ ds) zero l m e d = grind (arith, nat_tests)
living_counted f (o ∷ os) (x ∷ ds) (suc a) l m e d = let h = living_counted f os ds a (omega arith) (omega arith) e d in omega arith

rest_counts : (f o : ℕ) (os : List ℕ) (ds : List Bool) → 0 < living_of f (o ∷ os) (true ∷ ds) → 0 < living_of f os ds
rest_counts f o os ds h = grind (arith, nat_tests)

head_or_rest : (f o : ℕ) (os : List ℕ) (ds : List Bool) → 0 < living_of f (o ∷ os) (false ∷ ds) → (o ≡ f) ⊎ (0 < living_of f os ds)
head_or_rest f o os ds h = grind (arith, nat_tests)

-- a count above 0 has one that lives
pub living_found : (f : ℕ) (os : List ℕ) (ds : List Bool) → 0 < living_of f os ds
    → (a : ℕ) × (a < length os) × (get_or os a 0 ≡ f) × (get_or ds a false ≡ false)
living_found f [] ds h = absurd (omega arith)
living_found f (o ∷ os) [] h = absurd (omega arith)
living_found f (o ∷ os) (true ∷ ds) h = let t = living_found f os ds (rest_counts f o os ds h) in (suc t.0, omega arith, t.2, t.3)
living_found f (o ∷ os) (false ∷ ds) h =
    elim (head_or_rest f o os ds h) [
      | inl e ↦ (zero, omega arith, e, refl)
      | inr m ↦ (let t = living_found f os ds m in (suc t.0, omega arith, t.2, t.3))
    ]

-- one that lives is marked: its finding's count falls by one
pub living_marked : (f : ℕ) (os : List ℕ) (ds : List Bool) (a : ℕ) → a < length os → a < length ds → get_or ds a false ≡ false → get_or os a 0 ≡ f
    → living_of f os (set ds a true) + 1 ≡ living_of f os ds
living_marked f [] ds a l m d e = absurd (omega arith)
living_marked f (o ∷ os) [] a l m d e = absurd (omega arith)
living_marked f (o ∷ os) (x ∷ ds) zero l m d e = grind (arith, nat_tests)
living_marked f (o ∷ os) (x ∷ ds) (suc a) l m d e = let h = living_marked f os ds a (omega arith) (omega arith) d e in omega arith

pub living_other : (f : ℕ) (os : List ℕ) (ds : List Bool) (a : ℕ) → get_or os a 0 ≢ f → living_of f os (set ds a true) ≡ living_of f os ds
living_other f [] ds a e = refl
living_other f (o ∷ os) [] a e = grind (arith, nat_tests)
living_other f (o ∷ os) (x ∷ ds) zero e = grind (arith, nat_tests)
living_other f (o ∷ os) (x ∷ ds) (suc a) e = let h = living_other f os ds a e in omega arith

pub living_falls : (f : ℕ) (os : List ℕ) (ds : List Bool) (a : ℕ) → living_of f os (set ds a true) ≤ living_of f os ds
living_falls f [] ds a = omega arith
living_falls f (o ∷ os) [] a = grind (arith, nat_tests)
living_falls f (o ∷ os) (x ∷ ds) zero = grind (arith, nat_tests)
living_falls f (o ∷ os) (x ∷ ds) (suc a) = let h = living_falls f os ds a in omega arith

pub living_at_most : (f : ℕ) (os : List ℕ) (ds : List Bool) → living_of f os ds ≤ length os
living_at_most f [] ds = omega arith
living_at_most f (o ∷ os) [] = omega arith
living_at_most f (o ∷ os) (x ∷ ds) = let h = living_at_most f os ds in grind (arith, nat_tests)

-- one alternative more is counted, if it lives and is the finding's
more_yes : (f : ℕ) (os : List ℕ) (ds : List Bool) (a : ℕ) → a < length os → a < length ds → get_or ds a false ≡ false → get_or os a 0 ≡ f
    → living_of f (take (suc a) os) (take (suc a) ds) ≡ living_of f (take a os) (take a ds) + 1
more_yes f [] ds a l m d e = absurd (omega arith)
more_yes f (o ∷ os) [] a l m d e = absurd (omega arith)
more_yes f (o ∷ os) (x ∷ ds) zero l m d e = grind (arith, nat_tests)
more_yes f (o ∷ os) (x ∷ ds) (suc a) l m d e = let h = more_yes f os ds a (omega arith) (omega arith) d e in omega arith

more_dead : (f : ℕ) (os : List ℕ) (ds : List Bool) (a : ℕ) → a < length os → a < length ds → get_or ds a false ≡ true
    → living_of f (take (suc a) os) (take (suc a) ds) ≡ living_of f (take a os) (take a ds)
more_dead f [] ds a l m d = absurd (omega arith)
more_dead f (o ∷ os) [] a l m d = absurd (omega arith)
more_dead f (o ∷ os) (x ∷ ds) zero l m d = grind (arith, nat_tests)
more_dead f (o ∷ os) (x ∷ ds) (suc a) l m d = let h = more_dead f os ds a (omega arith) (omega arith) d in omega arith

more_other : (f : ℕ) (os : List ℕ) (ds : List Bool) (a : ℕ) → a < length os → a < length ds → get_or os a 0 ≢ f
    → living_of f (take (suc a) os) (take (suc a) ds) ≡ living_of f (take a os) (take a ds)
more_other f [] ds a l m e = absurd (omega arith)
more_other f (o ∷ os) [] a l m e = absurd (omega arith)
more_other f (o ∷ os) (x ∷ ds) zero l m e = grind (arith, nat_tests)
more_other f (o ∷ os) (x ∷ ds) (suc a) l m e = let h = more_other f os ds a (omega arith) (omega arith) e in omega arith

pub counted_yes : (f : ℕ) (os : List ℕ) (ds : List Bool) (a : ℕ) → a < length os → a < length ds → get_or ds a false ≡ false → get_or os a 0 ≡ f
    → living_of f (take (a + 1) os) (take (a + 1) ds) ≡ living_of f (take a os) (take a ds) + 1
counted_yes f os ds a l m d e = rw add-one (more_yes f os ds a l m d e)

pub counted_dead : (f : ℕ) (os : List ℕ) (ds : List Bool) (a : ℕ) → a < length os → a < length ds → get_or ds a false ≡ true
    → living_of f (take (a + 1) os) (take (a + 1) ds) ≡ living_of f (take a os) (take a ds)
counted_dead f os ds a l m d = rw add-one (more_dead f os ds a l m d)

pub counted_other : (f : ℕ) (os : List ℕ) (ds : List Bool) (a : ℕ) → a < length os → a < length ds → get_or os a 0 ≢ f
    → living_of f (take (a + 1) os) (take (a + 1) ds) ≡ living_of f (take a os) (take a ds)
counted_other f os ds a l m e = rw add-one (more_other f os ds a l m e)

-- before any alternative
pub counted_none : (f : ℕ) (os : List ℕ) (ds : List Bool) → living_of f (take 0 os) (take 0 ds) ≡ 0
counted_none f [] ds = refl
counted_none f (o ∷ os) [] = refl
counted_none f (o ∷ os) (x ∷ ds) = refl
