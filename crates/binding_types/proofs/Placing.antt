-- Types that stand one after another.
use Rattle.std.proofs.Common.{◌≡◌, ℕ, suc, zero, ◌+◌, refl, subst, arith, List, [], ◌∷◌, ◌++◌, length, true}
use Rattle.std.specs.List.{AllByRecursion}
use Rattle.bound_tree.specs.declared.name.ValueType.{ValueType}
use Rattle.name_rules.specs.Types.{Types}
use Rattle.typed_units.specs.Frames.{is_known_value}
use Rattle.binding_types.specs.Placed.{Placed, LocalsKnown}
use Rattle.binding_types.proofs.Silences.{none_some, same_some}

pub placed_first : (locals : List ValueType) (n : ℕ) (a b : List ValueType) → Placed locals n (a ++ b) → Placed locals n a
placed_first locals n [] b h = tt
placed_first locals n (d ∷ ds) b h = (h.0, placed_first locals (suc n) ds b h.1)

pub placed_second : (locals : List ValueType) (n : ℕ) (a b : List ValueType) → Placed locals n (a ++ b) → Placed locals (n + length a) b
placed_second locals n [] b h = subst (λ (k : ℕ). Placed locals k b) (let e : n ≡ n + 0 = omega arith in e) h
placed_second locals n (d ∷ ds) b h =
    subst (λ (k : ℕ). Placed locals k b) (let e : suc n + length ds ≡ n + suc (length ds) = omega arith in e) (placed_second locals (suc n) ds b h.1)

placed-more : (d : ValueType) (locals : List ValueType) (n : ℕ) (ds : List ValueType) → Placed locals n ds → Placed (d ∷ locals) (suc n) ds
placed-more d locals n [] h = tt
placed-more d locals n (x ∷ xs) h = (h.0, placed-more d locals (suc n) xs h.1)

-- a list stands in itself
pub placed_all : (ds : List ValueType) → Placed ds 0 ds
placed_all [] = tt
placed_all (d ∷ ds) = (refl, placed-more d ds 0 ds (placed_all ds))

pub locals_known : (types : Types) (locals : List ValueType) → AllByRecursion (λ (v : ValueType). is_known_value types v ≡ true) locals → LocalsKnown types locals
locals_known types [] all x v e = none_some v e
locals_known types (d ∷ ds) all zero v e = subst (λ (k : ValueType). is_known_value types k ≡ true) (same_some d v e) all.0
locals_known types (d ∷ ds) all (suc x) v e = locals_known types ds all.1 x v e

pub all_joined : {A : Type 0} (P : A → Type 0) (a b : List A) → AllByRecursion P a → AllByRecursion P b → AllByRecursion P (a ++ b)
all_joined P [] b x y = y
all_joined P (d ∷ ds) b x y = (x.0, all_joined P ds b x.1 y)
