-- Filling the fields of an object one by one, and all at once.
use Rattle.std.proofs.Common.{◌≡◌, ℕ, suc, ◌+◌, ◌<◌, Bool, true, false, List, [], ◌∷◌, ◌++◌, length, get_or, drop, refl, sym, ap, ◌∙◌, arith, append_assoc, append-nil, add-one, drop-cons}
use mathlib.Core.Bool.{beq}
use Rattle.core_model.specs.Filling.{filled, all_filled}
use Rattle.core_model.specs.Operators.{same_bool}
use Rattle.core_model.specs.Objects.{of_kind, initials, initial_values, fresh_count}
use Rattle.core_model.specs.declared.make.Filling.{Filling}
use Rattle.core_model.specs.declared.program.FieldInfo.{FieldInfo}
use Rattle.core_model.specs.declared.program.Initial.{Initial}
use Rattle.core_model.specs.declared.program.Initial.TheVariants.{Held, FreshObject}
use Rattle.core_model.specs.declared.value.Value.TheVariants as value

pub filled-values : (f : Filling) (is : List Initial) → (all_filled f is).values ≡ f.values ++ initial_values f.next is
filled-values f [] = sym (append-nil f.values)
filled-values f (Held v ∷ is) = filled-values (filled f (Held v)) is ∙ append_assoc f.values (v ∷ []) (initial_values f.next is)
filled-values f (FreshObject ∷ is) = filled-values (filled f FreshObject) is ∙ append_assoc f.values (value.Ref f.next ∷ []) (initial_values (f.next + 1) is)

pub filled-next : (f : Filling) (is : List Initial) → (all_filled f is).next ≡ f.next + fresh_count is
filled-next f [] = omega arith
filled-next f (Held v ∷ is) = filled-next (filled f (Held v)) is
filled-next f (FreshObject ∷ is) = omega (arith, filled-next (filled f FreshObject) is)

same-beq : (s b : Bool) → same_bool s b ≡ beq b s
same-beq true true = refl
same-beq true false = refl
same-beq false true = refl
same-beq false false = refl

pub kind-taken : (s : Bool) (x : FieldInfo) (xs : List FieldInfo) → beq x.is_static s ≡ true → of_kind s (x ∷ xs) ≡ x ∷ of_kind s xs
kind-taken s x xs e = rw (same-beq s x.is_static ∙ e) refl

pub kind-passed : (s : Bool) (x : FieldInfo) (xs : List FieldInfo) → beq x.is_static s ≡ false → of_kind s (x ∷ xs) ≡ of_kind s xs
kind-passed s x xs e = rw (same-beq s x.is_static ∙ e) refl

-- the item at the place, and what comes after it
pub drop-item : {T : Type 0} (xs : List T) (k : ℕ) (x : T) → k < length xs → x ≡ get_or xs k x → drop k xs ≡ x ∷ drop (k + 1) xs
drop-item xs k x lt e = rw add-one (drop-cons xs k x lt ∙ ap (λ y. y ∷ drop (suc k) xs) (sym e))

pub filled-taken : (f : Filling) (s : Bool) (x : FieldInfo) (xs : List FieldInfo) → beq x.is_static s ≡ true
    → all_filled f (initials s (x ∷ xs)) ≡ all_filled (filled f x.initial) (initials s xs)
filled-taken f s x xs e = rw (same-beq s x.is_static ∙ e) refl

pub filled-passed : (f : Filling) (s : Bool) (x : FieldInfo) (xs : List FieldInfo) → beq x.is_static s ≡ false
    → all_filled f (initials s (x ∷ xs)) ≡ all_filled f (initials s xs)
filled-passed f s x xs e = rw (same-beq s x.is_static ∙ e) refl

-- the field at the place is the first of its kind, or is passed
pub kind-at : (s : Bool) (xs : List FieldInfo) (k : ℕ) (x : FieldInfo) → k < length xs → x ≡ get_or xs k x → beq x.is_static s ≡ true
    → of_kind s (drop k xs) ≡ x ∷ of_kind s (drop (k + 1) xs)
kind-at s xs k x lt e same = ap (of_kind s) (drop-item xs k x lt e) ∙ kind-taken s x (drop (k + 1) xs) same

pub kind-past : (s : Bool) (xs : List FieldInfo) (k : ℕ) (x : FieldInfo) → k < length xs → x ≡ get_or xs k x → beq x.is_static s ≡ false
    → of_kind s (drop k xs) ≡ of_kind s (drop (k + 1) xs)
kind-past s xs k x lt e other = ap (of_kind s) (drop-item xs k x lt e) ∙ kind-passed s x (drop (k + 1) xs) other
