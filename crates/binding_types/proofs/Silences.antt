-- Notes without a finding, and small facts of tests.
use Rattle.std.proofs.Common.{◌≡◌, ℕ, refl, sym, Bool, true, false, ◌&&◌, ◌||◌, not, List, [], ◌∷◌, ◌++◌, Some, None}
use Rattle.bound_tree.proofs.Tests.{false-true}
use Rattle.result_records.specs.declared.code.FindingCode.{FindingCode}
use Rattle.name_rules.specs.declared.note.Note.{Note}
use Rattle.name_rules.specs.declared.note.Note.TheVariants.{Finding, Names, Calls}
use Rattle.name_rules.specs.Notes.{found_if}
use Rattle.binding_types.specs.Silent.{Silent}

pub first : (a b : List Note) → Silent (a ++ b) → Silent a
first [] b s = tt
first (Finding c at ∷ a) b s = s
first (Names n ∷ a) b s = first a b s
first (Calls c name count ∷ a) b s = first a b s

pub second : (a b : List Note) → Silent (a ++ b) → Silent b
second [] b s = s
second (Finding c at ∷ a) b s = absurd s
second (Names n ∷ a) b s = second a b s
second (Calls c name count ∷ a) b s = second a b s

-- what would be found doesn't hold
pub unfound_if : (b : Bool) (c : FindingCode) (at : ℕ) → Silent (found_if b c at) → b ≡ false
unfound_if true c at s = absurd s
unfound_if false c at s = refl

pub not-false : (b : Bool) → not b ≡ false → b ≡ true
not-false true e = refl
not-false false e = false-true (sym e)

pub and-first : (a b : Bool) → (a && b) ≡ true → a ≡ true
and-first true b e = refl
and-first false b e = e

pub and-second : (a b : Bool) → (a && b) ≡ true → b ≡ true
and-second true b e = e
and-second false b e = false-true e

pub or-fails : (a b : Bool) → a ≡ false → b ≡ false → (a || b) ≡ false
or-fails true b e h = false-true (sym e)
or-fails false b e h = h

pub none_some : {A B : Type 0} (x : A) → None ≡ Some x → B
none_some x e = absurd (cc)

pub same_some : {A : Type 0} (x y : A) → Some x ≡ Some y → x ≡ y
same_some x y e = cc
