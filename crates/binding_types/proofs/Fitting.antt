-- An expression without a finding that is put in a place stays as it is, and suits the place.
use Rattle.std.proofs.Common.{◌≡◌, refl, sym, subst, Bool, true, false, not, ◌||◌, if◌then◌else◌, Option, Some, None, is_some}
use Rattle.bound_tree.proofs.Tests.{false-true}
use Rattle.class_faces.specs.declared.face.FaceTy.{FaceTy}
use Rattle.result_records.specs.declared.code.FindingCode.{FindingCode}
use Rattle.bound_tree.specs.declared.name.ValueType.{ValueType}
use Rattle.bound_tree.specs.Tree.{Term, stamp_of, is_bad}
use Rattle.name_rules.specs.Types.{Types, is_known, suits}
use Rattle.name_rules.specs.Places.{Place, AnyValue, Of, Locked, Started, misplaced, found_unless}
use Rattle.expression_binding.specs.Stamps.{judged_type, judged_given}
use Rattle.expression_binding.specs.Bound.{Bound, found_at, finding_if, spoilt_if, fit_term, fit_notes, fit, beside}
use Rattle.typed_units.specs.Frames.{Frame, type_in, given_suits, given_compares, given_locks, given_starts}
use Rattle.typed_units.specs.Terms.{TermTyped}
use Rattle.binding_types.specs.Silent.{Silent}
use Rattle.binding_types.proofs.Silences.{first, second, none_some}

-- it is typed, and nothing is wrong with it
pub record Sound (f : Frame) (v : Term) : Type 0 where
  pub typed : TermTyped f v
  pub fine : is_bad v ≡ false

-- its type suits the place
abbrev pub Fits : Types → Place → Term → Type 0
Fits types p v = misplaced types p (judged_given (type_in v)) ≡ None

pub record SoundAt (f : Frame) (p : Place) (v : Term) : Type 0 where
  pub sound : Sound f v
  pub fits : Fits f.types p v

-- ---- nothing is found

found_none : (o : Option FindingCode) (v : Term) → Silent (finding_if o v) → o ≡ None
found_none None v s = refl
found_none (Some c) v s = absurd s

fine-fits : (types : Types) (p : Place) (v : Term) (b : Bool) → b ≡ false → (if b then None else misplaced types p (judged_given (stamp_of v).ty)) ≡ None
    → Fits types p v
fine-fits types p v true bad e = false-true (sym bad)
fine-fits types p v false bad e = e

pub term_fits : (f : Frame) (p : Place) (in_paren : Bool) (v : Term) → Sound f v → Silent (fit_notes f.types p v) → SoundAt f p (fit_term f.types p in_paren v)
term_fits f p in_paren v sound s = subst (λ (o : Option FindingCode). SoundAt f p (spoilt_if o in_paren v)) (sym none)
    (record { sound = sound; fits = fine-fits f.types p v (is_bad v) sound.fine none })
  where
    none : found_at f.types p v ≡ None
    none = found_none (found_at f.types p v) v s

pub bound_fits : (f : Frame) (p : Place) (in_paren : Bool) (b : Bound) → (Silent b.notes → Sound f b.term) → Silent (fit f.types p in_paren b).notes
    → SoundAt f p (fit f.types p in_paren b).term
bound_fits f p in_paren b sound s =
    term_fits f p in_paren b.term (sound (first b.notes (fit_notes f.types p b.term) s)) (second b.notes (fit_notes f.types p b.term) s)

-- ---- what a place asks

unless_none : (b : Bool) (c : FindingCode) → found_unless b c ≡ None → b ≡ true
unless_none true c e = refl
unless_none false c e = none_some c (sym e)

known-or : (k b : Bool) → k ≡ true → (not k || b) ≡ true → b ≡ true
known-or true b known e = e
known-or false b known e = false-true known

known-none : {A : Type 0} (k : Bool) (c : FindingCode) → k ≡ true → found_unless (not k) c ≡ None → A
known-none true c known e = none_some c (sym e)
known-none false c known e = false-true known

pub of_suits : (types : Types) (ty : FaceTy) (o : Option ValueType) → is_known types ty ≡ true → misplaced types (Of ty) (judged_given o) ≡ None → given_suits types o ty ≡ true
of_suits types ty None known e = known-none (is_known types ty) _ known e
of_suits types ty (Some v) known e = known-or (is_known types ty) (suits types (judged_type v) ty) known (unless_none _ _ e)

pub value_given : (types : Types) (o : Option ValueType) → misplaced types AnyValue (judged_given o) ≡ None → is_some o ≡ true
value_given types None e = none_some _ (sym e)
value_given types (Some v) e = refl

pub beside_compares : (types : Types) (a b : Option ValueType) → is_some a ≡ true → misplaced types (beside a) (judged_given b) ≡ None → given_compares types a b ≡ true
beside_compares types None b some e = false-true some
beside_compares types (Some v) None some e = none_some _ (sym e)
beside_compares types (Some v) (Some w) some e = unless_none _ _ e

pub locked_locks : (types : Types) (o : Option ValueType) → misplaced types Locked (judged_given o) ≡ None → given_locks o ≡ true
locked_locks types None e = none_some _ (sym e)
locked_locks types (Some v) e = unless_none _ _ e

pub started_starts : (types : Types) (o : Option ValueType) → misplaced types Started (judged_given o) ≡ None → given_starts types o ≡ true
started_starts types None e = none_some _ (sym e)
started_starts types (Some v) e = unless_none _ _ e
