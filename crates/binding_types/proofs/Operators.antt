-- Operators and parentheses, without a finding.
use Rattle.std.proofs.Common.{◌≡◌, ℕ, refl, ap, sym, ◌∙◌, subst, Bool, ◌||◌, Some}
use Rattle.class_faces.specs.declared.face.FaceTy.TheVariants as face
use Rattle.java_tree.specs.declared.expr.BinaryOp.{BinaryOp}
use Rattle.java_tree.specs.declared.expr.BinaryOp.TheVariants as operator
use Rattle.bound_tree.specs.declared.tree.Stamp.{Stamp}
use Rattle.bound_tree.specs.declared.tree.UnaryOp.{UnaryOp}
use Rattle.bound_tree.specs.declared.tree.UnaryOp.TheVariants as unary
use Rattle.bound_tree.specs.Tree.{Term, stamp_of, is_bad}
use Rattle.bound_tree.specs.Tree as t
use Rattle.name_rules.specs.Places.{AnyValue, Of}
use Rattle.expression_binding.specs.Stamps.{sound, unless_bad, stamp_from, restamped}
use Rattle.expression_binding.specs.Bound.{operand_type, on_one, left_place, right_place, beside, type_on_two, term_on_two, joined}
use Rattle.typed_units.specs.Frames.{Frame, Suited, Compared, type_in}
use Rattle.typed_units.specs.Terms.{TermTyped, UnaryFits}
use Rattle.binding_types.proofs.Silences.{or-fails}
use Rattle.binding_types.proofs.Fitting.{Sound, SoundAt, of_suits, value_given, beside_compares}

-- ---- parentheses

parens-typed : (f : Frame) (first : ℕ) (v : Term) → TermTyped f v → TermTyped f (restamped (stamp_from first) v)
parens-typed f first (t.Const s l) h = h
parens-typed f first (t.This s) h = h
parens-typed f first (t.Local s x) h = h
parens-typed f first (t.Field s b named) h = h
parens-typed f first (t.Static s named) h = h
parens-typed f first (t.New s c es) h = h
parens-typed f first (t.Call s r m es) h = h
parens-typed f first (t.CallStatic s m es) h = h
parens-typed f first (t.Unknown s n es) h = h
parens-typed f first (t.UnknownField s b n) h = h
parens-typed f first (t.UnknownCall s r n es) h = h
parens-typed f first (t.Unary s o a) h = h
parens-typed f first (t.And s a b) h = h
parens-typed f first (t.Or s a b) h = h
parens-typed f first (t.Binary s o a b) h = h

pub stamp_restamped : (change : Stamp → Stamp) (v : Term) → stamp_of (restamped change v) ≡ change (stamp_of v)
stamp_restamped change (t.Const s l) = refl
stamp_restamped change (t.This s) = refl
stamp_restamped change (t.Local s x) = refl
stamp_restamped change (t.Field s b named) = refl
stamp_restamped change (t.Static s named) = refl
stamp_restamped change (t.New s c es) = refl
stamp_restamped change (t.Call s r m es) = refl
stamp_restamped change (t.CallStatic s m es) = refl
stamp_restamped change (t.Unknown s n es) = refl
stamp_restamped change (t.UnknownField s b n) = refl
stamp_restamped change (t.UnknownCall s r n es) = refl
stamp_restamped change (t.Unary s o a) = refl
stamp_restamped change (t.And s a b) = refl
stamp_restamped change (t.Or s a b) = refl
stamp_restamped change (t.Binary s o a b) = refl

pub parens_sound : (f : Frame) (first : ℕ) (v : Term) → Sound f v → Sound f (restamped (stamp_from first) v)
parens_sound f first v sound = record {
  typed = parens-typed f first v sound.typed;
  fine = ap (λ (s : Stamp). s.is_faulty || s.is_misplaced) (stamp_restamped (stamp_from first) v) ∙ sound.fine;
}

-- ---- one operand

one-sound : (f : Frame) (op : UnaryOp) (at : ℕ) (v : Term) → Sound f v → UnaryFits f.types op v → Sound f (t.Unary (sound at at (Some (operand_type op))) op v)
one-sound f unary.Not at v s fits = record { typed = (s.typed, fits, refl); fine = refl }
one-sound f unary.Negate at v s fits = record { typed = (s.typed, fits, refl); fine = refl }

pub on_one_sound : (f : Frame) (op : UnaryOp) (at : ℕ) (v : Term) → Sound f v → UnaryFits f.types op v → Sound f (on_one op at v)
on_one_sound f op at v s fits = subst (λ (b : Bool). Sound f (t.Unary (unless_bad b at at (operand_type op)) op v)) (sym s.fine) (one-sound f op at v s fits)

-- ---- two operands

ints : (f : Frame) (a b : Term) → SoundAt f (Of face.Int) a → SoundAt f (Of face.Int) b → Suited f.types a face.Int × Suited f.types b face.Int
ints f a b x y = (of_suits f.types face.Int (type_in a) refl x.fits, of_suits f.types face.Int (type_in b) refl y.fits)

booleans : (f : Frame) (a b : Term) → SoundAt f (Of face.Bool) a → SoundAt f (Of face.Bool) b → Suited f.types a face.Bool × Suited f.types b face.Bool
booleans f a b x y = (of_suits f.types face.Bool (type_in a) refl x.fits, of_suits f.types face.Bool (type_in b) refl y.fits)

compared : (f : Frame) (a b : Term) → SoundAt f AnyValue a → SoundAt f (beside (type_in a)) b → Compared f.types a b
compared f a b x y = beside_compares f.types (type_in a) (type_in b) (value_given f.types (type_in a) x.fits) y.fits

both : (f : Frame) (op : BinaryOp) (at first : ℕ) (a b : Term) → SoundAt f (left_place op) a → SoundAt f (right_place op (type_in a)) b
    → Sound f (term_on_two op (sound at first (Some (type_on_two op))) a b)
both f operator.Or at first a b x y = record { typed = (x.sound.typed, y.sound.typed, booleans f a b x y, refl); fine = refl }
both f operator.And at first a b x y = record { typed = (x.sound.typed, y.sound.typed, booleans f a b x y, refl); fine = refl }
both f operator.Equal at first a b x y = record { typed = (x.sound.typed, y.sound.typed, compared f a b x y, refl); fine = refl }
both f operator.NotEqual at first a b x y = record { typed = (x.sound.typed, y.sound.typed, compared f a b x y, refl); fine = refl }
both f operator.Less at first a b x y = record { typed = (x.sound.typed, y.sound.typed, ints f a b x y, refl); fine = refl }
both f operator.Greater at first a b x y = record { typed = (x.sound.typed, y.sound.typed, ints f a b x y, refl); fine = refl }
both f operator.AtMost at first a b x y = record { typed = (x.sound.typed, y.sound.typed, ints f a b x y, refl); fine = refl }
both f operator.AtLeast at first a b x y = record { typed = (x.sound.typed, y.sound.typed, ints f a b x y, refl); fine = refl }
both f operator.Add at first a b x y = record { typed = (x.sound.typed, y.sound.typed, ints f a b x y, refl); fine = refl }
both f operator.Subtract at first a b x y = record { typed = (x.sound.typed, y.sound.typed, ints f a b x y, refl); fine = refl }
both f operator.Multiply at first a b x y = record { typed = (x.sound.typed, y.sound.typed, ints f a b x y, refl); fine = refl }
both f operator.Divide at first a b x y = record { typed = (x.sound.typed, y.sound.typed, ints f a b x y, refl); fine = refl }
both f operator.Remainder at first a b x y = record { typed = (x.sound.typed, y.sound.typed, ints f a b x y, refl); fine = refl }

pub joined_sound : (f : Frame) (op : BinaryOp) (at : ℕ) (a b : Term) → SoundAt f (left_place op) a → SoundAt f (right_place op (type_in a)) b → Sound f (joined op at a b)
joined_sound f op at a b x y =
    subst (λ (bad : Bool). Sound f (term_on_two op (unless_bad bad at (stamp_of a).first (type_on_two op)) a b)) (sym (or-fails (is_bad a) (is_bad b) x.sound.fine y.sound.fine))
    (both f op at (stamp_of a).first a b x y)
