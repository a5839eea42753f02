-- Expressions that are typed: each has the type that its stamp tells, and suits its place.
use Rattle.std.specs.Prelude.{◌≡◌, true, false, List, [], ◌∷◌, Some}
use Rattle.class_faces.specs.declared.face.FaceTy.TheVariants as face
use Rattle.class_faces.specs.declared.face.ParamFace.{ParamFace}
use Rattle.core_model.specs.declared.instr.Op.{Op}
use Rattle.core_model.specs.declared.instr.Op.TheVariants as op
use Rattle.bound_tree.specs.declared.name.ValueType.{ValueType}
use Rattle.bound_tree.specs.declared.name.ValueType.TheVariants as value
use Rattle.bound_tree.specs.declared.tree.Literal.{Literal}
use Rattle.bound_tree.specs.declared.tree.Literal.TheVariants as literal
use Rattle.bound_tree.specs.declared.tree.UnaryOp.{UnaryOp}
use Rattle.bound_tree.specs.declared.tree.UnaryOp.TheVariants as unary
use Rattle.bound_tree.specs.Tree.{Term, Terms}
use Rattle.bound_tree.specs.Tree as t
use Rattle.lowering.specs.Lower.{count}
use Rattle.name_rules.specs.Types.{Types}
use Rattle.expression_binding.specs.Stamps.{string_type}
use Rattle.expression_binding.specs.Methods.{is_made, maker, maker_params}
use Rattle.typed_units.specs.Frames.{Frame, IsLocal, Suited, Compared, type_in}
use Rattle.typed_units.specs.Named.{IsField, IsMethod}

abbrev pub literal_type : Literal → ValueType
literal_type (literal.Int n) = value.Int
literal_type (literal.Boolean b) = value.Boolean
literal_type literal.Null = value.Null
literal_type (literal.Str text) = string_type

-- of the one operand, and of the result
abbrev pub unary_type : UnaryOp → ValueType
unary_type unary.Not = value.Boolean
unary_type unary.Negate = value.Int

abbrev pub UnaryFits : Types → UnaryOp → Term → Type 0
UnaryFits types unary.Not a = Suited types a face.Bool
UnaryFits types unary.Negate a = Suited types a face.Int

abbrev pub binary_type : Op → ValueType
binary_type op.Add = value.Int
binary_type op.Subtract = value.Int
binary_type op.Multiply = value.Int
binary_type op.Divide = value.Int
binary_type op.Remainder = value.Int
binary_type _ = value.Boolean

abbrev pub Ints : Types → Term → Term → Type 0
Ints types a b = Suited types a face.Int × Suited types b face.Int

abbrev pub Booleans : Types → Term → Term → Type 0
Booleans types a b = Suited types a face.Bool × Suited types b face.Bool

abbrev pub BinaryFits : Types → Op → Term → Term → Type 0
BinaryFits types op.Equal a b = Compared types a b
BinaryFits types op.NotEqual a b = Compared types a b
BinaryFits types _ a b = Ints types a b

-- Typed, of an expression: what it names is there with the type that its stamp tells, and each part suits its place.
abbrev mutual
  pub TermTyped : Frame → Term → Type 0
  TermTyped f (t.Const s l) = s.ty ≡ Some (literal_type l)
  TermTyped f (t.This s) = IsLocal f 0 s.ty
  TermTyped f (t.Local s x) = IsLocal f x s.ty
  TermTyped f (t.Field s b named) = TermTyped f b × (type_in b ≡ Some (value.Named named.class)) × IsField f.types false named s.ty
  TermTyped f (t.Static s named) = IsField f.types true named s.ty
  TermTyped f (t.New s c es) =
      (s.ty ≡ Some (value.Named c)) × (is_made f.types c (count es) ≡ true) × TermsTyped f (maker_params (maker f.types c)) es
  TermTyped f (t.Call s r m es) =
      TermTyped f r × (type_in r ≡ Some (value.Named m.class))
      × ((found : IsMethod f.types false m (count es) s.ty) × TermsTyped f found.method.params es)
  TermTyped f (t.CallStatic s m es) = (found : IsMethod f.types true m (count es) s.ty) × TermsTyped f found.method.params es
  TermTyped f (t.Unknown s n es) = ⊥
  TermTyped f (t.UnknownField s b n) = ⊥
  TermTyped f (t.UnknownCall s r n es) = ⊥
  TermTyped f (t.Unary s o a) = TermTyped f a × UnaryFits f.types o a × (s.ty ≡ Some (unary_type o))
  TermTyped f (t.And s a b) = TermTyped f a × TermTyped f b × Booleans f.types a b × (s.ty ≡ Some value.Boolean)
  TermTyped f (t.Or s a b) = TermTyped f a × TermTyped f b × Booleans f.types a b × (s.ty ≡ Some value.Boolean)
  TermTyped f (t.Binary s o a b) = TermTyped f a × TermTyped f b × BinaryFits f.types o a b × (s.ty ≡ Some (binary_type o))

  -- arguments, as many as there are parameters, each of which suits its own
  pub TermsTyped : Frame → List ParamFace → Terms → Type 0
  TermsTyped f params t.no_terms = params ≡ []
  TermsTyped f params (t.term e es) =
      (p : ParamFace) × (rest : List ParamFace) × (params ≡ p ∷ rest) × TermTyped f e × Suited f.types e p.ty × TermsTyped f rest es
