-- Statements that are typed.
use Rattle.std.specs.Prelude.{◌≡◌, true, Option, Some, None}
use Rattle.class_faces.specs.declared.face.FaceTy.TheVariants as face
use Rattle.bound_tree.specs.declared.name.ValueType.{ValueType}
use Rattle.bound_tree.specs.declared.name.ValueType.TheVariants as value
use Rattle.bound_tree.specs.Tree.{Term, Statement, Statements}
use Rattle.bound_tree.specs.Tree as t
use Rattle.name_rules.specs.Types.{Types, is_declared}
use Rattle.typed_units.specs.Frames.{Frame, IsLocal, Suited, Locked, Started, declared_as, type_in}
use Rattle.typed_units.specs.Terms.{TermTyped, binary_type}

-- it suits the type that is told of another expression
abbrev pub SuitsGiven : Types → Term → Option ValueType → Type 0
SuitsGiven types v None = ⊥
SuitsGiven types v (Some ty) = Suited types v (declared_as ty)

-- what is assigned to is a local or a field
abbrev pub IsTarget : Term → Type 0
IsTarget (t.Local s x) = Unit {0}
IsTarget (t.Field s b f) = Unit {0}
IsTarget (t.Static s f) = Unit {0}
IsTarget _ = ⊥

-- Typed, of a statement: so are its expressions, each of which suits its place; a declaration sets its local; and what is
-- returned is the unit's result.
abbrev mutual
  pub StatementTyped : Frame → Statement → Type 0
  StatementTyped f (t.Block ss) = StatementsTyped f ss
  StatementTyped f (t.Declare p x ty v) = IsLocal f x (Some ty) × TermTyped f v × Suited f.types v (declared_as ty)
  StatementTyped f (t.Assign to v) = IsTarget to × TermTyped f to × TermTyped f v × SuitsGiven f.types v (type_in to)
  StatementTyped f (t.Compound to o v) =
      IsTarget to × TermTyped f to × Suited f.types to face.Int × TermTyped f v × Suited f.types v face.Int × (binary_type o ≡ value.Int)
  StatementTyped f (t.Perform v) = TermTyped f v
  StatementTyped f (t.Start p v) = TermTyped f v × Started f.types v
  StatementTyped f (t.If v a b) = TermTyped f v × Suited f.types v face.Bool × StatementTyped f a × StatementTyped f b
  StatementTyped f (t.While v a) = TermTyped f v × Suited f.types v face.Bool × StatementTyped f a
  StatementTyped f (t.Sync v a) = TermTyped f v × Locked v × StatementTyped f a
  StatementTyped f (t.SyncClass p c a) = (is_declared f.types c ≡ true) × StatementTyped f a
  StatementTyped f (t.Return p) = f.result ≡ None
  StatementTyped f (t.ReturnValue p v) =
      (ty : ValueType) × (f.result ≡ Some ty) × TermTyped f v × Suited f.types v (declared_as ty)

  pub StatementsTyped : Frame → Statements → Type 0
  StatementsTyped f t.no_statements = Unit {0}
  StatementsTyped f (t.statement s ss) = StatementTyped f s × StatementsTyped f ss
