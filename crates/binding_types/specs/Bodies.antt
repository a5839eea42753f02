-- What is proved of bound bodies.
use Rattle.std.specs.Prelude.{◌≡◌, ℕ, true, false, nat_lt, List, ◌++◌, length, None, is_some}
use Rattle.std.specs.List.{AllByRecursion}
use Rattle.bound_tree.specs.declared.name.ValueType.{ValueType}
use Rattle.bound_tree.specs.Tree.{Statement}
use Rattle.bound_tree.specs.Flows.{flow_of}
use Rattle.bound_tree.specs.Live.{live}
use Rattle.lowering.specs.Endings.{may_end}
use Rattle.tree_places.specs.PlainStmt.{PlainStmt}
use Rattle.name_rules.specs.Scopes.{Scope}
use Rattle.expression_binding.specs.Bound.{Ground}
use Rattle.expression_binding.specs.Stamps.{type_given}
use Rattle.statement_binding.specs.Bodies.{Head, body, items_of}
use Rattle.typed_units.specs.Frames.{is_known_value}
use Rattle.typed_units.specs.Declared.{declared_types}
use Rattle.typed_units.specs.Named.{is_known_result}
use Rattle.typed_units.specs.Statements.{StatementTyped}
use Rattle.binding_types.specs.Silent.{Silent}
use Rattle.binding_types.specs.Grounds.{frame_on, GroundFits, ScopeFits}
use Rattle.binding_types.specs.Named.{NotNamed}
use Rattle.binding_types.specs.Written.{AllWritten}

-- where a body is bound: `args` being the types of `this` and the parameters, which are those in scope
pub record IsHeaded (g : Ground) (head : Head) (scope : Scope) (args : List ValueType) : Type 0 where
  pub fits : GroundFits g args
  pub names : ScopeFits g.types args scope
  pub known : AllByRecursion (λ (v : ValueType). is_known_value g.types v ≡ true) args
  pub result : is_known_result g.types head.result ≡ true
  pub constructor : head.is_constructor ≡ true → head.result ≡ None
  pub others : (x : ℕ) → nat_lt x (length args) ≡ false → NotNamed g scope x

abbrev pub made_of : Ground → Head → Scope → List ValueType → PlainStmt → Statement
made_of g head scope args s = (body g head scope (length args) s).made

abbrev pub locals_of : Ground → Head → Scope → List ValueType → PlainStmt → List ValueType
locals_of g head scope args s = args ++ declared_types (made_of g head scope args s)

-- the body is typed, its locals' types are there, each local but the arguments is set before it is named, and with a result it
-- comes to no end without one
pub record BoundTyped (g : Ground) (head : Head) (scope : Scope) (args : List ValueType) (s : PlainStmt) : Type 0 where
  pub known : AllByRecursion (λ (v : ValueType). is_known_value g.types v ≡ true) (locals_of g head scope args s)
  pub code : StatementTyped (frame_on g (locals_of g head scope args s) (type_given head.result)) (made_of g head scope args s)
  pub set : (x : ℕ) → live x (flow_of (made_of g head scope args s)) false ≡ true → nat_lt x (length args) ≡ true
  pub returns : is_some head.result ≡ true → may_end (made_of g head scope args s) true ≡ false

-- of what the grammar has, without a finding
abbrev pub BodiesTyped : Type 0
BodiesTyped = (g : Ground) (head : Head) (scope : Scope) (args : List ValueType) (s : PlainStmt) → IsHeaded g head scope args → AllWritten (items_of s)
    → Silent (body g head scope (length args) s).notes → BoundTyped g head scope args s
