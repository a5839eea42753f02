-- A bound tree as plain data.
use Rattle.std.specs.Prelude.{ℕ, Bool, ◌||◌, List, Option, Some, None}
use Rattle.core_model.specs.declared.instr.Op.{Op}
use Rattle.bound_tree.specs.declared.name.ValueType.{ValueType}
use Rattle.bound_tree.specs.declared.name.FieldName.{FieldName}
use Rattle.bound_tree.specs.declared.name.MemberName.{MemberName}
use Rattle.bound_tree.specs.declared.tree.Naming.{Naming}
use Rattle.bound_tree.specs.declared.tree.Stamp.{Stamp}
use Rattle.bound_tree.specs.declared.tree.Literal.{Literal}
use Rattle.bound_tree.specs.declared.tree.UnaryOp.{UnaryOp}

-- expressions
mutual
  pub data Term : Type 0 where
    Const : Stamp → Literal → Term
    This : Stamp → Term
    Local : Stamp → ℕ → Term
    Field : Stamp → Term → FieldName → Term
    Static : Stamp → FieldName → Term
    New : Stamp → List ℕ → Terms → Term
    Call : Stamp → Term → MemberName → Terms → Term
    CallStatic : Stamp → MemberName → Terms → Term
    Unknown : Stamp → List ℕ → Terms → Term
    UnknownField : Stamp → Term → List ℕ → Term
    UnknownCall : Stamp → Term → List ℕ → Terms → Term
    Unary : Stamp → UnaryOp → Term → Term
    And : Stamp → Term → Term → Term
    Or : Stamp → Term → Term → Term
    Binary : Stamp → Op → Term → Term → Term

  pub data Terms : Type 0 where
    no_terms : Terms
    term : Term → Terms → Terms

mutual
  pub data Statement : Type 0 where
    Block : Statements → Statement
    Declare : ℕ → ℕ → ValueType → Term → Statement
    Assign : Term → Term → Statement
    Compound : Term → Op → Term → Statement
    Perform : Term → Statement
    Start : ℕ → Term → Statement
    If : Term → Statement → Statement → Statement
    While : Term → Statement → Statement
    Sync : Term → Statement → Statement
    SyncClass : ℕ → List ℕ → Statement → Statement
    Return : ℕ → Statement
    ReturnValue : ℕ → Term → Statement

  pub data Statements : Type 0 where
    no_statements : Statements
    statement : Statement → Statements → Statements

-- what stands with an expression
abbrev pub stamp_of : Term → Stamp
stamp_of (Const s l) = s
stamp_of (This s) = s
stamp_of (Local s x) = s
stamp_of (Field s b f) = s
stamp_of (Static s f) = s
stamp_of (New s c es) = s
stamp_of (Call s r m es) = s
stamp_of (CallStatic s m es) = s
stamp_of (Unknown s n es) = s
stamp_of (UnknownField s b n) = s
stamp_of (UnknownCall s r n es) = s
stamp_of (Unary s o a) = s
stamp_of (And s a b) = s
stamp_of (Or s a b) = s
stamp_of (Binary s o a b) = s

-- whether its value can't be used: it is faulty, or a bind finding stands at parentheses around it
abbrev pub is_bad : Term → Bool
is_bad e = (stamp_of e).is_faulty || (stamp_of e).is_misplaced

-- the local that an expression names, and where
abbrev pub local_of : Term → Option Naming
local_of (Local s x) = Some (record { at = s.at; local = x })
local_of _ = None

-- what stands before the dot of a field
abbrev pub base_of : Term → Option Term
base_of (Field s b f) = Some b
base_of (UnknownField s b n) = Some b
base_of _ = None
