-- Assignments, steps and other actions.
use Rattle.std.specs.Prelude.{ℕ, suc, Bool, false, not, ◌&&◌, if◌then◌else◌, List, [], ◌++◌, Option, Some, None}
use Rattle.class_faces.specs.declared.face.FaceTy.{FaceTy}
use Rattle.class_faces.specs.declared.face.FaceTy.TheVariants as face
use Rattle.core_model.specs.declared.instr.Op.{Op}
use Rattle.core_model.specs.declared.instr.Op.TheVariants as arithmetic
use Rattle.result_records.specs.declared.code.FindingCode.TheVariants as code
use Rattle.java_tree.specs.declared.stmt.AssignOp.{AssignOp}
use Rattle.java_tree.specs.declared.stmt.AssignOp.TheVariants as sign
use Rattle.java_tree.specs.declared.stmt.StepOp.{StepOp}
use Rattle.java_tree.specs.declared.stmt.StepOp.TheVariants as step
use Rattle.tree_places.specs.PlainExpr.{PlainExpr}
use Rattle.tree_places.specs.PlainStmt.{PlainAction}
use Rattle.tree_places.specs.PlainStmt as p
use Rattle.bound_tree.specs.declared.name.ValueType.{ValueType}
use Rattle.bound_tree.specs.declared.name.ValueType.TheVariants as value
use Rattle.bound_tree.specs.declared.tree.Literal.TheVariants as literal
use Rattle.bound_tree.specs.Tree.{Term, stamp_of, is_bad}
use Rattle.bound_tree.specs.Tree as t
use Rattle.name_rules.specs.declared.note.Note.{Note}
use Rattle.name_rules.specs.Types.{Name}
use Rattle.name_rules.specs.Notes.{found_if}
use Rattle.name_rules.specs.Scopes.{Scope}
use Rattle.name_rules.specs.Places.{Place, Anywhere, Of, Started}
use Rattle.expression_binding.specs.Stamps.{restamped, spoilt_stamp}
use Rattle.expression_binding.specs.Bound.{Ground, Bound, constant, fitted}
use Rattle.statement_binding.specs.Done.{Done}
use Rattle.statement_binding.specs.Finals.{Written, is_final, blank_target, is_first_write}

-- ---- targets

-- the declared type of a target with such a value
abbrev pub asked_type : ValueType → FaceTy
asked_type value.Int = face.Int
asked_type value.Boolean = face.Bool
asked_type value.Null = face.Args
asked_type (value.Named c) = face.Named c

-- what is assigned has to suit the target's type, where that has one
abbrev pub assigned_place : Option ValueType → Place
assigned_place None = Anywhere
assigned_place (Some v) = Of (asked_type v)

-- a target with a bind finding inside gives no further one
abbrev pub is_forbidden : Ground → Scope → Bool → PlainExpr → Term → Bool
is_forbidden g scope may target to = not (is_bad to) && (is_final g scope target to && not may)

abbrev pub target_if : Bool → Term → Term
target_if forbidden to = if forbidden then restamped (spoilt_stamp false) to else to

-- the finding is at the name
abbrev pub write_notes : Bool → Term → List Note
write_notes forbidden to = found_if forbidden code.FinalWrite (stamp_of to).at

-- ---- assignments

abbrev pub assigned : Bool → Bound → Bound → Done
assigned forbidden to v = record {
  made = t.Assign (target_if forbidden to.term) v.term;
  notes = to.notes ++ (v.notes ++ write_notes forbidden to.term);
}

abbrev pub set_onto : Ground → Scope → Bool → PlainExpr → Bound → PlainExpr → Done
set_onto g scope may target to v =
    assigned (is_forbidden g scope may target to.term) to (fitted g scope (assigned_place (stamp_of to.term).ty) v)

-- by `=`; a final may be written or not
abbrev pub set : Ground → Scope → Bool → PlainExpr → PlainExpr → Done
set g scope may target v = set_onto g scope may target (fitted g scope Anywhere target) v

-- ---- compound assignments and steps, which read and write an int

abbrev pub compound : Bool → Op → Bound → Bound → Done
compound forbidden op to v = record {
  made = t.Compound (target_if forbidden to.term) op v.term;
  notes = to.notes ++ (v.notes ++ write_notes forbidden to.term);
}

abbrev pub changed_onto : Ground → Scope → Op → PlainExpr → Bound → Bound → Done
changed_onto g scope op target to v = compound (is_forbidden g scope false target to.term) op to v

abbrev pub changed : Ground → Scope → Op → PlainExpr → Bound → Done
changed g scope op target v = changed_onto g scope op target (fitted g scope (Of face.Int) target) v

abbrev pub int_value : Ground → Scope → PlainExpr → Bound
int_value g scope v = fitted g scope (Of face.Int) v

abbrev pub step_op : StepOp → Op
step_op step.Increment = arithmetic.Add
step_op step.Decrement = arithmetic.Subtract

-- by one, which stands where the sign is
abbrev pub one : ℕ → Bound
one at = constant at value.Int (literal.Int 1)

abbrev pub stepped : Ground → Scope → StepOp → ℕ → PlainExpr → Done
stepped g scope op at target = changed g scope (step_op op) target (one at)

-- ---- actions

abbrev pub by_sign : Ground → Scope → AssignOp → PlainExpr → PlainExpr → Done
by_sign g scope sign.Set target v = set g scope false target v
by_sign g scope sign.Add target v = changed g scope arithmetic.Add target (int_value g scope v)
by_sign g scope sign.Subtract target v = changed g scope arithmetic.Subtract target (int_value g scope v)

abbrev pub performed : Bound → Done
performed v = record { made = t.Perform v.term; notes = v.notes }

abbrev pub started : ℕ → Bound → Done
started at v = record { made = t.Start at v.term; notes = v.notes }

-- a call or `new` whose value is dropped
abbrev pub dropped : Ground → Scope → PlainExpr → Done
dropped g scope v = performed (fitted g scope Anywhere v)

-- the start of a thread, by the number of the word `new`
abbrev pub thread : Ground → Scope → ℕ → PlainExpr → Done
thread g scope at v = started at (fitted g scope Started v)

abbrev pub action : Ground → Scope → PlainAction → Done
action g scope (p.Assign target op at v) = by_sign g scope op target v
action g scope (p.StepAfter target op at) = stepped g scope op (suc at) target
action g scope (p.StepBefore at op target) = stepped g scope op (suc at) target
action g scope (p.Call call) = dropped g scope call
action g scope (p.New made) = dropped g scope made
action g scope (p.Start at v closing) = thread g scope (suc at) v

-- ---- actions at the top level of a constructor

-- a final field without initializer may be written for the first time
abbrev pub top_set : Ground → Scope → Written → PlainExpr → PlainExpr → Done
top_set g scope written target v = set g scope (is_first_write written (blank_target g scope target)) target v

abbrev pub by_top_sign : Ground → Scope → Written → AssignOp → PlainExpr → PlainExpr → Done
by_top_sign g scope written sign.Set target v = top_set g scope written target v
by_top_sign g scope written sign.Add target v = by_sign g scope sign.Add target v
by_top_sign g scope written sign.Subtract target v = by_sign g scope sign.Subtract target v

abbrev pub top_action : Ground → Scope → Written → PlainAction → Done
top_action g scope written (p.Assign target op at v) = by_top_sign g scope written op target v
top_action g scope written does = action g scope does

-- the field that one writes in that way
abbrev pub by_set : AssignOp → Option Name → Option Name
by_set sign.Set name = name
by_set sign.Add name = None
by_set sign.Subtract name = None

abbrev pub field_written : Ground → Scope → PlainAction → Option Name
field_written g scope (p.Assign target op at v) = by_set op (blank_target g scope target)
field_written g scope _ = None
