-- Which targets of assignments are final, and where a final may be written.
use Rattle.std.specs.Prelude.{Bool, true, false, not, ◌&&◌, if◌then◌else◌, Option, Some, None}
use Rattle.class_faces.specs.declared.face.FieldFace.{FieldFace}
use Rattle.tree_places.specs.PlainExpr.{PlainExpr}
use Rattle.tree_places.specs.PlainExpr as e
use Rattle.bound_tree.specs.Tree.{Term}
use Rattle.bound_tree.specs.Tree as t
use Rattle.name_rules.specs.declared.scope.Entry.{Entry}
use Rattle.name_rules.specs.Types.{Name, field_of}
use Rattle.name_rules.specs.Scopes.{Scope, Meaning, IsVariable, IsField, IsHidden, IsFree, in_scope, with_entry}
use Rattle.expression_binding.specs.Bound.{Ground, meaning_of}

-- ---- what is final

abbrev pub final_meaning : Meaning → Bool
final_meaning (IsVariable v) = v.is_final
final_meaning (IsField f) = f.is_final
final_meaning IsHidden = false
final_meaning IsFree = false

abbrev pub final_field : Term → Bool
final_field (t.Field s b f) = f.is_final
final_field (t.Static s f) = f.is_final
final_field _ = false

-- a bare name by what it names, another target by the field that it is bound to
abbrev pub is_final : Ground → Scope → PlainExpr → Term → Bool
is_final g scope (e.Name w) v = final_meaning (meaning_of g scope w.text)
is_final g scope _ v = final_field v

-- ---- final fields without initializer: each is written at most once, as `f = e` or `this.f = e` at
-- the top level of a constructor of its class

abbrev pub is_blank : FieldFace → Bool
is_blank f = f.is_final && not f.final_init

abbrev pub blank_meaning : Meaning → Bool
blank_meaning (IsVariable v) = false
blank_meaning (IsField f) = is_blank f
blank_meaning IsHidden = false
blank_meaning IsFree = false

-- behind `this`, where no static field is
abbrev pub blank_instance : Option FieldFace → Bool
blank_instance None = false
blank_instance (Some f) = is_blank f && not f.is_static

abbrev pub is_this : PlainExpr → Bool
is_this (e.This at) = true
is_this _ = false

abbrev pub name_if : Bool → Name → Option Name
name_if b name = if b then Some name else None

-- the name of the field that a target in one of the two forms is
abbrev pub blank_target : Ground → Scope → PlainExpr → Option Name
blank_target g scope (e.Name w) = name_if (blank_meaning (meaning_of g scope w.text)) w.text
blank_target g scope (e.Select from w) = name_if (is_this from && blank_instance (field_of g.types g.class w.text)) w.text
blank_target g scope _ = None

-- the names of the fields that are written so far, each as one that names no variable
abbrev pub Written : Type 0
Written = Scope

abbrev pub as_written : Name → Entry
as_written name = record { name = name; variable = None }

abbrev pub is_first_write : Written → Option Name → Bool
is_first_write written None = false
is_first_write written (Some name) = not (in_scope written name)

abbrev pub with_written : Written → Option Name → Written
with_written written None = written
with_written written (Some name) = with_entry written (as_written name)
