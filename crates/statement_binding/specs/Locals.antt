-- The declaration of a local.
use Rattle.std.specs.Prelude.{ℕ, suc, ◌+◌, Bool, List, ◌++◌, Option, Some}
use Rattle.std.specs.Option.{is_some}
use Rattle.class_faces.specs.declared.face.FaceTy.{FaceTy}
use Rattle.result_records.specs.declared.code.FindingCode.TheVariants as code
use Rattle.tree_places.specs.PlainStmt.{PlainLocal}
use Rattle.bound_tree.specs.Tree as t
use Rattle.name_rules.specs.declared.note.Note.{Note}
use Rattle.name_rules.specs.declared.scope.Entry.{Entry}
use Rattle.name_rules.specs.Types.{Name}
use Rattle.name_rules.specs.Notes.{found_if}
use Rattle.name_rules.specs.Scopes.{Scope, in_scope, with_entry}
use Rattle.name_rules.specs.Places.{Of}
use Rattle.expression_binding.specs.Stamps.{type_of}
use Rattle.expression_binding.specs.Bound.{Ground, Bound, fitted}
use Rattle.statement_binding.specs.declared.locals.Locals.{Locals}
use Rattle.statement_binding.specs.DeclaredTypes.{declared, declared_notes}
use Rattle.statement_binding.specs.Done.{Done}

abbrev pub local_type : PlainLocal → FaceTy
local_type l = declared l.ty

-- a local as its name names it
abbrev pub entry : ℕ → Name → Bool → FaceTy → Entry
entry number name is_final ty = record { name = name; variable = Some (record { number = number; ty = ty; is_final = is_final }) }

-- of a repeated name the first stays, and the number is taken all the same
abbrev pub entered : Locals → Name → Bool → FaceTy → Locals
entered ls name is_final ty = record { scope = with_entry ls.scope (entry ls.next name is_final ty); next = ls.next + 1 }

-- behind its declaration
abbrev pub with_local : Locals → PlainLocal → Locals
with_local ls l = entered ls l.name.text (is_some l.final_word) (local_type l)

-- it isn't in scope in its own initializer
abbrev pub initializer : Ground → Scope → PlainLocal → Bound
initializer g scope l = fitted g scope (Of (local_type l)) l.value

-- it has not the name of a local or parameter around it
abbrev pub name_found : Scope → PlainLocal → List Note
name_found scope l = found_if (in_scope scope l.name.text) code.RepeatedLocal (suc l.name.at)

abbrev pub declaration_notes : Ground → Scope → PlainLocal → List Note
declaration_notes g scope l = declared_notes g.types l.ty ++ ((initializer g scope l).notes ++ name_found scope l)

abbrev pub declaration : Ground → Locals → PlainLocal → Done
declaration g ls l = record {
  made = t.Declare (suc l.name.at) ls.next (type_of (local_type l)) (initializer g ls.scope l).term;
  notes = declaration_notes g ls.scope l;
}

-- names go out of scope with what they stand in; numbers go on
abbrev pub ended : Locals → Locals → Locals
ended before behind = record { scope = before.scope; next = behind.next }
