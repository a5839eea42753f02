-- Bodies of methods, constructors and mains.
use Rattle.std.specs.Prelude.{ℕ, Bool, not, ◌&&◌, if◌then◌else◌, List, [], ◌++◌, Option, None}
use Rattle.std.specs.Option.{is_some, option_copied}
use Rattle.class_faces.specs.declared.face.FaceTy.{FaceTy}
use Rattle.result_records.specs.declared.code.FindingCode.TheVariants as code
use Rattle.tree_places.specs.PlainStmt.{PlainStmt, PlainStmts}
use Rattle.tree_places.specs.PlainStmt as p
use Rattle.name_rules.specs.declared.note.Note.{Note}
use Rattle.name_rules.specs.Types.{Name}
use Rattle.name_rules.specs.Notes.{found_if}
use Rattle.name_rules.specs.Scopes.{Scope}
use Rattle.expression_binding.specs.Bound.{Ground}
use Rattle.statement_binding.specs.declared.locals.Locals.{Locals}
use Rattle.statement_binding.specs.declared.body.MemberHead as written
use Rattle.statement_binding.specs.Done.{Done, DoneAll, none_done, before_others, block}
use Rattle.statement_binding.specs.Finals.{Written, with_written}
use Rattle.statement_binding.specs.Writes.{top_action, field_written}
use Rattle.statement_binding.specs.Ends.{never_ends}
use Rattle.statement_binding.specs.Statements.{behind, statement, statements}

-- what the head of a member says to its body: the declared type of what is returned, if something is,
-- whether it is a constructor's, and the number of the member's name
pub record Head : Type 0 where
  pub result : Option FaceTy
  pub is_constructor : Bool
  pub name_at : ℕ

abbrev pub shown_head : written.MemberHead → Head
shown_head h = record { result = option_copied h.result; is_constructor = h.is_constructor; name_at = h.name_at }

-- ---- the top level of a constructor

-- it returns nothing
abbrev pub top_statement : Ground → Written → Locals → PlainStmt → Done
top_statement g written ls (p.Action does at) = top_action g ls.scope written does
top_statement g written ls s = statement g None ls s

abbrev pub field_set : Ground → Scope → PlainStmt → Option Name
field_set g scope (p.Action does at) = field_written g scope does
field_set g scope _ = None

-- the fields that are written behind a statement
abbrev pub written_behind : Ground → Written → Scope → PlainStmt → Written
written_behind g written scope s = with_written written (field_set g scope s)

unfoldable pub top_statements : Ground → Written → Locals → PlainStmts → DoneAll
top_statements g written ls p.no_stmts = none_done
top_statements g written ls (p.stmt s others) =
    before_others (top_statement g written ls s) (top_statements g (written_behind g written ls.scope s) (behind ls s) others)

-- ---- bodies

abbrev pub items_of : PlainStmt → PlainStmts
items_of (p.Block opening items closing) = items
items_of s = p.stmt s p.no_stmts

abbrev pub items_done : Ground → Head → Locals → PlainStmts → DoneAll
items_done g head ls items =
    if head.is_constructor then top_statements g [] ls items else statements g head.result ls items

-- a body that has to return a value can't end normally; else the finding is at the member's name
abbrev pub end_notes : Head → PlainStmt → List Note
end_notes head s = found_if (is_some head.result && not (never_ends s)) code.BadReturn head.name_at

abbrev pub with_end : Done → List Note → Done
with_end d more = record { made = d.made; notes = d.notes ++ more }

-- under the names that are in scope in all of it, where the first local has a number
abbrev pub body : Ground → Head → Scope → ℕ → PlainStmt → Done
body g head scope first s = with_end (block (items_done g head (record { scope = scope; next = first }) (items_of s))) (end_notes head s)
