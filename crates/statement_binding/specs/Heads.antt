-- What stands at the head of a statement, and the parts of a `for`.
use Rattle.std.specs.Prelude.{ℕ, suc, Bool, true, not, List, [], ◌∷◌, ◌++◌, Option, Some, None}
use Rattle.std.specs.Option.{is_some, is_none}
use Rattle.class_faces.specs.declared.face.FaceTy.{FaceTy}
use Rattle.class_faces.specs.declared.face.FaceTy.TheVariants as face
use Rattle.result_records.specs.declared.code.FindingCode.TheVariants as code
use Rattle.tree_places.specs.PlainExpr.{PlainLexeme, PlainExpr}
use Rattle.tree_places.specs.PlainStmt.{PlainAction, PlainFirst, PlainMonitor}
use Rattle.tree_places.specs.PlainStmt as p
use Rattle.bound_tree.specs.declared.name.ValueType.TheVariants as value
use Rattle.bound_tree.specs.declared.tree.Literal.TheVariants as literal
use Rattle.bound_tree.specs.Tree.{Term, Statement}
use Rattle.bound_tree.specs.Tree as t
use Rattle.bound_tree.specs.Reading.{term_of}
use Rattle.name_rules.specs.declared.note.Note.{Note}
use Rattle.name_rules.specs.declared.note.Note.TheVariants.{Names}
use Rattle.name_rules.specs.Types.{Name, Types, is_declared}
use Rattle.name_rules.specs.Notes.{found_if}
use Rattle.name_rules.specs.Scopes.{Scope}
use Rattle.name_rules.specs.Places.{Place, Anywhere, Of, Locked}
use Rattle.expression_binding.specs.Bound.{Ground, Bound, constant, fitted}
use Rattle.statement_binding.specs.declared.locals.Locals.{Locals}
use Rattle.statement_binding.specs.declared.head.Held as written
use Rattle.statement_binding.specs.declared.head.Held.TheVariants as held
use Rattle.statement_binding.specs.Done.{Done, DoneAll, none_done, one_done, block_of}
use Rattle.statement_binding.specs.Locals.{declaration, with_local}
use Rattle.statement_binding.specs.Writes.{action}

-- ---- conditions

abbrev pub condition : Ground → Scope → PlainExpr → Bound
condition g scope test = fitted g scope (Of face.Bool) test

abbrev pub always : ℕ → Bound
always at = constant at value.Boolean (literal.Boolean true)

-- of a `for`; one that isn't written is `true`, at the word `for`
abbrev pub condition_if_any : Ground → Scope → ℕ → Option PlainExpr → Bound
condition_if_any g scope at None = always at
condition_if_any g scope at (Some test) = condition g scope test

abbrev pub chosen : Bound → Done → Done → Done
chosen test does other = record { made = t.If test.term does.made other.made; notes = test.notes ++ (does.notes ++ other.notes) }

abbrev pub repeated : Bound → Done → Done
repeated test does = record { made = t.While test.term does.made; notes = test.notes ++ does.notes }

-- ---- the parts of a `for`

abbrev pub first_done : Ground → Locals → PlainFirst → DoneAll
first_done g ls p.Nothing = none_done
first_done g ls (p.FirstLocal l) = one_done (declaration g ls l)
first_done g ls (p.FirstAction does) = one_done (action g ls.scope does)

abbrev pub behind_first : Locals → PlainFirst → Locals
behind_first ls p.Nothing = ls
behind_first ls (p.FirstLocal l) = with_local ls l
behind_first ls (p.FirstAction does) = ls

abbrev pub last_done : Ground → Scope → Option PlainAction → DoneAll
last_done g scope None = none_done
last_done g scope (Some does) = one_done (action g scope does)

-- a block of the first part and a `while` whose body ends with the last part
abbrev pub looped : DoneAll → Bound → Done → DoneAll → Done
looped first test does last = record {
  made = block_of (first.made ++ (t.While test.term (block_of (does.made ∷ last.made)) ∷ []));
  notes = first.notes ++ (test.notes ++ (does.notes ++ last.notes));
}

-- ---- monitors

-- an object, or a class by its name and the number of that
pub data Held : Type 0 where
  OnObject : Term → Held
  OnClass : ℕ → Name → Held

abbrev pub shown_held : written.Held → Held
shown_held (held.Object v) = OnObject (term_of v)
shown_held (held.Class at c) = OnClass at c

abbrev pub held_object : Ground → Scope → PlainExpr → Held
held_object g scope v = OnObject (fitted g scope Locked v).term

abbrev pub object_notes : Ground → Scope → PlainExpr → List Note
object_notes g scope v = (fitted g scope Locked v).notes

abbrev pub held_class : PlainLexeme → Held
held_class w = OnClass (suc w.at) w.text

-- the name before `.class` stands as a type, and is that of a class or interface that is declared
abbrev pub class_notes : Types → PlainLexeme → List Note
class_notes types w = Names w.text ∷ found_if (not (is_declared types w.text)) code.UnknownType (suc w.at)

abbrev pub held_by : Ground → Scope → PlainMonitor → Held
held_by g scope (p.Object v) = held_object g scope v
held_by g scope (p.Class w at) = held_class w

abbrev pub held_notes : Ground → Scope → PlainMonitor → List Note
held_notes g scope (p.Object v) = object_notes g scope v
held_notes g scope (p.Class w at) = class_notes g.types w

abbrev pub locked_by : Held → Statement → Statement
locked_by (OnObject v) body = t.Sync v body
locked_by (OnClass at c) body = t.SyncClass at c body

abbrev pub locked : Ground → Scope → PlainMonitor → Done → Done
locked g scope m body = record { made = locked_by (held_by g scope m) body.made; notes = held_notes g scope m ++ body.notes }

-- ---- returns, by the declared type of what is returned, if something is

abbrev pub result_place : Option FaceTy → Place
result_place None = Anywhere
result_place (Some ty) = Of ty

-- at the word `return`, where a value is missing or unwanted
abbrev pub returned : Ground → Option FaceTy → Scope → ℕ → Option PlainExpr → Done
returned g result scope at None = record { made = t.Return at; notes = found_if (is_some result) code.BadReturn at }
returned g result scope at (Some v) = record {
  made = t.ReturnValue at (fitted g scope (result_place result) v).term;
  notes = (fitted g scope (result_place result) v).notes ++ found_if (is_none result) code.BadReturn at;
}
