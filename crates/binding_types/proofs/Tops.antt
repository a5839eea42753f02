-- The top level of a constructor, where final fields may be written, and the statements of a body.
use Rattle.std.proofs.Common.{◌≡◌, ℕ, ◌+◌, ap, sym, ◌∙◌, subst, add-zero, List, length, None}
use Rattle.tree_places.specs.PlainStmt.{PlainAction, PlainStmt, PlainStmts}
use Rattle.tree_places.specs.PlainStmt as p
use Rattle.bound_tree.specs.declared.name.ValueType.{ValueType}
use Rattle.bound_tree.specs.Reading as reading
use Rattle.expression_binding.specs.Bound.{Ground}
use Rattle.statement_binding.specs.Finals.{Written}
use Rattle.statement_binding.specs.Statements.{behind, statement}
use Rattle.statement_binding.specs.Bodies.{top_statement, top_statements, written_behind}
use Rattle.typed_units.specs.Statements.{StatementTyped, StatementsTyped}
use Rattle.typed_units.specs.Declared.{declared_types, all_declared}
use Rattle.binding_types.specs.Silent.{Silent}
use Rattle.binding_types.specs.Grounds.{ScopeFits}
use Rattle.binding_types.specs.Placed.{Placed}
use Rattle.binding_types.specs.Under.{Locals}
use Rattle.binding_types.specs.Written.{StmtWritten, AllWritten}
use Rattle.binding_types.proofs.Silences.{first, second}
use Rattle.binding_types.proofs.Placing.{placed_first, placed_second, all_joined}
use Rattle.binding_types.proofs.Numbering.{next-of, top_declares}
use Rattle.binding_types.proofs.Actions.{top_action_typed}
use Rattle.binding_types.proofs.Known.{IsKnown, AllKnown, known-of}
use Rattle.binding_types.proofs.Typing.{Body, frame_in, behind_fits, statement-typed}

-- every other statement is bound as anywhere
top-next : (g : Ground) (w : Written) (ls : Locals) (s : PlainStmt) → StmtWritten s → (behind ls s).next ≡ ls.next + length (declared_types (top_statement g w ls s).made)
unfolding behind
top-next g w ls (p.Action does at) h = sym (ap (λ (a : List ValueType). ls.next + length a) (top_declares g ls.scope w does) ∙ add-zero ls.next)
top-next g w ls (p.Block opening items closing) h = next-of g None ls (p.Block opening items closing) h
top-next g w ls (p.Local l at) h = next-of g None ls (p.Local l at) h
top-next g w ls (p.Empty at) h = next-of g None ls (p.Empty at) h
top-next g w ls (p.If at test does other) h = next-of g None ls (p.If at test does other) h
top-next g w ls (p.While at test does) h = next-of g None ls (p.While at test does) h
top-next g w ls (p.For at f test last does) h = next-of g None ls (p.For at f test last does) h
top-next g w ls (p.Sync at held inside) h = next-of g None ls (p.Sync at held inside) h
top-next g w ls (p.Return at v end) h = next-of g None ls (p.Return at v end) h

top-known : (g : Ground) (w : Written) (ls : Locals) (s : PlainStmt) → Silent (top_statement g w ls s).notes → AllKnown g.types (declared_types (top_statement g w ls s).made)
top-known g w ls (p.Action does at) h = subst (AllKnown g.types) (sym (top_declares g ls.scope w does)) tt
top-known g w ls (p.Block opening items closing) h = known-of g None ls (p.Block opening items closing) h
top-known g w ls (p.Local l at) h = known-of g None ls (p.Local l at) h
top-known g w ls (p.Empty at) h = known-of g None ls (p.Empty at) h
top-known g w ls (p.If at test does other) h = known-of g None ls (p.If at test does other) h
top-known g w ls (p.While at test does) h = known-of g None ls (p.While at test does) h
top-known g w ls (p.For at f test last does) h = known-of g None ls (p.For at f test last does) h
top-known g w ls (p.Sync at held inside) h = known-of g None ls (p.Sync at held inside) h
top-known g w ls (p.Return at v end) h = known-of g None ls (p.Return at v end) h

-- what is typed, and what is in scope behind it
other-sound : (g : Ground) (locals : List ValueType) → Body g locals None → (ls : Locals) → ScopeFits g.types locals ls.scope → (s : PlainStmt) → StmtWritten s
    → Placed locals ls.next (declared_types (statement g None ls s).made) → Silent (statement g None ls s).notes
    → StatementTyped (frame_in g locals None) (statement g None ls s).made × ScopeFits g.types locals (behind ls s).scope
other-sound g locals body ls names s h placed quiet = (statement-typed g locals None body ls names s h placed quiet, behind_fits g locals None ls s h names placed quiet)

top-sound : (g : Ground) (locals : List ValueType) → Body g locals None → (w : Written) (ls : Locals) → ScopeFits g.types locals ls.scope → (s : PlainStmt) → StmtWritten s
    → Placed locals ls.next (declared_types (top_statement g w ls s).made) → Silent (top_statement g w ls s).notes
    → StatementTyped (frame_in g locals None) (top_statement g w ls s).made × ScopeFits g.types locals (behind ls s).scope
unfolding behind
top-sound g locals body w ls names (p.Action does at) h placed quiet = (top_action_typed g locals None ls.scope body.fits names body.known w does h quiet, names)
top-sound g locals body w ls names (p.Block opening items closing) h placed quiet = other-sound g locals body ls names (p.Block opening items closing) h placed quiet
top-sound g locals body w ls names (p.Local l at) h placed quiet = other-sound g locals body ls names (p.Local l at) h placed quiet
top-sound g locals body w ls names (p.Empty at) h placed quiet = other-sound g locals body ls names (p.Empty at) h placed quiet
top-sound g locals body w ls names (p.If at test does other) h placed quiet = other-sound g locals body ls names (p.If at test does other) h placed quiet
top-sound g locals body w ls names (p.While at test does) h placed quiet = other-sound g locals body ls names (p.While at test does) h placed quiet
top-sound g locals body w ls names (p.For at f test last does) h placed quiet = other-sound g locals body ls names (p.For at f test last does) h placed quiet
top-sound g locals body w ls names (p.Sync at held inside) h placed quiet = other-sound g locals body ls names (p.Sync at held inside) h placed quiet
top-sound g locals body w ls names (p.Return at v end) h placed quiet = other-sound g locals body ls names (p.Return at v end) h placed quiet

pub tops-known : (g : Ground) (w : Written) (ls : Locals) (ss : PlainStmts) → Silent (top_statements g w ls ss).notes → AllKnown g.types (all_declared (reading.statements (top_statements g w ls ss).made))
unfolding top_statements
tops-known g w ls p.no_stmts s = tt
tops-known g w ls (p.stmt x others) s =
    let more = written_behind g w ls.scope x in
    all_joined (IsKnown g.types) (declared_types (top_statement g w ls x).made) (all_declared (reading.statements (top_statements g more (behind ls x) others).made))
    (top-known g w ls x (first (top_statement g w ls x).notes _ s)) (tops-known g more (behind ls x) others (second (top_statement g w ls x).notes _ s))

pub tops-typed : (g : Ground) (locals : List ValueType) → Body g locals None → (w : Written) (ls : Locals) → ScopeFits g.types locals ls.scope → (ss : PlainStmts) → AllWritten ss
    → Placed locals ls.next (all_declared (reading.statements (top_statements g w ls ss).made)) → Silent (top_statements g w ls ss).notes
    → StatementsTyped (frame_in g locals None) (reading.statements (top_statements g w ls ss).made)
unfolding top_statements
tops-typed g locals body w ls names p.no_stmts h placed s = tt
tops-typed g locals body w ls names (p.stmt x others) h placed s =
    let more = written_behind g w ls.scope x in
    let rest = all_declared (reading.statements (top_statements g more (behind ls x) others).made) in
    let here = top-sound g locals body w ls names x h.0 (placed_first locals ls.next (declared_types (top_statement g w ls x).made) rest placed) (first (top_statement g w ls x).notes _ s) in (
      here.0,
      tops-typed g locals body more (behind ls x) here.1 others h.1
          (subst (λ (n : ℕ). Placed locals n rest) (sym (top-next g w ls x h.0)) (placed_second locals ls.next (declared_types (top_statement g w ls x).made) rest placed))
          (second (top_statement g w ls x).notes _ s),
    )
