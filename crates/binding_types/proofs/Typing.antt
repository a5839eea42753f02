-- Statements that are bound without a finding are typed.
use Rattle.std.proofs.Common.{◌≡◌, ℕ, suc, refl, sym, subst, Bool, true, false, not, if◌then◌else◌, List, [], ◌∷◌, ◌++◌, Option, Some, None}
use Rattle.class_faces.specs.declared.face.FaceTy.{FaceTy}
use Rattle.class_faces.specs.declared.face.FaceTy.TheVariants as face
use Rattle.result_records.specs.declared.code.FindingCode.TheVariants as code
use Rattle.tree_places.specs.PlainExpr.{PlainExpr}
use Rattle.tree_places.specs.PlainStmt.{PlainAction, PlainFirst, PlainMonitor, PlainLocal, PlainStmt, PlainStmts}
use Rattle.tree_places.specs.PlainStmt as p
use Rattle.bound_tree.specs.declared.name.ValueType.{ValueType}
use Rattle.bound_tree.specs.Reading as reading
use Rattle.bound_tree.specs.Tree.{Term, Statement}
use Rattle.bound_tree.specs.Tree as t
use Rattle.name_rules.specs.declared.scope.Entry.{Entry}
use Rattle.name_rules.specs.Types.{Types, is_declared}
use Rattle.name_rules.specs.Scopes.{Scope, in_scope}
use Rattle.name_rules.specs.Places.{Of, Locked}
use Rattle.expression_binding.specs.Bound.{Ground, fitted}
use Rattle.expression_binding.specs.Stamps.{type_of, type_given}
use Rattle.statement_binding.specs.DeclaredTypes.{declared_notes}
use Rattle.statement_binding.specs.Locals.{local_type, declaration, declaration_notes, initializer, with_local, name_found}
use Rattle.statement_binding.specs.Heads.{condition, condition_if_any, first_done, behind_first, last_done, held_notes, locked_by, held_by, result_place, returned}
use Rattle.statement_binding.specs.Statements.{behind, behind_all, statement, statements, branch}
use Rattle.typed_units.specs.Frames.{Frame, type_in, declared_as, Suited, given_suits}
use Rattle.typed_units.specs.Named.{is_known_result}
use Rattle.typed_units.specs.Terms.{TermTyped}
use Rattle.typed_units.specs.Statements.{StatementTyped, StatementsTyped}
use Rattle.typed_units.specs.Declared.{declared_types, all_declared}
use Rattle.binding_types.specs.Silent.{Silent}
use Rattle.binding_types.specs.Grounds.{frame_on, GroundFits, EntryFits, ScopeFits}
use Rattle.binding_types.specs.Placed.{Placed, LocalsKnown}
use Rattle.binding_types.specs.Under.{Locals}
use Rattle.binding_types.specs.Written.{FirstWritten, LastWritten, IsPart, StmtWritten, OtherWritten, AllWritten}
use Rattle.binding_types.proofs.Silences.{first, second, unfound_if, not-false}
use Rattle.binding_types.proofs.Fitting.{of_suits, locked_locks}
use Rattle.binding_types.proofs.Expressions.{fitted-sound}
use Rattle.binding_types.proofs.Placing.{placed_first, placed_second, all_joined}
use Rattle.binding_types.proofs.Numbering.{next-of, first_next, loop_types, held_types, part_scope}
use Rattle.binding_types.proofs.Actions.{action_typed}
use Rattle.binding_types.proofs.Known.{local_known}

-- under what a body is typed: the types of its locals, and of what it returns
pub record Body (g : Ground) (locals : List ValueType) (r : Option FaceTy) : Type 0 where
  pub fits : GroundFits g locals
  pub known : LocalsKnown g.types locals
  pub result : is_known_result g.types r ≡ true

abbrev pub frame_in : Ground → List ValueType → Option FaceTy → Frame
frame_in g locals r = frame_on g locals (type_given r)

-- ---- declarations

pub declared-type_of : (ty : FaceTy) → declared_as (type_of ty) ≡ ty
declared-type_of face.Int = refl
declared-type_of face.Bool = refl
declared-type_of face.Args = refl
declared-type_of (face.Named c) = refl

pub suited_type : (types : Types) (v : Term) (ty : FaceTy) → Suited types v ty → Suited types v (declared_as (type_of ty))
suited_type types v ty h = subst (λ (d : FaceTy). given_suits types (type_in v) d ≡ true) (sym (declared-type_of ty)) h

pub declaration_typed : (g : Ground) (locals : List ValueType) (r : Option FaceTy) → Body g locals r → (ls : Locals) → ScopeFits g.types locals ls.scope → (l : PlainLocal)
    → Placed locals ls.next (type_of (local_type l) ∷ []) → Silent (declaration_notes g ls.scope l) → StatementTyped (frame_in g locals r) (declaration g ls l).made
declaration_typed g locals r body ls names l placed s =
    let rest : Silent ((initializer g ls.scope l).notes ++ name_found ls.scope l) = second (declared_notes g.types l.ty) _ s in
    let x = fitted-sound g locals (type_given r) ls.scope body.fits names (Of (local_type l)) l.value (first (initializer g ls.scope l).notes _ rest) in (
      record { own = type_of (local_type l); is = refl; kept = placed.0 },
      x.sound.typed,
      suited_type g.types (initializer g ls.scope l).term (local_type l) (of_suits g.types (local_type l) (type_in (initializer g ls.scope l).term) (local_known g ls.scope l s) x.fits),
    )

with-fits : (types : Types) (locals : List ValueType) (b : Bool) (scope : Scope) (e : Entry) → ScopeFits types locals scope → EntryFits types locals e → ScopeFits types locals (if b then scope else scope ++ e ∷ [])
with-fits types locals true scope e names fits = names
with-fits types locals false scope e names fits = all_joined (EntryFits types locals) scope (e ∷ []) names (fits, tt)

pub local_fits : (g : Ground) (locals : List ValueType) (ls : Locals) (l : PlainLocal) → ScopeFits g.types locals ls.scope
    → Placed locals ls.next (type_of (local_type l) ∷ []) → Silent (declaration_notes g ls.scope l) → ScopeFits g.types locals (with_local ls l).scope
local_fits g locals ls l names placed s = with-fits g.types locals (in_scope ls.scope l.name.text) ls.scope _ names (record { kept = placed.0; known = local_known g ls.scope l s })

same-fits : (g : Ground) (locals : List ValueType) (ls : Locals) (s : PlainStmt) → IsPart s → StmtWritten s → ScopeFits g.types locals ls.scope → ScopeFits g.types locals (behind ls s).scope
same-fits g locals ls s part w names = subst (ScopeFits g.types locals) (sym (part_scope ls s part w)) names

pub behind_fits : (g : Ground) (locals : List ValueType) (r : Option FaceTy) (ls : Locals) (s : PlainStmt) → StmtWritten s → ScopeFits g.types locals ls.scope
    → Placed locals ls.next (declared_types (statement g r ls s).made) → Silent (statement g r ls s).notes → ScopeFits g.types locals (behind ls s).scope
unfolding behind statement
behind_fits g locals r ls (p.Block opening items closing) w names placed s = names
behind_fits g locals r ls (p.Local l at) w names placed s = local_fits g locals ls l names placed s
behind_fits g locals r ls (p.Empty at) w names placed s = names
behind_fits g locals r ls (p.Action does at) w names placed s = names
behind_fits g locals r ls (p.If at test does other) w names placed s = same-fits g locals ls (p.If at test does other) tt w names
behind_fits g locals r ls (p.While at test does) w names placed s = same-fits g locals ls (p.While at test does) tt w names
behind_fits g locals r ls (p.For at f test last does) w names placed s = names
behind_fits g locals r ls (p.Sync at held body) w names placed s = same-fits g locals ls (p.Sync at held body) tt w names
behind_fits g locals r ls (p.Return at v end) w names placed s = names

-- ---- heads

pub condition_typed : (g : Ground) (locals : List ValueType) (r : Option FaceTy) → Body g locals r → (scope : Scope) → ScopeFits g.types locals scope → (test : PlainExpr)
    → Silent (condition g scope test).notes → TermTyped (frame_in g locals r) (condition g scope test).term × Suited g.types (condition g scope test).term face.Bool
condition_typed g locals r body scope names test s =
    let x = fitted-sound g locals (type_given r) scope body.fits names (Of face.Bool) test s in
    (x.sound.typed, of_suits g.types face.Bool (type_in (condition g scope test).term) refl x.fits)

test_typed : (g : Ground) (locals : List ValueType) (r : Option FaceTy) → Body g locals r → (scope : Scope) → ScopeFits g.types locals scope → (at : ℕ) (test : Option PlainExpr)
    → Silent (condition_if_any g scope at test).notes → TermTyped (frame_in g locals r) (condition_if_any g scope at test).term × Suited g.types (condition_if_any g scope at test).term face.Bool
test_typed g locals r body scope names at None s = (refl, refl)
test_typed g locals r body scope names at (Some test) s = condition_typed g locals r body scope names test s

first_typed : (g : Ground) (locals : List ValueType) (r : Option FaceTy) → Body g locals r → (ls : Locals) → ScopeFits g.types locals ls.scope → (f : PlainFirst) → FirstWritten f
    → Placed locals ls.next (all_declared (reading.statements (first_done g ls f).made)) → Silent (first_done g ls f).notes → StatementsTyped (frame_in g locals r) (reading.statements (first_done g ls f).made)
first_typed g locals r body ls names p.Nothing w placed s = tt
first_typed g locals r body ls names (p.FirstLocal l) w placed s = (declaration_typed g locals r body ls names l placed s, tt)
first_typed g locals r body ls names (p.FirstAction does) w placed s = (action_typed g locals (type_given r) ls.scope body.fits names body.known does w s, tt)

first_fits : (g : Ground) (locals : List ValueType) (ls : Locals) (f : PlainFirst) → ScopeFits g.types locals ls.scope
    → Placed locals ls.next (all_declared (reading.statements (first_done g ls f).made)) → Silent (first_done g ls f).notes → ScopeFits g.types locals (behind_first ls f).scope
first_fits g locals ls p.Nothing names placed s = names
first_fits g locals ls (p.FirstLocal l) names placed s = local_fits g locals ls l names placed s
first_fits g locals ls (p.FirstAction does) names placed s = names

last_typed : (g : Ground) (locals : List ValueType) (r : Option FaceTy) → Body g locals r → (scope : Scope) → ScopeFits g.types locals scope → (last : Option PlainAction) → LastWritten last
    → Silent (last_done g scope last).notes → StatementsTyped (frame_in g locals r) (reading.statements (last_done g scope last).made)
last_typed g locals r body scope names None w s = tt
last_typed g locals r body scope names (Some does) w s = (action_typed g locals (type_given r) scope body.fits names body.known does w s, tt)

pub joined_typed : (f : Frame) (a : List Statement) (w : Statement) → StatementsTyped f (reading.statements a) → StatementTyped f w → StatementsTyped f (reading.statements (a ++ w ∷ []))
joined_typed f [] w h x = (x, tt)
joined_typed f (s ∷ ss) w h x = (h.0, joined_typed f ss w h.1 x)

locked_typed : (g : Ground) (locals : List ValueType) (r : Option FaceTy) → Body g locals r → (scope : Scope) → ScopeFits g.types locals scope → (m : PlainMonitor) (s : Statement)
    → Silent (held_notes g scope m) → StatementTyped (frame_in g locals r) s → StatementTyped (frame_in g locals r) (locked_by (held_by g scope m) s)
locked_typed g locals r body scope names (p.Object v) s quiet typed =
    let x = fitted-sound g locals (type_given r) scope body.fits names Locked v quiet in
    (x.sound.typed, locked_locks g.types (type_in (fitted g scope Locked v).term) x.fits, typed)
locked_typed g locals r body scope names (p.Class w at) s quiet typed =
    (not-false (is_declared g.types w.text) (unfound_if (not (is_declared g.types w.text)) code.UnknownType (suc w.at) quiet), typed)

-- a value is returned where one is wanted, and none elsewhere
returned_typed : (g : Ground) (locals : List ValueType) (r : Option FaceTy) → Body g locals r → (scope : Scope) → ScopeFits g.types locals scope → (at : ℕ) (v : Option PlainExpr)
    → Silent (returned g r scope at v).notes → StatementTyped (frame_in g locals r) (returned g r scope at v).made
returned_typed g locals None body scope names at None s = refl
returned_typed g locals (Some ty) body scope names at None s = absurd s
returned_typed g locals None body scope names at (Some v) s = absurd (second (fitted g scope (result_place None) v).notes _ s)
returned_typed g locals (Some ty) body scope names at (Some v) s =
    let x = fitted-sound g locals (Some (type_of ty)) scope body.fits names (Of ty) v (first (fitted g scope (Of ty) v).notes _ s) in
    (type_of ty, refl, x.sound.typed, suited_type g.types (fitted g scope (Of ty) v).term ty (of_suits g.types ty (type_in (fitted g scope (Of ty) v).term) body.result x.fits))

-- those that come behind stand behind
pub after : (g : Ground) (locals : List ValueType) (r : Option FaceTy) (ls : Locals) (s : PlainStmt) (rest : List ValueType) → StmtWritten s
    → Placed locals ls.next (declared_types (statement g r ls s).made ++ rest) → Placed locals (behind ls s).next rest
after g locals r ls s rest w placed =
    subst (λ (n : ℕ). Placed locals n rest) (sym (next-of g r ls s w)) (placed_second locals ls.next (declared_types (statement g r ls s).made) rest placed)

-- ---- statements

mutual
  unfolding behind behind_all statement statements branch

  pub statement-typed : (g : Ground) (locals : List ValueType) (r : Option FaceTy) → Body g locals r → (ls : Locals) → ScopeFits g.types locals ls.scope → (x : PlainStmt) → StmtWritten x
      → Placed locals ls.next (declared_types (statement g r ls x).made) → Silent (statement g r ls x).notes → StatementTyped (frame_in g locals r) (statement g r ls x).made
  statement-typed g locals r body ls names (p.Block opening items closing) w placed s = statements-typed g locals r body ls names items w placed s
  statement-typed g locals r body ls names (p.Local l at) w placed s = declaration_typed g locals r body ls names l placed s
  statement-typed g locals r body ls names (p.Empty at) w placed s = tt
  statement-typed g locals r body ls names (p.Action does at) w placed s = action_typed g locals (type_given r) ls.scope body.fits names body.known does w s
  statement-typed g locals r body ls names (p.If at test does other) w placed s =
      let rest = second (condition g ls.scope test).notes _ s in
      let test_is = condition_typed g locals r body ls.scope names test (first (condition g ls.scope test).notes _ s) in
      let others = declared_types (branch g r (behind ls does) other).made in (
        test_is.0,
        test_is.1,
        statement-typed g locals r body ls names does w.1 (placed_first locals ls.next (declared_types (statement g r ls does).made) others placed) (first (statement g r ls does).notes _ rest),
        other-typed g locals r body (behind ls does) (same-fits g locals ls does w.0 w.1 names) other w.2 (after g locals r ls does others w.1 placed) (second (statement g r ls does).notes _ rest),
      )
  statement-typed g locals r body ls names (p.While at test does) w placed s =
      let test_is = condition_typed g locals r body ls.scope names test (first (condition g ls.scope test).notes _ s) in
      (test_is.0, test_is.1, statement-typed g locals r body ls names does w.1 placed (second (condition g ls.scope test).notes _ s))
  statement-typed g locals r body ls names (p.For at f test last does) w placed s =
      let inner = behind_first ls f in
      let done = statement g r inner does in
      let end = last_done g (behind inner does).scope last in
      let test_of = condition_if_any g inner.scope (suc at) test in
      let loop = t.While test_of.term (t.Block (t.statement done.made (reading.statements end.made))) in
      let firsts = all_declared (reading.statements (first_done g ls f).made) in
      let inners = declared_types done.made ++ all_declared (reading.statements end.made) in
      let all : Placed locals ls.next (firsts ++ inners) = subst (Placed locals ls.next) (loop_types g ls f loop) placed in
      let first_placed = placed_first locals ls.next firsts inners all in
      let behind_placed : Placed locals inner.next inners = subst (λ (n : ℕ). Placed locals n inners) (sym (first_next g ls f)) (placed_second locals ls.next firsts inners all) in
      let first_quiet = first (first_done g ls f).notes _ s in
      let test_quiet = second (first_done g ls f).notes _ s in
      let rest = second test_of.notes _ test_quiet in
      let inner_names = first_fits g locals ls f names first_placed first_quiet in
      let test_is = test_typed g locals r body inner.scope inner_names (suc at) test (first test_of.notes _ test_quiet) in
      joined_typed (frame_in g locals r) (first_done g ls f).made loop
      (first_typed g locals r body ls names f w.0 first_placed first_quiet) (
        test_is.0,
        test_is.1,
        (
          statement-typed g locals r body inner inner_names does w.3 (placed_first locals inner.next (declared_types done.made) _ behind_placed) (first done.notes _ rest),
          last_typed g locals r body (behind inner does).scope (same-fits g locals inner does w.2 w.3 inner_names) last w.1 (second done.notes _ rest),
        ),
      )
  statement-typed g locals r body ls names (p.Sync at held inside) w placed s =
      locked_typed g locals r body ls.scope names held (statement g r ls inside).made (first (held_notes g ls.scope held) _ s)
      (statement-typed g locals r body ls names inside w.1 (subst (Placed locals ls.next) (held_types held g ls.scope (statement g r ls inside).made) placed) (second (held_notes g ls.scope held) _ s))
  statement-typed g locals r body ls names (p.Return at v end) w placed s = returned_typed g locals r body ls.scope names (suc at) v s

  other-typed : (g : Ground) (locals : List ValueType) (r : Option FaceTy) → Body g locals r → (ls : Locals) → ScopeFits g.types locals ls.scope → (ss : PlainStmts) → OtherWritten ss
      → Placed locals ls.next (declared_types (branch g r ls ss).made) → Silent (branch g r ls ss).notes → StatementTyped (frame_in g locals r) (branch g r ls ss).made
  other-typed g locals r body ls names p.no_stmts w placed s = tt
  other-typed g locals r body ls names (p.stmt x others) w placed s = statement-typed g locals r body ls names x w.2 placed s

  pub statements-typed : (g : Ground) (locals : List ValueType) (r : Option FaceTy) → Body g locals r → (ls : Locals) → ScopeFits g.types locals ls.scope → (ss : PlainStmts) → AllWritten ss
      → Placed locals ls.next (all_declared (reading.statements (statements g r ls ss).made)) → Silent (statements g r ls ss).notes
      → StatementsTyped (frame_in g locals r) (reading.statements (statements g r ls ss).made)
  statements-typed g locals r body ls names p.no_stmts w placed s = tt
  statements-typed g locals r body ls names (p.stmt x others) w placed s =
      let rest = all_declared (reading.statements (statements g r (behind ls x) others).made) in
      let here = placed_first locals ls.next (declared_types (statement g r ls x).made) rest placed in
      let quiet = first (statement g r ls x).notes _ s in (
        statement-typed g locals r body ls names x w.0 here quiet,
        statements-typed g locals r body (behind ls x) (behind_fits g locals r ls x w.0 names here quiet) others w.1 (after g locals r ls x rest w.0 placed) (second (statement g r ls x).notes _ s),
      )
