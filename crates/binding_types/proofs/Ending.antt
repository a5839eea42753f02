-- A body with a result, without a finding, comes to no end without one.
use Rattle.std.proofs.Common.{◌≡◌, ℕ, suc, refl, ap, sym, ◌∙◌, Bool, true, false, ◌&&◌, ◌||◌, if◌then◌else◌, [], ◌∷◌, ◌++◌, Option, Some, None}
use Rattle.bound_tree.proofs.Tests.{false-true, and-false}
use Rattle.class_faces.specs.declared.face.FaceTy.{FaceTy}
use Rattle.java_tree.specs.declared.stmt.AssignOp.{AssignOp}
use Rattle.java_tree.specs.declared.stmt.AssignOp.TheVariants as sign
use Rattle.tree_places.specs.PlainExpr.{PlainExpr}
use Rattle.tree_places.specs.PlainExpr as e
use Rattle.tree_places.specs.PlainStmt.{PlainAction, PlainFirst, PlainMonitor, PlainStmt, PlainStmts}
use Rattle.tree_places.specs.PlainStmt as p
use Rattle.bound_tree.specs.Reading as reading
use Rattle.bound_tree.specs.Tree.{Statement}
use Rattle.bound_tree.specs.Tree as t
use Rattle.lowering.specs.Endings.{always, may_end, may_end_all}
use Rattle.name_rules.specs.Scopes.{Scope}
use Rattle.expression_binding.specs.Bound.{Ground, raw}
use Rattle.statement_binding.specs.Ends.{is_true, never_ends, last_never_ends}
use Rattle.statement_binding.specs.Writes.{action, by_sign}
use Rattle.statement_binding.specs.Heads.{condition, condition_if_any, first_done, behind_first, last_done, held_notes, locked_by, held_by, returned}
use Rattle.statement_binding.specs.Statements.{behind, behind_all, statement, statements, branch}
use Rattle.statement_binding.specs.Bodies.{items_of}
use Rattle.binding_types.specs.Silent.{Silent}
use Rattle.binding_types.specs.Under.{Locals}
use Rattle.binding_types.specs.Written.{StmtWritten, OtherWritten, AllWritten}
use Rattle.binding_types.proofs.Silences.{first, second, and-first, and-second}

by-sign-ends : (g : Ground) (scope : Scope) (op : AssignOp) (target v : PlainExpr) (k : Bool) → may_end (by_sign g scope op target v).made k ≡ k
by-sign-ends g scope sign.Set target v k = refl
by-sign-ends g scope sign.Add target v k = refl
by-sign-ends g scope sign.Subtract target v k = refl

action-ends : (g : Ground) (scope : Scope) (does : PlainAction) (k : Bool) → may_end (action g scope does).made k ≡ k
action-ends g scope (p.Assign target op at v) k = by-sign-ends g scope op target v k
action-ends g scope (p.StepAfter target op at) k = refl
action-ends g scope (p.StepBefore at op target) k = refl
action-ends g scope (p.Call call) k = refl
action-ends g scope (p.New made) k = refl
action-ends g scope (p.Start at v closing) k = refl

last-ends : (g : Ground) (scope : Scope) (last : Option PlainAction) (k : Bool) → may_end_all (reading.statements (last_done g scope last).made) k ≡ k
last-ends g scope None k = refl
last-ends g scope (Some does) k = action-ends g scope does k

first-ends : (g : Ground) (ls : Locals) (f : PlainFirst) (w : Statement) (k : Bool) → may_end_all (reading.statements ((first_done g ls f).made ++ w ∷ [])) k ≡ may_end w k
first-ends g ls p.Nothing w k = refl
first-ends g ls (p.FirstLocal l) w k = refl
first-ends g ls (p.FirstAction does) w k = action-ends g ls.scope does (may_end w k)

held-ends : (g : Ground) (scope : Scope) (m : PlainMonitor) (s : Statement) (k : Bool) → may_end (locked_by (held_by g scope m) s) k ≡ may_end s k
held-ends g scope (p.Object v) s k = refl
held-ends g scope (p.Class w at) s k = refl

return-ends : (g : Ground) (ty : FaceTy) (scope : Scope) (at : ℕ) (v : Option PlainExpr) (k : Bool) → Silent (returned g (Some ty) scope at v).notes → may_end (returned g (Some ty) scope at v).made k ≡ false
return-ends g ty scope at None k s = absurd s
return-ends g ty scope at (Some v) k s = refl

if-ends : (a b c : Bool) → a ≡ false → b ≡ false → (a || (c && b)) ≡ false
if-ends true b c h i = false-true (sym h)
if-ends false b c h i = ap (λ (d : Bool). c && d) i ∙ and-false c

while-ends : (b a : Bool) → a ≡ false → (if b then a else (a || false)) ≡ false
while-ends true a h = h
while-ends false a h = ap (λ (d : Bool). d || false) h

-- ---- nothing is returned without the result

mutual
  unfolding behind behind_all statement statements branch

  quiet-ends : (g : Ground) (ty : FaceTy) (ls : Locals) (x : PlainStmt) → Silent (statement g (Some ty) ls x).notes → may_end (statement g (Some ty) ls x).made false ≡ false
  quiet-ends g ty ls (p.Block opening items closing) s = quiet-all g ty ls items s
  quiet-ends g ty ls (p.Local l at) s = refl
  quiet-ends g ty ls (p.Empty at) s = refl
  quiet-ends g ty ls (p.Action does at) s = action-ends g ls.scope does false
  quiet-ends g ty ls (p.If at test does other) s =
      let rest = second (condition g ls.scope test).notes _ s in
      if-ends (may_end (statement g (Some ty) ls does).made false) (may_end (branch g (Some ty) (behind ls does) other).made false) _
      (quiet-ends g ty ls does (first (statement g (Some ty) ls does).notes _ rest)) (quiet-other g ty (behind ls does) other (second (statement g (Some ty) ls does).notes _ rest))
  quiet-ends g ty ls (p.While at test does) s =
      while-ends (always (condition g ls.scope test).term) (may_end (statement g (Some ty) ls does).made false) (quiet-ends g ty ls does (second (condition g ls.scope test).notes _ s))
  quiet-ends g ty ls (p.For at f test last does) s =
      let inner = behind_first ls f in
      let done = statement g (Some ty) inner does in
      let end = last_done g (behind inner does).scope last in
      let test_of = condition_if_any g inner.scope (suc at) test in
      let rest = second test_of.notes _ (second (first_done g ls f).notes _ s) in
      first-ends g ls f (t.While test_of.term (t.Block (t.statement done.made (reading.statements end.made)))) false
      ∙ while-ends (always test_of.term) (may_end done.made (may_end_all (reading.statements end.made) false))
      (ap (may_end done.made) (last-ends g (behind inner does).scope last false) ∙ quiet-ends g ty inner does (first done.notes _ rest))
  quiet-ends g ty ls (p.Sync at held inside) s =
      held-ends g ls.scope held (statement g (Some ty) ls inside).made false ∙ quiet-ends g ty ls inside (second (held_notes g ls.scope held) _ s)
  quiet-ends g ty ls (p.Return at v end) s = return-ends g ty ls.scope (suc at) v false s

  quiet-other : (g : Ground) (ty : FaceTy) (ls : Locals) (ss : PlainStmts) → Silent (branch g (Some ty) ls ss).notes → may_end (branch g (Some ty) ls ss).made false ≡ false
  quiet-other g ty ls p.no_stmts s = refl
  quiet-other g ty ls (p.stmt x others) s = quiet-ends g ty ls x s

  quiet-all : (g : Ground) (ty : FaceTy) (ls : Locals) (ss : PlainStmts) → Silent (statements g (Some ty) ls ss).notes → may_end_all (reading.statements (statements g (Some ty) ls ss).made) false ≡ false
  quiet-all g ty ls p.no_stmts s = refl
  quiet-all g ty ls (p.stmt x others) s =
      ap (may_end (statement g (Some ty) ls x).made) (quiet-all g ty (behind ls x) others (second (statement g (Some ty) ls x).notes _ s))
      ∙ quiet-ends g ty ls x (first (statement g (Some ty) ls x).notes _ s)

-- ---- what can't end normally, by the rule, comes to no end

true-always : (g : Ground) (scope : Scope) (test : PlainExpr) → is_true test ≡ true → always (condition g scope test).term ≡ true
unfolding raw
true-always g scope (e.True at) h = refl
true-always g scope _ h = false-true h

loop-ends : (b a : Bool) → b ≡ true → a ≡ false → (k : Bool) → (if b then a else (a || k)) ≡ false
loop-ends true a h i k = i
loop-ends false a h i k = false-true h

mutual
  unfolding behind behind_all statement statements branch never_ends

  never-ending : (g : Ground) (ty : FaceTy) (ls : Locals) (x : PlainStmt) → StmtWritten x → Silent (statement g (Some ty) ls x).notes → never_ends x ≡ true → (k : Bool)
      → may_end (statement g (Some ty) ls x).made k ≡ false
  never-ending g ty ls (p.Block opening items closing) w s h k = never-all g ty ls items w s h k
  never-ending g ty ls (p.Local l at) w s h k = false-true h
  never-ending g ty ls (p.Empty at) w s h k = false-true h
  never-ending g ty ls (p.Action does at) w s h k = false-true h
  never-ending g ty ls (p.If at test does other) w s h k =
      let rest = second (condition g ls.scope test).notes _ s in
      if-ends (may_end (statement g (Some ty) ls does).made k) (may_end (branch g (Some ty) (behind ls does) other).made k) _
      (never-ending g ty ls does w.1 (first (statement g (Some ty) ls does).notes _ rest) (and-first (never_ends does) (last_never_ends false other) h) k)
      (never-other g ty (behind ls does) other w.2 (second (statement g (Some ty) ls does).notes _ rest) (and-second (never_ends does) (last_never_ends false other) h) k)
  never-ending g ty ls (p.While at test does) w s h k =
      loop-ends (always (condition g ls.scope test).term) (may_end (statement g (Some ty) ls does).made false) (true-always g ls.scope test h)
      (quiet-ends g ty ls does (second (condition g ls.scope test).notes _ s)) k
  never-ending g ty ls (p.For at f test last does) w s h k = false-true h
  never-ending g ty ls (p.Sync at held inside) w s h k =
      held-ends g ls.scope held (statement g (Some ty) ls inside).made k ∙ never-ending g ty ls inside w.1 (second (held_notes g ls.scope held) _ s) h k
  never-ending g ty ls (p.Return at v end) w s h k = return-ends g ty ls.scope (suc at) v k s

  never-other : (g : Ground) (ty : FaceTy) (ls : Locals) (ss : PlainStmts) → OtherWritten ss → Silent (branch g (Some ty) ls ss).notes → last_never_ends false ss ≡ true → (k : Bool)
      → may_end (branch g (Some ty) ls ss).made k ≡ false
  never-other g ty ls p.no_stmts w s h k = false-true h
  never-other g ty ls (p.stmt x others) w s h k =
      never-ending g ty ls x w.2 s (sym (ap (λ (o : PlainStmts). last_never_ends (never_ends x) o) w.0) ∙ h) k

  pub never-all : (g : Ground) (ty : FaceTy) (ls : Locals) (ss : PlainStmts) → AllWritten ss → Silent (statements g (Some ty) ls ss).notes → last_never_ends false ss ≡ true → (k : Bool)
      → may_end_all (reading.statements (statements g (Some ty) ls ss).made) k ≡ false
  never-all g ty ls p.no_stmts w s h k = false-true h
  never-all g ty ls (p.stmt x p.no_stmts) w s h k = never-ending g ty ls x w.0 (first (statement g (Some ty) ls x).notes _ s) h k
  never-all g ty ls (p.stmt x (p.stmt y more)) w s h k =
      ap (may_end (statement g (Some ty) ls x).made) (never-all g ty (behind ls x) (p.stmt y more) w.1 (second (statement g (Some ty) ls x).notes _ s) h k)
      ∙ quiet-ends g ty ls x (first (statement g (Some ty) ls x).notes _ s)

-- a body is its items
pub items_end : (s : PlainStmt) → never_ends s ≡ true → last_never_ends false (items_of s) ≡ true
unfolding never_ends
items_end (p.Block opening items closing) h = h
items_end (p.Local l at) h = h
items_end (p.Empty at) h = h
items_end (p.Action does at) h = h
items_end (p.If at test does other) h = h
items_end (p.While at test does) h = h
items_end (p.For at f test last does) h = h
items_end (p.Sync at held inside) h = h
items_end (p.Return at v end) h = h
