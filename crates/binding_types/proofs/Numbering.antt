-- The locals behind a statement are numbered behind those that it declares, and a part of a statement brings no name in scope.
use Rattle.std.proofs.Common.{◌≡◌, ℕ, suc, ◌+◌, refl, ap, sym, ◌∙◌, add-zero, add_assoc, List, [], ◌∷◌, ◌++◌, length, append-nil, Option, Some, None}
use Rattle.std.proofs.lemmas.List.{length-append}
use Rattle.class_faces.specs.declared.face.FaceTy.{FaceTy}
use Rattle.java_tree.specs.declared.stmt.AssignOp.{AssignOp}
use Rattle.java_tree.specs.declared.stmt.AssignOp.TheVariants as sign
use Rattle.tree_places.specs.PlainExpr.{PlainExpr}
use Rattle.tree_places.specs.PlainStmt.{PlainAction, PlainFirst, PlainMonitor, PlainStmt, PlainStmts}
use Rattle.tree_places.specs.PlainStmt as p
use Rattle.bound_tree.specs.declared.name.ValueType.{ValueType}
use Rattle.bound_tree.specs.Reading as reading
use Rattle.bound_tree.specs.Tree.{Statement}
use Rattle.bound_tree.specs.Tree as t
use Rattle.name_rules.specs.Scopes.{Scope}
use Rattle.expression_binding.specs.Bound.{Ground}
use Rattle.binding_types.specs.Under.{Locals}
use Rattle.expression_binding.specs.Stamps.{type_of}
use Rattle.statement_binding.specs.Locals.{local_type}
use Rattle.statement_binding.specs.Finals.{Written}
use Rattle.statement_binding.specs.Writes.{action, top_action, by_sign, by_top_sign}
use Rattle.statement_binding.specs.Heads.{first_done, behind_first, last_done, locked_by, held_by, returned, condition_if_any}
use Rattle.statement_binding.specs.Statements.{behind, behind_all, statement, statements, branch}
use Rattle.typed_units.specs.Declared.{declared_types, all_declared}
use Rattle.binding_types.specs.Written.{IsPart, StmtWritten, OtherWritten, AllWritten}

by-sign : (g : Ground) (scope : Scope) (op : AssignOp) (target v : PlainExpr) → declared_types (by_sign g scope op target v).made ≡ []
by-sign g scope sign.Set target v = refl
by-sign g scope sign.Add target v = refl
by-sign g scope sign.Subtract target v = refl

pub action_declares : (g : Ground) (scope : Scope) (does : PlainAction) → declared_types (action g scope does).made ≡ []
action_declares g scope (p.Assign target op at v) = by-sign g scope op target v
action_declares g scope (p.StepAfter target op at) = refl
action_declares g scope (p.StepBefore at op target) = refl
action_declares g scope (p.Call call) = refl
action_declares g scope (p.New made) = refl
action_declares g scope (p.Start at v closing) = refl

by-top-sign : (g : Ground) (scope : Scope) (w : Written) (op : AssignOp) (target v : PlainExpr) → declared_types (by_top_sign g scope w op target v).made ≡ []
by-top-sign g scope w sign.Set target v = refl
by-top-sign g scope w sign.Add target v = refl
by-top-sign g scope w sign.Subtract target v = refl

pub top_declares : (g : Ground) (scope : Scope) (w : Written) (does : PlainAction) → declared_types (top_action g scope w does).made ≡ []
top_declares g scope w (p.Assign target op at v) = by-top-sign g scope w op target v
top_declares g scope w (p.StepAfter target op at) = refl
top_declares g scope w (p.StepBefore at op target) = refl
top_declares g scope w (p.Call call) = refl
top_declares g scope w (p.New made) = refl
top_declares g scope w (p.Start at v closing) = refl

-- ---- the parts of a `for`

-- those of the body stand between those of the first part and nothing
pub last_types : (g : Ground) (scope : Scope) (last : Option PlainAction) → all_declared (reading.statements (last_done g scope last).made) ≡ []
last_types g scope None = refl
last_types g scope (Some does) = ap (λ (l : List ValueType). l ++ []) (action_declares g scope does)

pub loop_types : (g : Ground) (ls : Locals) (f : PlainFirst) (w : Statement) → all_declared (reading.statements ((first_done g ls f).made ++ w ∷ []))
    ≡ all_declared (reading.statements (first_done g ls f).made) ++ declared_types w
loop_types g ls p.Nothing w = append-nil (declared_types w)
loop_types g ls (p.FirstLocal l) w = ap (λ (r : List ValueType). type_of (local_type l) ∷ r) (append-nil (declared_types w))
loop_types g ls (p.FirstAction does) w =
    ap (λ (a : List ValueType). a ++ (declared_types w ++ [])) (action_declares g ls.scope does) ∙ append-nil (declared_types w)
    ∙ sym (ap (λ (a : List ValueType). (a ++ []) ++ declared_types w) (action_declares g ls.scope does))

pub first_next : (g : Ground) (ls : Locals) (f : PlainFirst) → (behind_first ls f).next ≡ ls.next + length (all_declared (reading.statements (first_done g ls f).made))
first_next g ls p.Nothing = sym (add-zero ls.next)
first_next g ls (p.FirstLocal l) = refl
first_next g ls (p.FirstAction does) = sym (ap (λ (a : List ValueType). ls.next + length (a ++ [])) (action_declares g ls.scope does) ∙ add-zero ls.next)

pub held_types : (m : PlainMonitor) (g : Ground) (scope : Scope) (body : Statement) → declared_types (locked_by (held_by g scope m) body) ≡ declared_types body
held_types (p.Object v) g scope body = refl
held_types (p.Class w at) g scope body = refl

pub return_types : (g : Ground) (r : Option FaceTy) (scope : Scope) (at : ℕ) (v : Option PlainExpr) → declared_types (returned g r scope at v).made ≡ []
return_types g r scope at None = refl
return_types g r scope at (Some v) = refl

-- two parts that come one after the other
onward : (a b c : ℕ) (m n : List ValueType) → b ≡ a + length m → c ≡ b + length n → c ≡ a + length (m ++ n)
onward a b c m n one two = two ∙ ap (λ (k : ℕ). k + length n) one ∙ add_assoc a (length m) (length n) ∙ ap (λ (k : ℕ). a + k) (sym (length-append m n))

mutual
  unfolding behind behind_all statement statements branch

  pub next-of : (g : Ground) (r : Option FaceTy) (ls : Locals) (s : PlainStmt) → StmtWritten s → (behind ls s).next ≡ ls.next + length (declared_types (statement g r ls s).made)
  next-of g r ls (p.Block opening items closing) w = all-next g r ls items w
  next-of g r ls (p.Local l at) w = refl
  next-of g r ls (p.Empty at) w = sym (add-zero ls.next)
  next-of g r ls (p.Action does at) w = sym (ap (λ (a : List ValueType). ls.next + length a) (action_declares g ls.scope does) ∙ add-zero ls.next)
  next-of g r ls (p.If at test does other) w =
      onward ls.next (behind ls does).next (behind_all (behind ls does) other).next (declared_types (statement g r ls does).made) (declared_types (branch g r (behind ls does) other).made)
      (next-of g r ls does w.1) (other-next g r (behind ls does) other w.2)
  next-of g r ls (p.While at test does) w = next-of g r ls does w.1
  next-of g r ls (p.For at f test last does) w =
      let inner = behind_first ls f in
      let body = (statement g r inner does).made in
      let end = (last_done g (behind inner does).scope last).made in
      onward ls.next inner.next (behind inner does).next (all_declared (reading.statements (first_done g ls f).made)) (declared_types body)
      (first_next g ls f) (next-of g r inner does w.3)
      ∙ ap (λ (l : List ValueType). ls.next + length l)
      (ap (λ (l : List ValueType). all_declared (reading.statements (first_done g ls f).made) ++ l)
      (sym (ap (λ (l : List ValueType). declared_types body ++ l) (last_types g (behind inner does).scope last) ∙ append-nil (declared_types body)))
      ∙ sym (loop_types g ls f (t.While (condition_if_any g inner.scope (suc at) test).term (t.Block (t.statement body (reading.statements end))))))
  next-of g r ls (p.Sync at held body) w =
      next-of g r ls body w.1 ∙ sym (ap (λ (l : List ValueType). ls.next + length l) (held_types held g ls.scope (statement g r ls body).made))
  next-of g r ls (p.Return at v end) w = sym (ap (λ (a : List ValueType). ls.next + length a) (return_types g r ls.scope (suc at) v) ∙ add-zero ls.next)

  other-next : (g : Ground) (r : Option FaceTy) (ls : Locals) (ss : PlainStmts) → OtherWritten ss → (behind_all ls ss).next ≡ ls.next + length (declared_types (branch g r ls ss).made)
  other-next g r ls p.no_stmts w = sym (add-zero ls.next)
  other-next g r ls (p.stmt s others) w = ap (λ (o : PlainStmts). (behind_all (behind ls s) o).next) w.0 ∙ next-of g r ls s w.2

  pub all-next : (g : Ground) (r : Option FaceTy) (ls : Locals) (ss : PlainStmts) → AllWritten ss → (behind_all ls ss).next ≡ ls.next + length (all_declared (reading.statements (statements g r ls ss).made))
  all-next g r ls p.no_stmts w = sym (add-zero ls.next)
  all-next g r ls (p.stmt s others) w =
      onward ls.next (behind ls s).next (behind_all (behind ls s) others).next (declared_types (statement g r ls s).made) (all_declared (reading.statements (statements g r (behind ls s) others).made))
      (next-of g r ls s w.0) (all-next g r (behind ls s) others w.1)

-- ---- names

mutual
  unfolding behind behind_all

  pub part_scope : (ls : Locals) (s : PlainStmt) → IsPart s → StmtWritten s → (behind ls s).scope ≡ ls.scope
  part_scope ls (p.Block opening items closing) part w = refl
  part_scope ls (p.Local l at) part w = absurd part
  part_scope ls (p.Empty at) part w = refl
  part_scope ls (p.Action does at) part w = refl
  part_scope ls (p.If at test does other) part w = other-scope (behind ls does) other w.2 ∙ part_scope ls does w.0 w.1
  part_scope ls (p.While at test does) part w = part_scope ls does w.0 w.1
  part_scope ls (p.For at f test last does) part w = refl
  part_scope ls (p.Sync at held body) part w = part_scope ls body w.0 w.1
  part_scope ls (p.Return at v end) part w = refl

  pub other-scope : (ls : Locals) (ss : PlainStmts) → OtherWritten ss → (behind_all ls ss).scope ≡ ls.scope
  other-scope ls p.no_stmts w = refl
  other-scope ls (p.stmt s others) w = ap (λ (o : PlainStmts). (behind_all (behind ls s) o).scope) w.0 ∙ part_scope ls s w.1 w.2
