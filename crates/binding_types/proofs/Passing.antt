-- A local that isn't in scope before a statement is live before it only where it is live behind it: each is set before it is named.
use Rattle.std.proofs.Common.{◌≡◌, ℕ, suc, ◌==◌, refl, sym, ◌∙◌, subst, Bool, true, false, ◌||◌, if◌then◌else◌, [], ◌∷◌, ◌++◌, Option, Some, None}
use Rattle.bound_tree.proofs.Tests.{false-true}
use Rattle.class_faces.specs.declared.face.FaceTy.{FaceTy}
use Rattle.class_faces.specs.declared.face.FaceTy.TheVariants as face
use Rattle.core_model.specs.declared.instr.Op.{Op}
use Rattle.core_model.specs.declared.instr.Op.TheVariants as arithmetic
use Rattle.java_tree.specs.declared.stmt.AssignOp.{AssignOp}
use Rattle.java_tree.specs.declared.stmt.AssignOp.TheVariants as sign
use Rattle.tree_places.specs.PlainExpr.{PlainExpr}
use Rattle.tree_places.specs.PlainStmt.{PlainAction, PlainFirst, PlainMonitor, PlainLocal, PlainStmt, PlainStmts}
use Rattle.tree_places.specs.PlainStmt as p
use Rattle.bound_tree.specs.declared.tree.Naming.{Naming}
use Rattle.bound_tree.specs.Reading as reading
use Rattle.bound_tree.specs.Tree.{Term, Statement, local_of, base_of}
use Rattle.bound_tree.specs.Tree as t
use Rattle.bound_tree.specs.Flows.{Flow, End, Sets, in_term, in_statement, in_statements, in_any, local_named, local_set}
use Rattle.bound_tree.specs.Live.{live}
use Rattle.name_rules.specs.declared.scope.Entry.{Entry}
use Rattle.name_rules.specs.Scopes.{Scope, in_scope}
use Rattle.name_rules.specs.Places.{Anywhere, Of, Started, Locked}
use Rattle.expression_binding.specs.Bound.{Ground, Bound, fitted}
use Rattle.expression_binding.specs.Stamps.{spoilt_stamp}
use Rattle.statement_binding.specs.Finals.{Written, blank_target, is_first_write}
use Rattle.statement_binding.specs.Locals.{local_type, declaration, initializer, with_local}
use Rattle.statement_binding.specs.Writes.{assigned_place, is_forbidden, target_if, set, changed, int_value, step_op, one, by_sign, action, by_top_sign, top_action}
use Rattle.statement_binding.specs.Heads.{condition, condition_if_any, last_done, locked_by, held_by, result_place, returned}
use Rattle.statement_binding.specs.Statements.{behind, behind_all, statement, statements, branch}
use Rattle.statement_binding.specs.Bodies.{top_statement, top_statements, written_behind}
use Rattle.binding_types.specs.Named.{Misses, MissesEntry, NotNamed}
use Rattle.binding_types.specs.Under.{Locals}
use Rattle.binding_types.specs.Written.{IsPart, StmtWritten, OtherWritten, AllWritten}
use Rattle.binding_types.proofs.Placing.{all_joined}
use Rattle.binding_types.proofs.Numbering.{part_scope}
use Rattle.binding_types.proofs.Keeping.{Keeps, restamped_keeps, fitted_keeps}

-- it is live before the statement only where it is live behind it
abbrev pub Passes : ℕ → Statement → Type 0
Passes x s = (K : Flow) (k : Bool) → live x (in_statement s K) k ≡ true → live x K k ≡ true

either : {A : Type 0} (a b : Bool) → (a ≡ true → A) → (b ≡ true → A) → (a || b) ≡ true → A
either true b f h e = f refl
either false b f h e = h e

-- ---- targets

base-keeps : (x : ℕ) (to : Term) → Keeps x to → (K : Flow) (k : Bool) → live x (in_any (base_of to) K) k ≡ live x K k
base-keeps x (t.Const s l) h K k = refl
base-keeps x (t.This s) h K k = refl
base-keeps x (t.Local s y) h K k = refl
base-keeps x (t.Field s b named) h K k = h K k
base-keeps x (t.Static s named) h K k = refl
base-keeps x (t.New s c es) h K k = refl
base-keeps x (t.Call s r m es) h K k = refl
base-keeps x (t.CallStatic s m es) h K k = refl
base-keeps x (t.Unknown s n es) h K k = refl
base-keeps x (t.UnknownField s b n) h K k = h K k
base-keeps x (t.UnknownCall s r n es) h K k = refl
base-keeps x (t.Unary s o a) h K k = refl
base-keeps x (t.And s a b) h K k = refl
base-keeps x (t.Or s a b) h K k = refl
base-keeps x (t.Binary s o a b) h K k = refl

named-keeps : (x : ℕ) (to : Term) → Keeps x to → (K : Flow) (k : Bool) → live x (local_named (local_of to) K) k ≡ live x K k
named-keeps x (t.Const s l) h K k = refl
named-keeps x (t.This s) h K k = refl
named-keeps x (t.Local s y) h K k = h K k
named-keeps x (t.Field s b named) h K k = refl
named-keeps x (t.Static s named) h K k = refl
named-keeps x (t.New s c es) h K k = refl
named-keeps x (t.Call s r m es) h K k = refl
named-keeps x (t.CallStatic s m es) h K k = refl
named-keeps x (t.Unknown s n es) h K k = refl
named-keeps x (t.UnknownField s b n) h K k = refl
named-keeps x (t.UnknownCall s r n es) h K k = refl
named-keeps x (t.Unary s o a) h K k = refl
named-keeps x (t.And s a b) h K k = refl
named-keeps x (t.Or s a b) h K k = refl
named-keeps x (t.Binary s o a b) h K k = refl

unless-set : (b j : Bool) → (if b then false else j) ≡ true → j ≡ true
unless-set true j e = false-true e
unless-set false j e = e

set-passes : (x : ℕ) (o : Option Naming) (K : Flow) (k : Bool) → live x (local_set o K) k ≡ true → live x K k ≡ true
set-passes x None K k e = e
set-passes x (Some n) K k e = unless-set (x == n.local) (live x K k) e

target-keeps : (x : ℕ) (forbidden : Bool) (to : Term) → Keeps x to → Keeps x (target_if forbidden to)
target-keeps x true to h = restamped_keeps x (spoilt_stamp false) to h
target-keeps x false to h = h

assign-passes : (x : ℕ) (to v : Term) → Keeps x to → Keeps x v → Passes x (t.Assign to v)
assign-passes x to v h i K k e = set-passes x (local_of to) K k (sym (base-keeps x to h (in_term v (local_set (local_of to) K)) k ∙ i (local_set (local_of to) K) k) ∙ e)

compound-passes : (x : ℕ) (to v : Term) (o : Op) → Keeps x to → Keeps x v → Passes x (t.Compound to o v)
compound-passes x to v o h i K k e =
    set-passes x (local_of to) K k
    (sym (base-keeps x to h (local_named (local_of to) (in_term v (local_set (local_of to) K))) k
    ∙ (named-keeps x to h (in_term v (local_set (local_of to) K)) k ∙ i (local_set (local_of to) K) k)) ∙ e)

-- ---- actions

set-act : (g : Ground) (scope : Scope) (x : ℕ) → NotNamed g scope x → (may : Bool) (target v : PlainExpr) → Passes x (set g scope may target v).made
set-act g scope x n may target v =
    let to = (fitted g scope Anywhere target).term in
    assign-passes x (target_if (is_forbidden g scope may target to) to) (fitted g scope (assigned_place (t.stamp_of to).ty) v).term
    (target-keeps x (is_forbidden g scope may target to) to (fitted_keeps g scope x n Anywhere target)) (fitted_keeps g scope x n (assigned_place (t.stamp_of to).ty) v)

changed-act : (g : Ground) (scope : Scope) (x : ℕ) → NotNamed g scope x → (o : Op) (target : PlainExpr) (v : Bound) → Keeps x v.term → Passes x (changed g scope o target v).made
changed-act g scope x n o target v h =
    let to = (fitted g scope (Of face.Int) target).term in
    compound-passes x (target_if (is_forbidden g scope false target to) to) v.term o
    (target-keeps x (is_forbidden g scope false target to) to (fitted_keeps g scope x n (Of face.Int) target)) h

by-sign : (g : Ground) (scope : Scope) (x : ℕ) → NotNamed g scope x → (op : AssignOp) (target v : PlainExpr) → Passes x (by_sign g scope op target v).made
by-sign g scope x n sign.Set target v = set-act g scope x n false target v
by-sign g scope x n sign.Add target v = changed-act g scope x n arithmetic.Add target (int_value g scope v) (fitted_keeps g scope x n (Of face.Int) v)
by-sign g scope x n sign.Subtract target v = changed-act g scope x n arithmetic.Subtract target (int_value g scope v) (fitted_keeps g scope x n (Of face.Int) v)

value-passes : (x : ℕ) (v : Term) → Keeps x v → (K : Flow) (k : Bool) → live x (in_term v K) k ≡ true → live x K k ≡ true
value-passes x v h K k e = sym (h K k) ∙ e

action-passes : (g : Ground) (scope : Scope) (x : ℕ) → NotNamed g scope x → (does : PlainAction) → Passes x (action g scope does).made
action-passes g scope x n (p.Assign target op at v) = by-sign g scope x n op target v
action-passes g scope x n (p.StepAfter target op at) = changed-act g scope x n (step_op op) target (one (suc at)) (λ (K : Flow) (k : Bool). refl)
action-passes g scope x n (p.StepBefore at op target) = changed-act g scope x n (step_op op) target (one (suc at)) (λ (K : Flow) (k : Bool). refl)
action-passes g scope x n (p.Call call) = value-passes x (fitted g scope Anywhere call).term (fitted_keeps g scope x n Anywhere call)
action-passes g scope x n (p.New made) = value-passes x (fitted g scope Anywhere made).term (fitted_keeps g scope x n Anywhere made)
action-passes g scope x n (p.Start at v closing) = value-passes x (fitted g scope Started v).term (fitted_keeps g scope x n Started v)

by-top : (g : Ground) (scope : Scope) (x : ℕ) → NotNamed g scope x → (w : Written) (op : AssignOp) (target v : PlainExpr) → Passes x (by_top_sign g scope w op target v).made
by-top g scope x n w sign.Set target v = set-act g scope x n (is_first_write w (blank_target g scope target)) target v
by-top g scope x n w sign.Add target v = by-sign g scope x n sign.Add target v
by-top g scope x n w sign.Subtract target v = by-sign g scope x n sign.Subtract target v

top-action : (g : Ground) (scope : Scope) (x : ℕ) → NotNamed g scope x → (w : Written) (does : PlainAction) → Passes x (top_action g scope w does).made
top-action g scope x n w (p.Assign target op at v) = by-top g scope x n w op target v
top-action g scope x n w (p.StepAfter target op at) = action-passes g scope x n (p.StepAfter target op at)
top-action g scope x n w (p.StepBefore at op target) = action-passes g scope x n (p.StepBefore at op target)
top-action g scope x n w (p.Call call) = action-passes g scope x n (p.Call call)
top-action g scope x n w (p.New made) = action-passes g scope x n (p.New made)
top-action g scope x n w (p.Start at v closing) = action-passes g scope x n (p.Start at v closing)

-- ---- declarations

misses-with : (x : ℕ) (b : Bool) (scope : Scope) (e : Entry) → Misses x scope → MissesEntry x e → Misses x (if b then scope else scope ++ e ∷ [])
misses-with x true scope e h i = h
misses-with x false scope e h i = all_joined (MissesEntry x) scope (e ∷ []) h (i, tt)

with-local : (g : Ground) (ls : Locals) (l : PlainLocal) (x : ℕ) → NotNamed g ls.scope x → (x == ls.next) ≡ false → NotNamed g (with_local ls l).scope x
with-local g ls l x n e = record { this = n.this; names = misses-with x (in_scope ls.scope l.name.text) ls.scope _ n.names e }

-- what is behind: it is live there, and no name names it
abbrev Behind : Ground → Scope → ℕ → Flow → Bool → Type 0
Behind g scope x K k = (live x K k ≡ true) × NotNamed g scope x

declared-by : (g : Ground) (ls : Locals) (l : PlainLocal) (x : ℕ) → NotNamed g ls.scope x → (K : Flow) (k : Bool) (b : Bool) → (x == ls.next) ≡ b → (if b then false else live x K k) ≡ true
    → Behind g (with_local ls l).scope x K k
declared-by g ls l x n K k true same e = false-true e
declared-by g ls l x n K k false same e = (e, with-local g ls l x n same)

declaration-passes : (g : Ground) (ls : Locals) (l : PlainLocal) (x : ℕ) → NotNamed g ls.scope x → (K : Flow) (k : Bool) → live x (in_statement (declaration g ls l).made K) k ≡ true
    → Behind g (with_local ls l).scope x K k
declaration-passes g ls l x n K k e =
    declared-by g ls l x n K k (x == ls.next) refl (value-passes x (initializer g ls.scope l).term (fitted_keeps g ls.scope x n (Of (local_type l)) l.value) (Sets ls.next K) k e)

-- ---- heads

test-keeps : (g : Ground) (scope : Scope) (x : ℕ) → NotNamed g scope x → (at : ℕ) (test : Option PlainExpr) → Keeps x (condition_if_any g scope at test).term
test-keeps g scope x n at None = λ (K : Flow) (k : Bool). refl
test-keeps g scope x n at (Some test) = fitted_keeps g scope x n (Of face.Bool) test

last-passes : (g : Ground) (scope : Scope) (x : ℕ) → NotNamed g scope x → (last : Option PlainAction) (K : Flow) (k : Bool)
    → live x (in_statements (reading.statements (last_done g scope last).made) K) k ≡ true → live x K k ≡ true
last-passes g scope x n None K k e = e
last-passes g scope x n (Some does) K k e = action-passes g scope x n does K k e

held-passes : (g : Ground) (scope : Scope) (x : ℕ) → NotNamed g scope x → (m : PlainMonitor) (s : Statement) → Passes x s → Passes x (locked_by (held_by g scope m) s)
held-passes g scope x n (p.Object v) s h K k e = h K k (value-passes x (fitted g scope Locked v).term (fitted_keeps g scope x n Locked v) (in_statement s K) k e)
held-passes g scope x n (p.Class w at) s h K k e = h K k e

return-passes : (g : Ground) (r : Option FaceTy) (scope : Scope) (x : ℕ) → NotNamed g scope x → (at : ℕ) (v : Option PlainExpr) → Passes x (returned g r scope at v).made
return-passes g r scope x n at None K k e = false-true e
return-passes g r scope x n at (Some v) K k e =
    false-true (sym (fitted_keeps g scope x n (result_place r) v _ k) ∙ e)

if-passes : (x : ℕ) (v : Term) (a b : Statement) → Keeps x v → Passes x a → Passes x b → Passes x (t.If v a b)
if-passes x v a b h i j K k e =
    either (live x (in_statement a End) (live x K k)) (live x (in_statement b End) (live x K k)) (i End (live x K k)) (j End (live x K k)) (sym (h _ k) ∙ e)

while-passes : (x : ℕ) (v : Term) (a : Statement) → Keeps x v → Passes x a → Passes x (t.While v a)
while-passes x v a h i K k e =
    either (live x K k) (live x (in_statement a (in_term v End)) (live x K k)) (λ (y : live x K k ≡ true). y)
    (λ (y : live x (in_statement a (in_term v End)) (live x K k) ≡ true). sym (h End (live x K k)) ∙ i (in_term v End) (live x K k) y) (sym (h _ k) ∙ e)

moved : (g : Ground) (ls : Locals) (s : PlainStmt) (x : ℕ) → IsPart s → StmtWritten s → NotNamed g ls.scope x → NotNamed g (behind ls s).scope x
moved g ls s x part w n = subst (λ (scope : Scope). NotNamed g scope x) (sym (part_scope ls s part w)) n

-- behind the first part of a `for`
loop-passes : (g : Ground) (r : Option FaceTy) (ls : Locals) (x : ℕ) → NotNamed g ls.scope x → (at : ℕ) (test : Option PlainExpr) (last : Option PlainAction) (does : PlainStmt) → IsPart does → StmtWritten does
    → Passes x (statement g r ls does).made
    → Passes x (t.While (condition_if_any g ls.scope at test).term (t.Block (t.statement (statement g r ls does).made (reading.statements (last_done g (behind ls does).scope last).made))))
loop-passes g r ls x n at test last does part w h =
    while-passes x (condition_if_any g ls.scope at test).term (t.Block (t.statement (statement g r ls does).made (reading.statements (last_done g (behind ls does).scope last).made)))
    (test-keeps g ls.scope x n at test)
    (λ (L : Flow) (j : Bool) i. last-passes g (behind ls does).scope x (moved g ls does x part w n) last L j (h (in_statements (reading.statements (last_done g (behind ls does).scope last).made) L) j i))

-- ---- statements

mutual
  unfolding behind behind_all statement statements branch

  part-passes : (g : Ground) (r : Option FaceTy) (ls : Locals) (x : ℕ) → NotNamed g ls.scope x → (s : PlainStmt) → IsPart s → StmtWritten s → Passes x (statement g r ls s).made
  part-passes g r ls x n (p.Block opening items closing) part w K k e = statements-pass g r ls x n items w K k e
  part-passes g r ls x n (p.Local l at) part w K k e = absurd part
  part-passes g r ls x n (p.Empty at) part w K k e = e
  part-passes g r ls x n (p.Action does at) part w K k e = action-passes g ls.scope x n does K k e
  part-passes g r ls x n (p.If at test does other) part w K k e =
      if-passes x (condition g ls.scope test).term (statement g r ls does).made (branch g r (behind ls does) other).made (fitted_keeps g ls.scope x n (Of face.Bool) test)
      (part-passes g r ls x n does w.0 w.1) (other-passes g r (behind ls does) x (moved g ls does x w.0 w.1 n) other w.2) K k e
  part-passes g r ls x n (p.While at test does) part w K k e =
      while-passes x (condition g ls.scope test).term (statement g r ls does).made (fitted_keeps g ls.scope x n (Of face.Bool) test) (part-passes g r ls x n does w.0 w.1) K k e
  part-passes g r ls x n (p.For at p.Nothing test last does) part w K k e = loop-passes g r ls x n (suc at) test last does w.2 w.3 (part-passes g r ls x n does w.2 w.3) K k e
  part-passes g r ls x n (p.For at (p.FirstLocal l) test last does) part w K k e =
      let b = declaration-passes g ls l x n _ k e in loop-passes g r (with_local ls l) x b.1 (suc at) test last does w.2 w.3 (part-passes g r (with_local ls l) x b.1 does w.2 w.3) K k b.0
  part-passes g r ls x n (p.For at (p.FirstAction act) test last does) part w K k e =
      loop-passes g r ls x n (suc at) test last does w.2 w.3 (part-passes g r ls x n does w.2 w.3) K k (action-passes g ls.scope x n act _ k e)
  part-passes g r ls x n (p.Sync at held inside) part w K k e = held-passes g ls.scope x n held (statement g r ls inside).made (part-passes g r ls x n inside w.0 w.1) K k e
  part-passes g r ls x n (p.Return at v end) part w K k e = return-passes g r ls.scope x n (suc at) v K k e

  other-passes : (g : Ground) (r : Option FaceTy) (ls : Locals) (x : ℕ) → NotNamed g ls.scope x → (ss : PlainStmts) → OtherWritten ss → Passes x (branch g r ls ss).made
  other-passes g r ls x n p.no_stmts w K k e = e
  other-passes g r ls x n (p.stmt s others) w K k e = part-passes g r ls x n s w.1 w.2 K k e

  pub step-passes : (g : Ground) (r : Option FaceTy) (ls : Locals) (x : ℕ) → NotNamed g ls.scope x → (s : PlainStmt) → StmtWritten s → (K : Flow) (k : Bool)
      → live x (in_statement (statement g r ls s).made K) k ≡ true → (live x K k ≡ true) × NotNamed g (behind ls s).scope x
  step-passes g r ls x n (p.Local l at) w K k e = declaration-passes g ls l x n K k e
  step-passes g r ls x n (p.Block opening items closing) w K k e = (statements-pass g r ls x n items w K k e, n)
  step-passes g r ls x n (p.Empty at) w K k e = (e, n)
  step-passes g r ls x n (p.Action does at) w K k e = (action-passes g ls.scope x n does K k e, n)
  step-passes g r ls x n (p.If at test does other) w K k e = (
    if-passes x (condition g ls.scope test).term (statement g r ls does).made (branch g r (behind ls does) other).made (fitted_keeps g ls.scope x n (Of face.Bool) test)
        (part-passes g r ls x n does w.0 w.1) (other-passes g r (behind ls does) x (moved g ls does x w.0 w.1 n) other w.2) K k e,
    moved g ls (p.If at test does other) x tt w n,
  )
  step-passes g r ls x n (p.While at test does) w K k e = (
    while-passes x (condition g ls.scope test).term (statement g r ls does).made (fitted_keeps g ls.scope x n (Of face.Bool) test) (part-passes g r ls x n does w.0 w.1) K k e,
    moved g ls (p.While at test does) x tt w n,
  )
  step-passes g r ls x n (p.For at p.Nothing test last does) w K k e = (loop-passes g r ls x n (suc at) test last does w.2 w.3 (part-passes g r ls x n does w.2 w.3) K k e, n)
  step-passes g r ls x n (p.For at (p.FirstLocal l) test last does) w K k e =
      let b = declaration-passes g ls l x n _ k e in (loop-passes g r (with_local ls l) x b.1 (suc at) test last does w.2 w.3 (part-passes g r (with_local ls l) x b.1 does w.2 w.3) K k b.0, n)
  step-passes g r ls x n (p.For at (p.FirstAction act) test last does) w K k e =
      (loop-passes g r ls x n (suc at) test last does w.2 w.3 (part-passes g r ls x n does w.2 w.3) K k (action-passes g ls.scope x n act _ k e), n)
  step-passes g r ls x n (p.Sync at held inside) w K k e =
      (held-passes g ls.scope x n held (statement g r ls inside).made (part-passes g r ls x n inside w.0 w.1) K k e, moved g ls (p.Sync at held inside) x tt w n)
  step-passes g r ls x n (p.Return at v end) w K k e = (return-passes g r ls.scope x n (suc at) v K k e, n)

  pub statements-pass : (g : Ground) (r : Option FaceTy) (ls : Locals) (x : ℕ) → NotNamed g ls.scope x → (ss : PlainStmts) → AllWritten ss → (K : Flow) (k : Bool)
      → live x (in_statements (reading.statements (statements g r ls ss).made) K) k ≡ true → live x K k ≡ true
  statements-pass g r ls x n p.no_stmts w K k e = e
  statements-pass g r ls x n (p.stmt s others) w K k e =
      let b = step-passes g r ls x n s w.0 (in_statements (reading.statements (statements g r (behind ls s) others).made) K) k e in
      statements-pass g r (behind ls s) x b.1 others w.1 K k b.0

-- ---- the top level of a constructor

top-step : (g : Ground) (w : Written) (ls : Locals) (x : ℕ) → NotNamed g ls.scope x → (s : PlainStmt) → StmtWritten s → (K : Flow) (k : Bool)
    → live x (in_statement (top_statement g w ls s).made K) k ≡ true → (live x K k ≡ true) × NotNamed g (behind ls s).scope x
unfolding behind
top-step g w ls x n (p.Action does at) h K k e = (top-action g ls.scope x n w does K k e, n)
top-step g w ls x n (p.Block opening items closing) h K k e = step-passes g None ls x n (p.Block opening items closing) h K k e
top-step g w ls x n (p.Local l at) h K k e = step-passes g None ls x n (p.Local l at) h K k e
top-step g w ls x n (p.Empty at) h K k e = step-passes g None ls x n (p.Empty at) h K k e
top-step g w ls x n (p.If at test does other) h K k e = step-passes g None ls x n (p.If at test does other) h K k e
top-step g w ls x n (p.While at test does) h K k e = step-passes g None ls x n (p.While at test does) h K k e
top-step g w ls x n (p.For at f test last does) h K k e = step-passes g None ls x n (p.For at f test last does) h K k e
top-step g w ls x n (p.Sync at held inside) h K k e = step-passes g None ls x n (p.Sync at held inside) h K k e
top-step g w ls x n (p.Return at v end) h K k e = step-passes g None ls x n (p.Return at v end) h K k e

pub tops-pass : (g : Ground) (w : Written) (ls : Locals) (x : ℕ) → NotNamed g ls.scope x → (ss : PlainStmts) → AllWritten ss → (K : Flow) (k : Bool)
    → live x (in_statements (reading.statements (top_statements g w ls ss).made) K) k ≡ true → live x K k ≡ true
unfolding top_statements
tops-pass g w ls x n p.no_stmts h K k e = e
tops-pass g w ls x n (p.stmt s others) h K k e =
    let more = written_behind g w ls.scope s in
    let b = top-step g w ls x n s h.0 (in_statements (reading.statements (top_statements g more (behind ls s) others).made) K) k e in
    tops-pass g more (behind ls s) x b.1 others h.1 K k b.0
