-- Each field, method, constructor and type that stands in a bound body is told by its notes.
use Rattle.std.proofs.Common.{◌≡◌, ℕ, suc, Bool, true, false, if◌then◌else◌, [], ◌++◌, inl, refl, codes, Option, Some, None}
use Rattle.class_faces.specs.declared.face.FaceTy.{FaceTy}
use Rattle.class_faces.specs.declared.face.FaceTy.TheVariants as face
use Rattle.core_model.specs.declared.instr.Op.{Op}
use Rattle.core_model.specs.declared.instr.Op.TheVariants as arithmetic
use Rattle.java_tree.specs.declared.stmt.AssignOp.{AssignOp}
use Rattle.java_tree.specs.declared.stmt.AssignOp.TheVariants as sign
use Rattle.java_tree.specs.declared.stmt.StepOp.{StepOp}
use Rattle.tree_places.specs.PlainExpr.{PlainExpr}
use Rattle.tree_places.specs.PlainStmt.{PlainTy, PlainAction, PlainLocal, PlainFirst, PlainMonitor, PlainStmt, PlainStmts}
use Rattle.tree_places.specs.PlainStmt as p
use Rattle.bound_tree.specs.Tree.{Term, stamp_of}
use Rattle.bound_tree.specs.Reading as reading
use Rattle.bound_tree.specs.Places.{What}
use Rattle.name_rules.specs.Types.{Name, Types}
use Rattle.name_rules.specs.Scopes.{Scope}
use Rattle.name_rules.specs.Places.{Place, Anywhere, Of, Locked, Started}
use Rattle.expression_binding.specs.Stamps.{type_of, spoilt_stamp}
use Rattle.expression_binding.specs.Bound.{Ground, grounded, Bound, fitted}
use Rattle.expression_binding.specs.Laws.{IsTold}
use Rattle.statement_binding.specs.DeclaredTypes.{declared, declared_notes}
use Rattle.statement_binding.specs.Done.{Done, DoneAll, one_done, before_others}
use Rattle.statement_binding.specs.Locals.{local_type, initializer, name_found, declaration}
use Rattle.statement_binding.specs.Finals.{Written, blank_target, is_first_write}
use Rattle.statement_binding.specs.Writes.{assigned_place, is_forbidden, target_if, write_notes, assigned, set, compound, changed, int_value, one, stepped, step_op, by_sign, action, top_set, by_top_sign, top_action}
use Rattle.statement_binding.specs.Heads.{condition, condition_if_any, chosen, repeated, first_done, behind_first, last_done, looped, class_notes, locked, result_place, returned}
use Rattle.statement_binding.specs.Statements.{behind, statement, branch, statements}
use Rattle.statement_binding.specs.Bodies.{Head, top_statement, written_behind, top_statements, items_of, items_done, end_notes, body}
use Rattle.binding_laws.proofs.Covered.{TermEach, IsCovered, restamped-each, term-front, term-back, fitted-covers}
use Rattle.binding_laws.proofs.EachStatement.{ValueEach, StatementEach, StatementsEach, statements-both, statement-front, statement-back, statements-front, statements-back, value-front}

-- what stands in a statement that is bound is told
abbrev pub IsDone : Name → Done → Type 0
IsDone class d = StatementEach (IsCovered class d.notes) (IsTold d.notes) d.made

abbrev pub AreDone : Name → DoneAll → Type 0
AreDone class ds = StatementsEach (IsCovered class ds.notes) (IsTold ds.notes) (reading.statements ds.made)

abbrev IsTerm : Name → Bound → Type 0
IsTerm class v = TermEach (IsCovered class v.notes) v.term

type-told : (types : Types) (ty : PlainTy) → ValueEach (IsTold (declared_notes types ty)) (type_of (declared ty))
type-told types (p.Int at) = tt
type-told types (p.Boolean at) = tt
type-told types (p.Named w) = inl refl

target-each : (P : What → Type 0) (forbidden : Bool) (to : Term) → TermEach P to → TermEach P (target_if forbidden to)
target-each P true to h = restamped-each P (spoilt_stamp false) to h
target-each P false to h = h

module _ (class : Name) where
  -- ---- statements of their parts

  assigned-covers : (forbidden : Bool) (to v : Bound) → IsTerm class to → IsTerm class v → IsDone class (assigned forbidden to v)
  assigned-covers forbidden to v h k =
      let found = write_notes forbidden to.term in let more = v.notes ++ found in (
        target-each (IsCovered class (to.notes ++ more)) forbidden to.term (term-front class to.notes more to.term h),
        term-back class to.notes more v.term (term-front class v.notes found v.term k),
      )

  compound-covers : (forbidden : Bool) (op : Op) (to v : Bound) → IsTerm class to → IsTerm class v → IsDone class (compound forbidden op to v)
  compound-covers forbidden op to v h k =
      let found = write_notes forbidden to.term in let more = v.notes ++ found in (
        target-each (IsCovered class (to.notes ++ more)) forbidden to.term (term-front class to.notes more to.term h),
        term-back class to.notes more v.term (term-front class v.notes found v.term k),
      )

  chosen-covers : (test : Bound) (does rest : Done) → IsTerm class test → IsDone class does → IsDone class rest → IsDone class (chosen test does rest)
  chosen-covers test does rest h k l =
      let more = does.notes ++ rest.notes in (
        term-front class test.notes more test.term h,
        statement-back class test.notes more does.made (statement-front class does.notes rest.notes does.made k),
        statement-back class test.notes more rest.made (statement-back class does.notes rest.notes rest.made l),
      )

  repeated-covers : (test : Bound) (does : Done) → IsTerm class test → IsDone class does → IsDone class (repeated test does)
  repeated-covers test does h k = (term-front class test.notes does.notes test.term h, statement-back class test.notes does.notes does.made k)

  looped-covers : (start : DoneAll) (test : Bound) (does : Done) (last : DoneAll) → AreDone class start → IsTerm class test → IsDone class does → AreDone class last
      → IsDone class (looped start test does last)
  looped-covers start test does last h k l m =
      let inner = does.notes ++ last.notes in let more = test.notes ++ inner in let all = start.notes ++ more in
      statements-both (IsCovered class all) (IsTold all) start.made _
      (statements-front class start.notes more (reading.statements start.made) h) (
        (
          term-back class start.notes more test.term (term-front class test.notes inner test.term k),
          (
            statement-back class start.notes more does.made (statement-back class test.notes inner does.made (statement-front class does.notes last.notes does.made l)),
            statements-back class start.notes more (reading.statements last.made)
                (statements-back class test.notes inner (reading.statements last.made) (statements-back class does.notes last.notes (reading.statements last.made) m)),
          ),
        ),
        tt,
      )

  one-covers : (d : Done) → IsDone class d → AreDone class (one_done d)
  one-covers d h = (h, tt)

  before-covers : (d : Done) (ds : DoneAll) → IsDone class d → AreDone class ds → AreDone class (before_others d ds)
  before-covers d ds h k =
      (statement-front class d.notes ds.notes d.made h, statements-back class d.notes ds.notes (reading.statements ds.made) k)

module _ (types : Types) (class : Name) (none : types (codes "String") ≡ None) (in_static : Bool) where
  abbrev ground : Ground
  ground = grounded types class in_static

  fits : (scope : Scope) (at : Place) (x : PlainExpr) → IsTerm class (fitted ground scope at x)
  fits scope at x = fitted-covers types class none in_static scope at x

  declaration-covers : (ls : _) (l : PlainLocal) → IsDone class (declaration ground ls l)
  declaration-covers ls l =
      let head = declared_notes types l.ty in
      let v = initializer ground ls.scope l in
      let found = name_found ls.scope l in (
        value-front head (v.notes ++ found) (type_of (local_type l)) (type-told types l.ty),
        term-back class head (v.notes ++ found) v.term (term-front class v.notes found v.term (fits ls.scope (Of (local_type l)) l.value)),
      )

  -- ---- actions

  set-covers : (scope : Scope) (may : Bool) (target v : PlainExpr) → IsDone class (set ground scope may target v)
  set-covers scope may target v =
      let to = fitted ground scope Anywhere target in
      let place = assigned_place (stamp_of to.term).ty in
      assigned-covers class (is_forbidden ground scope may target to.term) to (fitted ground scope place v) (fits scope Anywhere target) (fits scope place v)

  changed-covers : (scope : Scope) (op : Op) (target : PlainExpr) (v : Bound) → IsTerm class v → IsDone class (changed ground scope op target v)
  changed-covers scope op target v h =
      let to = fitted ground scope (Of face.Int) target in
      compound-covers class (is_forbidden ground scope false target to.term) op to v (fits scope (Of face.Int) target) h

  sign-covers : (scope : Scope) (op : AssignOp) (target v : PlainExpr) → IsDone class (by_sign ground scope op target v)
  sign-covers scope sign.Set target v = set-covers scope false target v
  sign-covers scope sign.Add target v = changed-covers scope arithmetic.Add target (int_value ground scope v) (fits scope (Of face.Int) v)
  sign-covers scope sign.Subtract target v = changed-covers scope arithmetic.Subtract target (int_value ground scope v) (fits scope (Of face.Int) v)

  stepped-covers : (scope : Scope) (op : StepOp) (at : ℕ) (target : PlainExpr) → IsDone class (stepped ground scope op at target)
  stepped-covers scope op at target = changed-covers scope (step_op op) target (one at) tt

  action-covers : (scope : Scope) (does : PlainAction) → IsDone class (action ground scope does)
  action-covers scope (p.Assign target op at v) = sign-covers scope op target v
  action-covers scope (p.StepAfter target op at) = stepped-covers scope op (suc at) target
  action-covers scope (p.StepBefore at op target) = stepped-covers scope op (suc at) target
  action-covers scope (p.Call call) = fits scope Anywhere call
  action-covers scope (p.New made) = fits scope Anywhere made
  action-covers scope (p.Start at v closing) = fits scope Started v

  top_set-covers : (scope : Scope) (written : Written) (target v : PlainExpr) → IsDone class (top_set ground scope written target v)
  top_set-covers scope written target v = set-covers scope (is_first_write written (blank_target ground scope target)) target v

  top_sign-covers : (scope : Scope) (written : Written) (op : AssignOp) (target v : PlainExpr) → IsDone class (by_top_sign ground scope written op target v)
  top_sign-covers scope written sign.Set target v = top_set-covers scope written target v
  top_sign-covers scope written sign.Add target v = sign-covers scope sign.Add target v
  top_sign-covers scope written sign.Subtract target v = sign-covers scope sign.Subtract target v

  top_action-covers : (scope : Scope) (written : Written) (does : PlainAction) → IsDone class (top_action ground scope written does)
  top_action-covers scope written (p.Assign target op at v) = top_sign-covers scope written op target v
  top_action-covers scope written (p.StepAfter target op at) = stepped-covers scope op (suc at) target
  top_action-covers scope written (p.StepBefore at op target) = stepped-covers scope op (suc at) target
  top_action-covers scope written (p.Call call) = fits scope Anywhere call
  top_action-covers scope written (p.New made) = fits scope Anywhere made
  top_action-covers scope written (p.Start at v closing) = fits scope Started v

  -- ---- heads

  condition_if-covers : (scope : Scope) (at : ℕ) (test : Option PlainExpr) → IsTerm class (condition_if_any ground scope at test)
  condition_if-covers scope at None = tt
  condition_if-covers scope at (Some test) = fits scope (Of face.Bool) test

  first_done-covers : (ls : _) (f : PlainFirst) → AreDone class (first_done ground ls f)
  first_done-covers ls p.Nothing = tt
  first_done-covers ls (p.FirstLocal l) = one-covers class (declaration ground ls l) (declaration-covers ls l)
  first_done-covers ls (p.FirstAction does) = one-covers class (action ground ls.scope does) (action-covers ls.scope does)

  last_done-covers : (scope : Scope) (last : Option PlainAction) → AreDone class (last_done ground scope last)
  last_done-covers scope None = tt
  last_done-covers scope (Some does) = one-covers class (action ground scope does) (action-covers scope does)

  locked-covers : (scope : Scope) (m : PlainMonitor) (d : Done) → IsDone class d → IsDone class (locked ground scope m d)
  locked-covers scope (p.Object v) d h =
      let held = fitted ground scope Locked v in
      (term-front class held.notes d.notes held.term (fits scope Locked v), statement-back class held.notes d.notes d.made h)
  locked-covers scope (p.Class w at) d h = (inl refl, statement-back class (class_notes types w) d.notes d.made h)

  returned-covers : (result : Option FaceTy) (scope : Scope) (at : ℕ) (v : Option PlainExpr) → IsDone class (returned ground result scope at v)
  returned-covers result scope at None = tt
  returned-covers result scope at (Some v) =
      let x = fitted ground scope (result_place result) v in
      term-front class x.notes _ x.term (fits scope (result_place result) v)

  -- ---- statements

  mutual
    unfolding statement

    statement-covers : (result : Option FaceTy) (ls : _) (s : PlainStmt) → IsDone class (statement ground result ls s)
    statement-covers result ls (p.Block opening items closing) = statements-covers result ls items
    statement-covers result ls (p.Local l at) = declaration-covers ls l
    statement-covers result ls (p.Empty at) = tt
    statement-covers result ls (p.Action does at) = action-covers ls.scope does
    statement-covers result ls (p.If at test does other) =
        chosen-covers class (condition ground ls.scope test) (statement ground result ls does) (branch ground result (behind ls does) other)
        (fits ls.scope (Of face.Bool) test) (statement-covers result ls does) (branch-covers result (behind ls does) other)
    statement-covers result ls (p.While at test does) =
        repeated-covers class (condition ground ls.scope test) (statement ground result ls does) (fits ls.scope (Of face.Bool) test) (statement-covers result ls does)
    statement-covers result ls (p.For at start test last does) =
        let inner = behind_first ls start in
        looped-covers class (first_done ground ls start) (condition_if_any ground inner.scope (suc at) test) (statement ground result inner does) (last_done ground (behind inner does).scope last)
        (first_done-covers ls start) (condition_if-covers inner.scope (suc at) test) (statement-covers result inner does) (last_done-covers (behind inner does).scope last)
    statement-covers result ls (p.Sync at held inside) = locked-covers ls.scope held (statement ground result ls inside) (statement-covers result ls inside)
    statement-covers result ls (p.Return at v end) = returned-covers result ls.scope (suc at) v

    branch-covers : (result : Option FaceTy) (ls : _) (other : PlainStmts) → IsDone class (branch ground result ls other)
    branch-covers result ls p.no_stmts = tt
    branch-covers result ls (p.stmt s others) = statement-covers result ls s

    statements-covers : (result : Option FaceTy) (ls : _) (items : PlainStmts) → AreDone class (statements ground result ls items)
    statements-covers result ls p.no_stmts = tt
    statements-covers result ls (p.stmt s others) =
        before-covers class (statement ground result ls s) (statements ground result (behind ls s) others) (statement-covers result ls s) (statements-covers result (behind ls s) others)

  -- ---- the top level of a constructor

  top_statement-covers : (written : Written) (ls : _) (s : PlainStmt) → IsDone class (top_statement ground written ls s)
  top_statement-covers written ls (p.Block opening items closing) = statement-covers None ls (p.Block opening items closing)
  top_statement-covers written ls (p.Local l at) = statement-covers None ls (p.Local l at)
  top_statement-covers written ls (p.Empty at) = statement-covers None ls (p.Empty at)
  top_statement-covers written ls (p.Action does at) = top_action-covers ls.scope written does
  top_statement-covers written ls (p.If at test does other) = statement-covers None ls (p.If at test does other)
  top_statement-covers written ls (p.While at test does) = statement-covers None ls (p.While at test does)
  top_statement-covers written ls (p.For at start test last does) = statement-covers None ls (p.For at start test last does)
  top_statement-covers written ls (p.Sync at held inside) = statement-covers None ls (p.Sync at held inside)
  top_statement-covers written ls (p.Return at v end) = statement-covers None ls (p.Return at v end)

  top_statements-covers : (written : Written) (ls : _) (items : PlainStmts) → AreDone class (top_statements ground written ls items)
  unfolding top_statements
  top_statements-covers written ls p.no_stmts = tt
  top_statements-covers written ls (p.stmt s others) =
      before-covers class (top_statement ground written ls s) (top_statements ground (written_behind ground written ls.scope s) (behind ls s) others)
      (top_statement-covers written ls s) (top_statements-covers (written_behind ground written ls.scope s) (behind ls s) others)

  -- ---- bodies

  either-covers : (b : Bool) (x y : DoneAll) → AreDone class x → AreDone class y → AreDone class (if b then x else y)
  either-covers true x y h k = h
  either-covers false x y h k = k

  items-covers : (head : Head) (ls : _) (items : PlainStmts) → AreDone class (items_done ground head ls items)
  items-covers head ls items =
      either-covers head.is_constructor (top_statements ground [] ls items) (statements ground head.result ls items)
      (top_statements-covers [] ls items) (statements-covers head.result ls items)

  pub body-covers : (head : Head) (scope : Scope) (local : ℕ) (s : PlainStmt) → IsDone class (body ground head scope local s)
  body-covers head scope local s =
      let ds = items_done ground head (record { scope = scope; next = local }) (items_of s) in
      statements-front class ds.notes (end_notes head s) (reading.statements ds.made) (items-covers head (record { scope = scope; next = local }) (items_of s))
