-- Under two tables that say one thing of what a body's notes tell, it is bound to one.
use Rattle.std.proofs.Common.{◌≡◌, refl, ℕ, suc, Bool, true, false, not, ◌&&◌, if◌then◌else◌, List, [], ◌++◌, inl, inr, Option, Some, None, ap, ap₂, ◌∙◌}
use Rattle.class_faces.specs.declared.face.FaceTy.{FaceTy}
use Rattle.class_faces.specs.declared.face.FaceTy.TheVariants as face
use Rattle.std.specs.Option.{is_none}
use Rattle.result_records.specs.declared.code.FindingCode.TheVariants as code
use Rattle.name_rules.specs.Notes.{found_if}
use Rattle.core_model.specs.declared.instr.Op.{Op}
use Rattle.core_model.specs.declared.instr.Op.TheVariants as arithmetic
use Rattle.java_tree.specs.declared.stmt.AssignOp.{AssignOp}
use Rattle.java_tree.specs.declared.stmt.AssignOp.TheVariants as sign
use Rattle.java_tree.specs.declared.stmt.StepOp.{StepOp}
use Rattle.tree_places.specs.PlainExpr.{PlainLexeme, PlainExpr}
use Rattle.tree_places.specs.PlainExpr as e
use Rattle.tree_places.specs.PlainStmt.{PlainTy, PlainAction, PlainLocal, PlainFirst, PlainMonitor, PlainStmt, PlainStmts}
use Rattle.tree_places.specs.PlainStmt as p
use Rattle.bound_tree.specs.declared.name.ValueType.{ValueType}
use Rattle.bound_tree.specs.declared.name.ValueType.TheVariants as value
use Rattle.bound_tree.specs.Tree.{Term, stamp_of, is_bad}
use Rattle.name_rules.specs.declared.note.Note.{Note}
use Rattle.name_rules.specs.Types.{Name, Types, Face, field_in}
use Rattle.name_rules.specs.Scopes.{Scope, meaning_in}
use Rattle.name_rules.specs.Places.{Place, Anywhere, Of, Locked, Started}
use Rattle.expression_binding.specs.Stamps.{judged_given, type_of}
use Rattle.expression_binding.specs.Bound.{Ground, grounded, Bound, fitted}
use Rattle.expression_binding.specs.Laws.{AgreeOn, AgreeAtType, AgreeAt}
use Rattle.statement_binding.specs.DeclaredTypes.{declared, name_notes, declared_notes}
use Rattle.statement_binding.specs.Done.{Done, DoneAll, one_done, before_others, block}
use Rattle.statement_binding.specs.Locals.{local_type, name_found, declaration}
use Rattle.statement_binding.specs.Finals.{is_final, final_meaning, blank_meaning, blank_instance, name_if, is_this, blank_target, Written, is_first_write, with_written}
use Rattle.statement_binding.specs.Writes.{assigned_place, is_forbidden, assigned, set_onto, set, compound, changed_onto, changed, int_value, one, stepped, step_op, by_sign, performed, started, action, top_set, by_top_sign, top_action, by_set, field_written}
use Rattle.statement_binding.specs.Heads.{condition, condition_if_any, chosen, repeated, first_done, behind_first, last_done, looped, OnObject, OnClass, class_notes, locked_by, locked, result_place, returned}
use Rattle.statement_binding.specs.Statements.{behind, statement, branch, statements}
use Rattle.statement_binding.specs.Bodies.{Head, top_statement, field_set, written_behind, top_statements, items_of, items_done, end_notes, with_end, body}
use Rattle.bound_tree.specs.Tree as t
use Rattle.binding_laws.proofs.Told.{agree-front, agree-back}
use Rattle.binding_laws.proofs.AskedTypes.{types-asked}
use Rattle.binding_laws.proofs.Agreeing.{AgreeAtGiven, AgreeAtHad, type-agrees}
use Rattle.binding_laws.proofs.OneExpression.{one_answer}

module _ (T U : Types) (class : Name) (in_static : Bool) where
  abbrev first : Ground
  first = grounded T class in_static

  abbrev second : Ground
  second = grounded U class in_static

  abbrev Agree : List Note → Type 0
  Agree notes = AgreeOn T U class notes

  front : (ns ms : List Note) → AgreeOn T U class (ns ++ ms) → AgreeOn T U class ns
  front ns ms agree = agree-front T U class ns ms agree

  back : (ns ms : List Note) → AgreeOn T U class (ns ++ ms) → AgreeOn T U class ms
  back ns ms agree = agree-back T U class ns ms agree

  fitted-one : (scope : Scope) (at : Place) (x : PlainExpr) → AgreeOn T U class (fitted first scope at x).notes → AgreeAt T U at → fitted first scope at x ≡ fitted second scope at x
  fitted-one scope at x agree h = one_answer T U class in_static scope at x agree h

  own : (notes : List Note) → AgreeOn T U class notes → T class ≡ U class
  own notes agree = agree class (inl refl)

  -- ---- declared types

  pub declared-one : (ty : PlainTy) → AgreeOn T U class (declared_notes T ty) → declared_notes T ty ≡ declared_notes U ty
  declared-one (p.Int at) agree = refl
  declared-one (p.Boolean at) agree = refl
  declared-one (p.Named w) agree = ap (λ (f : Option Face). name_notes (λ _. f) w) (agree w.text (inr (inr (inl refl))))

  pub declared-agrees : (ty : PlainTy) → AgreeOn T U class (declared_notes T ty) → AgreeAtType T U (declared ty)
  declared-agrees (p.Int at) agree = tt
  declared-agrees (p.Boolean at) agree = tt
  declared-agrees (p.Named w) agree = agree w.text (inr (inr (inl refl)))

  -- ---- locals

  abbrev declared_by : Scope → ℕ → PlainLocal → List Note → Bound → Done
  declared_by scope next l notes v = record {
    made = t.Declare (suc l.name.at) next (type_of (local_type l)) v.term;
    notes = notes ++ (v.notes ++ name_found scope l);
  }

  declaration-one : (ls : _) (l : PlainLocal) → AgreeOn T U class (declaration first ls l).notes → declaration first ls l ≡ declaration second ls l
  declaration-one ls l agree =
      let head = front (declared_notes T l.ty) _ agree in
      let v = fitted first ls.scope (Of (local_type l)) l.value in
      ap₂ (declared_by ls.scope ls.next l) (declared-one l.ty head)
      (fitted-one ls.scope (Of (local_type l)) l.value (front v.notes _ (back (declared_notes T l.ty) _ agree)) (declared-agrees l.ty head))

  -- ---- targets

  final-one : (scope : Scope) (target : PlainExpr) (v : Term) → T class ≡ U class → is_final first scope target v ≡ is_final second scope target v
  final-one scope (e.Name w) v h = ap (λ (f : Option Face). final_meaning (meaning_in scope w.text (field_in w.text f))) h
  final-one scope _ v h = refl

  blank-one : (scope : Scope) (target : PlainExpr) → T class ≡ U class → blank_target first scope target ≡ blank_target second scope target
  blank-one scope (e.Name w) h = ap (λ (f : Option Face). name_if (blank_meaning (meaning_in scope w.text (field_in w.text f))) w.text) h
  blank-one scope (e.Select from w) h = ap (λ (f : Option Face). name_if (is_this from && blank_instance (field_in w.text f)) w.text) h
  blank-one scope _ h = refl

  forbidden-one : (scope : Scope) (may : Bool) (target : PlainExpr) (v : Term) → T class ≡ U class → is_forbidden first scope may target v ≡ is_forbidden second scope may target v
  forbidden-one scope may target v h = ap (λ (b : Bool). not (is_bad v) && (b && not may)) (final-one scope target v h)

  assigned-agrees : (ty : Option ValueType) → AgreeAtHad T U (judged_given ty) → AgreeAt T U (assigned_place ty)
  assigned-agrees None h = tt
  assigned-agrees (Some value.Int) h = tt
  assigned-agrees (Some value.Boolean) h = tt
  assigned-agrees (Some value.Null) h = tt
  assigned-agrees (Some (value.Named c)) h = h

  -- ---- actions

  set-one : (scope : Scope) (may : Bool) (target v : PlainExpr) → AgreeOn T U class (set first scope may target v).notes → set first scope may target v ≡ set second scope may target v
  set-one scope may target v agree =
      let to = fitted first scope Anywhere target in
      let on_target = front to.notes _ agree in
      let place = assigned_place (stamp_of to.term).ty in
      let value = fitted first scope place v in
      let suits = assigned-agrees (stamp_of to.term).ty (type-agrees T U class to.notes on_target (stamp_of to.term).ty (types-asked T class in_static scope Anywhere target)) in
      ap₂ (λ (b : Bool) (x : Bound). assigned b to x) (forbidden-one scope may target to.term (own to.notes on_target))
      (fitted-one scope place v (front value.notes _ (back to.notes _ agree)) suits)
      ∙ ap (λ (x : Bound). set_onto second scope may target x v) (fitted-one scope Anywhere target on_target tt)

  changed-one : (scope : Scope) (op : Op) (target : PlainExpr) (v other : Bound) → AgreeOn T U class (changed first scope op target v).notes
      → (AgreeOn T U class v.notes → v ≡ other) → changed first scope op target v ≡ changed second scope op target other
  changed-one scope op target v other agree same =
      let to = fitted first scope (Of face.Int) target in
      let on_target = front to.notes _ agree in
      ap₂ (λ (b : Bool) (x : Bound). compound b op to x) (forbidden-one scope false target to.term (own to.notes on_target)) (same (front v.notes _ (back to.notes _ agree)))
      ∙ ap (λ (x : Bound). changed_onto second scope op target x other) (fitted-one scope (Of face.Int) target on_target tt)

  sign-one : (scope : Scope) (op : AssignOp) (target v : PlainExpr) → AgreeOn T U class (by_sign first scope op target v).notes → by_sign first scope op target v ≡ by_sign second scope op target v
  sign-one scope sign.Set target v agree = set-one scope false target v agree
  sign-one scope sign.Add target v agree =
      changed-one scope arithmetic.Add target (int_value first scope v) (int_value second scope v) agree (λ h. fitted-one scope (Of face.Int) v h tt)
  sign-one scope sign.Subtract target v agree =
      changed-one scope arithmetic.Subtract target (int_value first scope v) (int_value second scope v) agree (λ h. fitted-one scope (Of face.Int) v h tt)

  stepped-one : (scope : Scope) (op : StepOp) (at : ℕ) (target : PlainExpr) → AgreeOn T U class (stepped first scope op at target).notes → stepped first scope op at target ≡ stepped second scope op at target
  stepped-one scope op at target agree = changed-one scope (step_op op) target (one at) (one at) agree (λ h. refl)

  action-one : (scope : Scope) (does : PlainAction) → AgreeOn T U class (action first scope does).notes → action first scope does ≡ action second scope does
  action-one scope (p.Assign target op at v) agree = sign-one scope op target v agree
  action-one scope (p.StepAfter target op at) agree = stepped-one scope op (suc at) target agree
  action-one scope (p.StepBefore at op target) agree = stepped-one scope op (suc at) target agree
  action-one scope (p.Call call) agree = ap performed (fitted-one scope Anywhere call agree tt)
  action-one scope (p.New made) agree = ap performed (fitted-one scope Anywhere made agree tt)
  action-one scope (p.Start at v closing) agree = ap (started (suc at)) (fitted-one scope Started v agree tt)

  top_set-one : (scope : Scope) (written : Written) (target v : PlainExpr) → AgreeOn T U class (top_set first scope written target v).notes
      → top_set first scope written target v ≡ top_set second scope written target v
  top_set-one scope written target v agree =
      let may = is_first_write written (blank_target first scope target) in
      set-one scope may target v agree
      ∙ ap (λ (name : Option Name). set second scope (is_first_write written name) target v)
      (blank-one scope target (own (set first scope may target v).notes agree))

  top_sign-one : (scope : Scope) (written : Written) (op : AssignOp) (target v : PlainExpr) → AgreeOn T U class (by_top_sign first scope written op target v).notes
      → by_top_sign first scope written op target v ≡ by_top_sign second scope written op target v
  top_sign-one scope written sign.Set target v agree = top_set-one scope written target v agree
  top_sign-one scope written sign.Add target v agree = sign-one scope sign.Add target v agree
  top_sign-one scope written sign.Subtract target v agree = sign-one scope sign.Subtract target v agree

  top_action-one : (scope : Scope) (written : Written) (does : PlainAction) → AgreeOn T U class (top_action first scope written does).notes
      → top_action first scope written does ≡ top_action second scope written does
  top_action-one scope written (p.Assign target op at v) agree = top_sign-one scope written op target v agree
  top_action-one scope written (p.StepAfter target op at) agree = stepped-one scope op (suc at) target agree
  top_action-one scope written (p.StepBefore at op target) agree = stepped-one scope op (suc at) target agree
  top_action-one scope written (p.Call call) agree = ap performed (fitted-one scope Anywhere call agree tt)
  top_action-one scope written (p.New made) agree = ap performed (fitted-one scope Anywhere made agree tt)
  top_action-one scope written (p.Start at v closing) agree = ap (started (suc at)) (fitted-one scope Started v agree tt)

  field_written-one : (scope : Scope) (does : PlainAction) → T class ≡ U class → field_written first scope does ≡ field_written second scope does
  field_written-one scope (p.Assign target op at v) h = ap (by_set op) (blank-one scope target h)
  field_written-one scope _ h = refl

  -- ---- heads

  condition_if-one : (scope : Scope) (at : ℕ) (test : Option PlainExpr) → AgreeOn T U class (condition_if_any first scope at test).notes
      → condition_if_any first scope at test ≡ condition_if_any second scope at test
  condition_if-one scope at None agree = refl
  condition_if-one scope at (Some test) agree = fitted-one scope (Of face.Bool) test agree tt

  first_done-one : (ls : _) (f : PlainFirst) → AgreeOn T U class (first_done first ls f).notes → first_done first ls f ≡ first_done second ls f
  first_done-one ls p.Nothing agree = refl
  first_done-one ls (p.FirstLocal l) agree = ap one_done (declaration-one ls l agree)
  first_done-one ls (p.FirstAction does) agree = ap one_done (action-one ls.scope does agree)

  last_done-one : (scope : Scope) (last : Option PlainAction) → AgreeOn T U class (last_done first scope last).notes → last_done first scope last ≡ last_done second scope last
  last_done-one scope None agree = refl
  last_done-one scope (Some does) agree = ap one_done (action-one scope does agree)

  abbrev on_object : Bound → Done → Done
  on_object v d = record { made = locked_by (OnObject v.term) d.made; notes = v.notes ++ d.notes }

  abbrev on_class : PlainLexeme → List Note → Done → Done
  on_class w notes d = record { made = locked_by (OnClass (suc w.at) w.text) d.made; notes = notes ++ d.notes }

  locked-one : (scope : Scope) (m : PlainMonitor) (d other : Done) → AgreeOn T U class (locked first scope m d).notes → (AgreeOn T U class d.notes → d ≡ other)
      → locked first scope m d ≡ locked second scope m other
  locked-one scope (p.Object v) d other agree same =
      let held = fitted first scope Locked v in
      ap₂ on_object (fitted-one scope Locked v (front held.notes d.notes agree) tt) (same (back held.notes d.notes agree))
  locked-one scope (p.Class w at) d other agree same =
      ap₂ (on_class w) (ap (λ (f : Option Face). class_notes (λ _. f) w) (agree w.text (inr (inr (inl refl))))) (same (back (class_notes T w) d.notes agree))

  result-agrees : (result : Option FaceTy) → AgreeAtGiven T U result → AgreeAt T U (result_place result)
  result-agrees None h = tt
  result-agrees (Some ty) h = h

  abbrev returns : Option FaceTy → ℕ → Bound → Done
  returns result at v = record { made = t.ReturnValue at v.term; notes = v.notes ++ found_if (is_none result) code.BadReturn at }

  returned-one : (result : Option FaceTy) (scope : Scope) (at : ℕ) (v : Option PlainExpr) → AgreeAtGiven T U result → AgreeOn T U class (returned first result scope at v).notes
      → returned first result scope at v ≡ returned second result scope at v
  returned-one result scope at None h agree = refl
  returned-one result scope at (Some v) h agree =
      let x = fitted first scope (result_place result) v in
      ap (returns result at) (fitted-one scope (result_place result) v (front x.notes _ agree) (result-agrees result h))

  chosen-one : (test other_test : Bound) (does other_does rest other_rest : Done) → AgreeOn T U class (chosen test does rest).notes
      → (AgreeOn T U class test.notes → test ≡ other_test) → (AgreeOn T U class does.notes → does ≡ other_does) → (AgreeOn T U class rest.notes → rest ≡ other_rest)
      → chosen test does rest ≡ chosen other_test other_does other_rest
  chosen-one test other_test does other_does rest other_rest agree one two three =
      let more = back test.notes _ agree in
      ap₂ (λ (x : Bound) (y : Done). chosen x y rest) (one (front test.notes _ agree)) (two (front does.notes rest.notes more))
      ∙ ap (chosen other_test other_does) (three (back does.notes rest.notes more))

  repeated-one : (test other_test : Bound) (does other_does : Done) → AgreeOn T U class (repeated test does).notes
      → (AgreeOn T U class test.notes → test ≡ other_test) → (AgreeOn T U class does.notes → does ≡ other_does)
      → repeated test does ≡ repeated other_test other_does
  repeated-one test other_test does other_does agree one two = ap₂ repeated (one (front test.notes does.notes agree)) (two (back test.notes does.notes agree))

  looped-one : (start other_start : DoneAll) (test other_test : Bound) (does other_does : Done) (last other_last : DoneAll) → AgreeOn T U class (looped start test does last).notes
      → (AgreeOn T U class start.notes → start ≡ other_start) → (AgreeOn T U class test.notes → test ≡ other_test)
      → (AgreeOn T U class does.notes → does ≡ other_does) → (AgreeOn T U class last.notes → last ≡ other_last)
      → looped start test does last ≡ looped other_start other_test other_does other_last
  looped-one start other_start test other_test does other_does last other_last agree one two three four =
      let behind_start = back start.notes _ agree in
      let behind_test = back test.notes _ behind_start in
      ap₂ (λ (x : DoneAll) (y : Bound). looped x y does last) (one (front start.notes _ agree)) (two (front test.notes _ behind_start))
      ∙ ap₂ (λ (x : Done) (y : DoneAll). looped other_start other_test x y) (three (front does.notes last.notes behind_test)) (four (back does.notes last.notes behind_test))

  before_others-one : (d other : Done) (ds others : DoneAll) → AgreeOn T U class (before_others d ds).notes
      → (AgreeOn T U class d.notes → d ≡ other) → (AgreeOn T U class ds.notes → ds ≡ others) → before_others d ds ≡ before_others other others
  before_others-one d other ds others agree one two = ap₂ before_others (one (front d.notes ds.notes agree)) (two (back d.notes ds.notes agree))

  -- ---- statements

  mutual
    unfolding statement

    statement-one : (result : Option FaceTy) (ls : _) (s : PlainStmt) → AgreeAtGiven T U result → AgreeOn T U class (statement first result ls s).notes
        → statement first result ls s ≡ statement second result ls s
    statement-one result ls (p.Block opening items closing) h agree = ap block (statements-one result ls items h agree)
    statement-one result ls (p.Local l at) h agree = declaration-one ls l agree
    statement-one result ls (p.Empty at) h agree = refl
    statement-one result ls (p.Action does at) h agree = action-one ls.scope does agree
    statement-one result ls (p.If at test does other) h agree =
        chosen-one (condition first ls.scope test) (condition second ls.scope test) (statement first result ls does) (statement second result ls does)
        (branch first result (behind ls does) other) (branch second result (behind ls does) other) agree
        (λ k. fitted-one ls.scope (Of face.Bool) test k tt) (statement-one result ls does h) (branch-one result (behind ls does) other h)
    statement-one result ls (p.While at test does) h agree =
        repeated-one (condition first ls.scope test) (condition second ls.scope test) (statement first result ls does) (statement second result ls does) agree
        (λ k. fitted-one ls.scope (Of face.Bool) test k tt) (statement-one result ls does h)
    statement-one result ls (p.For at start test last does) h agree =
        let inner = behind_first ls start in
        looped-one (first_done first ls start) (first_done second ls start) (condition_if_any first inner.scope (suc at) test) (condition_if_any second inner.scope (suc at) test)
        (statement first result inner does) (statement second result inner does) (last_done first (behind inner does).scope last) (last_done second (behind inner does).scope last) agree
        (first_done-one ls start) (condition_if-one inner.scope (suc at) test) (statement-one result inner does h) (last_done-one (behind inner does).scope last)
    statement-one result ls (p.Sync at held inside) h agree =
        locked-one ls.scope held (statement first result ls inside) (statement second result ls inside) agree (statement-one result ls inside h)
    statement-one result ls (p.Return at v end) h agree = returned-one result ls.scope (suc at) v h agree

    branch-one : (result : Option FaceTy) (ls : _) (other : PlainStmts) → AgreeAtGiven T U result → AgreeOn T U class (branch first result ls other).notes
        → branch first result ls other ≡ branch second result ls other
    branch-one result ls p.no_stmts h agree = refl
    branch-one result ls (p.stmt s others) h agree = statement-one result ls s h agree

    statements-one : (result : Option FaceTy) (ls : _) (items : PlainStmts) → AgreeAtGiven T U result → AgreeOn T U class (statements first result ls items).notes
        → statements first result ls items ≡ statements second result ls items
    statements-one result ls p.no_stmts h agree = refl
    statements-one result ls (p.stmt s others) h agree =
        before_others-one (statement first result ls s) (statement second result ls s) (statements first result (behind ls s) others) (statements second result (behind ls s) others) agree
        (statement-one result ls s h) (statements-one result (behind ls s) others h)

  -- ---- the top level of a constructor

  top_statement-one : (written : Written) (ls : _) (s : PlainStmt) → AgreeOn T U class (top_statement first written ls s).notes
      → top_statement first written ls s ≡ top_statement second written ls s
  top_statement-one written ls (p.Block opening items closing) agree = statement-one None ls (p.Block opening items closing) tt agree
  top_statement-one written ls (p.Local l at) agree = statement-one None ls (p.Local l at) tt agree
  top_statement-one written ls (p.Empty at) agree = statement-one None ls (p.Empty at) tt agree
  top_statement-one written ls (p.Action does at) agree = top_action-one ls.scope written does agree
  top_statement-one written ls (p.If at test does other) agree = statement-one None ls (p.If at test does other) tt agree
  top_statement-one written ls (p.While at test does) agree = statement-one None ls (p.While at test does) tt agree
  top_statement-one written ls (p.For at start test last does) agree = statement-one None ls (p.For at start test last does) tt agree
  top_statement-one written ls (p.Sync at held inside) agree = statement-one None ls (p.Sync at held inside) tt agree
  top_statement-one written ls (p.Return at v end) agree = statement-one None ls (p.Return at v end) tt agree

  field_set-one : (scope : Scope) (s : PlainStmt) → T class ≡ U class → field_set first scope s ≡ field_set second scope s
  field_set-one scope (p.Action does at) h = field_written-one scope does h
  field_set-one scope _ h = refl

  top_statements-one : (written : Written) (ls : _) (items : PlainStmts) → AgreeOn T U class (top_statements first written ls items).notes
      → top_statements first written ls items ≡ top_statements second written ls items
  unfolding top_statements
  top_statements-one written ls p.no_stmts agree = refl
  top_statements-one written ls (p.stmt s others) agree =
      before_others-one (top_statement first written ls s) (top_statement second written ls s)
      (top_statements first (written_behind first written ls.scope s) (behind ls s) others) (top_statements second (written_behind first written ls.scope s) (behind ls s) others) agree
      (top_statement-one written ls s) (top_statements-one (written_behind first written ls.scope s) (behind ls s) others)
      ∙ ap (λ (name : Option Name). before_others (top_statement second written ls s) (top_statements second (with_written written name) (behind ls s) others))
      (field_set-one ls.scope s (own (top_statements first written ls (p.stmt s others)).notes agree))

  -- ---- bodies

  either-one : (b : Bool) (x other_x y other_y : DoneAll) → AgreeOn T U class (if b then x else y).notes
      → (AgreeOn T U class x.notes → x ≡ other_x) → (AgreeOn T U class y.notes → y ≡ other_y) → (if b then x else y) ≡ (if b then other_x else other_y)
  either-one true x other_x y other_y agree one two = one agree
  either-one false x other_x y other_y agree one two = two agree

  items-one : (head : Head) (ls : _) (items : PlainStmts) → AgreeAtGiven T U head.result → AgreeOn T U class (items_done first head ls items).notes
      → items_done first head ls items ≡ items_done second head ls items
  items-one head ls items h agree =
      either-one head.is_constructor (top_statements first [] ls items) (top_statements second [] ls items) (statements first head.result ls items) (statements second head.result ls items) agree
      (top_statements-one [] ls items) (statements-one head.result ls items h)

  pub body-one : (head : Head) (scope : Scope) (local : ℕ) (s : PlainStmt) → AgreeAtGiven T U head.result → AgreeOn T U class (body first head scope local s).notes
      → body first head scope local s ≡ body second head scope local s
  body-one head scope local s h agree =
      let ds = items_done first head (record { scope = scope; next = local }) (items_of s) in
      ap (λ (d : DoneAll). with_end (block d) (end_notes head s))
      (items-one head (record { scope = scope; next = local }) (items_of s) h (front ds.notes (end_notes head s) agree))
