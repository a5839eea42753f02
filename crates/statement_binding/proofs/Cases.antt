-- What the parts of a statement are bound to is what the statement is bound to.
use Rattle.std.proofs.Common.{◌≡◌, ℕ, suc, List, ◌++◌, ◌∷◌, [], map, ap, sym, ◌∙◌, subst, append_assoc, IfOk, OnOk}
use Rattle.std.specs.Prelude.{Option, None, Result, Ok, Err}
use Rattle.std.specs.Option.{option_map}
use Rattle.desk_base.specs.declared.span.Span.{Span}
use Rattle.class_faces.specs.declared.face.FaceTy.{FaceTy}
use Rattle.java_tree.specs.declared.expr.Expr.{Expr}
use Rattle.java_tree.specs.declared.stmt.Action.{Action}
use Rattle.java_tree.specs.declared.stmt.Local.{Local}
use Rattle.java_tree.specs.declared.stmt.ForFirst.{ForFirst}
use Rattle.java_tree.specs.declared.stmt.Stmt.{Stmt}
use Rattle.java_tree.specs.declared.stmt.Stmt.TheVariants as stmt
use Rattle.java_tree.specs.declared.stmt.Block.{Block, out-Block}
use Rattle.java_tree.specs.declared.stmt.BlockItem.{BlockItem}
use Rattle.java_tree.specs.declared.stmt.BlockItem.TheVariants as item
use Rattle.tree_places.specs.PlainStmt.{PlainStmt, PlainStmts, otherwise, stmts}
use Rattle.tree_places.specs.PlainStmt as p
use Rattle.tree_places.specs.Plain.{plain_expr, plain_action, plain_local, plain_first, plain_item, plain_stmt, plain_block}
use Rattle.tree_places.proofs.PlainShapes.{plain_item-Local, plain_stmt-If, plain_stmt-For, plain_stmt-Return}
use Rattle.bound_tree.specs.Tree.{Term, Statement}
use Rattle.bound_tree.specs.Tree as t
use Rattle.name_rules.specs.declared.note.Note.{Note}
use Rattle.expression_binding.specs.Bound.{Ground}
use Rattle.statement_binding.specs.declared.locals.Locals.{Locals}
use Rattle.statement_binding.specs.Done.{Done, DoneAll, block_of}
use Rattle.statement_binding.specs.Locals.{declaration, ended}
use Rattle.statement_binding.specs.Heads.{condition, condition_if_any, chosen, looped, first_done, behind_first, last_done, returned}
use Rattle.statement_binding.specs.Statements.{behind, behind_all, branch, statement}
use Rattle.statement_binding.specs.Finals.{Written}
use Rattle.statement_binding.specs.Bodies.{top_statement, items_of}
use Rattle.statement_binding.proofs.Blocks.{block_items}
use Rattle.statement_binding.proofs.Shapes.{statement-Local, statement-If, statement-For, statement-Return, behind-If}

pub on_ok : {T E P : Type 0} (r : Result T E) → P → OnOk r P
on_ok (Ok x) holds = holds
on_ok (Err e) holds = tt

pub local_done : (g : Ground) (r : Option FaceTy) (ls : Locals) (number : Span → ℕ) (i : BlockItem) (l : Local) (at : Span) → i ≡ item.Local l at
    → declaration g ls (plain_local number l) ≡ statement g r ls (plain_item number i)
local_done g r ls number i l at is =
    sym (ap (λ (x : BlockItem). statement g r ls (plain_item number x)) is
    ∙ ap (statement g r ls) (plain_item-Local number l at) ∙ statement-Local g r ls (plain_local number l) (number at))

pub return_done : (g : Ground) (r : Option FaceTy) (ls : Locals) (number : Span → ℕ) (s : Stmt) (at : Span) (v : Option Expr) (end : Span) (n : ℕ) → s ≡ stmt.Return at v end → n ≡ suc (number at)
    → returned g r ls.scope n (option_map (plain_expr number) v) ≡ statement g r ls (plain_stmt number s)
return_done g r ls number s at v end n is place =
    ap (λ (m : ℕ). returned g r ls.scope m (option_map (plain_expr number) v)) place
    ∙ sym (ap (λ (x : Stmt). statement g r ls (plain_stmt number x)) is
    ∙ ap (statement g r ls) (plain_stmt-Return number at v end) ∙ statement-Return g r ls (number at) (option_map (plain_expr number) v) (number end))

-- ---- `if`

pub if_done : (g : Ground) (r : Option FaceTy) (ls : Locals) (number : Span → ℕ) (s : Stmt) (at : Span) (test : Expr) (does : Stmt) (other : Option Stmt) → s ≡ stmt.If at test does other
    → chosen (condition g ls.scope (plain_expr number test)) (statement g r ls (plain_stmt number does)) (branch g r (behind ls (plain_stmt number does)) (otherwise (option_map (plain_stmt number) other)))
    ≡ statement g r ls (plain_stmt number s)
if_done g r ls number s at test does other is =
    sym (ap (λ (x : Stmt). statement g r ls (plain_stmt number x)) is
    ∙ ap (statement g r ls) (plain_stmt-If number at test does other)
    ∙ statement-If g r ls (number at) (plain_expr number test) (plain_stmt number does) (otherwise (option_map (plain_stmt number) other)))

pub if_made : (g : Ground) (r : Option FaceTy) (ls mid : Locals) (number : Span → ℕ) (s : Stmt) (at : Span) (test : Expr) (does got : Stmt) (other : Option Stmt) (v : Term) (a b : Statement)
    → s ≡ stmt.If at test does other → got ≡ does
    → v ≡ (condition g ls.scope (plain_expr number test)).term
    → a ≡ (statement g r ls (plain_stmt number got)).made
    → mid ≡ behind ls (plain_stmt number got)
    → b ≡ (branch g r mid (otherwise (option_map (plain_stmt number) other))).made
    → t.If v a b ≡ (statement g r ls (plain_stmt number s)).made
if_made g r ls mid number s at test does got other v a b is same e1 e2 e3 e4 =
    ap (λ (x : Term). t.If x a b) e1 ∙ ap (λ (x : Statement). t.If (condition g ls.scope (plain_expr number test)).term x b) e2
    ∙ ap (λ (x : Statement). t.If (condition g ls.scope (plain_expr number test)).term (statement g r ls (plain_stmt number got)).made x)
    (e4 ∙ ap (λ (m : Locals). (branch g r m (otherwise (option_map (plain_stmt number) other))).made) e3)
    ∙ ap (λ (y : Stmt). (chosen (condition g ls.scope (plain_expr number test)) (statement g r ls (plain_stmt number y)) (branch g r (behind ls (plain_stmt number y)) (otherwise (option_map (plain_stmt number) other)))).made) same
    ∙ ap (λ (d : Done). d.made) (if_done g r ls number s at test does other is)

pub if_notes : (g : Ground) (r : Option FaceTy) (ls mid : Locals) (number : Span → ℕ) (s : Stmt) (at : Span) (test : Expr) (does got : Stmt) (other : Option Stmt) (first n1 n2 n3 : List Note)
    → s ≡ stmt.If at test does other → got ≡ does
    → n1 ≡ first ++ (condition g ls.scope (plain_expr number test)).notes
    → n2 ≡ n1 ++ (statement g r ls (plain_stmt number got)).notes
    → mid ≡ behind ls (plain_stmt number got)
    → n3 ≡ n2 ++ (branch g r mid (otherwise (option_map (plain_stmt number) other))).notes
    → n3 ≡ first ++ (statement g r ls (plain_stmt number s)).notes
if_notes g r ls mid number s at test does got other first n1 n2 n3 is same e1 e2 e3 e4 =
    let c = (condition g ls.scope (plain_expr number test)).notes in
    let d = (statement g r ls (plain_stmt number got)).notes in
    let o = (branch g r (behind ls (plain_stmt number got)) (otherwise (option_map (plain_stmt number) other))).notes in
    e4 ∙ ap (λ (m : Locals). n2 ++ (branch g r m (otherwise (option_map (plain_stmt number) other))).notes) e3
    ∙ ap (λ (l : List Note). l ++ o) (e2 ∙ ap (λ (l : List Note). l ++ d) e1)
    ∙ append_assoc (first ++ c) d o ∙ append_assoc first c (d ++ o)
    ∙ ap (λ (y : Stmt). first ++ (chosen (condition g ls.scope (plain_expr number test)) (statement g r ls (plain_stmt number y)) (branch g r (behind ls (plain_stmt number y)) (otherwise (option_map (plain_stmt number) other)))).notes) same
    ∙ ap (λ (d : Done). first ++ d.notes) (if_done g r ls number s at test does other is)

pub if_behind : (ls mid end : Locals) (number : Span → ℕ) (s : Stmt) (at : Span) (test : Expr) (does got : Stmt) (other : Option Stmt)
    → s ≡ stmt.If at test does other → got ≡ does → mid ≡ behind ls (plain_stmt number got) → end ≡ behind_all mid (otherwise (option_map (plain_stmt number) other))
    → end ≡ behind ls (plain_stmt number s)
if_behind ls mid end number s at test does got other is same e3 e4 =
    e4 ∙ ap (λ (m : Locals). behind_all m (otherwise (option_map (plain_stmt number) other))) (e3 ∙ ap (λ (y : Stmt). behind ls (plain_stmt number y)) same)
    ∙ sym (ap (λ (x : Stmt). behind ls (plain_stmt number x)) is
    ∙ ap (behind ls) (plain_stmt-If number at test does other)
    ∙ behind-If ls (number at) (plain_expr number test) (plain_stmt number does) (otherwise (option_map (plain_stmt number) other)))

-- ---- `for`

abbrev pub for_parts : Ground → Option FaceTy → Locals → (Span → ℕ) → ℕ → ForFirst → Option Expr → Option Action → Stmt → Done
for_parts g r ls number n first test last does =
    looped (first_done g ls (plain_first number first)) (condition_if_any g (behind_first ls (plain_first number first)).scope n (option_map (plain_expr number) test))
    (statement g r (behind_first ls (plain_first number first)) (plain_stmt number does))
    (last_done g (behind (behind_first ls (plain_first number first)) (plain_stmt number does)).scope (option_map (plain_action number) last))

pub for_done : (g : Ground) (r : Option FaceTy) (ls : Locals) (number : Span → ℕ) (s : Stmt) (at : Span) (first : ForFirst) (test : Option Expr) (last : Option Action) (does got : Stmt) (n : ℕ)
    → s ≡ stmt.For at first test last does → got ≡ does → n ≡ suc (number at)
    → for_parts g r ls number n first test last got ≡ statement g r ls (plain_stmt number s)
for_done g r ls number s at first test last does got n is same place =
    ap (λ (y : Stmt). for_parts g r ls number n first test last y) same
    ∙ ap (λ (m : ℕ). for_parts g r ls number m first test last does) place
    ∙ sym (ap (λ (x : Stmt). statement g r ls (plain_stmt number x)) is
    ∙ ap (statement g r ls) (plain_stmt-For number at first test last does)
    ∙ statement-For g r ls (number at) (plain_first number first) (option_map (plain_expr number) test) (option_map (plain_action number) last) (plain_stmt number does))

-- the parts, each bound behind those before it
pub record ForBound (g : Ground) (r : Option FaceTy) (ls : Locals) (number : Span → ℕ) (n : ℕ) (first : ForFirst) (test : Option Expr) (last : Option Action) (got : Stmt) (one two : Locals) : Type 0 where
  pub entered : one ≡ behind_first ls (plain_first number first)
  pub through : two ≡ behind one (plain_stmt number got)

pub for_made : (g : Ground) (r : Option FaceTy) (ls : Locals) (number : Span → ℕ) (n : ℕ) (first : ForFirst) (test : Option Expr) (last : Option Action) (got : Stmt) (one two : Locals)
    → (f : List Statement) (v : Term) (a b : Statement)
    → ForBound g r ls number n first test last got one two
    → f ≡ (first_done g ls (plain_first number first)).made
    → v ≡ (condition_if_any g one.scope n (option_map (plain_expr number) test)).term
    → a ≡ (statement g r one (plain_stmt number got)).made
    → b ≡ block_of (a ∷ (last_done g two.scope (option_map (plain_action number) last)).made)
    → block_of (f ++ t.While v b ∷ []) ≡ (for_parts g r ls number n first test last got).made
for_made g r ls number n first test last got one two f v a b bound e1 e2 e3 e4 =
    let D = plain_stmt number got in
    let L = option_map (plain_action number) last in
    let X = option_map (plain_expr number) test in
    ap (λ (l : List Statement). block_of (l ++ t.While v b ∷ [])) e1
    ∙ ap (λ (w : Statement). block_of ((first_done g ls (plain_first number first)).made ++ w ∷ []))
    (ap (λ (x : Term). t.While x b) e2
    ∙ ap (λ (x : Statement). t.While (condition_if_any g one.scope n X).term x) (e4 ∙ ap (λ (y : Statement). block_of (y ∷ (last_done g two.scope L).made)) e3)
    ∙ ap (λ (m : Locals). t.While (condition_if_any g one.scope n X).term (block_of ((statement g r one D).made ∷ (last_done g m.scope L).made))) bound.through
    ∙ ap (λ (m : Locals). t.While (condition_if_any g m.scope n X).term (block_of ((statement g r m D).made ∷ (last_done g (behind m D).scope L).made))) bound.entered)

pub for_notes : (g : Ground) (r : Option FaceTy) (ls : Locals) (number : Span → ℕ) (n : ℕ) (first : ForFirst) (test : Option Expr) (last : Option Action) (got : Stmt) (one two : Locals)
    → (before n1 n2 n3 n4 : List Note)
    → ForBound g r ls number n first test last got one two
    → n1 ≡ before ++ (first_done g ls (plain_first number first)).notes
    → n2 ≡ n1 ++ (condition_if_any g one.scope n (option_map (plain_expr number) test)).notes
    → n3 ≡ n2 ++ (statement g r one (plain_stmt number got)).notes
    → n4 ≡ n3 ++ (last_done g two.scope (option_map (plain_action number) last)).notes
    → n4 ≡ before ++ (for_parts g r ls number n first test last got).notes
for_notes g r ls number n first test last got one two before n1 n2 n3 n4 bound e1 e2 e3 e4 =
    let D = plain_stmt number got in
    let L = option_map (plain_action number) last in
    let X = option_map (plain_expr number) test in
    let F = (first_done g ls (plain_first number first)).notes in
    let C = (condition_if_any g one.scope n X).notes in
    let S = (statement g r one D).notes in
    let Z = (last_done g two.scope L).notes in
    e4 ∙ ap (λ (l : List Note). l ++ Z) (e3 ∙ ap (λ (l : List Note). l ++ S) (e2 ∙ ap (λ (l : List Note). l ++ C) e1))
    ∙ append_assoc ((before ++ F) ++ C) S Z ∙ append_assoc (before ++ F) C (S ++ Z) ∙ append_assoc before F (C ++ (S ++ Z))
    ∙ ap (λ (m : Locals). before ++ (F ++ (C ++ (S ++ (last_done g m.scope L).notes)))) bound.through
    ∙ ap (λ (m : Locals). before ++ (F ++ ((condition_if_any g m.scope n X).notes ++ ((statement g r m D).notes ++ (last_done g (behind m D).scope L).notes)))) bound.entered

-- ---- at the top level of a constructor

pub top_local_done : (g : Ground) (written : Written) (ls : Locals) (number : Span → ℕ) (i : BlockItem) (l : Local) (at : Span) → i ≡ item.Local l at
    → declaration g ls (plain_local number l) ≡ top_statement g written ls (plain_item number i)
top_local_done g written ls number i l at is =
    sym (ap (λ (x : BlockItem). top_statement g written ls (plain_item number x)) is
    ∙ ap (top_statement g written ls) (plain_item-Local number l at) ∙ statement-Local g None ls (plain_local number l) (number at))

-- ---- bodies

pub body_items : (number : Span → ℕ) (b : Block) (list : List BlockItem) → list ≡ (out-Block b).items → stmts (map (plain_item number) list) ≡ items_of (plain_block number b)
body_items number b list same = ap (λ (l : List BlockItem). stmts (map (plain_item number) l)) same ∙ sym (ap items_of (block_items number b))
