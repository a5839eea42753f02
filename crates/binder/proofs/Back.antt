-- Trees of the program are told apart by what they are as plain data: each is made again of that.
use Rattle.std.proofs.Common.{◌≡◌, List, [], ◌∷◌, map, refl, sym, ap, ◌∙◌, subst}
use Rattle.bound_tree.specs.Tree.{Term, Terms, Statement, Statements}
use Rattle.bound_tree.specs.Tree as t
use Rattle.bound_tree.specs.Reading.{statement_of, statements, term_of, terms}
use Rattle.bound_tree.specs.declared.tree.Expr.{Expr, map-Expr, roll-Expr}
use Rattle.bound_tree.specs.declared.tree.Expr.TheVariants as e
use Rattle.bound_tree.specs.declared.tree.Expr.TheOpen.{Expr-F}
use Rattle.bound_tree.specs.declared.tree.Expr.TheFolds.{ind-Expr}
use Rattle.bound_tree.specs.declared.tree.Stmt.{Stmt, map-Stmt, roll-Stmt}
use Rattle.bound_tree.specs.declared.tree.Stmt.TheVariants as s
use Rattle.bound_tree.specs.declared.tree.Stmt.TheOpen.{Stmt-F}
use Rattle.bound_tree.specs.declared.tree.Stmt.TheFolds.{ind-Stmt}
use Rattle.bound_tree.proofs.Readings as read

-- ---- expressions

mutual
  expr_from : Term → Expr
  expr_from (t.Const p l) = e.Const p l
  expr_from (t.This p) = e.This p
  expr_from (t.Local p x) = e.Local p x
  expr_from (t.Field p b f) = e.Field p (expr_from b) f
  expr_from (t.Static p f) = e.Static p f
  expr_from (t.New p c xs) = e.New p c (exprs_from xs)
  expr_from (t.Call p r m xs) = e.Call p (expr_from r) m (exprs_from xs)
  expr_from (t.CallStatic p m xs) = e.CallStatic p m (exprs_from xs)
  expr_from (t.Unknown p n xs) = e.Unknown p n (exprs_from xs)
  expr_from (t.UnknownField p b n) = e.UnknownField p (expr_from b) n
  expr_from (t.UnknownCall p r n xs) = e.UnknownCall p (expr_from r) n (exprs_from xs)
  expr_from (t.Unary p o a) = e.Unary p o (expr_from a)
  expr_from (t.And p a b) = e.And p (expr_from a) (expr_from b)
  expr_from (t.Or p a b) = e.Or p (expr_from a) (expr_from b)
  expr_from (t.Binary p o a b) = e.Binary p o (expr_from a) (expr_from b)

  exprs_from : Terms → List Expr
  exprs_from t.no_terms = []
  exprs_from (t.term x xs) = expr_from x ∷ exprs_from xs

abbrev IsBack : Expr → Type 0
IsBack a = expr_from (term_of a) ≡ a

module _ {S : Type 0} (get : S → Expr) (back : (x : S) → IsBack (get x)) where
  backs : (xs : List S) → exprs_from (terms (map term_of (map get xs))) ≡ map get xs
  unfolding exprs_from
  backs [] = refl
  backs (x ∷ xs) = let one = back x in let more = backs xs in λ i. one i ∷ more i

  layer_back : (y : Expr-F S) → IsBack (roll-Expr (map-Expr S Expr get y))
  unfolding expr_from
  layer_back (Expr-F.Const p l) =
      subst IsBack (sym (e.rolls-Const p l)) (ap expr_from (read.term_of-Const p l))
  layer_back (Expr-F.This p) =
      subst IsBack (sym (e.rolls-This p)) (ap expr_from (read.term_of-This p))
  layer_back (Expr-F.Local p x) =
      subst IsBack (sym (e.rolls-Local p x)) (ap expr_from (read.term_of-Local p x))
  layer_back (Expr-F.Field p b f) =
      let b1 = back b in subst IsBack (sym (e.rolls-Field p (get b) f)) (ap expr_from (read.term_of-Field p (get b) f) ∙ (λ i. e.Field p (b1 i) f))
  layer_back (Expr-F.Static p f) =
      subst IsBack (sym (e.rolls-Static p f)) (ap expr_from (read.term_of-Static p f))
  layer_back (Expr-F.New p c xs) =
      let xs1 = backs xs in subst IsBack (sym (e.rolls-New p c (map get xs))) (ap expr_from (read.term_of-New p c (map get xs)) ∙ (λ i. e.New p c (xs1 i)))
  layer_back (Expr-F.Call p r m xs) =
      let r1 = back r in let xs1 = backs xs in subst IsBack (sym (e.rolls-Call p (get r) m (map get xs))) (ap expr_from (read.term_of-Call p (get r) m (map get xs)) ∙ (λ i. e.Call p (r1 i) m (xs1 i)))
  layer_back (Expr-F.CallStatic p m xs) =
      let xs1 = backs xs in subst IsBack (sym (e.rolls-CallStatic p m (map get xs))) (ap expr_from (read.term_of-CallStatic p m (map get xs)) ∙ (λ i. e.CallStatic p m (xs1 i)))
  layer_back (Expr-F.Unknown p n xs) =
      let xs1 = backs xs in subst IsBack (sym (e.rolls-Unknown p n (map get xs))) (ap expr_from (read.term_of-Unknown p n (map get xs)) ∙ (λ i. e.Unknown p n (xs1 i)))
  layer_back (Expr-F.UnknownField p b n) =
      let b1 = back b in subst IsBack (sym (e.rolls-UnknownField p (get b) n)) (ap expr_from (read.term_of-UnknownField p (get b) n) ∙ (λ i. e.UnknownField p (b1 i) n))
  layer_back (Expr-F.UnknownCall p r n xs) =
      let r1 = back r in let xs1 = backs xs in subst IsBack (sym (e.rolls-UnknownCall p (get r) n (map get xs))) (ap expr_from (read.term_of-UnknownCall p (get r) n (map get xs)) ∙ (λ i. e.UnknownCall p (r1 i) n (xs1 i)))
  layer_back (Expr-F.Unary p o a) =
      let a1 = back a in subst IsBack (sym (e.rolls-Unary p o (get a))) (ap expr_from (read.term_of-Unary p o (get a)) ∙ (λ i. e.Unary p o (a1 i)))
  layer_back (Expr-F.And p a b) =
      let a1 = back a in let b1 = back b in subst IsBack (sym (e.rolls-And p (get a) (get b))) (ap expr_from (read.term_of-And p (get a) (get b)) ∙ (λ i. e.And p (a1 i) (b1 i)))
  layer_back (Expr-F.Or p a b) =
      let a1 = back a in let b1 = back b in subst IsBack (sym (e.rolls-Or p (get a) (get b))) (ap expr_from (read.term_of-Or p (get a) (get b)) ∙ (λ i. e.Or p (a1 i) (b1 i)))
  layer_back (Expr-F.Binary p o a b) =
      let a1 = back a in let b1 = back b in subst IsBack (sym (e.rolls-Binary p o (get a) (get b))) (ap expr_from (read.term_of-Binary p o (get a) (get b)) ∙ (λ i. e.Binary p o (a1 i) (b1 i)))

expr_back : (a : Expr) → expr_from (term_of a) ≡ a
expr_back = ind-Expr IsBack (λ x y is. subst (λ f. IsBack (roll-Expr f)) is (layer_back (λ (z : (a : Expr) × IsBack a). z.0) (λ z. z.1) y))

-- ---- statements

mutual
  stmt_from : Statement → Stmt
  stmt_from (t.Block ss) = s.Block (stmts_from ss)
  stmt_from (t.Declare p x ty v) = s.Declare p x ty (expr_from v)
  stmt_from (t.Assign to v) = s.Assign (expr_from to) (expr_from v)
  stmt_from (t.Compound to o v) = s.Compound (expr_from to) o (expr_from v)
  stmt_from (t.Perform v) = s.Perform (expr_from v)
  stmt_from (t.Start p v) = s.Start p (expr_from v)
  stmt_from (t.If v a b) = s.If (expr_from v) (stmt_from a) (stmt_from b)
  stmt_from (t.While v a) = s.While (expr_from v) (stmt_from a)
  stmt_from (t.Sync v a) = s.Sync (expr_from v) (stmt_from a)
  stmt_from (t.SyncClass p c a) = s.SyncClass p c (stmt_from a)
  stmt_from (t.Return p) = s.Return p
  stmt_from (t.ReturnValue p v) = s.ReturnValue p (expr_from v)

  stmts_from : Statements → List Stmt
  stmts_from t.no_statements = []
  stmts_from (t.statement x xs) = stmt_from x ∷ stmts_from xs

abbrev IsStmtBack : Stmt → Type 0
IsStmtBack a = stmt_from (statement_of a) ≡ a

module _ {S : Type 0} (get : S → Stmt) (back : (x : S) → IsStmtBack (get x)) where
  stmts_back : (xs : List S) → stmts_from (statements (map statement_of (map get xs))) ≡ map get xs
  unfolding stmts_from
  stmts_back [] = refl
  stmts_back (x ∷ xs) = let one = back x in let more = stmts_back xs in λ i. one i ∷ more i

  stmt_layer_back : (y : Stmt-F S) → IsStmtBack (roll-Stmt (map-Stmt S Stmt get y))
  unfolding stmt_from
  stmt_layer_back (Stmt-F.Block ss) =
      let ss1 = stmts_back ss in subst IsStmtBack (sym (s.rolls-Block (map get ss))) (ap stmt_from (read.statement_of-Block (map get ss)) ∙ (λ i. s.Block (ss1 i)))
  stmt_layer_back (Stmt-F.Declare p x ty v) =
      let v1 = expr_back v in subst IsStmtBack (sym (s.rolls-Declare p x ty v)) (ap stmt_from (read.statement_of-Declare p x ty v) ∙ (λ i. s.Declare p x ty (v1 i)))
  stmt_layer_back (Stmt-F.Assign to v) =
      let to1 = expr_back to in let v1 = expr_back v in subst IsStmtBack (sym (s.rolls-Assign to v)) (ap stmt_from (read.statement_of-Assign to v) ∙ (λ i. s.Assign (to1 i) (v1 i)))
  stmt_layer_back (Stmt-F.Compound to o v) =
      let to1 = expr_back to in let v1 = expr_back v in subst IsStmtBack (sym (s.rolls-Compound to o v)) (ap stmt_from (read.statement_of-Compound to o v) ∙ (λ i. s.Compound (to1 i) o (v1 i)))
  stmt_layer_back (Stmt-F.Perform v) =
      let v1 = expr_back v in subst IsStmtBack (sym (s.rolls-Perform v)) (ap stmt_from (read.statement_of-Perform v) ∙ (λ i. s.Perform (v1 i)))
  stmt_layer_back (Stmt-F.Start p v) =
      let v1 = expr_back v in subst IsStmtBack (sym (s.rolls-Start p v)) (ap stmt_from (read.statement_of-Start p v) ∙ (λ i. s.Start p (v1 i)))
  stmt_layer_back (Stmt-F.If v a b) =
      let v1 = expr_back v in let a1 = back a in let b1 = back b in subst IsStmtBack (sym (s.rolls-If v (get a) (get b))) (ap stmt_from (read.statement_of-If v (get a) (get b)) ∙ (λ i. s.If (v1 i) (a1 i) (b1 i)))
  stmt_layer_back (Stmt-F.While v a) =
      let v1 = expr_back v in let a1 = back a in subst IsStmtBack (sym (s.rolls-While v (get a))) (ap stmt_from (read.statement_of-While v (get a)) ∙ (λ i. s.While (v1 i) (a1 i)))
  stmt_layer_back (Stmt-F.Sync v a) =
      let v1 = expr_back v in let a1 = back a in subst IsStmtBack (sym (s.rolls-Sync v (get a))) (ap stmt_from (read.statement_of-Sync v (get a)) ∙ (λ i. s.Sync (v1 i) (a1 i)))
  stmt_layer_back (Stmt-F.SyncClass p c a) =
      let a1 = back a in subst IsStmtBack (sym (s.rolls-SyncClass p c (get a))) (ap stmt_from (read.statement_of-SyncClass p c (get a)) ∙ (λ i. s.SyncClass p c (a1 i)))
  stmt_layer_back (Stmt-F.Return p) =
      subst IsStmtBack (sym (s.rolls-Return p)) (ap stmt_from (read.statement_of-Return p))
  stmt_layer_back (Stmt-F.ReturnValue p v) =
      let v1 = expr_back v in subst IsStmtBack (sym (s.rolls-ReturnValue p v)) (ap stmt_from (read.statement_of-ReturnValue p v) ∙ (λ i. s.ReturnValue p (v1 i)))

stmt_back : (a : Stmt) → stmt_from (statement_of a) ≡ a
stmt_back = ind-Stmt IsStmtBack (λ x y is. subst (λ f. IsStmtBack (roll-Stmt f)) is (stmt_layer_back (λ (z : (a : Stmt) × IsStmtBack a). z.0) (λ z. z.1) y))

-- statements that are one as plain data are one
pub one_statement : (a b : Stmt) → statement_of a ≡ statement_of b → a ≡ b
one_statement a b same = sym (stmt_back a) ∙ (ap stmt_from same ∙ stmt_back b)
