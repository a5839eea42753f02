-- The tree of the program as plain data.
use Rattle.std.specs.Prelude.{List, [], ◌∷◌, map, Option, Some, None}
use Rattle.bound_tree.specs.Tree.{Term, Terms, Statement, Statements, no_terms, term, no_statements, statement}
use Rattle.bound_tree.specs.Tree as t
use Rattle.bound_tree.specs.declared.tree.Expr.{Expr}
use Rattle.bound_tree.specs.declared.tree.Expr.TheOpen.{Expr-F}
use Rattle.bound_tree.specs.declared.tree.Expr.TheFolds.{fold-Expr}
use Rattle.bound_tree.specs.declared.tree.Stmt.{Stmt}
use Rattle.bound_tree.specs.declared.tree.Stmt.TheOpen.{Stmt-F}
use Rattle.bound_tree.specs.declared.tree.Stmt.TheFolds.{fold-Stmt}

abbrev pub terms : List Term → Terms
terms [] = no_terms
terms (e ∷ es) = term e (terms es)

abbrev pub statements : List Statement → Statements
statements [] = no_statements
statements (s ∷ ss) = statement s (statements ss)

-- one layer, whose inner expressions are plain data already
abbrev pub term_layer : Expr-F Term → Term
term_layer (Expr-F.Const s l) = t.Const s l
term_layer (Expr-F.This s) = t.This s
term_layer (Expr-F.Local s x) = t.Local s x
term_layer (Expr-F.Field s b f) = t.Field s b f
term_layer (Expr-F.Static s f) = t.Static s f
term_layer (Expr-F.New s c es) = t.New s c (terms es)
term_layer (Expr-F.Call s r m es) = t.Call s r m (terms es)
term_layer (Expr-F.CallStatic s m es) = t.CallStatic s m (terms es)
term_layer (Expr-F.Unknown s n es) = t.Unknown s n (terms es)
term_layer (Expr-F.UnknownField s b n) = t.UnknownField s b n
term_layer (Expr-F.UnknownCall s r n es) = t.UnknownCall s r n (terms es)
term_layer (Expr-F.Unary s o a) = t.Unary s o a
term_layer (Expr-F.And s a b) = t.And s a b
term_layer (Expr-F.Or s a b) = t.Or s a b
term_layer (Expr-F.Binary s o a b) = t.Binary s o a b

unfoldable pub term_of : Expr → Term
term_of = fold-Expr Term term_layer

abbrev pub terms_of : List Expr → Terms
terms_of es = terms (map term_of es)

abbrev pub term_if_any : Option Expr → Option Term
term_if_any None = None
term_if_any (Some e) = Some (term_of e)

abbrev pub statement_layer : Stmt-F Statement → Statement
statement_layer (Stmt-F.Block ss) = t.Block (statements ss)
statement_layer (Stmt-F.Declare p x ty v) = t.Declare p x ty (term_of v)
statement_layer (Stmt-F.Assign to v) = t.Assign (term_of to) (term_of v)
statement_layer (Stmt-F.Compound to o v) = t.Compound (term_of to) o (term_of v)
statement_layer (Stmt-F.Perform v) = t.Perform (term_of v)
statement_layer (Stmt-F.Start p v) = t.Start p (term_of v)
statement_layer (Stmt-F.If v a b) = t.If (term_of v) a b
statement_layer (Stmt-F.While v a) = t.While (term_of v) a
statement_layer (Stmt-F.Sync v a) = t.Sync (term_of v) a
statement_layer (Stmt-F.SyncClass p c a) = t.SyncClass p c a
statement_layer (Stmt-F.Return p) = t.Return p
statement_layer (Stmt-F.ReturnValue p v) = t.ReturnValue p (term_of v)

unfoldable pub statement_of : Stmt → Statement
statement_of = fold-Stmt Statement statement_layer

abbrev pub statements_of : List Stmt → Statements
statements_of ss = statements (map statement_of ss)
