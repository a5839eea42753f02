-- What each construct of the tree is as plain data: one equation a variant.
use Rattle.std.proofs.Common.{◌≡◌, ℕ, List, sym, ap, ◌∙◌}
use Rattle.core_model.specs.declared.instr.Op.{Op}
use Rattle.bound_tree.specs.Tree.{Term, Statement}
use Rattle.bound_tree.specs.Tree as t
use Rattle.bound_tree.specs.Reading.{term_layer, term_of, terms_of, statement_layer, statement_of, statements_of}
use Rattle.bound_tree.specs.declared.name.ValueType.{ValueType}
use Rattle.bound_tree.specs.declared.name.FieldName.{FieldName}
use Rattle.bound_tree.specs.declared.name.MemberName.{MemberName}
use Rattle.bound_tree.specs.declared.tree.Stamp.{Stamp}
use Rattle.bound_tree.specs.declared.tree.Literal.{Literal}
use Rattle.bound_tree.specs.declared.tree.UnaryOp.{UnaryOp}
use Rattle.bound_tree.specs.declared.tree.Expr.{Expr}
use Rattle.bound_tree.specs.declared.tree.Expr.TheVariants as e
use Rattle.bound_tree.specs.declared.tree.Expr.TheOpen.{Expr-F}
use Rattle.bound_tree.specs.declared.tree.Expr.TheFolds.{fold-roll-Expr}
use Rattle.bound_tree.specs.declared.tree.Stmt.{Stmt}
use Rattle.bound_tree.specs.declared.tree.Stmt.TheVariants as s
use Rattle.bound_tree.specs.declared.tree.Stmt.TheOpen.{Stmt-F}
use Rattle.bound_tree.specs.declared.tree.Stmt.TheFolds.{fold-roll-Stmt}

pub term_of-Const : (p : Stamp) (l : Literal) → term_of (e.Const p l) ≡ t.Const p l
unfolding term_of
term_of-Const p l = ap term_of (sym (e.rolls-Const p l)) ∙ fold-roll-Expr Term term_layer (Expr-F.Const p l)

pub term_of-This : (p : Stamp) → term_of (e.This p) ≡ t.This p
unfolding term_of
term_of-This p = ap term_of (sym (e.rolls-This p)) ∙ fold-roll-Expr Term term_layer (Expr-F.This p)

pub term_of-Local : (p : Stamp) (x : ℕ) → term_of (e.Local p x) ≡ t.Local p x
unfolding term_of
term_of-Local p x = ap term_of (sym (e.rolls-Local p x)) ∙ fold-roll-Expr Term term_layer (Expr-F.Local p x)

pub term_of-Field : (p : Stamp) (b : Expr) (f : FieldName) → term_of (e.Field p b f) ≡ t.Field p (term_of b) f
unfolding term_of
term_of-Field p b f = ap term_of (sym (e.rolls-Field p b f)) ∙ fold-roll-Expr Term term_layer (Expr-F.Field p b f)

pub term_of-Static : (p : Stamp) (f : FieldName) → term_of (e.Static p f) ≡ t.Static p f
unfolding term_of
term_of-Static p f = ap term_of (sym (e.rolls-Static p f)) ∙ fold-roll-Expr Term term_layer (Expr-F.Static p f)

pub term_of-New : (p : Stamp) (c : List ℕ) (xs : List Expr) → term_of (e.New p c xs) ≡ t.New p c (terms_of xs)
unfolding term_of
term_of-New p c xs = ap term_of (sym (e.rolls-New p c xs)) ∙ fold-roll-Expr Term term_layer (Expr-F.New p c xs)

pub term_of-Call : (p : Stamp) (r : Expr) (m : MemberName) (xs : List Expr) → term_of (e.Call p r m xs) ≡ t.Call p (term_of r) m (terms_of xs)
unfolding term_of
term_of-Call p r m xs = ap term_of (sym (e.rolls-Call p r m xs)) ∙ fold-roll-Expr Term term_layer (Expr-F.Call p r m xs)

pub term_of-CallStatic : (p : Stamp) (m : MemberName) (xs : List Expr) → term_of (e.CallStatic p m xs) ≡ t.CallStatic p m (terms_of xs)
unfolding term_of
term_of-CallStatic p m xs = ap term_of (sym (e.rolls-CallStatic p m xs)) ∙ fold-roll-Expr Term term_layer (Expr-F.CallStatic p m xs)

pub term_of-Unknown : (p : Stamp) (n : List ℕ) (xs : List Expr) → term_of (e.Unknown p n xs) ≡ t.Unknown p n (terms_of xs)
unfolding term_of
term_of-Unknown p n xs = ap term_of (sym (e.rolls-Unknown p n xs)) ∙ fold-roll-Expr Term term_layer (Expr-F.Unknown p n xs)

pub term_of-UnknownField : (p : Stamp) (b : Expr) (n : List ℕ) → term_of (e.UnknownField p b n) ≡ t.UnknownField p (term_of b) n
unfolding term_of
term_of-UnknownField p b n = ap term_of (sym (e.rolls-UnknownField p b n)) ∙ fold-roll-Expr Term term_layer (Expr-F.UnknownField p b n)

pub term_of-UnknownCall : (p : Stamp) (r : Expr) (n : List ℕ) (xs : List Expr) → term_of (e.UnknownCall p r n xs) ≡ t.UnknownCall p (term_of r) n (terms_of xs)
unfolding term_of
term_of-UnknownCall p r n xs = ap term_of (sym (e.rolls-UnknownCall p r n xs)) ∙ fold-roll-Expr Term term_layer (Expr-F.UnknownCall p r n xs)

pub term_of-Unary : (p : Stamp) (o : UnaryOp) (a : Expr) → term_of (e.Unary p o a) ≡ t.Unary p o (term_of a)
unfolding term_of
term_of-Unary p o a = ap term_of (sym (e.rolls-Unary p o a)) ∙ fold-roll-Expr Term term_layer (Expr-F.Unary p o a)

pub term_of-And : (p : Stamp) (a b : Expr) → term_of (e.And p a b) ≡ t.And p (term_of a) (term_of b)
unfolding term_of
term_of-And p a b = ap term_of (sym (e.rolls-And p a b)) ∙ fold-roll-Expr Term term_layer (Expr-F.And p a b)

pub term_of-Or : (p : Stamp) (a b : Expr) → term_of (e.Or p a b) ≡ t.Or p (term_of a) (term_of b)
unfolding term_of
term_of-Or p a b = ap term_of (sym (e.rolls-Or p a b)) ∙ fold-roll-Expr Term term_layer (Expr-F.Or p a b)

pub term_of-Binary : (p : Stamp) (o : Op) (a b : Expr) → term_of (e.Binary p o a b) ≡ t.Binary p o (term_of a) (term_of b)
unfolding term_of
term_of-Binary p o a b = ap term_of (sym (e.rolls-Binary p o a b)) ∙ fold-roll-Expr Term term_layer (Expr-F.Binary p o a b)

pub statement_of-Block : (ss : List Stmt) → statement_of (s.Block ss) ≡ t.Block (statements_of ss)
unfolding statement_of
statement_of-Block ss = ap statement_of (sym (s.rolls-Block ss)) ∙ fold-roll-Stmt Statement statement_layer (Stmt-F.Block ss)

pub statement_of-Declare : (p x : ℕ) (ty : ValueType) (v : Expr) → statement_of (s.Declare p x ty v) ≡ t.Declare p x ty (term_of v)
unfolding statement_of
statement_of-Declare p x ty v = ap statement_of (sym (s.rolls-Declare p x ty v)) ∙ fold-roll-Stmt Statement statement_layer (Stmt-F.Declare p x ty v)

pub statement_of-Assign : (to v : Expr) → statement_of (s.Assign to v) ≡ t.Assign (term_of to) (term_of v)
unfolding statement_of
statement_of-Assign to v = ap statement_of (sym (s.rolls-Assign to v)) ∙ fold-roll-Stmt Statement statement_layer (Stmt-F.Assign to v)

pub statement_of-Compound : (to : Expr) (o : Op) (v : Expr) → statement_of (s.Compound to o v) ≡ t.Compound (term_of to) o (term_of v)
unfolding statement_of
statement_of-Compound to o v = ap statement_of (sym (s.rolls-Compound to o v)) ∙ fold-roll-Stmt Statement statement_layer (Stmt-F.Compound to o v)

pub statement_of-Perform : (v : Expr) → statement_of (s.Perform v) ≡ t.Perform (term_of v)
unfolding statement_of
statement_of-Perform v = ap statement_of (sym (s.rolls-Perform v)) ∙ fold-roll-Stmt Statement statement_layer (Stmt-F.Perform v)

pub statement_of-Start : (p : ℕ) (v : Expr) → statement_of (s.Start p v) ≡ t.Start p (term_of v)
unfolding statement_of
statement_of-Start p v = ap statement_of (sym (s.rolls-Start p v)) ∙ fold-roll-Stmt Statement statement_layer (Stmt-F.Start p v)

pub statement_of-If : (v : Expr) (a b : Stmt) → statement_of (s.If v a b) ≡ t.If (term_of v) (statement_of a) (statement_of b)
unfolding statement_of
statement_of-If v a b = ap statement_of (sym (s.rolls-If v a b)) ∙ fold-roll-Stmt Statement statement_layer (Stmt-F.If v a b)

pub statement_of-While : (v : Expr) (a : Stmt) → statement_of (s.While v a) ≡ t.While (term_of v) (statement_of a)
unfolding statement_of
statement_of-While v a = ap statement_of (sym (s.rolls-While v a)) ∙ fold-roll-Stmt Statement statement_layer (Stmt-F.While v a)

pub statement_of-Sync : (v : Expr) (a : Stmt) → statement_of (s.Sync v a) ≡ t.Sync (term_of v) (statement_of a)
unfolding statement_of
statement_of-Sync v a = ap statement_of (sym (s.rolls-Sync v a)) ∙ fold-roll-Stmt Statement statement_layer (Stmt-F.Sync v a)

pub statement_of-SyncClass : (p : ℕ) (c : List ℕ) (a : Stmt) → statement_of (s.SyncClass p c a) ≡ t.SyncClass p c (statement_of a)
unfolding statement_of
statement_of-SyncClass p c a = ap statement_of (sym (s.rolls-SyncClass p c a)) ∙ fold-roll-Stmt Statement statement_layer (Stmt-F.SyncClass p c a)

pub statement_of-Return : (p : ℕ) → statement_of (s.Return p) ≡ t.Return p
unfolding statement_of
statement_of-Return p = ap statement_of (sym (s.rolls-Return p)) ∙ fold-roll-Stmt Statement statement_layer (Stmt-F.Return p)

pub statement_of-ReturnValue : (p : ℕ) (v : Expr) → statement_of (s.ReturnValue p v) ≡ t.ReturnValue p (term_of v)
unfolding statement_of
statement_of-ReturnValue p v = ap statement_of (sym (s.rolls-ReturnValue p v)) ∙ fold-roll-Stmt Statement statement_layer (Stmt-F.ReturnValue p v)

pub ruleset readings = (term_of-Const, term_of-This, term_of-Local, term_of-Field, term_of-Static, term_of-New, term_of-Call, term_of-CallStatic, term_of-Unknown, term_of-UnknownField, term_of-UnknownCall, term_of-Unary, term_of-And, term_of-Or, term_of-Binary, statement_of-Block, statement_of-Declare, statement_of-Assign, statement_of-Compound, statement_of-Perform, statement_of-Start, statement_of-If, statement_of-While, statement_of-Sync, statement_of-SyncClass, statement_of-Return, statement_of-ReturnValue)
