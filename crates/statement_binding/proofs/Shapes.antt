-- What each construct of a statement is bound to, what stays behind it, and whether it ends: one
-- equation for each variant.
use Rattle.std.proofs.Common.{◌≡◌, ℕ, suc, Bool, true, false, ◌&&◌, List, [], Option, refl}
use Rattle.class_faces.specs.declared.face.FaceTy.{FaceTy}
use Rattle.tree_places.specs.PlainExpr.{PlainExpr}
use Rattle.tree_places.specs.PlainStmt.{PlainStmt, PlainStmts, PlainLocal, PlainAction, PlainFirst, PlainMonitor}
use Rattle.tree_places.specs.PlainStmt as p
use Rattle.expression_binding.specs.Bound.{Ground}
use Rattle.statement_binding.specs.declared.locals.Locals.{Locals}
use Rattle.statement_binding.specs.Done.{none_done, before_others, block, nothing}
use Rattle.statement_binding.specs.Locals.{declaration, with_local, ended}
use Rattle.statement_binding.specs.Finals.{Written}
use Rattle.statement_binding.specs.Writes.{action}
use Rattle.statement_binding.specs.Heads.{condition, condition_if_any, chosen, repeated, first_done, behind_first, last_done, looped, locked, returned}
use Rattle.statement_binding.specs.Ends.{is_true, never_ends, last_never_ends}
use Rattle.statement_binding.specs.Statements.{behind, behind_all, statement, branch, statements}
use Rattle.statement_binding.specs.Bodies.{top_statement, top_statements, written_behind}

-- ---- what it is bound to

pub statement-Block : (g : Ground) (r : Option FaceTy) (ls : Locals) (opening : ℕ) (items : PlainStmts) (closing : ℕ)
    → statement g r ls (p.Block opening items closing) ≡ block (statements g r ls items)
unfolding statement
statement-Block g r ls opening items closing = refl

pub statement-Local : (g : Ground) (r : Option FaceTy) (ls : Locals) (l : PlainLocal) (at : ℕ)
    → statement g r ls (p.Local l at) ≡ declaration g ls l
unfolding statement
statement-Local g r ls l at = refl

pub statement-Empty : (g : Ground) (r : Option FaceTy) (ls : Locals) (at : ℕ)
    → statement g r ls (p.Empty at) ≡ nothing
unfolding statement
statement-Empty g r ls at = refl

pub statement-Action : (g : Ground) (r : Option FaceTy) (ls : Locals) (does : PlainAction) (at : ℕ)
    → statement g r ls (p.Action does at) ≡ action g ls.scope does
unfolding statement
statement-Action g r ls does at = refl

pub statement-If : (g : Ground) (r : Option FaceTy) (ls : Locals) (at : ℕ) (test : PlainExpr) (does : PlainStmt) (other : PlainStmts)
    → statement g r ls (p.If at test does other) ≡ chosen (condition g ls.scope test) (statement g r ls does) (branch g r (behind ls does) other)
unfolding statement
statement-If g r ls at test does other = refl

pub statement-While : (g : Ground) (r : Option FaceTy) (ls : Locals) (at : ℕ) (test : PlainExpr) (does : PlainStmt)
    → statement g r ls (p.While at test does) ≡ repeated (condition g ls.scope test) (statement g r ls does)
unfolding statement
statement-While g r ls at test does = refl

pub statement-For : (g : Ground) (r : Option FaceTy) (ls : Locals) (at : ℕ) (first : PlainFirst) (test : Option PlainExpr) (last : Option PlainAction) (does : PlainStmt)
    → statement g r ls (p.For at first test last does) ≡ looped (first_done g ls first) (condition_if_any g (behind_first ls first).scope (suc at) test) (statement g r (behind_first ls first) does)
    (last_done g (behind (behind_first ls first) does).scope last)
unfolding statement
statement-For g r ls at first test last does = refl

pub statement-Sync : (g : Ground) (r : Option FaceTy) (ls : Locals) (at : ℕ) (held : PlainMonitor) (body : PlainStmt)
    → statement g r ls (p.Sync at held body) ≡ locked g ls.scope held (statement g r ls body)
unfolding statement
statement-Sync g r ls at held body = refl

pub statement-Return : (g : Ground) (r : Option FaceTy) (ls : Locals) (at : ℕ) (v : Option PlainExpr) (end : ℕ)
    → statement g r ls (p.Return at v end) ≡ returned g r ls.scope (suc at) v
unfolding statement
statement-Return g r ls at v end = refl

pub branch-none : (g : Ground) (r : Option FaceTy) (ls : Locals) → branch g r ls p.no_stmts ≡ nothing
unfolding statement
branch-none g r ls = refl

pub branch-some : (g : Ground) (r : Option FaceTy) (ls : Locals) (s : PlainStmt) (others : PlainStmts) → branch g r ls (p.stmt s others) ≡ statement g r ls s
unfolding statement
branch-some g r ls s others = refl

pub statements-none : (g : Ground) (r : Option FaceTy) (ls : Locals) → statements g r ls p.no_stmts ≡ none_done
unfolding statement
statements-none g r ls = refl

pub statements-some : (g : Ground) (r : Option FaceTy) (ls : Locals) (s : PlainStmt) (others : PlainStmts)
    → statements g r ls (p.stmt s others) ≡ before_others (statement g r ls s) (statements g r (behind ls s) others)
unfolding statement
statements-some g r ls s others = refl

pub top_statements-none : (g : Ground) (w : Written) (ls : Locals) → top_statements g w ls p.no_stmts ≡ none_done
unfolding top_statements
top_statements-none g w ls = refl

pub top_statements-some : (g : Ground) (w : Written) (ls : Locals) (s : PlainStmt) (others : PlainStmts)
    → top_statements g w ls (p.stmt s others) ≡ before_others (top_statement g w ls s) (top_statements g (written_behind g w ls.scope s) (behind ls s) others)
unfolding top_statements
top_statements-some g w ls s others = refl

-- ---- what stays behind it

pub behind-Block : (ls : Locals) (opening : ℕ) (items : PlainStmts) (closing : ℕ) → behind ls (p.Block opening items closing) ≡ ended ls (behind_all ls items)
unfolding behind
behind-Block ls opening items closing = refl

pub behind-Local : (ls : Locals) (l : PlainLocal) (at : ℕ) → behind ls (p.Local l at) ≡ with_local ls l
unfolding behind
behind-Local ls l at = refl

pub behind-Empty : (ls : Locals) (at : ℕ) → behind ls (p.Empty at) ≡ ls
unfolding behind
behind-Empty ls at = refl

pub behind-Action : (ls : Locals) (does : PlainAction) (at : ℕ) → behind ls (p.Action does at) ≡ ls
unfolding behind
behind-Action ls does at = refl

pub behind-If : (ls : Locals) (at : ℕ) (test : PlainExpr) (does : PlainStmt) (other : PlainStmts) → behind ls (p.If at test does other) ≡ behind_all (behind ls does) other
unfolding behind
behind-If ls at test does other = refl

pub behind-While : (ls : Locals) (at : ℕ) (test : PlainExpr) (does : PlainStmt) → behind ls (p.While at test does) ≡ behind ls does
unfolding behind
behind-While ls at test does = refl

pub behind-For : (ls : Locals) (at : ℕ) (first : PlainFirst) (test : Option PlainExpr) (last : Option PlainAction) (does : PlainStmt) → behind ls (p.For at first test last does) ≡ ended ls (behind (behind_first ls first) does)
unfolding behind
behind-For ls at first test last does = refl

pub behind-Sync : (ls : Locals) (at : ℕ) (held : PlainMonitor) (body : PlainStmt) → behind ls (p.Sync at held body) ≡ behind ls body
unfolding behind
behind-Sync ls at held body = refl

pub behind-Return : (ls : Locals) (at : ℕ) (v : Option PlainExpr) (end : ℕ) → behind ls (p.Return at v end) ≡ ls
unfolding behind
behind-Return ls at v end = refl

pub behind_all-none : (ls : Locals) → behind_all ls p.no_stmts ≡ ls
unfolding behind
behind_all-none ls = refl

pub behind_all-some : (ls : Locals) (s : PlainStmt) (others : PlainStmts) → behind_all ls (p.stmt s others) ≡ behind_all (behind ls s) others
unfolding behind
behind_all-some ls s others = refl

-- ---- whether it ends

pub ends-Block : (opening : ℕ) (items : PlainStmts) (closing : ℕ) → never_ends (p.Block opening items closing) ≡ last_never_ends false items
unfolding never_ends
ends-Block opening items closing = refl

pub ends-Local : (l : PlainLocal) (at : ℕ) → never_ends (p.Local l at) ≡ false
unfolding never_ends
ends-Local l at = refl

pub ends-Empty : (at : ℕ) → never_ends (p.Empty at) ≡ false
unfolding never_ends
ends-Empty at = refl

pub ends-Action : (does : PlainAction) (at : ℕ) → never_ends (p.Action does at) ≡ false
unfolding never_ends
ends-Action does at = refl

pub ends-If : (at : ℕ) (test : PlainExpr) (does : PlainStmt) (other : PlainStmts) → never_ends (p.If at test does other) ≡ (never_ends does && last_never_ends false other)
unfolding never_ends
ends-If at test does other = refl

pub ends-While : (at : ℕ) (test : PlainExpr) (does : PlainStmt) → never_ends (p.While at test does) ≡ is_true test
unfolding never_ends
ends-While at test does = refl

pub ends-For : (at : ℕ) (first : PlainFirst) (test : Option PlainExpr) (last : Option PlainAction) (does : PlainStmt) → never_ends (p.For at first test last does) ≡ false
unfolding never_ends
ends-For at first test last does = refl

pub ends-Sync : (at : ℕ) (held : PlainMonitor) (body : PlainStmt) → never_ends (p.Sync at held body) ≡ never_ends body
unfolding never_ends
ends-Sync at held body = refl

pub ends-Return : (at : ℕ) (v : Option PlainExpr) (end : ℕ) → never_ends (p.Return at v end) ≡ true
unfolding never_ends
ends-Return at v end = refl

pub last_ends-none : (before : Bool) → last_never_ends before p.no_stmts ≡ before
unfolding never_ends
last_ends-none before = refl

pub last_ends-some : (before : Bool) (s : PlainStmt) (others : PlainStmts) → last_never_ends before (p.stmt s others) ≡ last_never_ends (never_ends s) others
unfolding never_ends
last_ends-some before s others = refl

pub ruleset end_shapes = (ends-Block, ends-Local, ends-Empty, ends-Action, ends-If, ends-While, ends-For, ends-Sync, ends-Return, last_ends-none, last_ends-some)
