-- What the names in a statement name, what is found in it, and what is consulted for it: by cases of
-- the statement, where each place is a number.
use Rattle.std.specs.Prelude.{ℕ, suc, List, [], ◌∷◌, Option}
use Rattle.class_faces.specs.declared.face.FaceTy.{FaceTy}
use Rattle.tree_places.specs.PlainStmt.{PlainStmt, PlainStmts}
use Rattle.tree_places.specs.PlainStmt as p
use Rattle.expression_binding.specs.Bound.{Ground}
use Rattle.statement_binding.specs.declared.locals.Locals.{Locals}
use Rattle.statement_binding.specs.Done.{Done, DoneAll, none_done, before_others, block, nothing}
use Rattle.statement_binding.specs.Locals.{declaration, with_local, ended}
use Rattle.statement_binding.specs.Writes.{action}
use Rattle.statement_binding.specs.Heads.{condition, condition_if_any, chosen, repeated, first_done, behind_first, last_done, looped, locked, returned}

-- the locals behind a statement: those that are declared in it are numbered in written order, and only
-- one that is declared in its block stays in scope; a part of an `if` or of a loop is no declaration
unfoldable mutual
  pub behind : Locals → PlainStmt → Locals
  behind ls (p.Block opening items closing) = ended ls (behind_all ls items)
  behind ls (p.Local l at) = with_local ls l
  behind ls (p.Empty at) = ls
  behind ls (p.Action does at) = ls
  behind ls (p.If at test does other) = behind_all (behind ls does) other
  behind ls (p.While at test does) = behind ls does
  behind ls (p.For at first test last does) = ended ls (behind (behind_first ls first) does)
  behind ls (p.Sync at held block) = behind ls block
  behind ls (p.Return at v end) = ls

  pub behind_all : Locals → PlainStmts → Locals
  behind_all ls p.no_stmts = ls
  behind_all ls (p.stmt s others) = behind_all (behind ls s) others

unfoldable mutual
  -- in a body that returns a value of a declared type, or nothing
  pub statement : Ground → Option FaceTy → Locals → PlainStmt → Done
  statement g result ls (p.Block opening items closing) = block (statements g result ls items)
  statement g result ls (p.Local l at) = declaration g ls l
  statement g result ls (p.Empty at) = nothing
  statement g result ls (p.Action does at) = action g ls.scope does
  statement g result ls (p.If at test does other) =
      chosen (condition g ls.scope test) (statement g result ls does) (branch g result (behind ls does) other)
  statement g result ls (p.While at test does) = repeated (condition g ls.scope test) (statement g result ls does)
  statement g result ls (p.For at first test last does) =
      let inner = behind_first ls first in
      looped (first_done g ls first) (condition_if_any g inner.scope (suc at) test) (statement g result inner does)
      (last_done g (behind inner does).scope last)
  statement g result ls (p.Sync at held body) = locked g ls.scope held (statement g result ls body)
  statement g result ls (p.Return at v end) = returned g result ls.scope (suc at) v

  -- what stands behind an `else`, if something does
  pub branch : Ground → Option FaceTy → Locals → PlainStmts → Done
  branch g result ls p.no_stmts = nothing
  branch g result ls (p.stmt s others) = statement g result ls s

  pub statements : Ground → Option FaceTy → Locals → PlainStmts → DoneAll
  statements g result ls p.no_stmts = none_done
  statements g result ls (p.stmt s others) = before_others (statement g result ls s) (statements g result (behind ls s) others)
