-- Statements as the grammar has them: what is assigned to is a name or a field, and a part of an `if` or of a loop is no
-- declaration.
use Rattle.std.specs.Prelude.{◌≡◌, Option, Some, None}
use Rattle.tree_places.specs.PlainExpr.{PlainExpr}
use Rattle.tree_places.specs.PlainExpr as e
use Rattle.tree_places.specs.PlainStmt.{PlainAction, PlainFirst, PlainStmt, PlainStmts}
use Rattle.tree_places.specs.PlainStmt as p

abbrev pub IsWrittenTarget : PlainExpr → Type 0
IsWrittenTarget (e.Name w) = Unit {0}
IsWrittenTarget (e.Select from w) = Unit {0}
IsWrittenTarget _ = ⊥

abbrev pub ActionWritten : PlainAction → Type 0
ActionWritten (p.Assign target op at v) = IsWrittenTarget target
ActionWritten (p.StepAfter target op at) = IsWrittenTarget target
ActionWritten (p.StepBefore at op target) = IsWrittenTarget target
ActionWritten (p.Call call) = Unit {0}
ActionWritten (p.New made) = Unit {0}
ActionWritten (p.Start at v closing) = Unit {0}

abbrev pub FirstWritten : PlainFirst → Type 0
FirstWritten p.Nothing = Unit {0}
FirstWritten (p.FirstLocal l) = Unit {0}
FirstWritten (p.FirstAction does) = ActionWritten does

abbrev pub LastWritten : Option PlainAction → Type 0
LastWritten None = Unit {0}
LastWritten (Some does) = ActionWritten does

-- it is no declaration
abbrev pub IsPart : PlainStmt → Type 0
IsPart (p.Local l at) = ⊥
IsPart _ = Unit {0}

abbrev mutual
  pub StmtWritten : PlainStmt → Type 0
  StmtWritten (p.Block opening items closing) = AllWritten items
  StmtWritten (p.Local l at) = Unit {0}
  StmtWritten (p.Empty at) = Unit {0}
  StmtWritten (p.Action does at) = ActionWritten does
  StmtWritten (p.If at test does other) = IsPart does × StmtWritten does × OtherWritten other
  StmtWritten (p.While at test does) = IsPart does × StmtWritten does
  StmtWritten (p.For at first test last does) = FirstWritten first × LastWritten last × IsPart does × StmtWritten does
  StmtWritten (p.Sync at held body) = IsPart body × StmtWritten body
  StmtWritten (p.Return at v end) = Unit {0}

  -- what stands behind an `else` is one statement
  pub OtherWritten : PlainStmts → Type 0
  OtherWritten p.no_stmts = Unit {0}
  OtherWritten (p.stmt s others) = (others ≡ p.no_stmts) × IsPart s × StmtWritten s

  pub AllWritten : PlainStmts → Type 0
  AllWritten p.no_stmts = Unit {0}
  AllWritten (p.stmt s others) = StmtWritten s × AllWritten others
