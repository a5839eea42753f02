-- Which tokens spell which statement: one clause for each production of the grammar (JLS 8, 14, as
-- far as the subset goes).
use Rattle.std.specs.Prelude.{ℕ, zero, suc, List, Bool, true, false, Option, Some, None, IsTrue, IsFalse, codes}
use Rattle.java_phrases.specs.Tree.{Span, Kind, Kind as k, Expr, out-Expr, Expr-F, AssignOp, AssignOp as assign, StepOp, StepOp as step, Action, Action as action, Local, ForFirst, ForFirst as first, Monitor, Monitor as monitor, Stmt, out-Stmt, Block, out-Block, BlockItem, out-BlockItem, Stmt-F, BlockItem-F, Block-F}
use Rattle.java_phrases.specs.Common.{Phrase, Nothing, ◌⨾◌, ◌⊢◌, Never, Mark, Sign, Spelled, Each, Named, Optional, TySpells, thread_name}
use Rattle.java_expressions.specs.Spelling.{ExprSpells, PostSpells}

-- ---- parts of productions

abbrev pub sign_of_assign : AssignOp → Kind
sign_of_assign assign.Set = k.Assign
sign_of_assign assign.Add = k.AddAssign
sign_of_assign assign.Subtract = k.SubtractAssign

abbrev pub sign_of_step : StepOp → Kind
sign_of_step step.Increment = k.Increment
sign_of_step step.Decrement = k.Decrement

-- the method by which a thread is started
abbrev pub start_name : List ℕ
start_name = codes "start"

-- ---- actions

abbrev pub is_call : Expr-F Expr → Bool
is_call (Expr-F.Call name args closing) = true
is_call (Expr-F.CallOn from name args closing) = true
is_call _ = false

abbrev pub is_new : Expr-F Expr → Bool
is_new (Expr-F.New at name args closing) = true
is_new _ = false

-- Target = Name | Post "." Name, where a name alone is no node
abbrev pub TargetBy : ℕ → Expr → Expr-F Expr → Phrase
TargetBy room target (Expr-F.Name name) = Spelled k.Name name
TargetBy room target (Expr-F.Select from name) = PostSpells room target
TargetBy room target _ = Never

abbrev pub TargetSpells : ℕ → Expr → Phrase
TargetSpells room target = TargetBy room target (out-Expr target)

-- Action = Target ("="|"+="|"-=") Expr | Target ("++"|"--") | ("++"|"--") Target | Call | New
--   | "new" "Thread" "(" Expr ")" "." "start" "(" ")"
-- An action is a node, and one that is a call or a `new` is that node itself.
unfoldable pub ActionSpells : ℕ → Action → Phrase
ActionSpells zero does = Never
ActionSpells (suc room) (action.Assign target op at value) = TargetSpells room target ⨾ Sign (sign_of_assign op) at ⨾ ExprSpells room value
ActionSpells (suc room) (action.StepAfter target op at) = TargetSpells room target ⨾ Sign (sign_of_step op) at
ActionSpells (suc room) (action.StepBefore at op target) = Sign (sign_of_step op) at ⨾ TargetSpells room target
ActionSpells (suc room) (action.Call call) = IsTrue (is_call (out-Expr call)) ⊢ PostSpells (suc room) call
ActionSpells (suc room) (action.New made) = IsTrue (is_new (out-Expr made)) ⊢ PostSpells (suc room) made
ActionSpells (suc room) (action.Start at started closing) =
    Sign k.New at ⨾ Named thread_name ⨾ Mark k.LParen ⨾ ExprSpells room started ⨾ Mark k.RParen ⨾ Mark k.Dot ⨾ Named start_name ⨾ Mark k.LParen ⨾ Sign k.RParen closing

-- ---- locals and the heads of statements, where so many nodes are left for a path through an expression

-- ["final"] Ty Name "=" Expr
abbrev pub LocalSpells : ℕ → Local → Phrase
LocalSpells room local = Optional (Sign k.Final) local.final_word ⨾ TySpells local.ty ⨾ Spelled k.Name local.name ⨾ Mark k.Assign ⨾ ExprSpells room local.value

-- "(" Expr ")"
abbrev pub Condition : ℕ → Expr → Phrase
Condition room condition = Mark k.LParen ⨾ ExprSpells room condition ⨾ Mark k.RParen

-- [["final"] Ty Name "=" Expr | Action], where a local is no node
abbrev pub FirstSpells : ℕ → ForFirst → Phrase
FirstSpells room first.Nothing = Nothing
FirstSpells room (first.Local local) = LocalSpells room local
FirstSpells room (first.Action does) = ActionSpells room does

-- "(" [["final"] Ty Name "=" Expr | Action] ";" [Expr] ";" [Action] ")"
abbrev pub ForHeadSpells : ℕ → ForFirst → Option Expr → Option Action → Phrase
ForHeadSpells room first test last =
    Mark k.LParen ⨾ FirstSpells room first ⨾ Mark k.Semicolon ⨾ Optional (ExprSpells room) test ⨾ Mark k.Semicolon ⨾ Optional (ActionSpells room) last ⨾ Mark k.RParen

-- "(" (Expr | Name "." "class") ")"
abbrev pub MonitorSpells : ℕ → Monitor → Phrase
MonitorSpells room (monitor.Expr held) = ExprSpells room held
MonitorSpells room (monitor.Class name at) = Spelled k.Name name ⨾ Mark k.Dot ⨾ Sign k.Class at

-- ---- statements and blocks. Inner says what spells a statement with so many nodes on a path.

-- Local = ["final"] Ty Name "=" Expr ";", which is a node
abbrev pub DeclarationSpells : ℕ → Local → Span → Phrase
DeclarationSpells zero local at = Never
DeclarationSpells (suc room) local at = LocalSpells room local ⨾ Sign k.Semicolon at

-- Local | Stmt
abbrev pub ItemSpells : ℕ → (Stmt → Phrase) → BlockItem-F BlockItem Stmt Block → Phrase
ItemSpells limit Inner (BlockItem-F.Local local at) = DeclarationSpells limit local at
ItemSpells limit Inner (BlockItem-F.Stmt stmt) = Inner stmt

-- Block = "{" {Local | Stmt} "}"
abbrev pub BlockBy : ℕ → (Stmt → Phrase) → Block-F BlockItem Stmt Block → Phrase
BlockBy room Inner block = Sign k.LBrace block.opening ⨾ Each (λ item. ItemSpells room Inner (out-BlockItem item)) block.items ⨾ Sign k.RBrace block.closing

-- A statement by its production. Where `closed` it is the part before an "else", and so it doesn't
-- end in an If without one. `InnerBlock` says what spells a block of a synchronized statement.
abbrev pub StmtBy : ℕ → (Bool → Stmt → Phrase) → (Block → Phrase) → Bool → Stmt-F BlockItem Stmt Block → Phrase
StmtBy room Inner InnerBlock closed (Stmt-F.Block block) = BlockBy room (Inner false) (out-Block block)
StmtBy room Inner InnerBlock closed (Stmt-F.Empty at) = Sign k.Semicolon at
StmtBy room Inner InnerBlock closed (Stmt-F.Action does at) = ActionSpells (suc room) does ⨾ Sign k.Semicolon at
StmtBy room Inner InnerBlock closed (Stmt-F.If at condition does None) = IsFalse closed ⊢ Sign k.If at ⨾ Condition room condition ⨾ Inner false does
StmtBy room Inner InnerBlock closed (Stmt-F.If at condition does (Some other)) = Sign k.If at ⨾ Condition room condition ⨾ Inner true does ⨾ Mark k.Else ⨾ Inner closed other
StmtBy room Inner InnerBlock closed (Stmt-F.While at condition does) = Sign k.While at ⨾ Condition room condition ⨾ Inner closed does
StmtBy room Inner InnerBlock closed (Stmt-F.For at first test last does) = Sign k.For at ⨾ ForHeadSpells room first test last ⨾ Inner closed does
StmtBy room Inner InnerBlock closed (Stmt-F.Sync at held block) = Sign k.Synchronized at ⨾ (Mark k.LParen ⨾ MonitorSpells room held ⨾ Mark k.RParen) ⨾ InnerBlock block
StmtBy room Inner InnerBlock closed (Stmt-F.Return at value end) = Sign k.Return at ⨾ Optional (ExprSpells room) value ⨾ Sign k.Semicolon end

-- The tokens spell the statement, or the block, with at most `limit` nodes on a path: a block, a
-- statement, a local's declaration and an action are one node each, an action with its `;` one, and
-- the nodes of expressions count besides.
unfoldable mutual
  pub StmtSpells : ℕ → Bool → Stmt → Phrase
  StmtSpells zero closed stmt = Never
  StmtSpells (suc room) closed stmt = StmtBy room (StmtSpells room) (BlockSpells room) closed (out-Stmt stmt)

  pub BlockSpells : ℕ → Block → Phrase
  BlockSpells zero block = Never
  BlockSpells (suc room) block = BlockBy room (StmtSpells room false) (out-Block block)
