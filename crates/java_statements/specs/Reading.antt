-- The reader as functions on lists of tokens: each says what the function of its name in the code
-- answers. That this is the spelling, both ways, is what the public clauses say.
use Rattle.std.specs.Prelude.{ℕ, zero, suc, ◌+◌, nat_lt, not, Bool, true, false, if◌then◌else◌, List, [], ◌∷◌, ◌++◌, Option, Some, None}
use Rattle.java_phrases.specs.Tree.{Span, Kind, Kind as k, Token, Lexeme, Expr, out-Expr, Expr-F, Ty, AssignOp, AssignOp as assign, StepOp, StepOp as step, Action, Action as action, Local, ForFirst, ForFirst as first, Monitor, Monitor as monitor, Stmt, Block, roll-Block, BlockItem}
use Rattle.java_phrases.specs.Common.{ty, Parser, Found, Lost, ◌>>=◌, ◌>>◌, pure, fail, next_kind, kind_at, text_at, peek, look, sees, sees_text, sign, word, turns, thread_name}
use Rattle.java_tree.specs.declared.stmt.Stmt.TheVariants as tree
use Rattle.java_tree.specs.declared.stmt.BlockItem.TheVariants as item
use Rattle.java_expressions.specs.Reading.{expr, post_read}
use Rattle.java_expressions.specs.declared.tall.Tall.{Tall}
use Rattle.java_statements.specs.declared.head.ForHead.{ForHead}
use Rattle.java_statements.specs.Spelling.{sign_of_assign, sign_of_step, start_name}

-- ---- what stands next

abbrev pub begins_local_by : Option Kind → Option Kind → Bool
begins_local_by (Some k.Final) second = true
begins_local_by (Some k.IntType) second = true
begins_local_by (Some k.BooleanType) second = true
begins_local_by (Some k.Name) (Some k.Name) = true
begins_local_by _ _ = false

-- a local begins with `final`, `int`, `boolean` or two names
unfoldable pub begins_local : List Token → Bool
begins_local ts = begins_local_by (next_kind ts) (kind_at 1 ts)

abbrev pub names_class_by : Option Kind → Option Kind → Option Kind → Bool
names_class_by (Some k.Name) (Some k.Dot) (Some k.Class) = true
names_class_by _ _ _ = false

-- a name, `.` and `class`
unfoldable pub names_class : List Token → Bool
names_class ts = names_class_by (next_kind ts) (kind_at 1 ts) (kind_at 2 ts)

abbrev pub look_ahead : (List Token → Bool) → Parser Bool
look_ahead sees_it = λ ts. Found (sees_it ts) ts

-- ---- parts

-- the name that is written so
unfoldable pub named : List ℕ → Parser Span
named text ts = if sees_text k.Name text ts then sign k.Name ts else Lost

unfoldable pub value : ℕ → Parser Expr
value room = do
  y ← expr room 1
  pure y.expr

unfoldable pub condition : ℕ → Parser Expr
condition room = do
  sign k.LParen
  found ← value room
  sign k.RParen
  pure found

-- ---- actions

-- a name, or a selection that isn't too high
abbrev pub is_target_by : ℕ → ℕ → Expr-F Expr → Bool
is_target_by room height (Expr-F.Name name) = true
is_target_by room height (Expr-F.Select from name) = not (nat_lt room height)
is_target_by room height _ = false

unfoldable pub is_target : ℕ → Tall → Bool
is_target room y = is_target_by room y.height (out-Expr y.expr)

unfoldable pub target : ℕ → Parser Expr
target room = do
  y ← post_read (room + 1)
  if is_target room y then pure y.expr else fail

unfoldable pub assigned : ℕ → Tall → AssignOp → Parser Action
assigned room y op = if is_target room y then (do
  at ← sign (sign_of_assign op)
  found ← value room
  pure (action.Assign y.expr op at found)) else fail

unfoldable pub stepped : ℕ → Tall → StepOp → Parser Action
stepped room y op = if is_target room y then (do
  at ← sign (sign_of_step op)
  pure (action.StepAfter y.expr op at)) else fail

abbrev pub called_by : Expr → Expr-F Expr → Parser Action
called_by e (Expr-F.Call name args closing) = pure (action.Call e)
called_by e (Expr-F.CallOn from name args closing) = pure (action.Call e)
called_by e (Expr-F.New at name args closing) = pure (action.New e)
called_by e _ = fail

unfoldable pub called : Expr → Parser Action
called e = called_by e (out-Expr e)

abbrev pub posted_by : ℕ → Tall → Option Kind → Parser Action
posted_by room y (Some k.Assign) = assigned room y assign.Set
posted_by room y (Some k.AddAssign) = assigned room y assign.Add
posted_by room y (Some k.SubtractAssign) = assigned room y assign.Subtract
posted_by room y (Some k.Increment) = stepped room y step.Increment
posted_by room y (Some k.Decrement) = stepped room y step.Decrement
posted_by room y _ = called y.expr

-- an action that begins with an expression
unfoldable pub posted : ℕ → Parser Action
posted room = do
  y ← post_read (room + 1)
  next ← peek
  posted_by room y next

unfoldable pub step_before : ℕ → StepOp → Parser Action
step_before room op = do
  at ← sign (sign_of_step op)
  found ← target room
  pure (action.StepBefore at op found)

abbrev pub start_called : Span → Expr → Parser Action
start_called at started = do
  sign k.Dot
  named start_name
  sign k.LParen
  closing ← sign k.RParen
  pure (action.Start at started closing)

unfoldable pub start : ℕ → Parser Action
start room = do
  at ← sign k.New
  named thread_name
  started ← condition room
  start_called at started

abbrev pub created_by : ℕ → Bool → Parser Action
created_by room true = start room
created_by room false = posted room

abbrev pub created : ℕ → Parser Action
created room = look_ahead (text_at 1 k.Name thread_name) >>= created_by room

abbrev pub action_by : ℕ → Option Kind → Parser Action
action_by room (Some k.Increment) = step_before room step.Increment
action_by room (Some k.Decrement) = step_before room step.Decrement
action_by room (Some k.New) = created room
action_by room _ = posted room

unfoldable pub action_within : ℕ → Parser Action
action_within room = peek >>= action_by room

unfoldable pub action_read : ℕ → Parser Action
action_read zero = fail
action_read (suc room) = action_within room

-- ---- locals and the heads of statements

abbrev pub final_by : Bool → Parser (Option Span)
final_by true = do at ← sign k.Final; pure (Some at)
final_by false = pure None

unfoldable pub final_read : Parser (Option Span)
final_read = look k.Final >>= final_by

abbrev pub local_set : ℕ → Option Span → Ty → Lexeme → Parser Local
local_set room final_word type name = do
  sign k.Assign
  found ← value room
  pure (record { final_word = final_word; ty = type; name = name; value = found })

unfoldable pub local : ℕ → Parser Local
local room = do
  final_word ← final_read
  type ← ty
  name ← word k.Name
  local_set room final_word type name

unfoldable pub declaration_within : ℕ → Parser BlockItem
declaration_within room = do
  found ← local room
  at ← sign k.Semicolon
  pure (item.Local found at)

unfoldable pub declaration : ℕ → Parser BlockItem
declaration zero = fail
declaration (suc room) = declaration_within room

abbrev pub first_some : ℕ → Bool → Parser ForFirst
first_some room true = do found ← local room; pure (first.Local found)
first_some room false = do found ← action_read room; pure (first.Action found)

abbrev pub first_by : ℕ → Bool → Parser ForFirst
first_by room true = pure first.Nothing
first_by room false = look_ahead begins_local >>= first_some room

unfoldable pub for_first : ℕ → Parser ForFirst
for_first room = look k.Semicolon >>= first_by room

abbrev pub value_by : ℕ → Bool → Parser (Option Expr)
value_by room true = pure None
value_by room false = do found ← value room; pure (Some found)

-- an expression up to a semicolon, if there is one
unfoldable pub value_if : ℕ → Parser (Option Expr)
value_if room = look k.Semicolon >>= value_by room

abbrev pub last_by : ℕ → Bool → Parser (Option Action)
last_by room true = pure None
last_by room false = do found ← action_read room; pure (Some found)

unfoldable pub for_last : ℕ → Parser (Option Action)
for_last room = look k.RParen >>= last_by room

-- up to the semicolon behind the first part
unfoldable pub for_open : ℕ → Parser ForFirst
for_open room = do
  sign k.LParen
  found ← for_first room
  sign k.Semicolon
  pure found

unfoldable pub for_test : ℕ → Parser (Option Expr)
for_test room = do
  found ← value_if room
  sign k.Semicolon
  pure found

unfoldable pub for_close : ℕ → Parser (Option Action)
for_close room = do
  found ← for_last room
  sign k.RParen
  pure found

unfoldable pub for_rest : ℕ → ForFirst → Parser ForHead
for_rest room begin = do
  test ← for_test room
  last ← for_close room
  pure (record { first = begin; test = test; last = last })

unfoldable pub for_head : ℕ → Parser ForHead
for_head room = do
  begin ← for_open room
  for_rest room begin

unfoldable pub class_monitor : Parser Monitor
class_monitor = do
  name ← word k.Name
  sign k.Dot
  at ← sign k.Class
  pure (monitor.Class name at)

abbrev pub monitor_by : ℕ → Bool → Parser Monitor
monitor_by room true = class_monitor
monitor_by room false = do found ← value room; pure (monitor.Expr found)

unfoldable pub monitor_read : ℕ → Parser Monitor
monitor_read room = look_ahead names_class >>= monitor_by room

unfoldable pub sync_head : ℕ → Parser Monitor
sync_head room = do
  sign k.LParen
  found ← monitor_read room
  sign k.RParen
  pure found

unfoldable pub returned : ℕ → Parser Stmt
returned room = do
  at ← sign k.Return
  found ← value_if room
  end ← sign k.Semicolon
  pure (tree.Return at found end)

unfoldable pub action_stmt : ℕ → Parser Stmt
action_stmt room = do
  does ← action_within room
  at ← sign k.Semicolon
  pure (tree.Action does at)

unfoldable pub empty_stmt : Parser Stmt
empty_stmt = do at ← sign k.Semicolon; pure (tree.Empty at)

-- ---- statements and blocks, where `inner` reads a statement and `inner_block` a block with one node less on a path

module _ (room : ℕ) (inner : Parser Stmt) where
  abbrev pub item_by : Bool → Parser BlockItem
  item_by true = declaration room
  item_by false = do does ← inner; pure (item.Stmt does)

  unfoldable pub block_item : Parser BlockItem
  block_item = look_ahead begins_local >>= item_by

  abbrev pub goes_on : List Token → Bool
  goes_on ts = not (sees k.RBrace ts)

  unfoldable pub one_more : List BlockItem → Parser (List BlockItem)
  one_more found = do
    next ← block_item
    pure (found ++ next ∷ [])

  unfoldable pub items : Parser (List BlockItem)
  items = turns goes_on one_more []

  unfoldable pub block_within : Parser Block
  block_within = do
    opening ← sign k.LBrace
    found ← items
    closing ← sign k.RBrace
    pure (roll-Block (record { opening = opening; items = found; closing = closing }))

  abbrev pub other_by : Bool → Parser (Option Stmt)
  other_by true = do sign k.Else; found ← inner; pure (Some found)
  other_by false = pure None

  unfoldable pub if_stmt : Parser Stmt
  if_stmt = do
    at ← sign k.If
    test ← condition room
    does ← inner
    more ← look k.Else
    other ← other_by more
    pure (tree.If at test does other)

  unfoldable pub while_stmt : Parser Stmt
  while_stmt = do
    at ← sign k.While
    test ← condition room
    does ← inner
    pure (tree.While at test does)

  unfoldable pub for_stmt : Parser Stmt
  for_stmt = do
    at ← sign k.For
    head ← for_head room
    does ← inner
    pure (tree.For at head.first head.test head.last does)

  abbrev pub block_stmt : Parser Stmt
  block_stmt = do found ← block_within; pure (tree.Block found)

  module _ (inner_block : Parser Block) where
    unfoldable pub sync_stmt : Parser Stmt
    sync_stmt = do
      at ← sign k.Synchronized
      held ← sync_head room
      found ← inner_block
      pure (tree.Sync at held found)

    abbrev pub stmt_by : Option Kind → Parser Stmt
    stmt_by (Some k.LBrace) = block_stmt
    stmt_by (Some k.Semicolon) = empty_stmt
    stmt_by (Some k.If) = if_stmt
    stmt_by (Some k.While) = while_stmt
    stmt_by (Some k.For) = for_stmt
    stmt_by (Some k.Synchronized) = sync_stmt
    stmt_by (Some k.Return) = returned room
    stmt_by _ = action_stmt room

    unfoldable pub stmt_within : Parser Stmt
    stmt_within = peek >>= stmt_by

-- with at most so many nodes on a path
unfoldable mutual
  pub statement : ℕ → Parser Stmt
  statement zero = fail
  statement (suc room) = stmt_within room (statement room) (block room)

  pub block : ℕ → Parser Block
  block zero = fail
  block (suc room) = block_within room (statement room)
