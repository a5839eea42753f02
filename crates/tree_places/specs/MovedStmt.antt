-- Statements and blocks whose spans are put elsewhere, and nothing else.
use Rattle.std.specs.Option.{option_map}
use Rattle.desk_base.specs.declared.span.Span.{Span}
use Rattle.java_tree.specs.declared.stmt.Action.{Action}
use Rattle.java_tree.specs.declared.stmt.Action.TheVariants as action
use Rattle.java_tree.specs.declared.stmt.Local.{Local}
use Rattle.java_tree.specs.declared.stmt.ForFirst.{ForFirst}
use Rattle.java_tree.specs.declared.stmt.ForFirst.TheVariants as first
use Rattle.java_tree.specs.declared.stmt.Monitor.{Monitor}
use Rattle.java_tree.specs.declared.stmt.Monitor.TheVariants as monitor
use Rattle.java_tree.specs.declared.stmt.Stmt.{Stmt, roll-Stmt}
use Rattle.java_tree.specs.declared.stmt.Block.{Block, roll-Block}
use Rattle.java_tree.specs.declared.stmt.BlockItem.{BlockItem, roll-BlockItem}
use Rattle.java_tree.specs.declared.stmt.BlockItem.TheOpen.{Stmt-F, BlockItem-F, Block-F}
use Rattle.java_tree.specs.declared.stmt.BlockItem.TheFolds.{fold-Block, fold-Stmt, fold-BlockItem}
use Rattle.tree_places.specs.Moved.{moved_lexeme, moved_ty}
use Rattle.tree_places.specs.MovedExpr.{moved_expr}

-- ---- actions, locals and the heads of statements

abbrev pub moved_action : (Span → Span) → Action → Action
moved_action place (action.Assign target op at value) = action.Assign (moved_expr place target) op (place at) (moved_expr place value)
moved_action place (action.StepAfter target op at) = action.StepAfter (moved_expr place target) op (place at)
moved_action place (action.StepBefore at op target) = action.StepBefore (place at) op (moved_expr place target)
moved_action place (action.Call call) = action.Call (moved_expr place call)
moved_action place (action.New made) = action.New (moved_expr place made)
moved_action place (action.Start at started closing) = action.Start (place at) (moved_expr place started) (place closing)

abbrev pub moved_local : (Span → Span) → Local → Local
moved_local place l = record { final_word = option_map place l.final_word; ty = moved_ty place l.ty; name = moved_lexeme place l.name; value = moved_expr place l.value }

abbrev pub moved_first : (Span → Span) → ForFirst → ForFirst
moved_first place first.Nothing = first.Nothing
moved_first place (first.Local local) = first.Local (moved_local place local)
moved_first place (first.Action does) = first.Action (moved_action place does)

abbrev pub moved_monitor : (Span → Span) → Monitor → Monitor
moved_monitor place (monitor.Expr held) = monitor.Expr (moved_expr place held)
moved_monitor place (monitor.Class name at) = monitor.Class (moved_lexeme place name) (place at)

-- ---- one layer, whose inner statements are as they are to be

abbrev pub moved_item_layer : (Span → Span) → BlockItem-F BlockItem Stmt Block → BlockItem-F BlockItem Stmt Block
moved_item_layer place (BlockItem-F.Local local at) = BlockItem-F.Local (moved_local place local) (place at)
moved_item_layer place (BlockItem-F.Stmt stmt) = BlockItem-F.Stmt stmt

abbrev pub moved_stmt_layer : (Span → Span) → Stmt-F BlockItem Stmt Block → Stmt-F BlockItem Stmt Block
moved_stmt_layer place (Stmt-F.Block block) = Stmt-F.Block block
moved_stmt_layer place (Stmt-F.Empty at) = Stmt-F.Empty (place at)
moved_stmt_layer place (Stmt-F.Action does at) = Stmt-F.Action (moved_action place does) (place at)
moved_stmt_layer place (Stmt-F.If at condition does other) = Stmt-F.If (place at) (moved_expr place condition) does other
moved_stmt_layer place (Stmt-F.While at condition does) = Stmt-F.While (place at) (moved_expr place condition) does
moved_stmt_layer place (Stmt-F.For at first test last does) =
    Stmt-F.For (place at) (moved_first place first) (option_map (moved_expr place) test) (option_map (moved_action place) last) does
moved_stmt_layer place (Stmt-F.Sync at held block) = Stmt-F.Sync (place at) (moved_monitor place held) block
moved_stmt_layer place (Stmt-F.Return at value end) = Stmt-F.Return (place at) (option_map (moved_expr place) value) (place end)

abbrev pub moved_block_layer : (Span → Span) → Block-F BlockItem Stmt Block → Block-F BlockItem Stmt Block
moved_block_layer place b = record { opening = place b.opening; items = b.items; closing = place b.closing }

unfoldable pub moved_item : (Span → Span) → BlockItem → BlockItem
moved_item place = fold-BlockItem BlockItem Stmt Block (λ f. roll-BlockItem (moved_item_layer place f)) (λ f. roll-Stmt (moved_stmt_layer place f)) (λ f. roll-Block (moved_block_layer place f))

unfoldable pub moved_stmt : (Span → Span) → Stmt → Stmt
moved_stmt place = fold-Stmt BlockItem Stmt Block (λ f. roll-BlockItem (moved_item_layer place f)) (λ f. roll-Stmt (moved_stmt_layer place f)) (λ f. roll-Block (moved_block_layer place f))

unfoldable pub moved_block : (Span → Span) → Block → Block
moved_block place = fold-Block BlockItem Stmt Block (λ f. roll-BlockItem (moved_item_layer place f)) (λ f. roll-Stmt (moved_stmt_layer place f)) (λ f. roll-Block (moved_block_layer place f))
