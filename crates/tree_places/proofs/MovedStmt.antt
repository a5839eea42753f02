-- What tokens spell as a block, moved tokens spell as the moved block.
use Rattle.std.proofs.Common.{◌≡◌, ℕ, zero, suc, Bool, true, false, Option, Some, None, IsTrue, ap, ◌∙◌, sym, subst}
use Rattle.std.specs.Option.{option_map}
use Rattle.desk_base.specs.declared.span.Span.{Span}
use Rattle.java_tree.specs.declared.kind.Kind.TheVariants as k
use Rattle.java_tree.specs.declared.expr.Expr.{Expr, out-Expr}
use Rattle.java_tree.specs.declared.expr.Expr.TheOpen.{Expr-F}
use Rattle.java_tree.specs.declared.stmt.Action.{Action}
use Rattle.java_tree.specs.declared.stmt.Action.TheVariants as action
use Rattle.java_tree.specs.declared.stmt.Local.{Local}
use Rattle.java_tree.specs.declared.stmt.ForFirst.{ForFirst}
use Rattle.java_tree.specs.declared.stmt.ForFirst.TheVariants as first
use Rattle.java_tree.specs.declared.stmt.Monitor.{Monitor}
use Rattle.java_tree.specs.declared.stmt.Monitor.TheVariants as monitor
use Rattle.java_tree.specs.declared.stmt.Stmt.{Stmt, out-Stmt, roll-Stmt, map-Stmt}
use Rattle.java_tree.specs.declared.stmt.Block.{Block, out-Block, roll-Block, map-Block}
use Rattle.java_tree.specs.declared.stmt.BlockItem.{BlockItem, out-BlockItem, roll-BlockItem, map-BlockItem}
use Rattle.java_tree.specs.declared.stmt.BlockItem.TheOpen.{Stmt-F, BlockItem-F, Block-F}
use Rattle.java_tree.specs.declared.stmt.BlockItem.TheFolds.{fold_out-Block, fold_out-Stmt, fold_out-BlockItem}
use Rattle.java_tree.specs.declared.stmt.BlockItem.TheViews.{out-roll-Block, out-roll-Stmt, out-roll-BlockItem}
use Rattle.java_phrases.specs.Phrase.{Phrase}
use Rattle.java_phrases.specs.Texts.{thread_name}
use Rattle.java_statements.specs.Spelling.{sign_of_assign, sign_of_step, start_name, is_call, is_new, TargetBy, TargetSpells, ActionSpells, LocalSpells, Condition, FirstSpells, ForHeadSpells, MonitorSpells, DeclarationSpells, ItemSpells, BlockBy, StmtBy, StmtSpells, BlockSpells}
use Rattle.tree_places.specs.MovedExpr.{moved_expr}
use Rattle.tree_places.specs.MovedStmt.{moved_action, moved_local, moved_first, moved_monitor, moved_item_layer, moved_stmt_layer, moved_block_layer, moved_item, moved_stmt, moved_block}
use Rattle.tree_places.proofs.Moves.{Moves, moves-never, moves-nothing, moves-mark, moves-sign, moves-lexeme, moves-ty, ◌then◌, moves-if, moves-when, moves-optional, moves-named, moves-each}
use Rattle.tree_places.proofs.MovedExpr.{out_moved, inward, moves-expr}

module _ (place : Span → Span) where
  -- ---- what trees are made of, once they are moved

  abbrev items_by : BlockItem-F BlockItem Stmt Block → BlockItem
  items_by f = roll-BlockItem (moved_item_layer place f)

  abbrev stmts_by : Stmt-F BlockItem Stmt Block → Stmt
  stmts_by f = roll-Stmt (moved_stmt_layer place f)

  abbrev blocks_by : Block-F BlockItem Stmt Block → Block
  blocks_by f = roll-Block (moved_block_layer place f)

  abbrev item_inward : BlockItem-F BlockItem Stmt Block → BlockItem-F BlockItem Stmt Block
  item_inward f = moved_item_layer place (map-BlockItem BlockItem Stmt Block BlockItem Stmt Block (moved_item place) (moved_stmt place) (moved_block place) f)

  abbrev stmt_inward : Stmt-F BlockItem Stmt Block → Stmt-F BlockItem Stmt Block
  stmt_inward f = moved_stmt_layer place (map-Stmt BlockItem Stmt Block BlockItem Stmt Block (moved_item place) (moved_stmt place) (moved_block place) f)

  abbrev block_inward : Block-F BlockItem Stmt Block → Block-F BlockItem Stmt Block
  block_inward f = moved_block_layer place (map-Block BlockItem Stmt Block BlockItem Stmt Block (moved_item place) (moved_stmt place) (moved_block place) f)

  pub out_item : (i : BlockItem) → out-BlockItem (moved_item place i) ≡ item_inward (out-BlockItem i)
  unfolding moved_item moved_stmt moved_block
  out_item i = ap out-BlockItem (fold_out-BlockItem BlockItem Stmt Block items_by stmts_by blocks_by i) ∙ out-roll-BlockItem (item_inward (out-BlockItem i))

  pub out_stmt : (s : Stmt) → out-Stmt (moved_stmt place s) ≡ stmt_inward (out-Stmt s)
  unfolding moved_item moved_stmt moved_block
  out_stmt s = ap out-Stmt (fold_out-Stmt BlockItem Stmt Block items_by stmts_by blocks_by s) ∙ out-roll-Stmt (stmt_inward (out-Stmt s))

  pub out_block : (b : Block) → out-Block (moved_block place b) ≡ block_inward (out-Block b)
  unfolding moved_item moved_stmt moved_block
  out_block b = ap out-Block (fold_out-Block BlockItem Stmt Block items_by stmts_by blocks_by b) ∙ out-roll-Block (block_inward (out-Block b))

  -- ---- actions

  call_stays : (f : Expr-F Expr) → IsTrue (is_call f) → IsTrue (is_call (inward place f))
  call_stays (Expr-F.Call name args closing) h = h
  call_stays (Expr-F.CallOn from name args closing) h = h
  call_stays _ h = h

  new_stays : (f : Expr-F Expr) → IsTrue (is_new f) → IsTrue (is_new (inward place f))
  new_stays (Expr-F.New at name args closing) h = h
  new_stays _ h = h

  target_by : (room : ℕ) (target : Expr) (f : Expr-F Expr) → Moves place (TargetBy room target f) (TargetBy room (moved_expr place target) (inward place f))
  target_by room target (Expr-F.Name name) = moves-lexeme k.Name name
  target_by room target (Expr-F.Select from name) = moves-expr place room 8 target
  target_by room target _ = moves-never _

  moves-target : (room : ℕ) (target : Expr) → Moves place (TargetSpells room target) (TargetSpells room (moved_expr place target))
  moves-target room target =
      subst (λ f. Moves place (TargetSpells room target) (TargetBy room (moved_expr place target) f)) (sym (out_moved place target)) (target_by room target (out-Expr target))

  moves-action : (room : ℕ) (does : Action) → Moves place (ActionSpells room does) (ActionSpells room (moved_action place does))
  unfolding ActionSpells
  moves-action zero does = moves-never _
  moves-action (suc room) (action.Assign target op at value) = moves-target room target then moves-sign (sign_of_assign op) at then moves-expr place room 1 value
  moves-action (suc room) (action.StepAfter target op at) = moves-target room target then moves-sign (sign_of_step op) at
  moves-action (suc room) (action.StepBefore at op target) = moves-sign (sign_of_step op) at then moves-target room target
  moves-action (suc room) (action.Call call) =
      moves-when (λ h. subst (λ f. IsTrue (is_call f)) (sym (out_moved place call)) (call_stays (out-Expr call) h)) (moves-expr place (suc room) 8 call)
  moves-action (suc room) (action.New made) =
      moves-when (λ h. subst (λ f. IsTrue (is_new f)) (sym (out_moved place made)) (new_stays (out-Expr made) h)) (moves-expr place (suc room) 8 made)
  moves-action (suc room) (action.Start at started closing) =
      moves-sign k.New at then moves-named thread_name then moves-mark k.LParen then moves-expr place room 1 started then moves-mark k.RParen then moves-mark k.Dot then moves-named start_name then moves-mark k.LParen
      then moves-sign k.RParen closing

  -- ---- locals and heads of statements

  moves-local : (room : ℕ) (l : Local) → Moves place (LocalSpells room l) (LocalSpells room (moved_local place l))
  moves-local room l = moves-optional place _ _ (moves-sign k.Final) l.final_word then moves-ty l.ty then moves-lexeme k.Name l.name then moves-mark k.Assign then moves-expr place room 1 l.value

  moves-condition : (room : ℕ) (e : Expr) → Moves place (Condition room e) (Condition room (moved_expr place e))
  moves-condition room e = moves-mark k.LParen then moves-expr place room 1 e then moves-mark k.RParen

  moves-first : (room : ℕ) (f : ForFirst) → Moves place (FirstSpells room f) (FirstSpells room (moved_first place f))
  moves-first room first.Nothing = moves-nothing
  moves-first room (first.Local local) = moves-local room local
  moves-first room (first.Action does) = moves-action room does

  moves-for_head : (room : ℕ) (f : ForFirst) (test : Option Expr) (last : Option Action)
      → Moves place (ForHeadSpells room f test last) (ForHeadSpells room (moved_first place f) (option_map (moved_expr place) test) (option_map (moved_action place) last))
  moves-for_head room f test last =
      moves-mark k.LParen then moves-first room f then moves-mark k.Semicolon then moves-optional (moved_expr place) _ _ (moves-expr place room 1) test then moves-mark k.Semicolon
      then moves-optional (moved_action place) _ _ (moves-action room) last then moves-mark k.RParen

  moves-monitor : (room : ℕ) (m : Monitor) → Moves place (MonitorSpells room m) (MonitorSpells room (moved_monitor place m))
  moves-monitor room (monitor.Expr held) = moves-expr place room 1 held
  moves-monitor room (monitor.Class name at) = moves-lexeme k.Name name then moves-mark k.Dot then moves-sign k.Class at

  moves-declaration : (room : ℕ) (l : Local) (at : Span) → Moves place (DeclarationSpells room l at) (DeclarationSpells room (moved_local place l) (place at))
  moves-declaration zero l at = moves-never _
  moves-declaration (suc room) l at = moves-local room l then moves-sign k.Semicolon at

  -- ---- statements and blocks

  abbrev StmtMoves : ℕ → Type 0
  StmtMoves room = (closed : Bool) (s : Stmt) → Moves place (StmtSpells room closed s) (StmtSpells room closed (moved_stmt place s))

  abbrev BlockMoves : ℕ → Type 0
  BlockMoves room = (b : Block) → Moves place (BlockSpells room b) (BlockSpells room (moved_block place b))

  module _ (room : ℕ) (inner : StmtMoves room) where
    item_by : (f : BlockItem-F BlockItem Stmt Block) → Moves place (ItemSpells room (StmtSpells room false) f) (ItemSpells room (StmtSpells room false) (item_inward f))
    item_by (BlockItem-F.Local local at) = moves-declaration room local at
    item_by (BlockItem-F.Stmt stmt) = inner false stmt

    abbrev Item : BlockItem → Phrase
    Item i = ItemSpells room (StmtSpells room false) (out-BlockItem i)

    moves-item : (i : BlockItem) → Moves place (Item i) (Item (moved_item place i))
    moves-item i = subst (λ f. Moves place (Item i) (ItemSpells room (StmtSpells room false) f)) (sym (out_item i)) (item_by (out-BlockItem i))

    block_by : (f : Block-F BlockItem Stmt Block) → Moves place (BlockBy room (StmtSpells room false) f) (BlockBy room (StmtSpells room false) (block_inward f))
    block_by f = moves-sign k.LBrace f.opening then moves-each (moved_item place) Item Item moves-item f.items then moves-sign k.RBrace f.closing

    block_within : (b : Block) → Moves place (BlockBy room (StmtSpells room false) (out-Block b)) (BlockBy room (StmtSpells room false) (out-Block (moved_block place b)))
    block_within b = subst (λ f. Moves place (BlockBy room (StmtSpells room false) (out-Block b)) (BlockBy room (StmtSpells room false) f)) (sym (out_block b)) (block_by (out-Block b))

    stmt_by : BlockMoves room → (closed : Bool) (f : Stmt-F BlockItem Stmt Block)
        → Moves place (StmtBy room (StmtSpells room) (BlockSpells room) closed f) (StmtBy room (StmtSpells room) (BlockSpells room) closed (stmt_inward f))
    stmt_by blocks closed (Stmt-F.Block block) = block_within block
    stmt_by blocks closed (Stmt-F.Empty at) = moves-sign k.Semicolon at
    stmt_by blocks closed (Stmt-F.Action does at) = moves-action (suc room) does then moves-sign k.Semicolon at
    stmt_by blocks closed (Stmt-F.If at condition does None) = moves-if _ (moves-sign k.If at then moves-condition room condition then inner false does)
    stmt_by blocks closed (Stmt-F.If at condition does (Some other)) = moves-sign k.If at then moves-condition room condition then inner true does then moves-mark k.Else then inner closed other
    stmt_by blocks closed (Stmt-F.While at condition does) = moves-sign k.While at then moves-condition room condition then inner closed does
    stmt_by blocks closed (Stmt-F.For at start test last does) = moves-sign k.For at then moves-for_head room start test last then inner closed does
    stmt_by blocks closed (Stmt-F.Sync at held block) = moves-sign k.Synchronized at then (moves-mark k.LParen then moves-monitor room held then moves-mark k.RParen) then blocks block
    stmt_by blocks closed (Stmt-F.Return at value end) = moves-sign k.Return at then moves-optional (moved_expr place) _ _ (moves-expr place room 1) value then moves-sign k.Semicolon end

  both : (limit : ℕ) → StmtMoves limit × BlockMoves limit
  unfolding StmtSpells BlockSpells
  both zero = (λ closed s. moves-never _, λ b. moves-never _)
  both (suc room) =
      let (stmts, blocks) = both room in (
        λ closed s.
            subst (λ f. Moves place (StmtSpells (suc room) closed s) (StmtBy room (StmtSpells room) (BlockSpells room) closed f)) (sym (out_stmt s)) (stmt_by room stmts blocks closed (out-Stmt s)),
        block_within room stmts,
      )

  pub moves-block : (limit : ℕ) (b : Block) → Moves place (BlockSpells limit b) (BlockSpells limit (moved_block place b))
  moves-block limit = (both limit).1
