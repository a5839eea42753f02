-- A moved statement as plain data is the statement with the places that it is moved to.
use Rattle.std.proofs.Common.{◌≡◌, ℕ, List, [], ◌∷◌, map, Option, Some, None, refl, ap, ap₂, ◌∙◌, sym, subst}
use Rattle.std.specs.Option.{option_map}
use Rattle.desk_base.specs.declared.span.Span.{Span}
use Rattle.java_tree.specs.declared.expr.Expr.{Expr}
use Rattle.java_tree.specs.declared.member.Ty.{Ty}
use Rattle.java_tree.specs.declared.member.Ty.TheVariants as ty
use Rattle.java_tree.specs.declared.stmt.Action.{Action}
use Rattle.java_tree.specs.declared.stmt.Action.TheVariants as action
use Rattle.java_tree.specs.declared.stmt.Local.{Local}
use Rattle.java_tree.specs.declared.stmt.ForFirst.{ForFirst}
use Rattle.java_tree.specs.declared.stmt.ForFirst.TheVariants as first
use Rattle.java_tree.specs.declared.stmt.Monitor.{Monitor}
use Rattle.java_tree.specs.declared.stmt.Monitor.TheVariants as monitor
use Rattle.java_tree.specs.declared.stmt.Stmt.{Stmt, roll-Stmt, map-Stmt}
use Rattle.java_tree.specs.declared.stmt.Block.{Block, roll-Block, map-Block}
use Rattle.java_tree.specs.declared.stmt.BlockItem.{BlockItem, roll-BlockItem, map-BlockItem}
use Rattle.java_tree.specs.declared.stmt.BlockItem.TheOpen.{Stmt-F, BlockItem-F, Block-F}
use Rattle.java_tree.specs.declared.stmt.BlockItem.TheFolds.{ind-Block, fold-roll-Block, fold-roll-Stmt, fold-roll-BlockItem}
use Rattle.tree_places.specs.Moved.{moved_ty}
use Rattle.tree_places.specs.MovedExpr.{moved_expr}
use Rattle.tree_places.specs.MovedStmt.{moved_action, moved_local, moved_first, moved_monitor, moved_item_layer, moved_stmt_layer, moved_block_layer, moved_item, moved_stmt, moved_block}
use Rattle.tree_places.specs.PlainStmt.{PlainStmt, stmts}
use Rattle.tree_places.specs.PlainStmt as p
use Rattle.tree_places.specs.Plain.{plain_expr, plain_ty, plain_action, plain_local, plain_first, plain_monitor, item_step, stmt_step, block_step, plain_item, plain_stmt, plain_block}
use Rattle.tree_places.proofs.PlainExpr.{plain-moved_expr}

module _ (move : Span → Span) (number : Span → ℕ) where
  abbrev moved_number : Span → ℕ
  moved_number at = number (move at)

  same_expr : (e : Expr) → plain_expr number (moved_expr move e) ≡ plain_expr moved_number e
  same_expr = plain-moved_expr move number

  same_option : {A B : Type 0} (f : A → A) (g h : A → B) → ((x : A) → g (f x) ≡ h x) → (o : Option A) → option_map g (option_map f o) ≡ option_map h o
  same_option f g h same None = refl
  same_option f g h same (Some x) = ap Some (same x)

  same_ty : (y : Ty) → plain_ty number (moved_ty move y) ≡ plain_ty moved_number y
  same_ty (ty.Int at) = refl
  same_ty (ty.Boolean at) = refl
  same_ty (ty.Named w) = refl

  same_action : (a : Action) → plain_action number (moved_action move a) ≡ plain_action moved_number a
  same_action (action.Assign target op at value) = ap₂ (λ x y. p.Assign x op (moved_number at) y) (same_expr target) (same_expr value)
  same_action (action.StepAfter target op at) = ap (λ x. p.StepAfter x op (moved_number at)) (same_expr target)
  same_action (action.StepBefore at op target) = ap (p.StepBefore (moved_number at) op) (same_expr target)
  same_action (action.Call call) = ap p.Call (same_expr call)
  same_action (action.New made) = ap p.New (same_expr made)
  same_action (action.Start at started closing) = ap (λ x. p.Start (moved_number at) x (moved_number closing)) (same_expr started)

  same_local : (l : Local) → plain_local number (moved_local move l) ≡ plain_local moved_number l
  same_local l =
      let final_word = same_option move number moved_number (λ at. refl) l.final_word in
      let ty = same_ty l.ty in
      let value = same_expr l.value in
      cc

  same_first : (f : ForFirst) → plain_first number (moved_first move f) ≡ plain_first moved_number f
  same_first first.Nothing = refl
  same_first (first.Local l) = ap p.FirstLocal (same_local l)
  same_first (first.Action does) = ap p.FirstAction (same_action does)

  same_monitor : (m : Monitor) → plain_monitor number (moved_monitor move m) ≡ plain_monitor moved_number m
  same_monitor (monitor.Expr e) = ap p.Object (same_expr e)
  same_monitor (monitor.Class w at) = refl

  abbrev SameItem : BlockItem → Type 0
  SameItem i = plain_item number (moved_item move i) ≡ plain_item moved_number i

  abbrev SameStmt : Stmt → Type 0
  SameStmt s = plain_stmt number (moved_stmt move s) ≡ plain_stmt moved_number s

  abbrev SameBlock : Block → Type 0
  SameBlock b = plain_block number (moved_block move b) ≡ plain_block moved_number b

  module _ {I S B : Type 0} (item : I → BlockItem) (stmt : S → Stmt) (block : B → Block) (i_same : (i : I) → SameItem (item i)) (s_same : (s : S) → SameStmt (stmt s)) (b_same : (b : B) → SameBlock (block b)) where
    abbrev items_got : BlockItem-F I S B → BlockItem-F BlockItem Stmt Block
    items_got = map-BlockItem I S B BlockItem Stmt Block item stmt block

    abbrev stmts_got : Stmt-F I S B → Stmt-F BlockItem Stmt Block
    stmts_got = map-Stmt I S B BlockItem Stmt Block item stmt block

    abbrev blocks_got : Block-F I S B → Block-F BlockItem Stmt Block
    blocks_got = map-Block I S B BlockItem Stmt Block item stmt block

    all_same : (is : List I) → stmts (map (plain_item number) (map (moved_item move) (map item is))) ≡ stmts (map (plain_item moved_number) (map item is))
    all_same [] = refl
    all_same (i ∷ is) = ap₂ p.stmt (i_same i) (all_same is)

    item_same : (y : BlockItem-F I S B)
        → item_step number (map-BlockItem BlockItem Stmt Block PlainStmt PlainStmt PlainStmt (plain_item number) (plain_stmt number) (plain_block number) (moved_item_layer move (map-BlockItem BlockItem Stmt Block BlockItem Stmt Block (moved_item move) (moved_stmt move) (moved_block move) (items_got y))))
        ≡ item_step moved_number (map-BlockItem BlockItem Stmt Block PlainStmt PlainStmt PlainStmt (plain_item moved_number) (plain_stmt moved_number) (plain_block moved_number) (items_got y))
    item_same (BlockItem-F.Local l at) = ap (λ d. p.Local d (moved_number at)) (same_local l)
    item_same (BlockItem-F.Stmt s) = s_same s

    stmt_same : (y : Stmt-F I S B)
        → stmt_step number (map-Stmt BlockItem Stmt Block PlainStmt PlainStmt PlainStmt (plain_item number) (plain_stmt number) (plain_block number) (moved_stmt_layer move (map-Stmt BlockItem Stmt Block BlockItem Stmt Block (moved_item move) (moved_stmt move) (moved_block move) (stmts_got y))))
        ≡ stmt_step moved_number (map-Stmt BlockItem Stmt Block PlainStmt PlainStmt PlainStmt (plain_item moved_number) (plain_stmt moved_number) (plain_block moved_number) (stmts_got y))
    stmt_same (Stmt-F.Block b) = b_same b
    stmt_same (Stmt-F.Empty at) = refl
    stmt_same (Stmt-F.Action does at) = ap (λ a. p.Action a (moved_number at)) (same_action does)
    stmt_same (Stmt-F.If at test s None) = ap₂ (λ t c. p.If (moved_number at) t c p.no_stmts) (same_expr test) (s_same s)
    stmt_same (Stmt-F.If at test s (Some o)) = let e1 = same_expr test in let e2 = s_same s in let e3 = s_same o in cc
    stmt_same (Stmt-F.While at test s) = ap₂ (λ t c. p.While (moved_number at) t c) (same_expr test) (s_same s)
    stmt_same (Stmt-F.For at start test last s) =
        let e1 = same_first start in
        let e2 = same_option (moved_expr move) (plain_expr number) (plain_expr moved_number) same_expr test in
        let e3 = same_option (moved_action move) (plain_action number) (plain_action moved_number) same_action last in
        let e4 = s_same s in
        cc
    stmt_same (Stmt-F.Sync at m b) = ap₂ (λ h c. p.Sync (moved_number at) h c) (same_monitor m) (b_same b)
    stmt_same (Stmt-F.Return at value end) = ap (λ v. p.Return (moved_number at) v (moved_number end)) (same_option (moved_expr move) (plain_expr number) (plain_expr moved_number) same_expr value)

    item_roll : (y : BlockItem-F I S B) → SameItem (roll-BlockItem (items_got y))
    unfolding plain_item plain_stmt plain_block moved_item moved_stmt moved_block
    item_roll y =
        ap (plain_item number) (fold-roll-BlockItem BlockItem Stmt Block (λ f. roll-BlockItem (moved_item_layer move f)) (λ f. roll-Stmt (moved_stmt_layer move f)) (λ f. roll-Block (moved_block_layer move f)) (items_got y))
        ∙ fold-roll-BlockItem PlainStmt PlainStmt PlainStmt (item_step number) (stmt_step number) (block_step number) (moved_item_layer move (map-BlockItem BlockItem Stmt Block BlockItem Stmt Block (moved_item move) (moved_stmt move) (moved_block move) (items_got y)))
        ∙ item_same y
        ∙ sym (fold-roll-BlockItem PlainStmt PlainStmt PlainStmt (item_step moved_number) (stmt_step moved_number) (block_step moved_number) (items_got y))

    stmt_roll : (y : Stmt-F I S B) → SameStmt (roll-Stmt (stmts_got y))
    unfolding plain_item plain_stmt plain_block moved_item moved_stmt moved_block
    stmt_roll y =
        ap (plain_stmt number) (fold-roll-Stmt BlockItem Stmt Block (λ f. roll-BlockItem (moved_item_layer move f)) (λ f. roll-Stmt (moved_stmt_layer move f)) (λ f. roll-Block (moved_block_layer move f)) (stmts_got y))
        ∙ fold-roll-Stmt PlainStmt PlainStmt PlainStmt (item_step number) (stmt_step number) (block_step number) (moved_stmt_layer move (map-Stmt BlockItem Stmt Block BlockItem Stmt Block (moved_item move) (moved_stmt move) (moved_block move) (stmts_got y)))
        ∙ stmt_same y
        ∙ sym (fold-roll-Stmt PlainStmt PlainStmt PlainStmt (item_step moved_number) (stmt_step moved_number) (block_step moved_number) (stmts_got y))

    block_roll : (y : Block-F I S B) → SameBlock (roll-Block (blocks_got y))
    unfolding plain_item plain_stmt plain_block moved_item moved_stmt moved_block
    block_roll y =
        ap (plain_block number) (fold-roll-Block BlockItem Stmt Block (λ f. roll-BlockItem (moved_item_layer move f)) (λ f. roll-Stmt (moved_stmt_layer move f)) (λ f. roll-Block (moved_block_layer move f)) (blocks_got y))
        ∙ fold-roll-Block PlainStmt PlainStmt PlainStmt (item_step number) (stmt_step number) (block_step number) (moved_block_layer move (map-Block BlockItem Stmt Block BlockItem Stmt Block (moved_item move) (moved_stmt move) (moved_block move) (blocks_got y)))
        ∙ ap (λ l. p.Block (moved_number y.opening) l (moved_number y.closing)) (all_same y.items)
        ∙ sym (fold-roll-Block PlainStmt PlainStmt PlainStmt (item_step moved_number) (stmt_step moved_number) (block_step moved_number) (blocks_got y))

  pub plain-moved_block : (b : Block) → SameBlock b
  plain-moved_block = ind-Block SameItem SameStmt SameBlock
      (λ x y is. subst (λ f. SameItem (roll-BlockItem f)) is (item_roll (λ s. s.0) (λ s. s.0) (λ s. s.0) (λ s. s.1) (λ s. s.1) (λ s. s.1) y))
      (λ x y is. subst (λ f. SameStmt (roll-Stmt f)) is (stmt_roll (λ s. s.0) (λ s. s.0) (λ s. s.0) (λ s. s.1) (λ s. s.1) (λ s. s.1) y))
      (λ x y is. subst (λ f. SameBlock (roll-Block f)) is (block_roll (λ s. s.0) (λ s. s.0) (λ s. s.0) (λ s. s.1) (λ s. s.1) (λ s. s.1) y))
