-- The names that a body assigns to: the bare targets of its assignments and steps (JLS 8, 4.12.4).
use Rattle.std.specs.Prelude.{◌≡◌, ℕ, List, [], ◌∷◌, ◌++◌, Bool, ◌||◌, Option, Some, None}
use Rattle.std.specs.List.{flat_map, list_any}
use Rattle.std.specs.Str.{bytes_eq}
use Rattle.std.specs.Ordering.{nat_cmp}
use Rattle.std.specs.Cmp.Lexicographic.{slice_cmp}
use Rattle.std.specs.BTreeSet.{BTreeSet, contains}
use Rattle.java_tree.specs.declared.expr.Expr.{Expr, out-Expr}
use Rattle.java_tree.specs.declared.expr.Expr.TheOpen.{Expr-F}
use Rattle.java_tree.specs.declared.stmt.Action.{Action}
use Rattle.java_tree.specs.declared.stmt.Action.TheVariants as act
use Rattle.java_tree.specs.declared.stmt.ForFirst.{ForFirst}
use Rattle.java_tree.specs.declared.stmt.ForFirst.TheVariants as first
use Rattle.java_tree.specs.declared.stmt.Block.{Block}
use Rattle.java_tree.specs.declared.stmt.Stmt.{Stmt}
use Rattle.java_tree.specs.declared.stmt.BlockItem.{BlockItem}
use Rattle.java_tree.specs.declared.stmt.BlockItem.TheOpen.{Stmt-F, BlockItem-F, Block-F}
use Rattle.java_tree.specs.declared.stmt.BlockItem.TheFolds.{fold-Block, fold-Stmt, fold-BlockItem}

-- the list of names
abbrev pub Names : Type 0
Names = List (List ℕ)

abbrev pub bare_name : Expr-F Expr → Names
bare_name (Expr-F.Name word) = word.text ∷ []
bare_name _ = []

abbrev pub by_action : Action → Names
by_action (act.Assign target op at value) = bare_name (out-Expr target)
by_action (act.StepAfter target op at) = bare_name (out-Expr target)
by_action (act.StepBefore at op target) = bare_name (out-Expr target)
by_action _ = []

abbrev pub by_first : ForFirst → Names
by_first (first.Action does) = by_action does
by_first _ = []

abbrev pub by_step : Option Action → Names
by_step None = []
by_step (Some does) = by_action does

abbrev pub by_else : Option Names → Names
by_else None = []
by_else (Some names) = names

-- One layer of a statement, with the names of each inner one in its place.
abbrev pub item_step : BlockItem-F Names Names Names → Names
item_step (BlockItem-F.Local local at) = []
item_step (BlockItem-F.Stmt names) = names

abbrev pub stmt_step : Stmt-F Names Names Names → Names
stmt_step (Stmt-F.Block names) = names
stmt_step (Stmt-F.Empty at) = []
stmt_step (Stmt-F.Action does at) = by_action does
stmt_step (Stmt-F.If at test then other) = then ++ by_else other
stmt_step (Stmt-F.While at test body) = body
stmt_step (Stmt-F.For at start test step body) = (by_first start ++ by_step step) ++ body
stmt_step (Stmt-F.Sync at monitor names) = names
stmt_step (Stmt-F.Return at value end) = []

abbrev pub block_step : Block-F Names Names Names → Names
block_step b = flat_map (λ names. names) b.items

-- the names that a block, an item of one, or a statement assigns to, in written order
abbrev pub block_names : Block → Names
block_names = fold-Block Names Names Names item_step stmt_step block_step

abbrev pub item_names : BlockItem → Names
item_names = fold-BlockItem Names Names Names item_step stmt_step block_step

abbrev pub stmt_names : Stmt → Names
stmt_names = fold-Stmt Names Names Names item_step stmt_step block_step

-- the name is among these
abbrev pub is_among : List ℕ → Names → Bool
is_among name names = list_any (λ n. bytes_eq n name) names

-- the set has the name
abbrev pub has_name : BTreeSet (List ℕ) → List ℕ → Bool
has_name set name = contains (slice_cmp nat_cmp) set name

-- the set has these names besides
pub record Puts (old new : BTreeSet (List ℕ)) (names : Names) : Type 0 where
  pub puts : (name : List ℕ) → has_name new name ≡ (has_name old name || is_among name names)
