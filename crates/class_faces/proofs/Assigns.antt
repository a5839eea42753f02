-- Sets of assigned names, as names are put to them.
use Rattle.std.proofs.Common.{◌≡◌, ℕ, ◌≤◌, List, [], ◌∷◌, ◌++◌, length, take, map, refl, sym, ◌∙◌, ap, subst, Bool, true, false, cond}
use Rattle.std.specs.Prelude.{◌||◌}
use Rattle.std.specs.List.{flat_map}
use Rattle.std.specs.Ordering.{nat_cmp}
use Rattle.std.specs.Cmp.Lexicographic.{slice_cmp}
use Rattle.std.specs.Str.{bytes_eq}
use Rattle.std.specs.BTreeSet.{BTreeSet, Updates}
use Rattle.std.proofs.lemmas.Map.Text.{is_eq-slice_cmp}
use Rattle.std.proofs.lemmas.List.{take_all}
use Rattle.std.proofs.lemmas.List.Folds.{list_any-append}
use Rattle.java_tree.specs.declared.stmt.Block.{Block, out-Block}
use Rattle.java_tree.specs.declared.stmt.Stmt.{Stmt}
use Rattle.java_tree.specs.declared.stmt.BlockItem.{BlockItem}
use Rattle.java_tree.specs.declared.stmt.BlockItem.TheFolds.{fold_out-Block, fold-roll-Stmt}
use Rattle.java_tree.specs.declared.stmt.BlockItem.TheOpen.{Stmt-F}
use Rattle.std.specs.Prelude.{Option, Result, Ok, Err, OnOk}
use Rattle.desk_base.specs.declared.memory.OutOfMemory.{OutOfMemory}
use Rattle.desk_base.specs.declared.span.Span.{Span}
use Rattle.java_tree.specs.declared.expr.Expr.{Expr}
use Rattle.java_tree.specs.declared.stmt.Action.{Action}
use Rattle.java_tree.specs.declared.stmt.ForFirst.{ForFirst}
use Rattle.java_tree.specs.declared.stmt.Stmt.TheVariants as stmt
use Rattle.class_faces.specs.Assigned.{Names, Puts, has_name, is_among, by_first, by_step, item_step, stmt_step, block_step, block_names, item_names, stmt_names}

or_false : (b : Bool) → (b || false) ≡ b
or_false true = refl
or_false false = refl

or_assoc : (a b c : Bool) → ((a || b) || c) ≡ (a || (b || c))
or_assoc true b c = refl
or_assoc false b c = refl

-- nothing is put
pub puts_none : (set : BTreeSet (List ℕ)) → Puts set set []
puts_none set = record { puts = λ name. sym (or_false (has_name set name)) }

-- one name is put
pub puts_one : (old new : BTreeSet (List ℕ)) (name : List ℕ) → Updates (slice_cmp nat_cmp) old new name true → Puts old new (name ∷ [])
puts_one old new name u = record {
  puts = λ q.
      let step : has_name new q ≡ cond (bytes_eq name q) true (has_name old q) = u.0 q ∙ ap (λ (b : Bool). cond b true (has_name old q)) (is_eq-slice_cmp name q) in
      step ∙ both (bytes_eq name q) (has_name old q);
}
  where
    both : (b h : Bool) → cond b true h ≡ (h || (b || false))
    both true true = refl
    both true false = refl
    both false true = refl
    both false false = refl

-- names are put, and then more
pub puts_more : (a b c : BTreeSet (List ℕ)) (xs ys : Names) → Puts a b xs → Puts b c ys → Puts a c (xs ++ ys)
puts_more a b c xs ys one two = record {
  puts = λ q.
      two.puts q ∙ ap (λ (h : Bool). h || is_among q ys) (one.puts q) ∙ or_assoc (has_name a q) (is_among q xs) (is_among q ys)
      ∙ ap (λ (h : Bool). has_name a q || h) (sym (list_any-append (λ n. bytes_eq n q) xs ys));
}

joined : (items : List BlockItem) → flat_map (λ (names : Names). names) (map item_names items) ≡ flat_map item_names items
joined [] = refl
joined (item ∷ items) = ap (λ (z : Names). item_names item ++ z) (joined items)

-- the names of a block are those of its items
pub block_out : (b : Block) → block_names b ≡ flat_map item_names (out-Block b).items
block_out b = fold_out-Block Names Names Names item_step stmt_step block_step b ∙ joined (out-Block b).items

-- all items of a block are done
pub block_done : (old new : BTreeSet (List ℕ)) (b : Block) (items : List BlockItem) (i : ℕ) → items ≡ (out-Block b).items → length items ≤ i
    → Puts old new (flat_map item_names (take i items)) → Puts old new (block_names b)
block_done old new b items i is past done =
    let P : Names → Type 0 = λ names. Puts old new names in
    subst P (ap (flat_map item_names) (take_all i items past) ∙ ap (flat_map item_names) is ∙ sym (block_out b)) done

-- names are put, and then, in a call that may fail, more
pub puts_after : (r : Result (Unit {0}) OutOfMemory) (a b c : BTreeSet (List ℕ)) (xs ys : Names) → Puts a b xs → OnOk r (Puts b c ys) → OnOk r (Puts a c (xs ++ ys))
puts_after (Ok x) a b c xs ys one two = puts_more a b c xs ys one two
puts_after (Err e) a b c xs ys one two = tt

-- the names of a `for`
pub for_names : (at : Span) (start : ForFirst) (test : Option Expr) (step : Option Action) (body : Stmt)
    → stmt_names (stmt.For at start test step body) ≡ (by_first start ++ by_step step) ++ stmt_names body
for_names at start test step body =
    ap stmt_names (sym (stmt.rolls-For at start test step body))
    ∙ fold-roll-Stmt Names Names Names item_step stmt_step block_step (Stmt-F.For at start test step body)
