-- Whether a statement may come to its end, or past it, without a result.
use Rattle.std.specs.Prelude.{◌||◌, ◌&&◌, not, Bool, true, false, if◌then◌else◌, Option, Some, None}
use Rattle.bound_tree.specs.declared.name.ValueType.{ValueType}
use Rattle.bound_tree.specs.declared.tree.Literal.{Literal}
use Rattle.bound_tree.specs.declared.tree.Literal.TheVariants as literal
use Rattle.bound_tree.specs.declared.unit.Part.{Part}
use Rattle.bound_tree.specs.declared.unit.Part.TheVariants as part
use Rattle.bound_tree.specs.Reading.{statement_of}
use Rattle.bound_tree.specs.Tree.{Term, Terms, Statement, Statements}
use Rattle.bound_tree.specs.Tree as t

abbrev pub is_true : Literal → Bool
is_true (literal.Boolean b) = b
is_true _ = false

-- whether the condition is the constant true
abbrev pub always : Term → Bool
always (t.Const s l) = is_true l
always _ = false

-- `k` being whether what comes after the statement may; a loop on the constant true comes to no end by itself
abbrev mutual
  pub may_end : Statement → Bool → Bool
  may_end (t.Block ss) k = may_end_all ss k
  may_end (t.Declare p x ty v) k = k
  may_end (t.Assign to v) k = k
  may_end (t.Compound to o v) k = k
  may_end (t.Perform v) k = k
  may_end (t.Start p v) k = k
  may_end (t.If v a b) k = may_end a k || (not (always v) && may_end b k)
  may_end (t.While v a) k = if always v then may_end a false else (may_end a false || k)
  may_end (t.Sync v a) k = may_end a k
  may_end (t.SyncClass p c a) k = may_end a k
  may_end (t.Return p) k = true
  may_end (t.ReturnValue p v) k = false

  pub may_end_all : Statements → Bool → Bool
  may_end_all t.no_statements k = k
  may_end_all (t.statement s ss) k = may_end s (may_end_all ss k)

abbrev pub sig_may_end : Option ValueType → Bool
sig_may_end None = true
sig_may_end (Some ty) = false

-- of a unit
abbrev pub part_may_end : Part → Bool
part_may_end (part.Header names) = true
part_may_end (part.Field ty initial) = true
part_may_end (part.Sig params result) = sig_may_end result
part_may_end (part.Body b) = may_end (statement_of b.block) true
