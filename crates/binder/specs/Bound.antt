-- A unit of a class, bound: its tree, with what each name names and the type of each expression, and what
-- is told of it. What is shown of each name is by a look-up, and each place is a number.
use Rattle.std.specs.Prelude.{ℕ, List, Option, Some, None}
use Rattle.desk_base.specs.declared.span.Span.{Span}
use Rattle.java_tree.specs.declared.file.ClassTree.{ClassTree}
use Rattle.java_tree.specs.declared.member.MemberTree.{MemberTree}
use Rattle.promise_marks.specs.declared.mark.Mark.{Mark}
use Rattle.name_rules.specs.declared.note.Note.{Note}
use Rattle.bound_unit.specs.Names.{Faces}
use Rattle.unit_rules.specs.Headers.{header_notes, header_tree}
use Rattle.binder.specs.Members.{member_notes, member_tree}
use Rattle.binder.specs.Trees.{PlainTree, tree_as}

pub record Bound : Type 0 where
  pub tree : PlainTree
  pub notes : List Note

-- Bound: a header, or a member of the class, under its key and by its promise annotations.
abbrev pub bound : Faces → (Span → ℕ) → ClassTree → Option MemberTree → (key : List ℕ) → List Mark → Bound
bound faces number class None key marks = record {
  tree = tree_as (header_tree faces number class key marks);
  notes = header_notes faces number class marks;
}
bound faces number class (Some m) key marks = record {
  tree = member_tree faces number class.name.text m key marks;
  notes = member_notes faces number class.name.text m key;
}
