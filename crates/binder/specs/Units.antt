-- The units of a class: the header, and each member.
use Rattle.std.specs.Prelude.{◌≡◌, ℕ, ◌<◌, List, [], length, Option, Some, None, unwrap_or}
use Rattle.std.specs.List.{slice_get}
use Rattle.java_tree.specs.declared.file.ClassTree.{ClassTree}
use Rattle.java_tree.specs.declared.member.MemberTree.{MemberTree}
use Rattle.java_tree.specs.declared.token.Token.{Token}
use Rattle.java_members.specs.Spelling.{tokens_of}
use Rattle.class_faces.specs.Keys.{member_keys, text_of}
use Rattle.tree_places.specs.Numbers.{number_of}
use Rattle.promise_marks.specs.declared.mark.Mark.{Mark}
use Rattle.promise_marks.specs.Given.{Given, by_header, by_member}
use Rattle.promise_marks.specs.Marks.{AreMarks}
use Rattle.views.specs.Face.{Seen, face}
use Rattle.bound_unit.specs.Made.{made}
use Rattle.bound_unit.specs.UnitFacts.{UnitFacts}
use Rattle.unit_rules.specs.Consulted.{consulted}
use Rattle.unit_rules.specs.Faults.{faults}
use Rattle.binder.specs.Bound.{Bound, bound}
use Rattle.binder.specs.Trees.{tree_as}

-- the header, or a member by its number in written order, from 0
abbrev pub IsUnit : ClassTree → Option ℕ → Type 0
IsUnit class None = Unit {0}
IsUnit class (Some n) = n < length class.members

abbrev pub member_at : ClassTree → Option ℕ → Option MemberTree
member_at class None = None
member_at class (Some n) = slice_get class.members n

-- its key
abbrev pub key_at : ClassTree → Option ℕ → List ℕ
key_at class None = text_of class.name.text
key_at class (Some n) = unwrap_or (slice_get (member_keys class) n) []

abbrev pub member_tokens : MemberTree → List Token
member_tokens m = tokens_of m

-- its tokens
abbrev pub tokens_in : ClassTree → Option MemberTree → List Token
tokens_in class None = class.tokens
tokens_in class (Some m) = member_tokens m

-- its promise annotations
abbrev pub given_of : ClassTree → Option MemberTree → List Given
given_of class None = by_header class
given_of class (Some m) = by_member m

-- ---- bound under a view, where a place is the number of its token among the unit's own

abbrev pub bound_under : ClassTree → Option MemberTree → (key : List ℕ) → Seen → List Mark → Bound
bound_under class m key seen marks = bound (face seen) (number_of (tokens_in class m)) class m key marks

-- by these annotations, what is known of the unit: its code is that of its tree, and its bind findings and
-- its consulted names are of what is told of it
pub record IsBoundBy (class : ClassTree) (m : Option MemberTree) (key : List ℕ) (seen : Seen) (marks : List Mark) (u : UnitFacts) : Type 0 where
  pub tree : tree_as u.tree ≡ (bound_under class m key seen marks).tree
  pub is : u ≡ made key u.tree (faults key (tokens_in class m) (bound_under class m key seen marks).notes)
      (consulted (face seen) key u.tree (bound_under class m key seen marks).notes)

-- IsBound: by its own annotations, whose contents are read.
pub record IsBound (class : ClassTree) (m : Option MemberTree) (key : List ℕ) (seen : Seen) (u : UnitFacts) : Type 0 where
  pub marks : List Mark
  pub read : AreMarks (given_of class m) marks
  pub is : IsBoundBy class m key seen marks u
