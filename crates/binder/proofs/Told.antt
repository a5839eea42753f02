-- A unit of what is told of it is the bound one.
use Rattle.std.proofs.Common.{◌≡◌, ℕ, List, sym, ap, ◌∙◌}
use Rattle.std.specs.Prelude.{Option, Result, Ok, Err, IfOk}
use Rattle.desk_base.specs.declared.memory.OutOfMemory.{OutOfMemory}
use Rattle.java_tree.specs.declared.file.ClassTree.{ClassTree}
use Rattle.java_tree.specs.declared.member.MemberTree.{MemberTree}
use Rattle.java_tree.specs.declared.token.Token.{Token}
use Rattle.bound_tree.specs.declared.unit.BoundTree.{BoundTree}
use Rattle.promise_marks.specs.declared.mark.Mark.{Mark}
use Rattle.views.specs.Face.{Seen, face}
use Rattle.name_rules.specs.declared.note.Note.{Note}
use Rattle.bound_unit.specs.Made.{made}
use Rattle.bound_unit.specs.UnitFacts.{UnitFacts}
use Rattle.unit_rules.specs.Consulted.{consulted}
use Rattle.unit_rules.specs.Faults.{faults}
use Rattle.binder.specs.Trees.{tree_as}
use Rattle.binder.specs.Units.{IsBoundBy, bound_under, tokens_in}

same_unit : (class : ClassTree) (m : Option MemberTree) (key : List ℕ) (seen : Seen) (marks : List Mark) (tree other : BoundTree) (notes : List Note) (tokens : List Token) (u : UnitFacts)
    → tree_as tree ≡ (bound_under class m key seen marks).tree → notes ≡ (bound_under class m key seen marks).notes → tokens ≡ tokens_in class m → u.tree ≡ other → other ≡ tree
    → u ≡ made key tree (faults key tokens notes) (consulted (face seen) key tree notes) → IsBoundBy class m key seen marks u
same_unit class m key seen marks tree other notes tokens u bound noted read is same all = record {
  tree = ap tree_as (is ∙ same) ∙ bound;
  is = all ∙ (ap (λ t. made key t (faults key tokens notes) (consulted (face seen) key t notes)) (sym (is ∙ same))
      ∙ (ap (λ ts. made key u.tree (faults key ts notes) (consulted (face seen) key u.tree notes)) read
      ∙ ap (λ ns. made key u.tree (faults key (tokens_in class m) ns) (consulted (face seen) key u.tree ns)) noted));
}

pub told_by : (r : Result UnitFacts OutOfMemory) (class : ClassTree) (m : Option MemberTree) (key : List ℕ) (seen : Seen) (marks : List Mark) (tree : BoundTree) (notes : List Note) (tokens : List Token)
    → tree_as tree ≡ (bound_under class m key seen marks).tree → notes ≡ (bound_under class m key seen marks).notes → tokens ≡ tokens_in class m
    → IfOk r (λ u. u ≡ made key tree (faults key tokens notes) (consulted (face seen) key tree notes)) → IfOk r (IsBoundBy class m key seen marks)
told_by (Ok u) class m key seen marks tree notes tokens bound noted read all =
    same_unit class m key seen marks tree u.tree notes tokens u bound noted read (λ i. u.tree) (ap (λ (v : UnitFacts). v.tree) all) all
told_by (Err e) class m key seen marks tree notes tokens bound noted read all = tt
