-- A unit is bound to one unit: its annotations have one tree each, and its tree is told by its plain data.
use Rattle.std.proofs.Common.{◌≡◌, ℕ, List, [], ◌∷◌, refl, sym, ap, ◌∙◌, subst}
use Rattle.std.specs.Prelude.{Option, Some, None}
use Rattle.java_tree.specs.declared.file.ClassTree.{ClassTree}
use Rattle.java_tree.specs.declared.member.MemberTree.{MemberTree}
use Rattle.bound_tree.specs.declared.name.ValueType.{ValueType}
use Rattle.bound_tree.specs.declared.unit.Body.{Body as KeptBody}
use Rattle.bound_tree.specs.declared.unit.BoundTree.{BoundTree}
use Rattle.bound_tree.specs.declared.unit.Initial.{Initial as First}
use Rattle.bound_tree.specs.declared.unit.Part.{Part}
use Rattle.bound_tree.specs.declared.unit.Part.TheVariants as part
use Rattle.bound_tree.specs.declared.unit.Variable.{Variable}
use Rattle.bound_tree.specs.declared.unit.Word.{Word}
use Rattle.promise_grammar.specs.declared.kind.PromiseKind.{PromiseKind}
use Rattle.promise_grammar.specs.declared.tree.PromiseTree.{PromiseTree}
use Rattle.promise_marks.specs.declared.mark.Mark.{Mark}
use Rattle.promise_marks.specs.Given.{Given}
use Rattle.promise_marks.specs.Marks.{AreMarks, IsMark, IsTree}
use Rattle.views.specs.Face.{Seen, face}
use Rattle.bound_unit.specs.Made.{made}
use Rattle.bound_unit.specs.UnitFacts.{UnitFacts}
use Rattle.unit_rules.specs.Consulted.{consulted}
use Rattle.unit_rules.specs.Faults.{faults}
use Rattle.binder.specs.Trees.{PlainBody, PlainPart, PlainTree, body_as, part_as, tree_as}
use Rattle.binder.specs.Trees as plain
use Rattle.binder.specs.Units.{IsBound, IsBoundBy, bound_under, given_of, tokens_in}
use Rattle.binder.proofs.Back.{one_statement}

-- ---- the annotations

tree_same : (k : PromiseKind) (c : Option (List ℕ)) (t u : Option PromiseTree) → IsTree k c t → IsTree k c u → t ≡ u
tree_same k None t u a b = a ∙ sym b
tree_same k (Some c) None None a b = refl
tree_same k (Some c) None (Some u) a b = absurd (a u b.0)
tree_same k (Some c) (Some t) None a b = absurd (b t a.0)
tree_same k (Some c) (Some t) (Some u) a b = ap (λ (x : PromiseTree). Some x) (b.1 t a.0)

mark_same : (g : Given) (m n : Mark) → IsMark g m → IsMark g n → m ≡ n
mark_same g m n a b =
    let p : m.param ≡ n.param = a.param ∙ sym b.param in
    let k : m.kind ≡ n.kind = a.kind ∙ sym b.kind in
    let t : m.tree ≡ n.tree = tree_same g.kind g.content m.tree n.tree a.tree b.tree in
    λ i. record { param = p i; kind = k i; tree = t i }

marks_same : (gs : List Given) (ms ns : List Mark) → AreMarks gs ms → AreMarks gs ns → ms ≡ ns
marks_same [] [] [] a b = refl
marks_same [] [] (n ∷ ns) a b = absurd b
marks_same [] (m ∷ ms) ns a b = absurd a
marks_same (g ∷ gs) [] ns a b = absurd a
marks_same (g ∷ gs) (m ∷ ms) [] a b = absurd b
marks_same (g ∷ gs) (m ∷ ms) (n ∷ ns) a b =
    let h : m ≡ n = mark_same g m n a.0 b.0 in
    let t : ms ≡ ns = marks_same gs ms ns a.1 b.1 in
    λ i. h i ∷ t i

-- ---- the tree

body_same : (a b : KeptBody) → body_as a ≡ body_as b → a ≡ b
body_same a b same =
    let name = ap (λ (x : PlainBody). x.name) same in
    let static_ = ap (λ (x : PlainBody). x.is_static) same in
    let synchronized_ = ap (λ (x : PlainBody). x.is_synchronized) same in
    let params = ap (λ (x : PlainBody). x.params) same in
    let gives = ap (λ (x : PlainBody). x.result) same in
    let block = one_statement a.block b.block (ap (λ (x : PlainBody). x.block) same) in
    λ i. record { name = name i; is_static = static_ i; is_synchronized = synchronized_ i; params = params i; result = gives i; block = block i }

headers_same : (ns ms : List Word) → plain.Header ns ≡ plain.Header ms → ns ≡ ms
headers_same ns ms e = cc

field_types : (a b : ValueType) (v w : First) → plain.Field a v ≡ plain.Field b w → a ≡ b
field_types a b v w e = cc

field_firsts : (a b : ValueType) (v w : First) → plain.Field a v ≡ plain.Field b w → v ≡ w
field_firsts a b v w e = cc

sig_params : (ps qs : List Variable) (a b : Option ValueType) → plain.Sig ps a ≡ plain.Sig qs b → ps ≡ qs
sig_params ps qs a b e = cc

sig_results : (ps qs : List Variable) (a b : Option ValueType) → plain.Sig ps a ≡ plain.Sig qs b → a ≡ b
sig_results ps qs a b e = cc

bodies_same : (a b : PlainBody) → plain.Body a ≡ plain.Body b → a ≡ b
bodies_same a b e = cc

part_same : (a b : Part) → part_as a ≡ part_as b → a ≡ b
part_same (part.Header ns) (part.Header ms) e = ap part.Header (headers_same ns ms e)
part_same (part.Header ns) (part.Field b w) e = absurd (cc)
part_same (part.Header ns) (part.Sig qs b) e = absurd (cc)
part_same (part.Header ns) (part.Body b) e = absurd (cc)
part_same (part.Field a v) (part.Header ms) e = absurd (cc)
part_same (part.Field a v) (part.Field b w) e = let ty = field_types a b v w e in let first = field_firsts a b v w e in λ i. part.Field (ty i) (first i)
part_same (part.Field a v) (part.Sig qs b) e = absurd (cc)
part_same (part.Field a v) (part.Body b) e = absurd (cc)
part_same (part.Sig ps a) (part.Header ms) e = absurd (cc)
part_same (part.Sig ps a) (part.Field b w) e = absurd (cc)
part_same (part.Sig ps a) (part.Sig qs b) e = let params = sig_params ps qs a b e in let gives = sig_results ps qs a b e in λ i. part.Sig (params i) (gives i)
part_same (part.Sig ps a) (part.Body b) e = absurd (cc)
part_same (part.Body a) (part.Header ms) e = absurd (cc)
part_same (part.Body a) (part.Field b w) e = absurd (cc)
part_same (part.Body a) (part.Sig qs b) e = absurd (cc)
part_same (part.Body a) (part.Body b) e = ap part.Body (body_same a b (bodies_same (body_as a) (body_as b) e))

-- trees that are one as plain data are one
pub one_tree : (a b : BoundTree) → tree_as a ≡ tree_as b → a ≡ b
one_tree a b same =
    let class = ap (λ (x : PlainTree). x.class) same in
    let annotations = ap (λ (x : PlainTree). x.annotations) same in
    let standing = ap (λ (x : PlainTree). x.standing) same in
    let parts = part_same a.part b.part (ap (λ (x : PlainTree). x.part) same) in
    λ i. record { class = class i; annotations = annotations i; standing = standing i; part = parts i }

-- ---- the unit

by_marks : (class : ClassTree) (m : Option MemberTree) (key : List ℕ) (seen : Seen) (marks : List Mark) (u v : UnitFacts)
    → IsBoundBy class m key seen marks u → IsBoundBy class m key seen marks v → u ≡ v
by_marks class m key seen marks u v a b =
    a.is
    ∙ (ap (λ t. made key t (faults key (tokens_in class m) (bound_under class m key seen marks).notes) (consulted (face seen) key t (bound_under class m key seen marks).notes))
    (one_tree u.tree v.tree (a.tree ∙ sym b.tree))
    ∙ sym b.is)

pub one_unit : (class : ClassTree) (m : Option MemberTree) (key : List ℕ) (seen : Seen) (u v : UnitFacts) → IsBound class m key seen u → IsBound class m key seen v → u ≡ v
one_unit class m key seen u v a b =
    by_marks class m key seen b.marks u v
    (subst (λ ms. IsBoundBy class m key seen ms u) (marks_same (given_of class m) a.marks b.marks a.read b.read) a.is) b.is
