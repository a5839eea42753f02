-- The annotations of members, one by one.
use Rattle.std.proofs.Common.{◌≡◌, ℕ, ◌+◌, ◌<◌, List, [], ◌∷◌, ◌++◌, length, take, get_or, sym, ◌∙◌, ap, subst}
use Rattle.std.proofs.lemmas.List.{take_more}
use Rattle.java_tree.specs.declared.member.MemberTree.{MemberTree}
use Rattle.promise_marks.specs.declared.mark.Mark.{Mark}
use Rattle.promise_marks.specs.Given.{by_member}
use Rattle.promise_marks.specs.Marks.{AreMarks}
use Rattle.promise_scrub.specs.Surfaces.{AreMemberMarks}

marks_push : (ms : List MemberTree) (marks : List (List Mark)) (m : MemberTree) (new : List Mark) → AreMemberMarks ms marks → AreMarks (by_member m) new
    → AreMemberMarks (ms ++ m ∷ []) (marks ++ new ∷ [])
marks_push [] [] m new are more = (more, tt)
marks_push [] (a ∷ as_) m new are more = absurd are
marks_push (k ∷ ks) [] m new are more = absurd are
marks_push (k ∷ ks) (a ∷ rest) m new are more = (are.0, marks_push ks rest m new are.1 more)

-- those of one member more
pub marks_more : (ms : List MemberTree) (i : ℕ) (m : MemberTree) (marks : List (List Mark)) (new : List Mark) → i < length ms → m ≡ get_or ms i m
    → AreMemberMarks (take i ms) marks → AreMarks (by_member m) new → AreMemberMarks (take (i + 1) ms) (marks ++ new ∷ [])
marks_more ms i m marks new low is are more =
    subst (λ (z : List MemberTree). AreMemberMarks z (marks ++ new ∷ [])) (ap (λ (x : MemberTree). take i ms ++ x ∷ []) is ∙ sym (take_more ms i m low))
    (marks_push (take i ms) marks m new are more)
