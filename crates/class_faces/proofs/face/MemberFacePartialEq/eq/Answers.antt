use Rattle.std.proofs.Common.{sym, ◌∙◌}
use Rattle.class_faces.specs.Same.{member_decides}
use Rattle.class_faces.proofs.face.MemberFacePartialEq.eq.Goals as goal

pub returns-clause-exact : goal.returns-clause-exact
returns-clause-exact c =
    let decides = member_decides c.args.self.now c.args.other.now in
    ((λ h. decides.0 (sym c.is_same.ensures ∙ h)), (λ e. c.is_same.ensures ∙ decides.1 e))
