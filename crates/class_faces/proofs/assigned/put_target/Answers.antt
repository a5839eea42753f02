use Rattle.std.proofs.Common.{subst, sym, ap, ◌∙◌, ◌∷◌, []}
use Rattle.java_tree.specs.declared.expr.Expr.{out-Expr}
use Rattle.class_faces.specs.Assigned.{Names, Puts, bare_name}
use Rattle.class_faces.proofs.Assigns.{puts_one}
use Rattle.class_faces.proofs.assigned.put_target.Goals as goal

pub returns-in_ok-insert-in-Name : goal.returns-in_ok-insert-in-Name
unfolding out-Expr denote.Hole.Carrier.out
returns-in_ok-insert-in-Name c =
    let P : Names → Type 0 = λ names. Puts c.args.names.now c.insert.new.self names in
    subst P (ap (λ n. n ∷ []) c.in_ok-clone-in-Name.ensures.cases ∙ sym (ap (λ e. bare_name (out-Expr e)) c.in-Name.is))
    (puts_one c.args.names.now c.insert.new.self c.in_ok-clone-in-Name.field-0 c.in_ok-insert-in-Name.ensures.updates)
