use Rattle.std.proofs.Common.{[], ◌∷◌, ◌++◌, ◌∙◌, ap}
use Rattle.std.specs.Prelude.{None}
use Rattle.class_faces.specs.Keys.{text_of}
use Rattle.project_judge.specs.Units.{unit_at}
use Rattle.project_judge.proofs.UnitSteps.{whole_class}
use Rattle.project_judge.proofs.judging.Judging.put_units.Goals as goal

pub returns-clause-put : goal.returns-clause-put
returns-clause-put c surfaces units n is judged =
    let at = c.args.at.now in
    let text = c.args.lines.now.text.now in
    let header = c.in_ok-header.header in
    whole_class surfaces units n c.put_members.new.self at.file text c.put_unit.new.lines.text.now at.class.now header c.as_slice-2.result.now c.put_unit.ensures.same
    (c.in_ok-header.ensures ∙ ap text_of c.as_slice.ensures) (c.as_slice-2.ensures ∙ c.in_ok-keys.ensures)
    (c.in_ok-put_members.ensures.put surfaces (units ++ unit_at at.file text at.class.now None header ∷ []) n is (c.in_ok-put_unit.ensures.put surfaces units n is judged))
