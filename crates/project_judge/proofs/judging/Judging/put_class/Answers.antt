use Rattle.std.proofs.Common.{◌∙◌, ap}
use Rattle.project_judge.specs.Found.{asides_in}
use Rattle.project_judge.proofs.judging.Judging.put_class.Goals as goal

pub returns-in_ok-put_units-in-Some-clause-put : goal.returns-in_ok-put_units-in-Some-clause-put
returns-in_ok-put_units-in-Some-clause-put c units n among judged =
    c.in_ok-put_units-in-Some.ensures.put c.args.surfaces.now units n (record { view = c.view_of.ensures; asides = c.as_slice.ensures ∙ ap asides_in c.in-Some.ensures }) judged
