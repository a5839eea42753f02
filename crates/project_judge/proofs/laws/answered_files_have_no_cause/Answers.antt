use Rattle.project_judge.proofs.OneAnswer.{no_cause}
use Rattle.project_judge.proofs.laws.answered_files_have_no_cause.Goals as goal

pub returns : goal.returns
returns c = no_cause c.one_project.ensures c.projects_have_no_cause.ensures c.one_surface.ensures c.one_bound_unit.ensures
