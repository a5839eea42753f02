use Rattle.project_files.proofs.OneProject.{no_cause}
use Rattle.project_files.proofs.laws.projects_have_no_cause.Goals as goal

pub returns : goal.returns
returns c = no_cause c.one_tree.ensures
