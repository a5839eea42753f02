use Rattle.project_files.proofs.OneProject.{one_list_of_trees}
use Rattle.project_files.proofs.laws.one_project.Goals as goal

pub returns : goal.returns
returns c = one_list_of_trees c.one_tree.ensures
