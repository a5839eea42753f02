use Rattle.project_answers.proofs.Ways.{project_ways}
use Rattle.project_answers.proofs.laws.project_findings_have_ways.Goals as goal

pub returns : goal.returns
returns c = project_ways
