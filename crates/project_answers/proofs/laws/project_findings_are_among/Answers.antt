use Rattle.project_answers.proofs.Among.{project_among}
use Rattle.project_answers.proofs.laws.project_findings_are_among.Goals as goal

pub returns : goal.returns
returns c = project_among
