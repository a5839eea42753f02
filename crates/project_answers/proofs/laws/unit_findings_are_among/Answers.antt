use Rattle.project_answers.proofs.Among.{unit_among}
use Rattle.project_answers.proofs.laws.unit_findings_are_among.Goals as goal

pub returns : goal.returns
returns c = unit_among
