use Rattle.project_answers.proofs.Ways.{unit_ways}
use Rattle.project_answers.proofs.laws.unit_findings_have_ways.Goals as goal

pub returns : goal.returns
returns c = unit_ways
