use Rattle.project_answers.proofs.Blaming.{all_blamed}
use Rattle.project_answers.proofs.laws.blames_are_rows.Goals as goal

pub returns : goal.returns
returns c = all_blamed
