use Rattle.core_types.proofs.Sparing.{field-stays}
use Rattle.core_types.proofs.spared.fields_that_no_code_writes_stay.Goals as goal

pub returns : goal.returns
returns c = λ p T k i program spared mains schedule more h r v e g. field-stays p T program k i spared mains schedule more h r v e g
