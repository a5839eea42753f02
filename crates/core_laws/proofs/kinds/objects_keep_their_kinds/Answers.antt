use Rattle.core_laws.proofs.Shaping.{kind-step, shaped-run}
use Rattle.core_laws.proofs.kinds.objects_keep_their_kinds.Goals as goal

pub returns-clause-stays : goal.returns-clause-stays
returns-clause-stays c = kind-step

pub returns-clause-shaped : goal.returns-clause-shaped
returns-clause-shaped c = shaped-run
