use Rattle.bundle.proofs.Whole.{one_list}
use Rattle.bundle.proofs.unique.one_bundle.Goals as goal

pub returns : goal.returns
returns c = one_list
