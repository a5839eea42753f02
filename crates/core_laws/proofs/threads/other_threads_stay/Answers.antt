use Rattle.core_laws.proofs.Others.{others-stay}
use Rattle.core_laws.proofs.threads.other_threads_stay.Goals as goal

pub returns : goal.returns
returns c = others-stay
