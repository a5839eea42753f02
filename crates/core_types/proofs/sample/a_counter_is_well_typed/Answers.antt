use Rattle.core_types.proofs.Sampled.{sample-fits}
use Rattle.core_types.proofs.sample.a_counter_is_well_typed.Goals as goal

pub returns : goal.returns
returns c = sample-fits
