use Rattle.region_scrub.proofs.OneWay.{clears_same}
use Rattle.region_scrub.proofs.laws.one_clearing.Goals as goal

pub returns : goal.returns
returns c = λ declared a b one other. clears_same one.0 other.0 declared _ a b one.1 other.1
