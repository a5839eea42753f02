use Rattle.header_scrub.proofs.Lawful.{regions_apart}
use Rattle.header_scrub.proofs.laws.lock_regions_apart.Goals as goal

pub returns : goal.returns
returns c = regions_apart
