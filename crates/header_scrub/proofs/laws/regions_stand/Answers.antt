use Rattle.header_scrub.proofs.Lawful.{no_fault}
use Rattle.header_scrub.proofs.laws.regions_stand.Goals as goal

pub returns : goal.returns
returns c = no_fault
