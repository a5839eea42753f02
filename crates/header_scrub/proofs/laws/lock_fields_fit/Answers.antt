use Rattle.header_scrub.proofs.Lawful.{field_fits}
use Rattle.header_scrub.proofs.laws.lock_fields_fit.Goals as goal

pub returns : goal.returns
returns c = field_fits
