use Rattle.core_types.proofs.Codes.{need-append, fits-append, reads-append, ends-append, ends-map}
use Rattle.core_types.proofs.growing.code_is_typed_by_parts.Goals as goal

pub returns-clause-needs : goal.returns-clause-needs
returns-clause-needs c = need-append

pub returns-clause-fits : goal.returns-clause-fits
returns-clause-fits c = fits-append

pub returns-clause-reading : goal.returns-clause-reading
returns-clause-reading c = reads-append

pub returns-clause-ending : goal.returns-clause-ending
returns-clause-ending c = ends-append

pub returns-clause-more : goal.returns-clause-more
returns-clause-more c = ends-map
