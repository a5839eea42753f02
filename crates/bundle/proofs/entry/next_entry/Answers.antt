use Rattle.bundle.specs.File.{file_of}
use Rattle.bundle.proofs.Laws.{found_law, only_law}
use Rattle.bundle.proofs.entry.next_entry.Goals as goal

pub returns-clause-found : goal.returns-clause-found
returns-clause-found c = found_law (λ r. (file_of r.0, r.1.now)) c.cut_entry.result c.args.bytes.now c.cut_entry.ensures

pub returns-clause-only : goal.returns-clause-only
returns-clause-only c = only_law (λ r. (file_of r.0, r.1.now)) c.cut_entry.result c.args.bytes.now c.cut_entry.ensures
