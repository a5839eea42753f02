use Rattle.core_laws.proofs.Bares.{alike-runs}
use Rattle.core_laws.proofs.notes.notes_change_nothing.Goals as goal

pub returns : goal.returns
returns c = alike-runs
