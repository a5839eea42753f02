use Rattle.core_model.specs.Begin.{begin}
use Rattle.core_types.proofs.Wholes.{begin-fits, step-fits, run-fits}
use Rattle.core_types.proofs.typing.types_are_kept.Goals as goal

pub returns-clause-begun : goal.returns-clause-begun
returns-clause-begun c = begin-fits

pub returns-clause-kept : goal.returns-clause-kept
returns-clause-kept c = step-fits

pub returns-clause-always : goal.returns-clause-always
returns-clause-always c = λ p T program mains schedule h. run-fits p T (begin p mains) schedule (begin-fits p T program mains h)

pub returns-clause-well_typed : goal.returns-clause-well_typed
returns-clause-well_typed c = λ p typed mains schedule h.
    (typed.0, run-fits p typed.0 (begin p mains) schedule (begin-fits p typed.0 typed.1 mains h))
