-- Why an input wasn't read to its end.
use Rattle.std.specs.Prelude.{ℕ, List, Option}
use Rattle.desk_base.specs.Fault.{Rises}
use Rattle.promise_desk.specs.declared.intake.IntakeError.{IntakeError}
use Rattle.promise_desk.specs.declared.intake.IntakeError.TheVariants.{Fault, TooLong, OutOfMemory}
use Rattle.promise_desk.specs.Intake.{WasTooLong}

-- the error's cause, from what was left of the input and its counts of faults before and after
abbrev pub IsCauseOf : Option (List ℕ) → ℕ → ℕ → IntakeError → Type 0
IsCauseOf left before after Fault = Rises before after
IsCauseOf left before after TooLong = WasTooLong left
IsCauseOf left before after OutOfMemory = Unit {0}
