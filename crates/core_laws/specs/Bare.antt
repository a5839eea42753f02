-- Code, programs and configurations without their notes: each note is the same blank one.
use Rattle.std.specs.Prelude.{map}
use Rattle.core_model.specs.Code.{Code, Done, Do, If, While, Enter, EnterClass, Exit}
use Rattle.core_model.specs.declared.instr.Note.{Note}
use Rattle.core_model.specs.declared.instr.Known.TheVariants.{Nothing}
use Rattle.core_model.specs.declared.program.Program.{Program}
use Rattle.core_model.specs.declared.program.UnitCode.{UnitCode}
use Rattle.core_model.specs.declared.config.Call.{Call}
use Rattle.core_model.specs.declared.config.Config.{Config}
use Rattle.core_model.specs.declared.config.Thread.{Thread}

abbrev pub blank : Note
blank = record { place = 0; known = Nothing }

abbrev pub bare : Code → Code
bare Done = Done
bare (Do n p k) = Do blank p (bare k)
bare (If n a b k) = If blank (bare a) (bare b) (bare k)
bare (While n c b k) = While blank (bare c) (bare b) (bare k)
bare (Enter n b k) = Enter blank (bare b) (bare k)
bare (EnterClass n c b k) = EnterClass blank c (bare b) (bare k)
bare (Exit n r k) = Exit blank r (bare k)

abbrev pub bare_unit : UnitCode → UnitCode
bare_unit u = record u { code = bare u.code }

abbrev pub bare_program : Program → Program
bare_program p = record p { units = map bare_unit p.units }

abbrev pub bare_call : Call → Call
bare_call c = record c { rest = bare c.rest }

abbrev pub bare_thread : Thread → Thread
bare_thread t = record t { calls = map bare_call t.calls }

abbrev pub bare_config : Config → Config
bare_config c = record c { threads = map bare_thread c.threads }
