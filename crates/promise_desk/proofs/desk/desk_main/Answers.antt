use Rattle.std.proofs.Common.{sym, subst}
use Rattle.promise_desk.specs.Words.{IsCheck}
use Rattle.promise_desk.specs.Endings.{IsReportOrMemory, text_of}
use Rattle.desk_base.specs.Fault.{Rises}
use Rattle.promise_desk.proofs.Files.{run_completes}
use Rattle.promise_desk.proofs.desk.desk_main.Goals as goal

pub returns-in-Ok-clause-completes : goal.returns-in-Ok-clause-completes
returns-in-Ok-clause-completes g c bytes answers check told of quiet written =
    subst IsReportOrMemory (sym c.code.ensures)
    (run_completes c.answered_files_have_no_cause.ensures (IsCheck c.args.words.now) (g.I.Source.left c.args.input.now) (g.I.Source.left c.run-ending.new.input)
    (Rises (g.I.Source.faults c.args.input.now) (g.I.Source.faults c.run-ending.new.input))
    c.run-ending.result.status (text_of c.run-ending.result.text) bytes answers (c.one_bundle.ensures bytes) check told of quiet c.run-ending.ensures.ends)
