use Rattle.std.proofs.Common.{sym, ◌∙◌, append-nil}
use Rattle.core_model.proofs.Stepped.{stays, steps}
use Rattle.core_model.proofs.machine.advance.Goals as goal
use Rattle.core_model.proofs.machine.advance.Goals.{in-Some-started+in_ok-push, in_default-started}

pub returns-in_default : goal.returns-in_default
returns-in_default c =
    rw c.take.ensures.place (stays c.args.program.now c.args.config c.args.thread (sym c.take.ensures.thread ∙ c.in_default.is))

pub returns : goal.returns
returns c =
    let whole = steps c.args.program.now c.args.config c.args.thread c.in-Some.now c.in_ok-objects.field-0
    (sym c.take.ensures.thread ∙ c.in-Some.is) c.in_ok-objects.ensures in
    elim c.match-started.branch [
      | in-Some-started+in_ok-push w ↦
          rw (w.threads-is, w.in_ok-push.ensures, c.set.ensures, c.take.ensures.place) (rw w.in-Some-started.is at whole)
      | in_default-started w ↦
          rw (w.threads-is, c.set.ensures, c.take.ensures.place) (rw (w.in_default-started.is, append-nil) at whole)
    ]
