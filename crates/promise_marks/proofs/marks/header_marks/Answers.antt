use Rattle.std.proofs.Common.{subst}
use Rattle.std.specs.Prelude.{None}
use Rattle.promise_marks.specs.Given.{by_mods}
use Rattle.promise_marks.specs.Marks.{AreMarks}
use Rattle.promise_marks.proofs.Putting.{marks_from}
use Rattle.promise_marks.proofs.marks.header_marks.Goals as goal

pub returns : goal.returns
returns c =
    subst (λ mods. AreMarks (by_mods None mods) c.put_mods.new.marks) c.as_slice.ensures
    (marks_from c.new-marks.result c.put_mods.new.marks (by_mods None c.as_slice.result.now) c.new-marks.ensures c.in_ok-put_mods.ensures)
