use Rattle.promise_marks.specs.Given.{by_member}
use Rattle.promise_marks.proofs.Putting.{marks_from}
use Rattle.promise_marks.proofs.marks.member_marks.Goals as goal

pub returns : goal.returns
returns c =
    marks_from c.new-marks.result c.put_marks.new.marks (by_member c.args.member.now) c.new-marks.ensures c.in_ok-put_marks.ensures
