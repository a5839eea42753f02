use Rattle.promise_scrub.proofs.Gathering.{marks_more}
use Rattle.promise_scrub.proofs.gather.all_marks.Goals as goal

pub loop-member-preserved : goal.loop-member-preserved
loop-member-preserved c =
    rw c.in_ok-push.ensures.ok
    (marks_more c.args.members.now c.loop-member.member-index c.member-item.result c.loop-member.marks c.in_ok-member_marks.field-0 c.loop-member-test.true c.member-item.is
    c.loop-member.invariant c.in_ok-member_marks.ensures)
