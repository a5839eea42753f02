use Rattle.promise_marks.specs.Given.{given}
use Rattle.promise_marks.proofs.Putting.{puts_one}
use Rattle.promise_marks.proofs.marks.put_mark.Goals as goal

pub returns : goal.returns
returns c =
    puts_one c.args.marks.now c.push.new.self (given c.args.param c.args.kind c.args.layer.now) c.in_ok-mark.mark c.in_ok-mark.ensures c.in_ok-push.ensures.ok
