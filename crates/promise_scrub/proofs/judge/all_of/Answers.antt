use Rattle.std.proofs.Common.{sym}
use Rattle.promise_scrub.proofs.Keeping.{all_kept}
use Rattle.promise_scrub.proofs.judge.all_of.Goals as goal

pub returns : goal.returns
returns c = sym (all_kept c.args.own.now _)
