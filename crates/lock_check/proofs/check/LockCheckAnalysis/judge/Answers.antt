use Rattle.lock_check.proofs.Front.{found_put, front_kept, front_same}
use Rattle.lock_check.proofs.check.LockCheckAnalysis.judge.Goals as goal

pub returns-in_err-found-clause-front : goal.returns-in_err-found-clause-front
returns-in_err-found-clause-front c = front_same c.from_residual.result c.args.out.now

pub returns-clause-ok : goal.returns-clause-ok
returns-clause-ok c =
    found_put c.put_in_order.result c.args.unit.now c.args.view.now c.args.out.now c.put_in_order.new.out c.in_ok-found.found c.in_ok-found.ensures c.put_in_order.ensures.ok

pub returns-clause-front : goal.returns-clause-front
returns-clause-front c = front_kept c.put_in_order.result c.args.out.now c.put_in_order.new.out c.put_in_order.ensures.front
