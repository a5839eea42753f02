use Rattle.written_order.proofs.Promises.{as_written}
use Rattle.written_order.proofs.laws.promises_come_as_written.Goals as goal

pub returns : goal.returns
returns c = as_written
