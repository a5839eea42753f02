use Rattle.written_order.proofs.Codes.{codes_as_written}
use Rattle.written_order.proofs.laws.codes_come_as_written.Goals as goal

pub returns : goal.returns
returns c = codes_as_written
