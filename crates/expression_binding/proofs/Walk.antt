-- What the walk over an expression is proved by.
use Rattle.std.proofs.Common.{append_assoc, append-nil}
use Rattle.expression_binding.proofs.Shapes.{raw-Int, raw-Str, raw-True, raw-False, raw-Null, raw-This, raw-Name, raw-Call, raw-New, raw-Paren, raw-Select, raw-CallOn, raw-Not, raw-Neg, raw-Binary}
use Rattle.expression_binding.proofs.Arguments.{counted}

pub ruleset walk = (raw-Int, raw-Str, raw-True, raw-False, raw-Null, raw-This, raw-Name, raw-Call, raw-New, raw-Paren, raw-Select, raw-CallOn, raw-Not, raw-Neg, raw-Binary, counted, append_assoc, append-nil)
