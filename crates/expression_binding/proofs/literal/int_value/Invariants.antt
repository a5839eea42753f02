use Rattle.std.proofs.Common.{◌≡◌, take, min}
use Rattle.java_lexer.specs.Lumps.{decimal_value}
use Rattle.expression_binding.proofs.literal.int_value.Given as goal

abbrev pub invariant-loop-digit : goal.invariant-loop-digit
invariant-loop-digit l = l.value ≡ min (decimal_value (take l.digit-index l.digits)) 2147483648
