use Rattle.std.proofs.Common.{◌≡◌, true, take, min}
use Rattle.std.specs.List.{list_all}
use Rattle.std.specs.Char.{is_ascii_digit}
use Rattle.java_lexer.specs.Lumps.{decimal_value}
use Rattle.java_lexer.proofs.scan.is_small.Given as goal

abbrev pub invariant-loop-digit : goal.invariant-loop-digit
invariant-loop-digit l = record { digits : list_all is_ascii_digit (take l.digit-index l.run) ≡ true; value : l.value ≡ min (decimal_value (take l.digit-index l.run)) 2147483649 }
