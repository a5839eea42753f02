-- The values of literals.
use Rattle.std.specs.Prelude.{ℕ, List, min}
use Rattle.java_lexer.specs.Lumps.{decimal_value}

-- the number that an int literal writes (JLS 8, 3.10.1); one that is read is at most 2147483648
abbrev pub int_value : List ℕ → ℕ
int_value digits = min (decimal_value digits) 2147483648
