-- What the lexer finds at the front of a text.
use Rattle.std.specs.Prelude.{ℕ, List, take}
use Rattle.java_lexer.specs.declared.front.Front.{Front}
use Rattle.java_lexer.specs.declared.front.Front.TheVariants.{Gap, Token, Fault}
use Rattle.java_lexer.specs.Lexing.{Longest, IsGap, Spells, IsFault}

abbrev pub Begins : List ℕ → Front → Type 0
Begins text (Gap n) = Longest text n × IsGap (take n text)
Begins text (Token kind n) = Longest text n × Spells kind (take n text)
Begins text (Fault at) = IsFault text at
