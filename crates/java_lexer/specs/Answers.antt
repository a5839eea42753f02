-- What the lexer answers.
use Rattle.std.specs.Prelude.{◌≡◌, ◌⊎◌, ℕ, List, Result, Ok, Err}
use Rattle.java_tree.specs.declared.token.Token.{Token}
use Rattle.java_lexer.specs.declared.error.LexError.{LexError}
use Rattle.java_lexer.specs.declared.error.LexError.TheVariants.{Lex, OutOfMemory}
use Rattle.java_lexer.specs.Lexing.{LexAt, IsStuckAt}

-- a place that is named is where the first fault is
abbrev pub IsPlaceOf : List ℕ → LexError → Type 0
IsPlaceOf text (Lex at) = LexAt text at
IsPlaceOf text OutOfMemory = Unit {0}

abbrev pub IsStuck : List ℕ → LexError → Type 0
IsStuck text (Lex at) = IsStuckAt text at
IsStuck text OutOfMemory = Unit {0}

-- the tokens, unless memory ran out
abbrev pub GivesTokens : Result (List Token) LexError → List Token → Type 0
GivesTokens (Ok found) tokens = found ≡ tokens
GivesTokens (Err error) tokens = error ≡ OutOfMemory

-- the place, unless memory ran out
abbrev pub GivesPlace : Result (List Token) LexError → ℕ → Type 0
GivesPlace (Ok found) at = ⊥
GivesPlace (Err error) at = (error ≡ Lex at) ⊎ (error ≡ OutOfMemory)
