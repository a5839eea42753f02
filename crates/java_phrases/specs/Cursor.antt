-- What the functions of the code answer over a cursor.
use Rattle.std.specs.Prelude.{◌≡◌, ◌≢◌, List, ◌++◌, reverse, Result, Ok, Err}
use Rattle.java_phrases.specs.Tree.{Token}
use Rattle.java_phrases.specs.declared.error.SyntaxError.{SyntaxError}
use Rattle.java_phrases.specs.declared.error.SyntaxError.TheVariants as error
use Rattle.java_phrases.specs.declared.tokens.Tokens.{Tokens}
use Rattle.java_phrases.specs.Parser.{Found, Lost, Parser}

-- the tokens that are still to be read
abbrev pub ahead : Tokens → List Token
ahead t = reverse t.stack

-- the tokens from the first one of the part at hand on
abbrev pub from_start : Tokens → List Token
from_start t = t.taken ++ ahead t

-- What the parser finds, unless memory fails; and no token of the part at hand is lost.
abbrev pub Steps : {A : Type 0} → Parser A → Tokens → Result A SyntaxError → Tokens → Type 0
Steps p old (Ok x) new = (p (ahead old) ≡ Found x (ahead new)) × (from_start new ≡ from_start old)
Steps p old (Err e) new = e ≢ error.OutOfMemory → p (ahead old) ≡ Lost
