-- How far reading came in a file whose grammar is at fault.
use Rattle.std.specs.Prelude.{◌≡◌, ℕ, ◌≤◌, nat_le, List, ◌++◌, length, find, Option}
use Rattle.java_phrases.specs.Tree.{Token}
use Rattle.java_lexer.specs.Lexing.{Lexes}
use Rattle.java_reader.specs.Reads.{place_of}

-- where one of the tokens of a text of so many bytes begins, or the text's end
abbrev pub StandsIn : List Token → ℕ → ℕ → Type 0
StandsIn tokens end place = (before : List Token) × (left : List Token) × (tokens ≡ before ++ left) × (place ≡ place_of left end)

-- the first token that begins at the place or behind it
abbrev pub first_behind : ℕ → List Token → Option Token
first_behind place tokens = find (λ (t : Token). nat_le place t.span.start) tokens

-- a place of a text's tokens, or its end, that is not before the place of the fault
pub record IsReached (text : List ℕ) (at place : ℕ) : Type 0 where
  pub tokens : List Token
  pub lexed : Lexes text tokens
  pub stands : StandsIn tokens (length text) place
  pub behind : at ≤ place
