-- What it is to read a file, where it is at fault if it isn't read, and the lines of a text.
use Rattle.std.specs.Prelude.{◌≡◌, ◌⊎◌, ℕ, ◌+◌, ◌<◌, ◌≤◌, ◌==◌, nat_lt, Bool, ◌&&◌, List, length, take, find, count_by, Option, Some, None, unwrap_or, Result, Ok, Err}
use Rattle.desk_base.specs.declared.limit.LimitName.{LimitName}
use Rattle.desk_base.specs.declared.limit.LimitName.TheVariants as limit
use Rattle.desk_base.specs.Limit.{limit_max}
use Rattle.java_phrases.specs.Tree.{Kind as k, Token, FileTree}
use Rattle.java_phrases.specs.Common.{same_kind, next_start}
use Rattle.java_lexer.specs.Lexing.{Lexes, LexAt}
use Rattle.java_reader.specs.declared.error.ReadError.{ReadError}
use Rattle.java_reader.specs.declared.error.ReadError.TheVariants as error
use Rattle.java_reader.specs.Spelling.{Spells}
use Rattle.java_reader.specs.Parts.{LeftByLongest}

-- whether the token is a name of more bytes than a name may have
abbrev pub is_long_name : Token → Bool
is_long_name t = same_kind t.kind k.Name && nat_lt (limit_max limit.NameBytes) (length t.bytes)

-- the first name that is too long
abbrev pub first_long_name : List Token → Option Token
first_long_name tokens = find is_long_name tokens

-- The text is no longer than a file may be, none of its names is too long, and its tokens spell the tree.
pub record Reads (text : List ℕ) (tree : FileTree) : Type 0 where
  pub fits : length text ≤ limit_max limit.FileBytes
  pub tokens : List Token
  pub lexed : Lexes text tokens
  pub names : first_long_name tokens ≡ None
  pub spelled : Spells tokens tree

-- ---- faults, in the order in which one hides the next

-- the first byte that no text may have
abbrev pub IsTooLongAt : List ℕ → ℕ → Type 0
IsTooLongAt text at = (limit_max limit.FileBytes < length text) × (at ≡ limit_max limit.FileBytes)

-- the first lexical fault
abbrev pub IsLexAt : List ℕ → ℕ → Type 0
IsLexAt text at = (length text ≤ limit_max limit.FileBytes) × LexAt text at

-- the first name that is too long
pub record IsLongNameAt (text : List ℕ) (at : ℕ) : Type 0 where
  pub fits : length text ≤ limit_max limit.FileBytes
  pub tokens : List Token
  pub lexed : Lexes text tokens
  pub name : Token
  pub first : first_long_name tokens ≡ Some name
  pub place : at ≡ name.span.start

-- where the tokens that are left begin, or the end of the text
abbrev pub place_of : List Token → ℕ → ℕ
place_of left end = unwrap_or (next_start left) end

-- The tokens of a text of so many bytes spell no file, and the place is behind the longest list of parts
-- that begins them.
pub record IsFaultAt (tokens : List Token) (end at : ℕ) : Type 0 where
  pub unspelled : (tree : FileTree) → ¬ Spells tokens tree
  pub left : List Token
  pub begun : LeftByLongest tokens left
  pub place : at ≡ place_of left end

-- where the grammar of the text is at fault
pub record IsGrammarAt (text : List ℕ) (at : ℕ) : Type 0 where
  pub fits : length text ≤ limit_max limit.FileBytes
  pub tokens : List Token
  pub lexed : Lexes text tokens
  pub names : first_long_name tokens ≡ None
  pub fault : IsFaultAt tokens (length text) at

abbrev pub IsLimitAt : LimitName → List ℕ → ℕ → Type 0
IsLimitAt limit.FileBytes = IsTooLongAt
IsLimitAt limit.NameBytes = IsLongNameAt
IsLimitAt _ = λ text at. ⊥

-- why the text isn't read; want of memory may come at any moment
abbrev pub IsCauseOf : List ℕ → ReadError → Type 0
IsCauseOf text (error.Limit which at) = IsLimitAt which text at
IsCauseOf text (error.Lex at) = IsLexAt text at
IsCauseOf text (error.Grammar at) = IsGrammarAt text at
IsCauseOf text error.OutOfMemory = Unit {0}

-- ---- answers

-- the tree, unless memory ran out
abbrev pub GivesFile : Result FileTree ReadError → FileTree → Type 0
GivesFile (Ok found) tree = found ≡ tree
GivesFile (Err e) tree = e ≡ error.OutOfMemory

-- the error, unless memory ran out
abbrev pub Refuses : Result FileTree ReadError → ReadError → Type 0
Refuses (Ok found) e = ⊥
Refuses (Err why) e = (why ≡ e) ⊎ (why ≡ error.OutOfMemory)

-- ---- lines

-- one more than the line feeds before the place
abbrev pub line_number : List ℕ → ℕ → ℕ
line_number text at = count_by (λ byte. byte == 10) (take at text) + 1
