-- The tokens of a text, and the place where it has none (JLS 8, 3.2: the longest possible
-- translation is used at each step).
use Rattle.std.specs.Prelude.{◌≡◌, ◌≢◌, ℕ, ◌+◌, ◌-◌, ◌<◌, ◌≤◌, List, [], ◌∷◌, ◌++◌, length, take, drop, false, ◌⊎◌, slice_index}
use Rattle.std.specs.Str.{IsUtf8, IsValidUpTo}
use Rattle.std.specs.Char.{is_ascii_digit}
use Rattle.java_tree.specs.declared.kind.Kind.{Kind}
use Rattle.java_tree.specs.declared.kind.Kind.TheVariants as kind
use Rattle.java_tree.specs.declared.token.Token.{Token}
use Rattle.java_lexer.specs.Spelling.{spelling}
use Rattle.java_lexer.specs.Lumps.{IsBlank, IsComment, IsRun, IsString, IsInt, IsLump, IsUnicodeEscapeAt, HasNoEscapeBefore}

-- the first n bytes are the longest piece that begins the text
pub record Longest (text : List ℕ) (n : ℕ) : Type 0 where
  pub within : n ≤ length text
  pub lump : IsLump (take n text)
  pub longest : (m : ℕ) → n < m → m ≤ length text → ¬ IsLump (take m text)

-- The bytes are a token of the kind. A name begins with no digit and is no reserved word; a number
-- is a whole run of name characters; a reserved word or a sign is its spelling.
abbrev pub Spells : Kind → List ℕ → Type 0
Spells kind.Name bytes = IsRun bytes × (is_ascii_digit (slice_index bytes 0) ≡ false) × ((word : Kind) → bytes ≢ spelling word)
Spells kind.IntLiteral bytes = IsInt bytes
Spells kind.StrLiteral bytes = IsString bytes
Spells fixed bytes = bytes ≡ spelling fixed

-- a blank, or a comment with no unicode escape
abbrev pub IsGap : List ℕ → Type 0
IsGap bytes = IsBlank bytes ⊎ (IsComment bytes × HasNoEscapeBefore bytes (length bytes))

-- neither a token, nor a blank, nor a comment
pub record IsNothing (bytes : List ℕ) : Type 0 where
  pub no_token : (kind : Kind) → ¬ Spells kind bytes
  pub no_blank : ¬ IsBlank bytes
  pub no_comment : ¬ IsComment bytes

-- The text can't be cut on, and the byte at the place is at fault: no piece begins the text, or the
-- longest one is nothing, or it is a comment in which the first unicode escape begins there.
pub data IsFault (text : List ℕ) : ℕ → Type 0 where
  no_lump : (at : ℕ) → at ≡ 0 → 0 < length text → ((m : ℕ) → m ≤ length text → ¬ IsLump (take m text)) → IsFault text at
  no_token : (at n : ℕ) → at ≡ 0 → Longest text n → IsNothing (take n text) → IsFault text at
  unicode : (at n : ℕ) → Longest text n → IsComment (take n text) → IsUnicodeEscapeAt (take n text) at → HasNoEscapeBefore (take n text) at → IsFault text at

-- the token of the kind whose bytes are the n from the place on
abbrev pub token_at : List ℕ → ℕ → ℕ → Kind → Token
token_at text at n kind = record { kind = kind; bytes = take n (drop at text); span = record { start = at; end = at + n } }

-- the text up to the place is cut into these tokens, and blanks and comments about them
pub data CutTo (text : List ℕ) : ℕ → List Token → Type 0 where
  start : CutTo text 0 []
  gap : (at n : ℕ) (tokens : List Token) → CutTo text at tokens → Longest (drop at text) n → IsGap (take n (drop at text)) → CutTo text (at + n) tokens
  token : (at n : ℕ) (tokens : List Token) (kind : Kind) → CutTo text at tokens → Longest (drop at text) n → Spells kind (take n (drop at text)) → CutTo text (at + n) (tokens ++ token_at text at n kind ∷ [])

-- the text is well-formed UTF-8, and these are its tokens
pub record Lexes (text : List ℕ) (tokens : List Token) : Type 0 where
  pub utf8 : IsUtf8 text
  pub cut : CutTo text (length text) tokens

-- the text is cut up to a place from which it can't be cut on
pub record IsStuckAt (text : List ℕ) (at : ℕ) : Type 0 where
  pub from : ℕ
  pub tokens : List Token
  pub cut : CutTo text from tokens
  pub offset : ℕ
  pub fault : IsFault (drop from text) offset
  pub place : at ≡ from + offset

-- where the first fault is: the first byte of the first ill-formed UTF-8 sequence if there is one,
-- else where the text can't be cut on
abbrev pub LexAt : List ℕ → ℕ → Type 0
LexAt text at = IsValidUpTo text at ⊎ (IsUtf8 text × IsStuckAt text at)

-- The tokens stand in order between the places: none is empty, none begins before the end of the one
-- before it, and each has the text's bytes at its span.
abbrev pub Follow : List ℕ → ℕ → List Token → ℕ → Type 0
Follow text from [] end = from ≤ end
Follow text from (t ∷ tokens) end =
    (from ≤ t.span.start) × (t.span.start < t.span.end)
    × (t.bytes ≡ take (t.span.end - t.span.start) (drop t.span.start text))
    × Follow text t.span.end tokens end

-- each token's bytes are a token of its kind
abbrev pub AreSpelled : List Token → Type 0
AreSpelled [] = Unit {0}
AreSpelled (t ∷ tokens) = Spells t.kind t.bytes × AreSpelled tokens
