-- The pieces that a text is cut into, each by its bytes alone: blanks, comments, runs of name
-- characters, strings and signs (JLS 8, 3.6 to 3.12, as far as the subset goes).
use Rattle.std.specs.Prelude.{◌≡◌, ℕ, zero, suc, ◌+◌, ◌-◌, ◌*◌, ◌%◌, ◌<◌, ◌≤◌, Bool, true, false, not, ◌&&◌, ◌||◌, ◌==◌, if◌then◌else◌, List, [], ◌∷◌, ◌++◌, slice_index, fold, ◌⊎◌}
use Rattle.std.specs.List.{list_all}
use Rattle.std.specs.Char.{is_ascii_digit}
use Rattle.java_tree.specs.declared.kind.Kind.{Kind}
use Rattle.java_lexer.specs.Chars.{is_blank, is_line_end, is_name_part, is_plain, is_escaped}
use Rattle.java_lexer.specs.Spelling.{spelling}

-- one blank
abbrev pub IsBlank : List ℕ → Type 0
IsBlank bytes = (b : ℕ) × (bytes ≡ b ∷ []) × (is_blank b ≡ true)

-- `//` and what follows on the line
abbrev pub IsLineComment : List ℕ → Type 0
IsLineComment bytes = (body : List ℕ) × (bytes ≡ 47 ∷ 47 ∷ body) × (list_all (λ b. not (is_line_end b)) body ≡ true)

-- a `*/` stands somewhere in the bytes
abbrev pub has_close : List ℕ → Bool
has_close [] = false
has_close (b ∷ rest) = (b == 42 && slice_index rest 0 == 47) || has_close rest

-- `/*` and what follows through the first `*/` after these two signs
abbrev pub IsBlockComment : List ℕ → Type 0
IsBlockComment bytes = (body : List ℕ) × (bytes ≡ 47 ∷ 42 ∷ (body ++ 42 ∷ 47 ∷ [])) × (has_close (body ++ 42 ∷ []) ≡ false)

abbrev pub IsComment : List ℕ → Type 0
IsComment bytes = IsLineComment bytes ⊎ IsBlockComment bytes

-- `/*` and bytes with no `*/` after it: a comment that isn't closed, which is no token
abbrev pub IsOpenComment : List ℕ → Type 0
IsOpenComment bytes = (body : List ℕ) × (bytes ≡ 47 ∷ 42 ∷ body) × (has_close body ≡ false)

-- name characters, at least one
abbrev pub IsRun : List ℕ → Type 0
IsRun [] = ⊥
IsRun (b ∷ rest) = list_all is_name_part (b ∷ rest) ≡ true

-- a string from behind its first quote through its last: characters that stand for themselves, and
-- escapes of two
pub data IsStringTail : List ℕ → Type 0 where
  closes : (quote : ℕ) → quote ≡ 34 → IsStringTail (quote ∷ [])
  goes_on : (b : ℕ) (rest : List ℕ) → is_plain b ≡ true → IsStringTail rest → IsStringTail (b ∷ rest)
  escapes : (slash b : ℕ) (rest : List ℕ) → slash ≡ 92 → is_escaped b ≡ true → IsStringTail rest → IsStringTail (slash ∷ b ∷ rest)

-- a string as written, with its quotes
abbrev pub IsString : List ℕ → Type 0
IsString bytes = (tail : List ℕ) × (bytes ≡ 34 ∷ tail) × IsStringTail tail

-- a kind's spelling that isn't made of name characters
abbrev pub IsSign : List ℕ → Type 0
IsSign [] = ⊥
IsSign (b ∷ rest) = (is_name_part b ≡ false) × (sign : Kind) × (b ∷ rest ≡ spelling sign)

-- a piece of a text
pub data IsLump : List ℕ → Type 0 where
  blank : (bytes : List ℕ) → IsBlank bytes → IsLump bytes
  comment : (bytes : List ℕ) → IsComment bytes → IsLump bytes
  unclosed : (bytes : List ℕ) → IsOpenComment bytes → IsLump bytes
  run : (bytes : List ℕ) → IsRun bytes → IsLump bytes
  string : (bytes : List ℕ) → IsString bytes → IsLump bytes
  sign : (bytes : List ℕ) → IsSign bytes → IsLump bytes

-- the number that decimal digits write
abbrev pub decimal_value : List ℕ → ℕ
decimal_value digits = fold (λ n d. n * 10 + (d - 48)) 0 digits

-- a number as it may stand: 0, or decimals without a leading zero, at most 2147483648
abbrev pub IsInt : List ℕ → Type 0
IsInt [] = ⊥
IsInt (d ∷ digits) = (list_all is_ascii_digit (d ∷ digits) ≡ true) × (d ≡ 48 → digits ≡ []) × (decimal_value (d ∷ digits) ≤ 2147483648)

-- how many `\` stand directly before the place
abbrev pub backslashes_before : List ℕ → ℕ → ℕ
backslashes_before bytes zero = 0
backslashes_before bytes (suc k) = if slice_index bytes k == 92 then backslashes_before bytes k + 1 else 0

-- a unicode escape begins there: a `\` with an even number of `\` directly before it, and a `u` after
-- it (JLS 8, 3.3)
pub record IsUnicodeEscapeAt (bytes : List ℕ) (at : ℕ) : Type 0 where
  pub slash : slice_index bytes at ≡ 92
  pub even : backslashes_before bytes at % 2 ≡ 0
  pub letter : slice_index bytes (at + 1) ≡ 117

-- no unicode escape begins before the place
abbrev pub HasNoEscapeBefore : List ℕ → ℕ → Type 0
HasNoEscapeBefore bytes end = (k : ℕ) → k < end → ¬ IsUnicodeEscapeAt bytes k
