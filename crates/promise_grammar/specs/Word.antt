-- Bytes and names (JLS 8, 3.8 and 3.9, in ASCII).
use Rattle.std.specs.Prelude.{ℕ, Bool, false, not, ◌&&◌, ◌||◌, ◌==◌, List, [], ◌∷◌, codes}
use Rattle.std.specs.Char.{is_ascii_digit, is_ascii_alphabetic}
use Rattle.std.specs.List.{list_any, list_all}
use Rattle.std.specs.Str.{bytes_eq}

-- space or tab
abbrev pub is_blank : ℕ → Bool
is_blank b = b == 32 || b == 9

-- a letter, `_` or `$`
abbrev pub is_letter : ℕ → Bool
is_letter b = is_ascii_alphabetic b || b == 95 || b == 36

-- a letter, `_`, `$` or a digit
abbrev pub is_name_byte : ℕ → Bool
is_name_byte b = is_letter b || is_ascii_digit b

-- a byte of a name, or `*`
abbrev pub is_word_byte : ℕ → Bool
is_word_byte b = is_name_byte b || b == 42

-- Java's reserved words, and its literals that are words
abbrev pub reserved_words : List (List ℕ)
reserved_words = codes "abstract" ∷ codes "assert" ∷ codes "boolean" ∷ codes "break" ∷ codes "byte" ∷ codes "case"
    ∷ codes "catch" ∷ codes "char" ∷ codes "class" ∷ codes "const" ∷ codes "continue" ∷ codes "default" ∷ codes "do"
    ∷ codes "double" ∷ codes "else" ∷ codes "enum" ∷ codes "extends" ∷ codes "final" ∷ codes "finally" ∷ codes "float"
    ∷ codes "for" ∷ codes "goto" ∷ codes "if" ∷ codes "implements" ∷ codes "import" ∷ codes "instanceof" ∷ codes "int"
    ∷ codes "interface" ∷ codes "long" ∷ codes "native" ∷ codes "new" ∷ codes "package" ∷ codes "private"
    ∷ codes "protected" ∷ codes "public" ∷ codes "return" ∷ codes "short" ∷ codes "static" ∷ codes "strictfp"
    ∷ codes "super" ∷ codes "switch" ∷ codes "synchronized" ∷ codes "this" ∷ codes "throw" ∷ codes "throws"
    ∷ codes "transient" ∷ codes "try" ∷ codes "void" ∷ codes "volatile" ∷ codes "while" ∷ codes "true" ∷ codes "false"
    ∷ codes "null" ∷ []

unfoldable pub is_reserved : List ℕ → Bool
is_reserved word = list_any (λ reserved. bytes_eq reserved word) reserved_words

abbrev pub begins_name : List ℕ → Bool
begins_name [] = false
begins_name (b ∷ bs) = is_letter b

-- a letter, then letters and digits, and no reserved word
unfoldable pub is_name : List ℕ → Bool
is_name word = begins_name word && list_all is_name_byte word && not (is_reserved word)
