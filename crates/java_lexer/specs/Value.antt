-- What a string literal stands for (JLS 8, 3.10.5 and 3.10.6).
use Rattle.std.specs.Prelude.{ℕ, ◌-◌, ◌==◌, if◌then◌else◌, List, [], ◌∷◌, length, take, drop}

-- the byte that an escape stands for, by the byte behind its `\`
abbrev pub escape_value : ℕ → ℕ
escape_value b =
    if b == 98 then 8 else (if b == 116 then 9 else (if b == 110 then 10 else (if b == 102 then 12 else (if b == 114 then 13 else b))))

-- the bytes with each `\` and the byte behind it replaced by what they stand for
abbrev pub unescaped : List ℕ → List ℕ
unescaped [] = []
unescaped (b ∷ []) = b ∷ []
unescaped (b ∷ c ∷ rest) = if b == 92 then escape_value c ∷ unescaped rest else b ∷ unescaped (c ∷ rest)

-- a string's value: the bytes between its quotes, after escapes
abbrev pub string_value : List ℕ → List ℕ
string_value literal = unescaped (take (length literal - 2) (drop 1 literal))
