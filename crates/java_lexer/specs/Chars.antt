-- Which bytes stand in blanks, names, numbers and strings.
use Rattle.std.specs.Prelude.{ℕ, Bool, not, ◌||◌, ◌==◌}
use Rattle.std.specs.Char.{is_ascii_digit, is_ascii_alphabetic}

-- space, tab, line feed, carriage return or form feed
abbrev pub is_blank : ℕ → Bool
is_blank b = b == 32 || b == 9 || b == 10 || b == 13 || b == 12

-- line feed or carriage return
abbrev pub is_line_end : ℕ → Bool
is_line_end b = b == 10 || b == 13

-- an ASCII letter, a digit, `_` or `$`
abbrev pub is_name_part : ℕ → Bool
is_name_part b = is_ascii_alphabetic b || is_ascii_digit b || b == 95 || b == 36

-- what stands in a string as itself: anything but `"`, `\` and line ends
abbrev pub is_plain : ℕ → Bool
is_plain b = not (b == 34 || b == 92 || is_line_end b)

-- what may follow a `\` in a string: one of b t n f r " ' \
abbrev pub is_escaped : ℕ → Bool
is_escaped b = b == 98 || b == 116 || b == 110 || b == 102 || b == 114 || b == 34 || b == 39 || b == 92
