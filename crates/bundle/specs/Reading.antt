-- Reading an entry as a function on lists: the step that the code takes. That what it reads is an
-- entry as `entry_bytes` writes it, and the other way round, is in the public clauses.
use Rattle.std.specs.Prelude.{ℕ, ◌+◌, ◌-◌, ◌*◌, ◌==◌, ◌&&◌, not, nat_eq, nat_lt, nat_le, Bool, List, [], ◌∷◌, length, drop, take, codes, Option, Some, None, if◌then◌else◌, slice_index}
use Rattle.std.specs.Char.{is_ascii_digit}
use Rattle.std.specs.List.{take_while, prefix_len, starts_with}
use Rattle.bundle.specs.Path.{is_path_byte, is_good_path}
use Rattle.bundle.specs.Entry.{Entry}

-- what comes after a word that the bytes begin with
abbrev pub stripped : List ℕ → List ℕ → Option (List ℕ)
stripped word bytes = if starts_with nat_eq bytes word then Some (drop (length word) bytes) else None

-- the number that digits stand for, after the number so far
abbrev pub read_on : ℕ → List ℕ → ℕ
read_on n [] = n
read_on n (c ∷ cs) = read_on (n * 10 + (c - 48)) cs

-- one to nine digits, the first of several not 0
abbrev pub is_plain : List ℕ → Bool
is_plain digits = nat_lt 0 (length digits) && nat_le (length digits) 9 && not (slice_index digits 0 == 48 && nat_lt 1 (length digits))

abbrev pub number_of : List ℕ → Option ℕ
number_of digits = if is_plain digits then Some (read_on 0 digits) else None

infixl 10 ◌>>=◌
abbrev pub ◌>>=◌ : {A B : Type 0} → Option A → (A → Option B) → Option B
(Some x) >>= f = f x
None >>= f = None

-- a text of so many bytes before a line feed, and what comes after it
unfoldable pub text_at : ℕ → List ℕ → Option (List ℕ × List ℕ)
text_at n bytes = if nat_lt (length bytes) n then None else (stripped (10 ∷ []) (drop n bytes) >>= λ rest. Some (take n bytes, rest))

-- the first line of an entry: the word `file`, a path, a length; and what comes after it
abbrev pub Line : Type 0
Line = List ℕ × ℕ × List ℕ

abbrev pub line_of : List ℕ → List ℕ → ℕ → Option Line
line_of path rest n = if is_good_path path then Some (path, n, rest) else None

abbrev pub after_digits : List ℕ → List ℕ → List ℕ → Option Line
after_digits path digits rest = number_of digits >>= line_of path rest

abbrev pub after_path : List ℕ → List ℕ → Option Line
after_path path named =
    stripped (10 ∷ []) (drop (prefix_len is_ascii_digit named) named) >>= after_digits path (take_while is_ascii_digit named)

abbrev pub after_word : List ℕ → Option Line
after_word after =
    stripped (codes " ") (drop (prefix_len is_path_byte after) after) >>= after_path (take_while is_path_byte after)

unfoldable pub line_at : List ℕ → Option Line
line_at bytes = stripped (codes "file ") bytes >>= after_word

-- an entry at the front of the bytes, and what comes after it
abbrev pub entry_with : List ℕ → List ℕ × List ℕ → Option (Entry × List ℕ)
entry_with path text = let entry : Entry = record { path = path; text = text.0 } in Some (entry, text.1)

abbrev pub after_line : Line → Option (Entry × List ℕ)
after_line line = text_at line.1 line.2 >>= entry_with line.0

unfoldable pub entry_at : List ℕ → Option (Entry × List ℕ)
entry_at bytes = line_at bytes >>= after_line
