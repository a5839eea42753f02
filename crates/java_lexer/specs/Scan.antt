-- What the lexer's loops count, as functions of lists.
use Rattle.std.specs.Prelude.{ℕ, ◌+◌, Bool, true, false, ◌&&◌, ◌==◌, if◌then◌else◌, List, [], ◌∷◌, Option, Some, None, slice_index}
use Rattle.java_tree.specs.declared.kind.Kind.{Kind}
use Rattle.java_tree.specs.declared.kind.Kind.TheVariants as kind
use Rattle.java_lexer.specs.Chars.{is_plain, is_escaped}

-- the place behind the first `*/`, for bytes that begin at a place
abbrev pub close_from : ℕ → List ℕ → Option ℕ
close_from at [] = None
close_from at (b ∷ rest) = if b == 42 && slice_index rest 0 == 47 then Some (at + 2) else close_from (at + 1) rest

-- the place behind a string's last quote, for bytes that begin at a place; escaped: behind a `\`
abbrev pub string_from : Bool → ℕ → List ℕ → Option ℕ
string_from escaped at [] = None
string_from true at (b ∷ rest) = if is_escaped b then string_from false (at + 1) rest else None
string_from false at (b ∷ rest) =
    if b == 34 then Some (at + 1) else (if b == 92 then string_from true (at + 1) rest
    else (if is_plain b then string_from false (at + 1) rest else None))

-- the kind of the first entry with the byte
abbrev pub choose : List (ℕ × Kind) → ℕ → Option Kind
choose [] b = None
choose (e ∷ es) b = if b == e.0 then Some e.1 else choose es b

-- signs of two bytes whose second is `=`, by their first
abbrev pub before_equals : List (ℕ × Kind)
before_equals = (61, kind.Equal) ∷ (33, kind.NotEqual) ∷ (60, kind.AtMost) ∷ (62, kind.AtLeast) ∷ (43, kind.AddAssign) ∷ (45, kind.SubtractAssign) ∷ []

-- signs that are one byte twice
abbrev pub twice : List (ℕ × Kind)
twice = (43, kind.Increment) ∷ (45, kind.Decrement) ∷ (38, kind.And) ∷ (124, kind.Or) ∷ []

-- signs of one byte
abbrev pub single : List (ℕ × Kind)
single =
    (40, kind.LParen) ∷ (41, kind.RParen) ∷ (123, kind.LBrace) ∷ (125, kind.RBrace) ∷ (91, kind.LBracket) ∷ (93, kind.RBracket) ∷
    (59, kind.Semicolon) ∷ (44, kind.Comma) ∷ (46, kind.Dot) ∷ (64, kind.At) ∷ (61, kind.Assign) ∷ (60, kind.Less) ∷ (62, kind.Greater) ∷
    (43, kind.Plus) ∷ (45, kind.Minus) ∷ (42, kind.Times) ∷ (47, kind.Divide) ∷ (37, kind.Remainder) ∷ (33, kind.Not) ∷ []

-- the sign of two bytes
unfoldable pub double_sign : ℕ → ℕ → Option Kind
double_sign first second =
    if second == 61 then choose before_equals first else (if first == second then choose twice first else None)

-- the sign of one byte
unfoldable pub single_sign : ℕ → Option Kind
single_sign b = choose single b
