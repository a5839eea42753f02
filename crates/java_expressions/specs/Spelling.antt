-- Which tokens spell which expression: one clause for each production of the grammar (JLS 8, 15, as
-- far as the subset goes).
use Rattle.std.specs.Prelude.{◌≡◌, ◌≢◌, ◌≤◌, ◌<◌, ◌+◌, ℕ, zero, suc, List, [], ◌∷◌, Bool, true, false, IsFalse}
use Rattle.java_phrases.specs.Tree.{Span, Kind, Kind as k, Token, Expr, out-Expr, Expr-F, BinaryOp, BinaryOp as op}
use Rattle.java_phrases.specs.Common.{smallest_digits, thread_name, Phrase, ◌⨾◌, ◌⊢◌, ◌∣◌, Never, Mark, Sign, Spelled, Separated}

-- ---- operators

abbrev pub sign_of : BinaryOp → Kind
sign_of op.Or = k.Or
sign_of op.And = k.And
sign_of op.Equal = k.Equal
sign_of op.NotEqual = k.NotEqual
sign_of op.Less = k.Less
sign_of op.Greater = k.Greater
sign_of op.AtMost = k.AtMost
sign_of op.AtLeast = k.AtLeast
sign_of op.Add = k.Plus
sign_of op.Subtract = k.Minus
sign_of op.Multiply = k.Times
sign_of op.Divide = k.Divide
sign_of op.Remainder = k.Remainder

-- How tightly an operator binds. Expr, And, Eq, Rel, Add and Mul of the grammar are the levels 1 to 6,
-- Un is level 7 and Post is level 8.
abbrev pub level_of : BinaryOp → ℕ
level_of op.Or = 1
level_of op.And = 2
level_of op.Equal = 3
level_of op.NotEqual = 3
level_of op.Less = 4
level_of op.Greater = 4
level_of op.AtMost = 4
level_of op.AtLeast = 4
level_of op.Add = 5
level_of op.Subtract = 5
level_of op.Multiply = 6
level_of op.Divide = 6
level_of op.Remainder = 6

-- 2147483648, behind a minus
abbrev pub Smallest : Expr-F Expr → Phrase
Smallest (Expr-F.Int word) = (word.text ≡ smallest_digits) ⊢ Spelled k.IntLiteral word
Smallest _ = Never

-- ---- one production

-- Args = "(" [Expr {"," Expr}] ")"
abbrev pub Args : (Expr → Phrase) → List Expr → Span → Phrase
Args P args closing = Mark k.LParen ⨾ Separated P args ⨾ Sign k.RParen closing

-- An expression of the level or a tighter one, by its production. Inner says what spells an operand
-- of a level, where `room` nodes are left for a path.
abbrev pub Layered : ℕ → (ℕ → Expr → Phrase) → ℕ → Expr-F Expr → Phrase
Layered room Inner least (Expr-F.Int word) = (word.text ≢ smallest_digits) ⊢ Spelled k.IntLiteral word
Layered room Inner least (Expr-F.Str word) = Spelled k.StrLiteral word
Layered room Inner least (Expr-F.True at) = Sign k.True at
Layered room Inner least (Expr-F.False at) = Sign k.False at
Layered room Inner least (Expr-F.Null at) = Sign k.Null at
Layered room Inner least (Expr-F.This at) = Sign k.This at
Layered room Inner least (Expr-F.Name word) = Spelled k.Name word
Layered room Inner least (Expr-F.Call name args closing) = Spelled k.Name name ⨾ Args (Inner 1) args closing
Layered room Inner least (Expr-F.New at name args closing) = (name.text ≢ thread_name) ⊢ Sign k.New at ⨾ Spelled k.Name name ⨾ Args (Inner 1) args closing
Layered room Inner least (Expr-F.Paren opening inside closing) = Sign k.LParen opening ⨾ Inner 1 inside ⨾ Sign k.RParen closing
Layered room Inner least (Expr-F.Select from name) = (least ≤ 8) ⊢ Inner 8 from ⨾ Mark k.Dot ⨾ Spelled k.Name name
Layered room Inner least (Expr-F.CallOn from name args closing) = (least ≤ 8) ⊢ Inner 8 from ⨾ Mark k.Dot ⨾ Spelled k.Name name ⨾ Args (Inner 1) args closing
Layered room Inner least (Expr-F.Not at operand) = (least ≤ 7) ⊢ Sign k.Not at ⨾ Inner 7 operand
Layered room Inner least (Expr-F.Neg at operand) = (least ≤ 7) ⊢ Sign k.Minus at ⨾ (Inner 7 operand ∣ (0 < room) ⊢ Smallest (out-Expr operand))
Layered room Inner least (Expr-F.Binary left operator at right) =
    (least ≤ level_of operator) ⊢ Inner (level_of operator) left ⨾ Sign (sign_of operator) at ⨾ Inner (level_of operator + 1) right

-- ---- expressions

-- The tokens spell the expression, which is of the level or a tighter one, with at most `limit` nodes
-- on a path: a parenthesis, operator, call, selection, `new` or other leaf is one node each.
unfoldable pub Spells : ℕ → ℕ → Expr → Phrase
Spells zero least e = Never
Spells (suc room) least e = Layered room (Spells room) least (out-Expr e)

-- a whole expression
abbrev pub ExprSpells : ℕ → Expr → Phrase
ExprSpells limit = Spells limit 1

-- an expression without an operator before or between its parts
abbrev pub PostSpells : ℕ → Expr → Phrase
PostSpells limit = Spells limit 8

-- ---- what follows an expression

-- the signs by which an expression goes on
abbrev pub goes_on_with : Kind → Bool
goes_on_with k.Or = true
goes_on_with k.And = true
goes_on_with k.Equal = true
goes_on_with k.NotEqual = true
goes_on_with k.Less = true
goes_on_with k.Greater = true
goes_on_with k.AtMost = true
goes_on_with k.AtLeast = true
goes_on_with k.Plus = true
goes_on_with k.Minus = true
goes_on_with k.Times = true
goes_on_with k.Divide = true
goes_on_with k.Remainder = true
goes_on_with k.Dot = true
goes_on_with k.LParen = true
goes_on_with _ = false

-- What stands behind is no sign by which an expression goes on. In the grammar only `)`, `,`, `;` and
-- the signs of assignments and steps follow one.
abbrev pub Ends : List Token → Type 0
Ends [] = Unit {0}
Ends (t ∷ rest) = IsFalse (goes_on_with t.kind)
