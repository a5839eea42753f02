-- What operators give: ints are of 32 bits, `/` cuts towards zero and `%` has the dividend's sign.
use Rattle.std.specs.Prelude.{ℕ, ℤ, pos, Bool, true, false, not, ◌==◌, int_rem, int_lt, Option, Some, None, if◌then◌else◌}
use Rattle.std.specs.Int.{w32, int_wrapping_add, int_wrapping_sub, int_wrapping_mul, int_wrapping_div, int_wrapping_neg}
use Rattle.std.specs.Ordering.{int_eq}
use Rattle.core_model.specs.declared.instr.Op.{Op}
use Rattle.core_model.specs.declared.instr.Op.TheVariants as op
use Rattle.core_model.specs.declared.value.Value.{Value}
use Rattle.core_model.specs.declared.value.Value.TheVariants as value

abbrev pub same_bool : Bool → Bool → Bool
same_bool true b = b
same_bool false b = not b

-- two values are one; values of two kinds never are
abbrev pub same_value : Value → Value → Bool
same_value (value.Int x) (value.Int y) = int_eq x y
same_value (value.Bool a) (value.Bool b) = same_bool a b
same_value (value.Str m) (value.Str n) = m == n
same_value value.Null value.Null = true
same_value (value.Ref m) (value.Ref n) = m == n
same_value v w = false

-- a number that isn't zero, or nothing
abbrev pub unless_zero : ℤ → ℤ → Option Value
unless_zero y z = if int_eq y (pos 0) then None else Some (value.Int z)

-- of two ints; nothing for a divisor of zero
abbrev pub of_ints : Op → ℤ → ℤ → Option Value
of_ints op.Add x y = Some (value.Int (int_wrapping_add w32 x y))
of_ints op.Subtract x y = Some (value.Int (int_wrapping_sub w32 x y))
of_ints op.Multiply x y = Some (value.Int (int_wrapping_mul w32 x y))
of_ints op.Divide x y = unless_zero y (int_wrapping_div w32 x y)
of_ints op.Remainder x y = unless_zero y (int_rem x y)
of_ints op.Less x y = Some (value.Bool (int_lt x y))
of_ints op.Greater x y = Some (value.Bool (int_lt y x))
of_ints op.AtMost x y = Some (value.Bool (not (int_lt y x)))
of_ints op.AtLeast x y = Some (value.Bool (not (int_lt x y)))
of_ints op.Equal x y = Some (value.Bool (int_eq x y))
of_ints op.NotEqual x y = Some (value.Bool (not (int_eq x y)))

-- of two other values: these are compared alone
abbrev pub of_others : Op → Value → Value → Option Value
of_others op.Equal v w = Some (value.Bool (same_value v w))
of_others op.NotEqual v w = Some (value.Bool (not (same_value v w)))
of_others o v w = None

-- what an operator gives; nothing for a divisor of zero, or for operands that it isn't for
abbrev pub operated : Op → Value → Value → Option Value
operated o (value.Int x) (value.Int y) = of_ints o x y
operated o v w = of_others o v w

-- the int of the other sign; the least int is its own
abbrev pub negated : ℤ → ℤ
negated x = int_wrapping_neg w32 x

-- the object that the value refers to
abbrev pub object_of : Value → Option ℕ
object_of (value.Ref r) = Some r
object_of v = None
