-- What stands before a dot.
use Rattle.std.specs.Prelude.{ℕ, Bool, true, false, not, if◌then◌else◌, List, Option, Some, None}
use Rattle.bound_tree.specs.declared.name.ValueType.{ValueType}
use Rattle.bound_tree.specs.declared.name.ValueType.TheVariants as value
use Rattle.bound_tree.specs.Tree.{Term, stamp_of, is_bad}
use Rattle.bound_tree.specs.Reading.{term_of}
use Rattle.name_rules.specs.Types.{Name}
use Rattle.expression_binding.specs.declared.before.Before as written
use Rattle.expression_binding.specs.declared.before.Before.TheVariants as base

-- a type, by its name and the number of that, or a value
pub data Before : Type 0 where
  OnType : Name → ℕ → Before
  OnValue : Term → Before

abbrev pub shown_before : written.Before → Before
shown_before (base.OnType c at) = OnType c.now at
shown_before (base.OnValue v) = OnValue (term_of v)

abbrev pub first_of : Before → ℕ
first_of (OnType c at) = at
first_of (OnValue v) = (stamp_of v).first

abbrev pub is_lost : Before → Bool
is_lost (OnType c at) = false
is_lost (OnValue v) = is_bad v

-- a static member is named by its type, another by an object
abbrev pub is_misuse : Before → Bool → Bool
is_misuse (OnType c at) is_static = not is_static
is_misuse (OnValue v) is_static = is_static

-- the class of an object, where it is one of a class, an interface, Object, String or Runnable
abbrev pub class_of : Option ValueType → Option Name
class_of None = None
class_of (Some value.Int) = None
class_of (Some value.Boolean) = None
class_of (Some value.Null) = None
class_of (Some (value.Named c)) = Some c

abbrev pub class_of_value : Term → Option Name
class_of_value v = if is_bad v then None else class_of (stamp_of v).ty

-- whose fields and methods stand behind the dot
abbrev pub class_before : Before → Option Name
class_before (OnType c at) = Some c
class_before (OnValue v) = class_of_value v
