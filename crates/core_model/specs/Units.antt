-- Which unit a call begins, and how the call begins.
use Rattle.std.specs.Prelude.{ℕ, ◌-◌, ◌==◌, ◌&&◌, List, [], ◌++◌, Option, Some, None, length, slice_get, replicate, find}
use Rattle.std.specs.Option.{option_map}
use Rattle.core_model.specs.declared.program.Program.{Program}
use Rattle.core_model.specs.declared.program.ClassInfo.{ClassInfo}
use Rattle.core_model.specs.declared.program.UnitName.{UnitName}
use Rattle.core_model.specs.declared.program.UnitCode.{UnitCode}
use Rattle.core_model.specs.declared.config.Call.{Call}
use Rattle.core_model.specs.declared.config.Gives.{Gives}
use Rattle.core_model.specs.declared.value.Value.{Value}
use Rattle.core_model.specs.declared.value.Value.TheVariants as value

-- the first unit of the name and of so many parameters
abbrev pub named_unit : List UnitName → ℕ → ℕ → Option UnitName
named_unit us m n = find (λ (u : UnitName). (u.name == m) && (u.params == n)) us

-- the number of the class's unit of the name and of so many parameters
abbrev pub number_in : List UnitName → ℕ → ℕ → Option ℕ
number_in us m n = option_map (λ (u : UnitName). u.unit) (named_unit us m n)

abbrev pub number_of_class : Option ClassInfo → ℕ → ℕ → Option ℕ
number_of_class None m n = None
number_of_class (Some c) m n = number_in c.units m n

abbrev pub unit_number : Program → ℕ → ℕ → ℕ → Option ℕ
unit_number program c m n = number_of_class (slice_get program.classes c) m n

-- a call of the unit as it begins: the arguments, and null in the other locals
abbrev pub call_with : ℕ → UnitCode → List Value → Gives → Call
call_with u code args g = record {
  unit = u;
  rest = code.code;
  locals = args ++ replicate (code.locals - length args) value.Null;
  temps = [];
  gives = g;
}

abbrev pub call_for : ℕ → Option UnitCode → List Value → Gives → Option Call
call_for u None args g = None
call_for u (Some code) args g = Some (call_with u code args g)

abbrev pub call_of : Program → Option ℕ → List Value → Gives → Option Call
call_of program None args g = None
call_of program (Some u) args g = call_for u (slice_get program.units u) args g
