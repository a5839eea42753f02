-- The field that an instruction reads or writes.
use Rattle.std.specs.Prelude.{ℕ, List, [], ◌∷◌, Option, Some, None}
use Rattle.core_model.specs.Code.{Code, Do}
use Rattle.core_model.specs.declared.instr.Plain.{Plain}
use Rattle.core_model.specs.declared.instr.Plain.TheVariants as plain
use Rattle.core_model.specs.declared.value.Value.{Value}
use Rattle.core_model.specs.declared.value.Value.TheVariants as value

-- an object, and the number of a field among its own
abbrev pub based : List Value → ℕ → Option (ℕ × ℕ)
based (value.Ref r ∷ ts) i = Some (r, i)
based _ i = None

abbrev pub beneath : List Value → ℕ → Option (ℕ × ℕ)
beneath [] i = None
beneath (v ∷ ts) i = based ts i

abbrev pub reached_by : Plain → List Value → Option (ℕ × ℕ)
reached_by (plain.Field i) ts = based ts i
reached_by (plain.FieldKeep i) ts = based ts i
reached_by (plain.PutField i) ts = beneath ts i
reached_by (plain.Static c i) ts = Some (c, i)
reached_by (plain.PutStatic c i) ts = Some (c, i)
reached_by _ ts = None

-- what the next instruction reads or writes, on a base that isn't null
abbrev pub reached : Code → List Value → Option (ℕ × ℕ)
reached (Do n p k) ts = reached_by p ts
reached _ ts = None
