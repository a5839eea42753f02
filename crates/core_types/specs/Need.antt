-- The temporaries that code needs, with their types, and code whose instructions find what they use.
use Rattle.std.specs.Prelude.{ℕ, List, slice_get, is_some}
use Rattle.core_model.specs.Code.{Code}
use Rattle.core_model.specs.declared.instr.Note.{Note}
use Rattle.core_model.specs.declared.program.Program.{Program}
use Rattle.core_types.specs.Types.{Ty, BoolType, ObjectType, Types, UnitTypes}
use Rattle.core_types.specs.Belonging.{Suits}
use Rattle.core_types.specs.Slots.{Use, Uses, need_by, Suiting, UseSuits, FitsBy}
use Rattle.core_types.specs.Uses.{use_of}
pub use Rattle.core_types.specs.Slots.{need_of}

-- slots are types: what the instructions use in a unit of these types
abbrev pub by_type : Program → Types → UnitTypes → Uses Ty
by_type p T u = record { use_by = use_of p T u; flag = BoolType; monitor = λ (n : Note). ObjectType; there = λ (c : ℕ). is_some (slice_get p.classes c) }

-- the temporaries that the code needs, top first, where what comes after it needs the last ones
abbrev pub need : Program → Types → UnitTypes → Code → List Ty → List Ty
need p T u k after = need_by (by_type p T u) k after

-- the types suit the first ones of the others, one by one
abbrev pub AllSuit : Types → List Ty → List Ty → Type 0
AllSuit T gs ts = Suiting (Suits T) gs ts

-- what is pushed suits what comes after
abbrev pub UseFits : Types → Use Ty → List Ty → Type 0
UseFits T i after = UseSuits (Suits T) i after

-- the code fits, its slots being types
abbrev pub Fits : Program → Types → UnitTypes → Code → List Ty → Type 0
Fits p T u k after = FitsBy (Suits T) (by_type p T u) k after
