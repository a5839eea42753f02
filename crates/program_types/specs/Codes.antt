-- The code of a unit that is typed, by the numbers of a program.
use Rattle.std.specs.Prelude.{◌≡◌, ℕ, true, false, [], length, nat_lt}
use Rattle.core_model.specs.Code.{Code}
use Rattle.core_model.specs.declared.program.Program.{Program}
use Rattle.core_types.specs.Types.{Types, UnitTypes, args_of}
use Rattle.core_types.specs.Need.{need, Fits}
use Rattle.core_types.specs.Paths.{reads}
use Rattle.core_types.specs.Programs.{Returns}

-- it finds what it uses and leaves nothing; it reads a local only once it is set; and it comes to its end as it must
pub record CodeFits (p : Program) (T : Types) (u : UnitTypes) (code : Code) : Type 0 where
  pub fits : Fits p T u code []
  pub needs : need p T u code [] ≡ []
  pub set : (i : ℕ) → reads i code false ≡ true → nat_lt i (length (args_of u)) ≡ true
  pub returns : Returns u.result false code
