-- Promises whose written keys tell their order.
use Rattle.std.specs.Prelude.{◌≡◌, ◌<◌, Bool, true, false}
use Rattle.std.specs.List.{AllByRecursion}
use Rattle.desk_base.specs.declared.key.PromiseName.{PromiseName}
use Rattle.desk_base.specs.declared.key.PromiseName.TheVariants as kind
use Rattle.desk_base.specs.declared.key.PromiseKey.{PromiseKey}

abbrev pub is_program : PromiseName → Bool
is_program kind.Program = true
is_program name = false

-- a promise of a unit, and not `Program`: each byte of the unit's key is above the blank
pub record IsOfUnit (p : PromiseKey) : Type 0 where
  pub target : AllByRecursion (λ b. 32 < b) p.target
  pub name : is_program p.name ≡ false
