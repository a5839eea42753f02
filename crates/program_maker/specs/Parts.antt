-- What a program is made of.
use Rattle.std.specs.Prelude.{List}
use Rattle.promise_scrub.specs.declared.surface.Surface.{Surface}
use Rattle.bound_unit.specs.UnitFacts.{UnitFacts}

-- the surfaces of the types, and the units that were added
pub record Parts : Type 0 where
  pub surfaces : List Surface
  pub units : List UnitFacts
