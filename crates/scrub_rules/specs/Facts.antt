-- What the promises of a unit are judged in.
use Rattle.std.specs.Prelude.{ℕ, Bool, List}
use Rattle.class_faces.specs.declared.face.ParamFace.{ParamFace}
use Rattle.scrub_rules.specs.Target.{Kinds, kinds_in}
use Rattle.scrub_rules.specs.declared.context.Context.{Context}

-- The unit's class, that one's regions and locks, with whether each is static, whether the unit is a
-- static field, and the parameters that its names mean.
pub record Facts : Type 0 where
  pub class : List ℕ
  pub regions : Kinds
  pub locks : Kinds
  pub field_static : Bool
  pub params : List ParamFace

-- what a context holds
abbrev pub facts_of : Context → Facts
facts_of c = record {
  class = c.class.now;
  regions = kinds_in c.regions.now;
  locks = kinds_in c.locks.now;
  field_static = c.field_static;
  params = c.params.now;
}
