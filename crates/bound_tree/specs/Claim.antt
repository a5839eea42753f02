-- By what a monitor is named.
use Rattle.std.specs.Prelude.{ℕ, List}

-- a local that is never assigned (`this` is local 0), a lock's field of such a local with the class
-- whose it is, a lock's static field, or a class
pub data Claim : Type 0 where
  Local : ℕ → Claim
  Field : ℕ → List ℕ → List ℕ → Claim
  Static : List ℕ → List ℕ → Claim
  Class : List ℕ → Claim
