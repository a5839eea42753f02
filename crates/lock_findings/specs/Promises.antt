-- What is known of the promises on locks that stand in a project, by names.
use Rattle.std.specs.Prelude.{ℕ, List}
use Rattle.lock_findings.specs.declared.lock.Guard.{Guard}
use Rattle.lock_findings.specs.declared.lock.Need.{Need}

pub record Promises : Type 0 where
  -- the locks of a class in whose region its field of that name is, in written order
  pub guards : (class field : List ℕ) → List Guard
  -- the locks that the member of a class with that name and so many parameters requires, in written
  -- order; a constructor has the name `new`
  pub needs : (class name : List ℕ) → (count : ℕ) → List Need
