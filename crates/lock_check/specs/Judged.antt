-- What the check of locks finds in a unit under a view.
use Rattle.std.specs.Prelude.{List}
use Rattle.result_records.specs.declared.finding.Finding.{Finding}
use Rattle.finding_order.specs.Numbers.{in_order}
use Rattle.views.specs.Face.{Seen, face}
use Rattle.lock_findings.specs.LockFindings.{lock_findings}
use Rattle.lock_findings.specs.Promises.{Promises}
use Rattle.bound_unit.specs.Names.{Faces}
use Rattle.bound_unit.specs.UnitFacts.{UnitFacts}
use Rattle.lock_check.specs.Locks.{guards}
use Rattle.lock_check.specs.Needs.{needs}
use Rattle.lock_check.specs.Owned.{own_of}
use Rattle.lock_check.specs.Roles.{role_of}

-- the promises on locks that stand, as they are shown
abbrev pub promises_of : Faces → Promises
promises_of faces = record {
  guards = λ class field. guards (faces class) class field;
  needs = λ class name count. needs faces class name count;
}

-- in the order in which they are made
abbrev pub found : UnitFacts → Seen → List Finding
found u seen = lock_findings (promises_of (face seen)) (own_of seen u) (role_of (face seen) u.key u.tree) u.tree

-- LockFindings of a unit under a view, in the order of their places and numbered.
unfoldable pub findings : UnitFacts → Seen → List Finding
findings u seen = in_order (found u seen)
