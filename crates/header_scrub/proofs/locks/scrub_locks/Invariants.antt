use Rattle.std.proofs.Common.{◌≡◌, ◌≤◌, length, take}
use Rattle.scrub_rules.specs.Target.{kinds_in}
use Rattle.header_scrub.specs.Fields.{fields_in}
use Rattle.header_scrub.specs.Locks.{HoldsRegions, locks_in}
use Rattle.header_scrub.proofs.Locking.{EachSo}
use Rattle.header_scrub.proofs.locks.scrub_locks.Given as goal

-- the annotations so far have their codes, and their locks stand
abbrev pub invariant-loop-i : goal.invariant-loop-i
invariant-loop-i l = record {
  holds : HoldsRegions l.declared l.locks.held l.locks.table;
  within : l.i ≤ length l.marks;
  long : length l.after ≡ l.i;
  table : l.locks.table ≡ locks_in (fields_in l.fields) (take l.i l.marks) l.after;
  each : EachSo l.declared (kinds_in l.kinds) (fields_in l.fields) l.marks l.codes l.after;
}
