use Rattle.std.proofs.Common.{take}
use Rattle.header_scrub.specs.Kinds.{HasKinds, lock_kind}
use Rattle.header_scrub.proofs.kinds.lock_kinds.Given as goal

-- those of the locks so far
abbrev pub invariant-loop-lock : goal.invariant-loop-lock
invariant-loop-lock l = HasKinds l.kinds (lock_kind (take l.lock-index l.locks))
