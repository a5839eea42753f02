use Rattle.std.proofs.Common.{◌≡◌, take}
use Rattle.promise_scrub.specs.Members.{scoped_of}
use Rattle.promise_scrub.proofs.spread.scoped_of.Given as goal

-- the scoped promises of the annotations so far
abbrev pub invariant-loop-mark : goal.invariant-loop-mark
invariant-loop-mark l = l.scoped ≡ scoped_of l.site (take l.mark-index l.marks)
