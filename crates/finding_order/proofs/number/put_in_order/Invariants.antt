use Rattle.std.proofs.Common.{◌≡◌, ◌++◌, []}
use Rattle.finding_order.specs.Front.{Begins}
use Rattle.finding_order.specs.Numbers.{Counts, numbered_after}
use Rattle.finding_order.proofs.number.put_in_order.Given as goal

-- the findings so far are put, and counted
abbrev pub invariant-loop-finding : goal.invariant-loop-finding
invariant-loop-finding l = record {
  front : Begins l.fn.out l.out;
  so_far : l.out ≡ l.fn.out ++ numbered_after [] l.yielded;
  counts : Counts l.counts l.yielded;
}
