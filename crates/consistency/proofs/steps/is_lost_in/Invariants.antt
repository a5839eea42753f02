use Rattle.std.proofs.Common.{◌≡◌, take}
use Rattle.std.specs.Prelude.{false}
use Rattle.std.specs.List.{list_any}
use Rattle.consistency.specs.Tables.{stays_all}
use Rattle.consistency.proofs.steps.is_lost_in.Given as goal

abbrev pub invariant-loop-links : goal.invariant-loop-links
invariant-loop-links l = list_any (λ ls. stays_all l.left l.given l.round ls.items) (take l.links-index l.clause.alternatives.items) ≡ false
