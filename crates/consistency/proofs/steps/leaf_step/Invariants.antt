use Rattle.std.proofs.Common.{◌≡◌, take}
use Rattle.std.specs.Prelude.{None, find, true}
use Rattle.consistency.specs.Tables.{stays_all}
use Rattle.consistency.proofs.steps.leaf_step.Given as goal

abbrev pub invariant-loop-links : goal.invariant-loop-links
invariant-loop-links l = find (λ ls. stays_all l.con true l.rounds ls.items) (take l.links-index l.clause.alternatives.items) ≡ None
