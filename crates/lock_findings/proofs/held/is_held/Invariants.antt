use Rattle.std.proofs.Common.{◌≡◌, length}
use Rattle.bound_tree.specs.Shown.{claims_as}
use Rattle.lock_findings.specs.Held.{is_held}
use Rattle.lock_findings.proofs.held.is_held.Given as goal

abbrev pub invariant-loop-claims : goal.invariant-loop-claims
invariant-loop-claims l = is_held (claims_as l.claims) l.holder l.class l.base ≡ is_held (claims_as l.initial.claims) l.holder l.class l.base

abbrev pub decreases-loop-claims : goal.decreases-loop-claims
decreases-loop-claims l = length l.claims
