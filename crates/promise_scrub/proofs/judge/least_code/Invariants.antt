use Rattle.std.proofs.Common.{◌≡◌, drop}
use Rattle.promise_scrub.specs.Steps.{least_code}
use Rattle.promise_scrub.proofs.judge.least_code.Given as goal

-- the promises that are left complete those so far
abbrev pub invariant-loop-offer : goal.invariant-loop-offer
invariant-loop-offer l = least_code l.code (drop l.offer-index l.offers) ≡ least_code l.initial.code l.offers
