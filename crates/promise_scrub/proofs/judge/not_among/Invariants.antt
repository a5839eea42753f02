use Rattle.std.proofs.Common.{◌≡◌, take, true}
use Rattle.promise_scrub.specs.Steps.{kept_offers}
use Rattle.promise_scrub.proofs.judge.not_among.Given as goal

-- what is kept of the promises so far
abbrev pub invariant-loop-offer : goal.invariant-loop-offer
invariant-loop-offer l = l.kept ≡ kept_offers true l.own (take l.offer-index l.offers)
