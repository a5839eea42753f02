use Rattle.std.proofs.Common.{◌≡◌, [], drop}
use Rattle.promise_scrub.specs.Steps.{repeats_tag}
use Rattle.promise_scrub.proofs.judge.repeats.Given as goal

-- the promises that are left decide
abbrev pub invariant-loop-offer : goal.invariant-loop-offer
invariant-loop-offer l = repeats_tag l.tags l.seen (drop l.offer-index l.offers) ≡ repeats_tag l.tags [] l.offers
