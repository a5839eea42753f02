use Rattle.std.proofs.Common.{◌≡◌, take}
use Rattle.std.specs.Prelude.{fold}
use Rattle.promise_scrub.specs.Steps.{put_offer}
use Rattle.promise_scrub.proofs.unit.Unit.put_offers.Given as goal

-- the promises so far
abbrev pub invariant-loop-offer : goal.invariant-loop-offer
invariant-loop-offer l = l.self ≡ fold (put_offer l.key l.spread l.tree) l.initial.self (take l.offer-index l.offers)
