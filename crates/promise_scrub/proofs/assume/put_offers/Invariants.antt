use Rattle.std.proofs.Common.{◌≡◌, ◌++◌, take}
use Rattle.std.specs.List.{flat_map}
use Rattle.scrub_rules.specs.Offers.{flat}
use Rattle.promise_scrub.specs.Surfaces.{assumption_with}
use Rattle.promise_scrub.proofs.assume.put_offers.Given as goal

-- those of the promises so far
abbrev pub invariant-loop-offer : goal.invariant-loop-offer
invariant-loop-offer l = l.out ≡ l.initial.out ++ flat_map (λ offer. assumption_with l.member offer (flat l.inner)) (take l.offer-index l.offers)
