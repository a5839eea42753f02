use Rattle.std.proofs.Common.{◌≡◌, map, take}
use Rattle.scrub_rules.specs.Facts.{facts_of}
use Rattle.scrub_rules.specs.Offers.{lock_offer}
use Rattle.scrub_rules.proofs.offer.lock_offers.Given as goal

-- those of the items so far
abbrev pub invariant-loop-item : goal.invariant-loop-item
invariant-loop-item l = l.offers ≡ map (lock_offer (facts_of l.at) l.has_this) (take l.item-index l.items)
