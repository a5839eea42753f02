use Rattle.std.proofs.Common.{◌≡◌, take}
use Rattle.scrub_rules.proofs.copy.copied_items.Given as goal

-- the copies so far
abbrev pub invariant-loop-item : goal.invariant-loop-item
invariant-loop-item l = l.copies ≡ take l.item-index l.items
