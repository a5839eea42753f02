use Rattle.std.proofs.Common.{◌≡◌, drop}
use Rattle.std.specs.Prelude.{fold}
use Rattle.std.specs.List.{flat_map}
use Rattle.scrub_rules.specs.Facts.{facts_of}
use Rattle.promise_scrub.specs.Members.{spread_to}
use Rattle.promise_scrub.specs.Steps.{put_annotation}
use Rattle.promise_scrub.proofs.spread.put_scoped.Given as goal

-- the scoped promises that are left complete those so far
abbrev pub invariant-loop-promise : goal.invariant-loop-promise
invariant-loop-promise l = fold (put_annotation l.key) l.unit (flat_map (spread_to (facts_of l.at) l.member) (drop l.promise-index l.scoped))
    ≡ fold (put_annotation l.key) l.initial.unit (flat_map (spread_to (facts_of l.at) l.member) l.scoped)
