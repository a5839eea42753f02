use Rattle.std.proofs.Common.{◌≡◌, drop}
use Rattle.scrub_rules.specs.Target.{kinds_in}
use Rattle.promise_scrub.specs.Found.{found_in}
use Rattle.promise_scrub.specs.Surfaces.{member_units}
use Rattle.promise_scrub.proofs.gather.put_members.Given as goal

-- the members that are left complete those so far
abbrev pub invariant-loop-i : goal.invariant-loop-i
invariant-loop-i l = found_in l.found (member_units l.facts.class.now (kinds_in l.facts.regions.now) (kinds_in l.facts.locks.now) l.facts.scoped.now (drop l.i l.keys) (drop l.i l.marks) (drop l.i l.members))
    ≡ found_in l.initial.found (member_units l.facts.class.now (kinds_in l.facts.regions.now) (kinds_in l.facts.locks.now) l.facts.scoped.now l.keys l.marks l.members)
