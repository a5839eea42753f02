use Rattle.std.proofs.Common.{◌≡◌, drop, map}
use Rattle.std.specs.Prelude.{fold}
use Rattle.scrub_rules.specs.Facts.{facts_of}
use Rattle.promise_scrub.specs.Members.{written}
use Rattle.promise_scrub.specs.Steps.{put_annotation}
use Rattle.promise_scrub.proofs.spread.put_marks.Given as goal

-- the annotations that are left complete those so far
abbrev pub invariant-loop-mark : goal.invariant-loop-mark
invariant-loop-mark l = fold (put_annotation l.key) l.unit (map (written (facts_of l.at) l.member) (drop l.mark-index l.marks))
    ≡ fold (put_annotation l.key) l.initial.unit (map (written (facts_of l.at) l.member) l.marks)
