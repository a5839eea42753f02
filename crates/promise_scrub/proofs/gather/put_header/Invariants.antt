use Rattle.std.proofs.Common.{◌≡◌, drop}
use Rattle.std.specs.Prelude.{fold}
use Rattle.scrub_rules.specs.Facts.{facts_of}
use Rattle.promise_scrub.specs.Members.{header_annotations}
use Rattle.promise_scrub.specs.Steps.{put_annotation}
use Rattle.promise_scrub.proofs.gather.put_header.Given as goal

-- the annotations that are left complete those so far
abbrev pub invariant-loop-i : goal.invariant-loop-i
invariant-loop-i l = fold (put_annotation l.place.key.now) l.unit (header_annotations (facts_of l.at) l.place.site (drop l.i l.marks) (drop l.i l.codes))
    ≡ fold (put_annotation l.place.key.now) l.initial.unit (header_annotations (facts_of l.at) l.place.site l.marks l.codes)
