use Rattle.std.proofs.Common.{◌∙◌, ap}
use Rattle.std.specs.Prelude.{fold}
use Rattle.scrub_rules.specs.Facts.{facts_of}
use Rattle.promise_scrub.specs.Members.{header_annotations}
use Rattle.promise_scrub.specs.Steps.{put_annotation}
use Rattle.promise_scrub.specs.declared.unit.Unit.{Unit as Target}
use Rattle.promise_scrub.proofs.Keeping.{unit_kept}
use Rattle.promise_scrub.proofs.gather.header_unit.Goals as goal

pub returns : goal.returns
returns c =
    let xs = header_annotations (facts_of c.args.at.now) c.args.site c.args.marks.now c.args.codes.now in
    c.in_ok-put_header.ensures ∙ ap (λ (u : Target). fold (put_annotation c.args.key.now) u xs) c.new-unit.ensures ∙ unit_kept c.args.key.now xs
