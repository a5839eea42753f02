use Rattle.std.proofs.Common.{◌∙◌, ap, map}
use Rattle.std.specs.Prelude.{fold}
use Rattle.std.specs.List.{flat_map}
use Rattle.scrub_rules.specs.Facts.{facts_of}
use Rattle.promise_scrub.specs.Members.{spread_to, written}
use Rattle.promise_scrub.specs.Steps.{put_annotation}
use Rattle.promise_scrub.specs.declared.unit.Unit.{Unit as Target}
use Rattle.promise_scrub.proofs.Keeping.{two_kept}
use Rattle.promise_scrub.proofs.spread.promises_of.Goals as goal

pub returns : goal.returns
returns c =
    let step = put_annotation c.args.key.now in
    let xs = map (written (facts_of c.args.at.now) c.args.member.now) c.args.marks.now in
    let ys = flat_map (spread_to (facts_of c.args.at.now) c.args.member.now) c.args.scoped.now in
    c.in_ok-put_scoped.ensures ∙ ap (λ (u : Target). fold step u ys) (c.in_ok-put_marks.ensures ∙ ap (λ (u : Target). fold step u xs) c.new-unit.ensures)
    ∙ two_kept c.args.key.now xs ys
