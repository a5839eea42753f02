use Rattle.std.proofs.Common.{◌∙◌, sym}
use Rattle.program_maker.proofs.Meeting.{any_here, any_later}
use Rattle.program_maker.proofs.maker.any_findings.Goals as goal

pub loop-unit-preserved : goal.loop-unit-preserved
loop-unit-preserved c =
    c.loop-unit.invariant
    ∙ any_later c.args.units.now c.loop-unit.unit-index c.unit-item.result c.loop-unit-test.true c.unit-item.is (sym c.has_findings.ensures ∙ c.if-has_findings.false)

pub returns-then-has_findings : goal.returns-then-has_findings
returns-then-has_findings c =
    any_here c.args.units.now c.loop-unit.unit-index c.unit-item.result c.loop-unit-test.true c.unit-item.is (sym c.has_findings.ensures ∙ c.if-has_findings.true)
    ∙ sym c.loop-unit.invariant
