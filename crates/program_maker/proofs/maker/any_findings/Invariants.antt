use Rattle.std.proofs.Common.{◌≡◌, drop}
use Rattle.std.specs.List.{list_any}
use Rattle.program_maker.specs.Kept.{units_lent}
use Rattle.program_maker.specs.Program.{has_findings}
use Rattle.program_maker.proofs.maker.any_findings.Given as goal

-- none so far has findings
abbrev pub invariant-loop-unit : goal.invariant-loop-unit
invariant-loop-unit l = list_any has_findings (units_lent l.units) ≡ list_any has_findings (units_lent (drop l.unit-index l.units))
