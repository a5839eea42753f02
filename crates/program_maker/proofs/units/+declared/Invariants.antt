use Rattle.std.proofs.Common.{◌≡◌, ◌+◌, drop}
use Rattle.bound_tree.specs.Reading.{statements_of}
use Rattle.program_maker.specs.Locals.{declared_all}
use Rattle.program_maker.proofs.units.+declared.Given as goal

-- those so far and those of what is left are all
abbrev pub invariant-declared_in-loop-stmt : goal.invariant-declared_in-loop-stmt
invariant-declared_in-loop-stmt l = l.count + declared_all (statements_of (drop l.stmt-index l.list)) ≡ declared_all (statements_of l.list)
