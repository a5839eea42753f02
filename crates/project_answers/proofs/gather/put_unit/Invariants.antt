use Rattle.std.proofs.Common.{◌≡◌, ◌++◌}
use Rattle.std.specs.Prelude.{filter}
use Rattle.project_answers.specs.Gathered.{is_standing, says_more}
use Rattle.project_answers.proofs.gather.put_unit.Given as goal

-- the findings so far
abbrev pub invariant-loop-sited : goal.invariant-loop-sited
invariant-loop-sited l = record {
  firsts : l.firsts.items ≡ l.initial.firsts.items ++ filter is_standing l.yielded;
  others : l.others.items ≡ l.initial.others.items ++ filter says_more l.yielded;
}
