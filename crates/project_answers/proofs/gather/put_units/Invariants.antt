use Rattle.std.proofs.Common.{◌≡◌, ◌++◌}
use Rattle.std.specs.Prelude.{filter}
use Rattle.project_answers.specs.Gathered.{is_standing, says_more, all_found}
use Rattle.project_answers.proofs.gather.put_units.Given as goal

-- those of the units so far
abbrev pub invariant-loop-unit : goal.invariant-loop-unit
invariant-loop-unit l = record {
  firsts : l.firsts.items ≡ l.initial.firsts.items ++ filter is_standing (all_found l.yielded);
  others : l.others.items ≡ l.initial.others.items ++ filter says_more (all_found l.yielded);
}
