use Rattle.std.proofs.Common.{◌∙◌}
use Rattle.std.specs.Prelude.{decimal}
use Rattle.unit_judge.proofs.promises.number_in.Goals as goal

pub returns-in-None : goal.returns-in-None
unfolding lib.Utf8.encode
returns-in-None c k small same = c.in-None.ensures.cases (decimal k) (c.as_str.ensures ∙ same)
