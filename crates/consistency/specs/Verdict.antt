-- How a verdict is printed.
use Rattle.std.specs.Prelude.{ℕ, List, codes}
use Rattle.consistency.specs.declared.verdict.Verdict.{Verdict}
use Rattle.consistency.specs.declared.verdict.Verdict.TheVariants as verdict

abbrev pub verdict_word : Verdict → List ℕ
verdict_word verdict.Firm = codes "firm"
verdict_word verdict.Contingent = codes "contingent"
verdict_word verdict.Inconsistent = codes "inconsistent"
