use Rattle.std.proofs.Common.{List, ℕ, ◌++◌, sym, subst}
use Rattle.std.specs.Prelude.{Option}
use Rattle.std.specs.Borrow.{Bor}
use Rattle.std.specs.Option.{option_copied}
use Rattle.project_judge.specs.Judged.{AreJudged}
use Rattle.project_judge.specs.Units.{unit_if}
use Rattle.project_judge.proofs.judging.Judging.put_member.Goals as goal

pub returns-in_ok-put_unit-in-Some-clause-put : goal.returns-in_ok-put_unit-in-Some-clause-put
returns-in_ok-put_unit-in-Some-clause-put c surfaces units n is judged =
    let P : Option (Bor (List ℕ)) → Type 0 = λ k.
    AreJudged surfaces (units ++ unit_if c.args.at.now.file c.args.lines.now.text.now c.args.at.now.class.now c.args.member.now (option_copied k)) n c.put_unit.new.self in
    subst P (sym c.in-Some.is) (c.in_ok-put_unit-in-Some.ensures.put surfaces units n is judged)
