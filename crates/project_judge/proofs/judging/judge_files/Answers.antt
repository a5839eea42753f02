use Rattle.std.proofs.Common.{List, map, subst, take, take_all}
use Rattle.project_files.specs.Kept.{tree_file}
use Rattle.project_files.specs.declared.reading.ReadFile.{ReadFile}
use Rattle.project_judge.specs.Judged.{AreJudged}
use Rattle.project_judge.specs.Units.{all_units}
use Rattle.project_judge.proofs.NamedSurfaces.{surfaced_at}
use Rattle.project_judge.proofs.UnitSteps.{more_files}
use Rattle.project_judge.proofs.judging.judge_files.Goals as goal

pub loop-i-init : goal.loop-i-init
loop-i-init c surfaced = c.new-judging.ensures c.args.surfaces.now

pub loop-i-preserved : goal.loop-i-preserved
loop-i-preserved c surfaced =
    let read = c.args.read.now in
    let r = c.index-read-i.result in
    more_files c.args.surfaces.now c.args.promises c.put_file.new.self read c.loop-i.i c.in_ok-number.number r c.loop-i-test.true c.index-read-i.is c.in_ok-number.ensures
    (c.in_ok-put_file.ensures (all_units (map tree_file (take c.loop-i.i read))) c.args.promises (surfaced_at c.args.surfaces.now read c.loop-i.i r c.loop-i-test.true c.index-read-i.is surfaced)
    (c.loop-i.invariant surfaced))

pub returns : goal.returns
returns c surfaced =
    let P : List ReadFile → Type 0 = λ l. AreJudged c.args.surfaces.now (all_units (map tree_file l)) c.args.promises c.loop-i.judging in
    subst P (take_all c.loop-i.i c.args.read.now c.loop-i-test.false) (c.loop-i.invariant surfaced)
