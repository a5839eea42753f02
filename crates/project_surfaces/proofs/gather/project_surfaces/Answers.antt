use Rattle.std.proofs.Common.{List, map, subst, take_all}
use Rattle.project_files.specs.declared.reading.ReadFile.{ReadFile}
use Rattle.project_files.specs.Kept.{tree_file}
use Rattle.project_files.specs.Repeats.{NoRepeat}
use Rattle.project_files.specs.Trees.{types_of}
use Rattle.project_surfaces.specs.Gathered.{AreGathered}
use Rattle.project_surfaces.proofs.More.{types_step}
use Rattle.project_surfaces.proofs.gather.project_surfaces.Goals as goal

pub loop-file-preserved : goal.loop-file-preserved
loop-file-preserved c =
    types_step c.args.read.now c.loop-file.file-index c.file-item.result c.loop-file.made c.add_types.new.self c.loop-file-test.true c.file-item.is c.in_ok-add_types.ensures c.loop-file.invariant

pub returns : goal.returns
returns c =
    let P : List ReadFile → Type 0 = λ (l : List ReadFile). NoRepeat (types_of (map tree_file l)) → AreGathered (types_of (map tree_file l)) c.loop-file.made in
    subst P (take_all c.loop-file.file-index c.args.read.now c.loop-file-test.false) c.loop-file.invariant
