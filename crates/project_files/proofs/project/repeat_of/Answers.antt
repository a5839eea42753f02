use Rattle.std.proofs.Common.{List, map, subst, take_all}
use Rattle.project_files.specs.declared.reading.ReadFile.{ReadFile}
use Rattle.project_files.specs.Trees.{types_of}
use Rattle.project_files.specs.Kept.{tree_file, AreNamed}
use Rattle.project_files.proofs.Gathered.{repeat_is, types_step}
use Rattle.project_files.proofs.project.repeat_of.Goals as goal

pub loop-file-preserved : goal.loop-file-preserved
loop-file-preserved c =
    types_step c.args.read.now c.loop-file.file-index c.file-item.result c.loop-file.names c.add_types.new.self c.loop-file-test.true c.file-item.is c.in_ok-add_types.ensures.named c.loop-file.invariant

pub returns : goal.returns
returns c =
    let P : List ReadFile → Type 0 = λ (l : List ReadFile). AreNamed (types_of (map tree_file l)) c.loop-file.names in
    repeat_is (types_of (map tree_file c.args.read.now)) c.loop-file.names c.into_repeat.result c.into_repeat.ensures
    (subst P (take_all c.loop-file.file-index c.args.read.now c.loop-file-test.false) c.loop-file.invariant)
