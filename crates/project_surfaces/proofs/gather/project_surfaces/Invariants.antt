use Rattle.std.proofs.Common.{map, take}
use Rattle.project_files.specs.Kept.{tree_file}
use Rattle.project_files.specs.Repeats.{NoRepeat}
use Rattle.project_files.specs.Trees.{types_of}
use Rattle.project_surfaces.specs.Gathered.{AreGathered}
use Rattle.project_surfaces.proofs.gather.project_surfaces.Given as goal

-- the surfaces of the types of the files so far
abbrev pub invariant-loop-file : goal.invariant-loop-file
invariant-loop-file l = NoRepeat (types_of (map tree_file (take l.file-index l.read))) → AreGathered (types_of (map tree_file (take l.file-index l.read))) l.made
