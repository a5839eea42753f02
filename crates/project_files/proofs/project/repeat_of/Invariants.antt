use Rattle.std.proofs.Common.{map, take}
use Rattle.project_files.specs.Trees.{types_of}
use Rattle.project_files.specs.Kept.{tree_file, AreNamed}
use Rattle.project_files.proofs.project.repeat_of.Given as goal

-- the names of the types of the files so far
abbrev pub invariant-loop-file : goal.invariant-loop-file
invariant-loop-file l = AreNamed (types_of (map tree_file (take l.file-index l.read))) l.names
