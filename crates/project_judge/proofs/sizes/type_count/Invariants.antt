use Rattle.std.proofs.Common.{◌≡◌, length, map, take}
use Rattle.project_files.specs.Kept.{tree_file}
use Rattle.project_files.specs.Trees.{types_of}
use Rattle.project_judge.proofs.sizes.type_count.Given as goal

-- the types of the files so far
abbrev pub invariant-loop-file : goal.invariant-loop-file
invariant-loop-file l = l.count ≡ length (types_of (map tree_file (take l.file-index l.read)))
