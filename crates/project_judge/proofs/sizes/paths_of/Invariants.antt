use Rattle.std.proofs.Common.{◌≡◌, map, take}
use Rattle.project_files.specs.Kept.{tree_file}
use Rattle.project_judge.specs.Sizes.{paths_of}
use Rattle.project_judge.proofs.sizes.paths_of.Given as goal

-- the paths of the files so far
abbrev pub invariant-loop-file : goal.invariant-loop-file
invariant-loop-file l = l.paths.items ≡ paths_of (map tree_file (take l.file-index l.read))
