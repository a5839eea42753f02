use Rattle.std.proofs.Common.{take}
use Rattle.project_files.specs.Kept.{files_of, AreReadTo}
use Rattle.project_files.proofs.project.read_all.Given as goal

-- the files so far
abbrev pub invariant-loop-file : goal.invariant-loop-file
invariant-loop-file l = AreReadTo (files_of (take l.file-index l.sorted)) l.read.items
