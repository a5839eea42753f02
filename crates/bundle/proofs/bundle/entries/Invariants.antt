use Rattle.std.proofs.Common.{length, map}
use Rattle.bundle.specs.File.{file_of}
use Rattle.bundle.proofs.Taken.{Taken}
use Rattle.bundle.proofs.bundle.entries.Given as goal

abbrev pub invariant-loop-file : goal.invariant-loop-file
invariant-loop-file l = Taken l.bytes (map file_of l.files.items) l.rest

abbrev pub decreases-loop-file : goal.decreases-loop-file
decreases-loop-file l = length l.rest
