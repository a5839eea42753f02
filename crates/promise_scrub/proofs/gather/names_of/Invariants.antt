use Rattle.std.proofs.Common.{◌≡◌, take}
use Rattle.promise_scrub.specs.Surfaces.{names_of}
use Rattle.promise_scrub.proofs.gather.names_of.Given as goal

-- the names so far
abbrev pub invariant-loop-word : goal.invariant-loop-word
invariant-loop-word l = l.names ≡ names_of (take l.word-index l.words)
