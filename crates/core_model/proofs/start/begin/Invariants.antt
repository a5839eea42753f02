use Rattle.std.proofs.Common.{◌≡◌, map, take}
use Rattle.core_model.specs.Begin as spec
use Rattle.core_model.proofs.start.begin.Given as goal

abbrev pub invariant-loop-class : goal.invariant-loop-class
invariant-loop-class l = l.threads ≡ map (spec.begun_thread l.program) (take l.class-index l.mains)
