use Rattle.std.proofs.Common.{◌≡◌, [], drop}
use Rattle.core_model.specs.Begin.{all_held}
use Rattle.core_model.proofs.start.begun_objects.Given as goal

abbrev pub invariant-loop-info : goal.invariant-loop-info
invariant-loop-info l =
    all_held l.holders (drop l.info-index l.classes) ≡ all_held (record { objects = []; next = l.first }) l.classes
