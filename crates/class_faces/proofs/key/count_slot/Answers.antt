use Rattle.std.proofs.Common.{◌≡◌, ◌+◌, arith}
use Rattle.std.proofs.lemmas.Grind.{common_steps}
use Rattle.class_faces.specs.Keys.{count_in}
use Rattle.class_faces.proofs.Counting.{count_step}
use Rattle.class_faces.proofs.key.count_slot.Goals as goal

pub returns : goal.returns
returns c =
    let one : c.in_ok-times.times ≡ count_in c.args.counts.now c.args.slot + 1 = grind (arith, common_steps) in
    λ slots was. count_step c.args.counts.now c.insert.new.self c.args.slot c.in_ok-times.times slots c.in_ok-insert.ensures.updates one was
