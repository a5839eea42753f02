use Rattle.tree_places.specs.Numbers.{number_of}
use Rattle.bound_tree.specs.declared.unit.Word.{Word}
use Rattle.unit_rules.specs.Headers.{word_of}
use Rattle.unit_rules.proofs.Lists.{map_step}
use Rattle.unit_rules.proofs.headers.words.Goals as goal

pub loop-name-preserved : goal.loop-name-preserved
loop-name-preserved c =
    let made : Word = record { at = c.place.result; name = c.in_ok-clone.field-0 } in
    map_step (word_of (number_of c.args.places.now)) c.args.names.now c.loop-name.name-index c.name-item.result c.loop-name.words c.push.new.self made
    c.loop-name-test.true c.name-item.is c.in_ok-push.ensures.ok (λ i. record { at = c.place.ensures i; name = c.in_ok-clone.ensures.cases i }) c.loop-name.invariant
