use Rattle.region_tree.proofs.Faulty.{placed_more, places_more}
use Rattle.region_tree.proofs.place.place_fields.Goals as goal

pub loop-put-preserved : goal.loop-put-preserved
loop-put-preserved c =
    let inv = c.loop-put.invariant in
    let i = c.loop-put.put-index in
    let number = c.in_ok-number.ensures in
    record {
      good = placed_more c.args.declared.now c.args.fields.now i c.put-item.result c.loop-put-test.true c.put-item.is inv.good number.placed;
      places = places_more c.loop-put.places c.put_first.new.numbers c.args.declared.now c.args.fields.now i c.put-item.result
          c.in_ok-clone.field-0 c.in_ok-number.number c.loop-put-test.true c.put-item.is inv.good c.in_ok-clone.ensures.cases number.number
          inv.places c.in_ok-put_first.ensures;
    }
