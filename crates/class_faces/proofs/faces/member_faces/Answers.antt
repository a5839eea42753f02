use Rattle.std.proofs.Common.{◌∙◌, ◌+◌, ap, map, take}
use Rattle.class_faces.specs.Keys.{slot_of, times, key_with}
use Rattle.class_faces.proofs.Counting.{faces_step, counts_step}
use Rattle.class_faces.proofs.faces.member_faces.Goals as goal

pub loop-member-preserved : goal.loop-member-preserved
loop-member-preserved c =
    let ms = c.as_slice-member-items.result.now in
    let i = c.loop-member.member-index in
    let m = c.member-item.result in
    let slots = map slot_of (take i ms) in
    let keyed = c.in_ok-key.ensures slots c.loop-member.invariant.counts in
    let class = ap (λ class. key_with class m (times slots (slot_of m) + 1)) c.as_slice.ensures in
    record {
      so_far = rw (c.in_ok-put_face.ensures, c.in_ok-face.ensures)
          (faces_step c.args.class.now.name.text ms i m c.loop-member.faces _ c.in_ok-key.key c.loop-member-test.true c.member-item.is
          c.loop-member.invariant.so_far (keyed.key ∙ class));
      counts = counts_step ms i m c.next_key.new.counts c.loop-member-test.true c.member-item.is keyed.counts;
    }
