use Rattle.std.proofs.Common.{[], ◌∷◌, refl, sym, append-nil}
use Rattle.finding_order.proofs.Front.{begins_same, begins_more, begins_on}
use Rattle.finding_order.proofs.Counting.{counts_none, numbered_step}
use Rattle.finding_order.proofs.number.put_in_order.Goals as goal

pub loop-finding-init : goal.loop-finding-init
loop-finding-init c = record {
  front = begins_same c.args.out.now c.args.out.now refl;
  so_far = sym (append-nil c.args.out.now);
  counts = counts_none c.new-counts.result c.new-counts.ensures.empty;
}

pub loop-finding-preserved : goal.loop-finding-preserved
loop-finding-preserved c =
    let done = c.in_ok-numbered.ensures c.loop-finding.yielded c.loop-finding.invariant.counts in
    record {
      front = begins_on c.args.out.now c.loop-finding.out c.push.new.self c.loop-finding.invariant.front
          (begins_more c.loop-finding.out (c.in_ok-numbered.field-0 ∷ []) c.push.new.self c.in_ok-push.ensures.ok);
      so_far = numbered_step c.args.out.now c.loop-finding.out c.push.new.self c.loop-finding.yielded c.in-Some.finding c.in_ok-numbered.field-0 c.numbered.new.counts
          c.loop-finding.invariant.so_far done c.in_ok-push.ensures.ok;
      counts = done.counts;
    }
