use Rattle.std.proofs.Common.{arith}
use Rattle.std.proofs.lemmas.List.{take_rest}
use Rattle.promise_desk.proofs.Outputs.{written_more, room_more}
use Rattle.promise_desk.proofs.output.write_all.Goals as goal

pub loop-rest-preserved : goal.loop-rest-preserved
loop-rest-preserved g c =
    let n = c.in_ok-given.given in
    let rest = c.loop-rest.rest.now in
    rw take_rest (record {
      written = written_more (g.O.Sink.written c.args.out.now) (g.O.Sink.written c.loop-rest.out) (g.O.Sink.written c.give_some.new.out) c.args.text.now rest n
          c.loop-rest.invariant.written c.in_ok-given.ensures.given c.give_some.ensures.untold;
      counts = omega (arith, c.loop-rest.invariant.counts, c.give_some.ensures.never_falls);
      room = λ has. room_more _ rest n (c.in_ok-given.ensures.roomy (c.loop-rest.invariant.room has));
    })
