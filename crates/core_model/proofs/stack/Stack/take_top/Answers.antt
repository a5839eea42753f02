use Rattle.std.proofs.Common.{◌<◌, length, ◌∙◌, sym, arith}
use Rattle.core_model.proofs.Stacks.{taken-more, some-left}
use Rattle.core_model.proofs.stack.Stack.take_top.Goals as goal
use Rattle.core_model.proofs.stack.Stack.take_top.Goals.{in-Some+in_ok-push, in_default}

pub loop-preserved : goal.loop-preserved
loop-preserved g c =
    elim c.match-pop.branch [
      | in-Some+in_ok-push w ↦
          let h = taken-more c.args.self.now c.loop.counter w.in-Some.item c.pop.new.self (sym c.loop.invariant.1 ∙ w.in-Some.ensures) in
          (rw (w.taken-is, w.in_ok-push.ensures.items, c.loop.invariant.0) (sym h.0), sym h.1)
      | in_default w ↦
          let short : c.loop.counter < length c.args.self.now = omega (arith, c.loop-test.true, c.requires) in
          absurd (some-left c.args.self.now c.loop.counter short (sym c.loop.invariant.1 ∙ w.in_default.ensures.0))
    ]
