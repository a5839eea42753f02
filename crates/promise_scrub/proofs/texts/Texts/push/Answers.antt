use Rattle.std.proofs.Common.{subst, sym, List, ℕ}
use Rattle.promise_scrub.specs.Texts.{Lists}
use Rattle.promise_scrub.proofs.Looking.{lists_more}
use Rattle.promise_scrub.proofs.texts.Texts.push.Goals as goal

pub invariant_of-self-in-Ok : goal.invariant_of-self-in-Ok
invariant_of-self-in-Ok c =
    subst (λ (z : List (List ℕ)). Lists c.insert.new.self z) (sym c.in_ok-push.ensures.ok)
    (lists_more c.self.inside.set c.insert.new.self _ c.in_ok-copy.copy c.args.text c.in_ok-copy.ensures.cases c.in-Ok.ensures.updates c.self.invariant)
