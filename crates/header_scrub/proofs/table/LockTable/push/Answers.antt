use Rattle.std.proofs.Common.{subst, sym, List}
use Rattle.header_scrub.specs.declared.lock.Lock.{Lock}
use Rattle.header_scrub.specs.Locks.{HasNames}
use Rattle.header_scrub.proofs.Looking.{names_more}
use Rattle.header_scrub.proofs.table.LockTable.push.Goals as goal

pub invariant_of-self-in-Ok : goal.invariant_of-self-in-Ok
invariant_of-self-in-Ok c =
    subst (λ (z : List Lock). HasNames c.insert.new.self z) (sym c.in_ok-push.ensures.ok)
    (names_more c.self.inside.names c.insert.new.self _ c.args.lock c.in_ok-name.name c.in_ok-name.ensures.cases c.in-Ok.ensures.updates c.self.invariant)
