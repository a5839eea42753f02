use Rattle.std.proofs.Common.{◌≡◌, get_or, sym, subst}
use Rattle.desk_base.specs.declared.key.PromiseKey.{PromiseKey}
use Rattle.consistency_cases.proofs.case.key_at.Goals as goal

pub returns : goal.returns
returns c = (
  c.args.promise,
  c.requires,
  subst (λ (z : PromiseKey). get_or c.args.keys.now c.args.promise z ≡ z) (sym c.in_ok-copy_of.ensures) (sym c.index-keys-promise.is),
)
