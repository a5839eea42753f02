use Rattle.std.proofs.Common.{ap, sym, ◌∙◌}
use Rattle.unit_rules.specs.Consulted.{put_among}
use Rattle.unit_rules.proofs.Lists.{put_last}
use Rattle.unit_rules.proofs.consulted.set_of.Goals as goal

pub loop-name-preserved : goal.loop-name-preserved
loop-name-preserved c =
    ap (put_among c.pop.new.self) c.in_ok-insert.ensures.keys
    ∙ (sym (put_last c.pop.new.self c.in-Some.name c.loop-name.set.keys)
    ∙ (ap (λ ns. put_among ns c.loop-name.set.keys) (sym c.in-Some.ensures) ∙ c.loop-name.invariant))
