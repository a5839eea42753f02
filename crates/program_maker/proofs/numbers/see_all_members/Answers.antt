use Rattle.std.proofs.Common.{subst, sym}
use Rattle.program_maker.specs.Numbered.{AreSeen}
use Rattle.program_maker.specs.Naming.{standing_names}
use Rattle.program_maker.proofs.Seeing.{surfaces_seen}
use Rattle.program_maker.proofs.numbers.see_all_members.Goals as goal

pub loop-surface-preserved : goal.loop-surface-preserved
loop-surface-preserved c =
    subst (AreSeen c.see_members.new.names)
    (sym (surfaces_seen standing_names c.args.surfaces.now c.loop-surface.surface-index c.surface-item.result c.loop-surface-test.true c.surface-item.is))
    (c.in_ok-see_members.ensures _ c.loop-surface.invariant)
