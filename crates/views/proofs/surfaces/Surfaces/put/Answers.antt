use Rattle.std.proofs.Common.{◌∙◌, ap, List}
use Rattle.promise_scrub.specs.declared.surface.Surface.{Surface}
use Rattle.views.specs.Filed.{with_surface}
use Rattle.views.proofs.Filing.{filed_put, values_filed}
use Rattle.views.proofs.surfaces.Surfaces.put.Goals as goal

pub invariant_of-self-2 : goal.invariant_of-self-2
invariant_of-self-2 c =
    filed_put c.self.inside.types c.insert.new.self c.in_ok-name.name c.args.surface c.in_ok-entry.entry c.self.inside.object c.self.inside.string c.self.inside.runnable
    c.in_ok-insert.ensures.entries c.in_ok-name.ensures.cases c.in_ok-entry.ensures c.self.invariant

pub returns-clause-ok : goal.returns-clause-ok
returns-clause-ok c =
    values_filed c.self.inside.types c.insert.new.self c.in_ok-name.name c.args.surface c.in_ok-entry.entry c.self.inside.object c.self.inside.string c.self.inside.runnable
    c.in_ok-insert.ensures.entries c.in_ok-name.ensures.cases c.in_ok-entry.ensures c.self.invariant
    ∙ ap (λ (ss : List Surface). with_surface ss c.args.surface) c.self.view_is
