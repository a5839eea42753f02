use Rattle.std.proofs.Common.{◌∙◌, ap, List}
use Rattle.promise_scrub.specs.declared.surface.Surface.{Surface}
use Rattle.views.specs.Face.{surface_named}
use Rattle.views.proofs.Filing.{lookup_named}
use Rattle.views.proofs.surfaces.Surfaces.entry.Goals as goal

pub returns : goal.returns
returns c =
    c.get.ensures.value ∙ lookup_named c.self.inside.types.entries c.args.name.now c.self.invariant.named
    ∙ ap (λ (ss : List Surface). surface_named ss c.args.name.now) c.self.view_is
