use Rattle.std.proofs.Common.{◌∙◌, ap}
use Rattle.std.specs.List.{list_any}
use Rattle.promise_scrub.specs.declared.surface.Surface.{Surface}
use Rattle.views.specs.Indexes.{name_is, place_at}
use Rattle.views.proofs.Finding.{found_any}
use Rattle.views.proofs.entry.Entry.implements.Goals as goal

pub returns : goal.returns
returns c =
    c.contains_key.ensures
    ∙ found_any (place_at c.self.inside.shape.implements) name_is c.self.inside.surface.implements c.args.interface.now c.self.invariant.has_shape.implements
    ∙ ap (λ (s : Surface). list_any (name_is c.args.interface.now) s.implements) c.self.view_is
