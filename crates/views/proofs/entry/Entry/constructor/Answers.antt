use Rattle.std.proofs.Common.{◌∙◌, ap}
use Rattle.std.specs.Prelude.{find, option_and_then}
use Rattle.std.specs.List.{slice_get}
use Rattle.promise_scrub.specs.declared.surface.Surface.{Surface}
use Rattle.views.specs.Indexed.{constructor_is}
use Rattle.views.specs.Looks.{constructor_front}
use Rattle.views.proofs.Finding.{place_is}
use Rattle.views.proofs.entry.Entry.constructor.Goals as goal

pub returns : goal.returns
returns c =
    c.item_at.ensures ∙ ap (option_and_then (slice_get c.self.inside.surface.members)) c.as_ref.ensures.value
    ∙ place_is (constructor_is (constructor_front c.self.inside.surface.name)) c.self.inside.surface.members c.self.inside.shape.constructor c.self.invariant.has_shape.constructor
    ∙ ap (λ (s : Surface). find (constructor_is (constructor_front s.name)) s.members) c.self.view_is
