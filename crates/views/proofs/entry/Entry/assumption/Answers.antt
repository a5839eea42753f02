use Rattle.std.proofs.Common.{◌∙◌, ap}
use Rattle.std.specs.Prelude.{find, option_and_then}
use Rattle.std.specs.List.{slice_get}
use Rattle.promise_scrub.specs.declared.surface.Surface.{Surface}
use Rattle.views.specs.Indexes.{assumption_is, place_of}
use Rattle.views.proofs.Finding.{found_is}
use Rattle.views.proofs.entry.Entry.assumption.Goals as goal

pub returns : goal.returns
returns c =
    c.item_at.ensures ∙ ap (option_and_then (slice_get c.self.inside.surface.assumptions)) c.get.ensures.value
    ∙ found_is (place_of c.self.inside.places.assumed) assumption_is c.self.inside.surface.assumptions c.args.key.now c.self.invariant.has_places.assumed
    ∙ ap (λ (s : Surface). find (assumption_is c.args.key.now) s.assumptions) c.self.view_is
