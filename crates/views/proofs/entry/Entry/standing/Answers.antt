use Rattle.std.proofs.Common.{◌∙◌, ap}
use Rattle.std.specs.Prelude.{find, option_and_then}
use Rattle.std.specs.List.{slice_get}
use Rattle.promise_scrub.specs.declared.surface.Surface.{Surface}
use Rattle.views.specs.Indexes.{standing_is, place_of}
use Rattle.views.proofs.Finding.{found_is}
use Rattle.views.proofs.entry.Entry.standing.Goals as goal

pub returns : goal.returns
returns c =
    c.item_at.ensures ∙ ap (option_and_then (slice_get c.self.inside.surface.standing)) c.get.ensures.value
    ∙ found_is (place_of c.self.inside.places.standing) standing_is c.self.inside.surface.standing c.args.key.now c.self.invariant.has_places.standing
    ∙ ap (λ (s : Surface). find (standing_is c.args.key.now) s.standing) c.self.view_is
