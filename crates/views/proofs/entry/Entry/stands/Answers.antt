use Rattle.std.proofs.Common.{◌∙◌, ap}
use Rattle.std.specs.List.{list_any}
use Rattle.promise_scrub.specs.declared.surface.Surface.{Surface}
use Rattle.views.specs.Indexes.{standing_is, place_of}
use Rattle.views.proofs.Finding.{found_any}
use Rattle.views.proofs.entry.Entry.stands.Goals as goal

pub returns : goal.returns
returns c =
    c.contains_key.ensures
    ∙ found_any (place_of c.self.inside.places.standing) standing_is c.self.inside.surface.standing c.args.key.now c.self.invariant.has_places.standing
    ∙ ap (λ (s : Surface). list_any (standing_is c.args.key.now) s.standing) c.self.view_is
