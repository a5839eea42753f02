use Rattle.std.proofs.Common.{◌∙◌, ap}
use Rattle.std.specs.Prelude.{find, option_and_then}
use Rattle.std.specs.List.{slice_get}
use Rattle.promise_scrub.specs.declared.surface.Surface.{Surface}
use Rattle.views.specs.Indexes.{field_is, place_at}
use Rattle.views.proofs.Finding.{found_is}
use Rattle.views.proofs.entry.Entry.field.Goals as goal

pub returns : goal.returns
returns c =
    c.item_at.ensures ∙ ap (option_and_then (slice_get c.self.inside.surface.fields)) c.get.ensures.value
    ∙ found_is (place_at c.self.inside.shape.fields) field_is c.self.inside.surface.fields c.args.name.now c.self.invariant.has_shape.fields
    ∙ ap (λ (s : Surface). find (field_is c.args.name.now) s.fields) c.self.view_is
