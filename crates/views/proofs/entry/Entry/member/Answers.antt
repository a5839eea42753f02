use Rattle.std.proofs.Common.{◌∙◌, ap}
use Rattle.std.specs.Prelude.{find, option_and_then}
use Rattle.std.specs.List.{slice_get}
use Rattle.promise_scrub.specs.declared.surface.Surface.{Surface}
use Rattle.views.specs.Indexes.{member_is, place_at}
use Rattle.views.proofs.Finding.{found_is}
use Rattle.views.proofs.entry.Entry.member.Goals as goal

pub returns : goal.returns
returns c =
    c.item_at.ensures ∙ ap (option_and_then (slice_get c.self.inside.surface.members)) c.get.ensures.value
    ∙ found_is (place_at c.self.inside.shape.members) member_is c.self.inside.surface.members c.args.key.now c.self.invariant.has_shape.members
    ∙ ap (λ (s : Surface). find (member_is c.args.key.now) s.members) c.self.view_is
