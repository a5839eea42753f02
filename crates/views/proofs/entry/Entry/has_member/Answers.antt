use Rattle.std.proofs.Common.{◌∙◌, ap}
use Rattle.std.specs.List.{list_any}
use Rattle.promise_scrub.specs.declared.surface.Surface.{Surface}
use Rattle.views.specs.Indexes.{member_is, place_at}
use Rattle.views.proofs.Finding.{found_any}
use Rattle.views.proofs.entry.Entry.has_member.Goals as goal

pub returns : goal.returns
returns c =
    c.contains_key.ensures
    ∙ found_any (place_at c.self.inside.shape.members) member_is c.self.inside.surface.members c.args.key.now c.self.invariant.has_shape.members
    ∙ ap (λ (s : Surface). list_any (member_is c.args.key.now) s.members) c.self.view_is
