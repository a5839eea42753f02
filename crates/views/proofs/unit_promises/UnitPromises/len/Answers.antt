use Rattle.std.proofs.Common.{◌∙◌, List, ap, length}
use Rattle.promise_scrub.specs.declared.surface.Standing.{Standing}
use Rattle.views.proofs.Gathering.{length-gathered}
use Rattle.views.proofs.unit_promises.UnitPromises.len.Goals as goal

pub returns : goal.returns
returns c = length-gathered c.self.inside.standing.now c.self.inside.places.now c.self.invariant ∙ ap (λ (z : List Standing). length z) c.self.view_is
