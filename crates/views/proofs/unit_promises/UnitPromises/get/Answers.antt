use Rattle.std.proofs.Common.{◌∙◌, ap, List}
use Rattle.std.specs.Prelude.{option_and_then}
use Rattle.std.specs.List.{slice_get}
use Rattle.promise_scrub.specs.declared.surface.Standing.{Standing}
use Rattle.views.proofs.Gathering.{get-gathered}
use Rattle.views.proofs.unit_promises.UnitPromises.get.Goals as goal

pub returns-in-Some : goal.returns-in-Some
returns-in-Some c =
    c.at-in-Some.ensures ∙ ap (option_and_then (slice_get c.self.inside.standing.now)) c.in-Some.ensures
    ∙ get-gathered c.self.inside.standing.now c.self.inside.places.now c.args.at c.self.invariant
    ∙ ap (λ (z : List Standing). slice_get z c.args.at) c.self.view_is

pub returns-in-None : goal.returns-in-None
returns-in-None c =
    ap (option_and_then (slice_get c.self.inside.standing.now)) c.in-None.ensures
    ∙ get-gathered c.self.inside.standing.now c.self.inside.places.now c.args.at c.self.invariant
    ∙ ap (λ (z : List Standing). slice_get z c.args.at) c.self.view_is
