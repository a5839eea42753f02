use Rattle.std.proofs.Common.{◌∙◌, ap, ℕ, List, sym, subst}
use Rattle.std.specs.Prelude.{Option, filter}
use Rattle.promise_scrub.specs.declared.surface.Standing.{Standing}
use Rattle.promise_scrub.specs.declared.surface.Surface.{Surface}
use Rattle.views.specs.Gathered.{AreThere, gathered}
use Rattle.views.specs.Indexes.{listed, stands_at}
use Rattle.views.proofs.Gathering.{units_all_there, units_gathered}
use Rattle.views.proofs.entry.Entry.promises_at.Goals as goal

pub new-requires : goal.new-requires
new-requires c =
    subst (λ (z : List Standing). AreThere z c.as_slice-in-Some.result.now) (sym c.as_slice.ensures)
    (units_all_there c.self.inside.places.units c.self.inside.surface.standing c.args.unit.now c.as_slice-in-Some.result.now
    c.self.invariant.has_places.units (c.as_slice-in-Some.ensures ∙ ap listed c.in-Some.ensures.value))

pub returns-in-Some : goal.returns-in-Some
returns-in-Some c =
    c.new.ensures ∙ ap (λ (z : List Standing). gathered z c.as_slice-in-Some.result.now) c.as_slice.ensures
    ∙ units_gathered c.self.inside.places.units c.self.inside.surface.standing c.args.unit.now c.as_slice-in-Some.result.now
    c.self.invariant.has_places.units (c.as_slice-in-Some.ensures ∙ ap listed c.in-Some.ensures.value)
    ∙ ap (λ (s : Surface). filter (stands_at c.args.unit.now) s.standing) c.self.view_is
