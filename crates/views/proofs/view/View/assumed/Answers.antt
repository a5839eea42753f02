use Rattle.std.proofs.Common.{◌∙◌, ap, refl, sym}
use Rattle.std.specs.Prelude.{Option}
use Rattle.views.specs.Face.{Face}
use Rattle.views.specs.Looks.{assumed_in}
use Rattle.views.proofs.Keying.{assumed-none, assumed-shown, own-assumptions}
use Rattle.views.proofs.view.View.assumed.Goals as goal

pub returns-in-None : goal.returns-in-None
returns-in-None c = sym (ap (λ (f : Option Face). assumed_in f c.args.key.now) c.in-None.ensures)

pub returns-then-takes_effect : goal.returns-then-takes_effect
returns-then-takes_effect c =
    assumed-shown c.args.self.now c.args.class.now c.in-Some.found.kind c.in-Some.found.entry.now c.self.inside.own.now c.args.key.now _
    c.in-Some.ensures (own-assumptions c.args.self.now c.self.inside.surfaces.now c.self.inside.own.now c.self.view_is c.self.invariant)
    (sym c.if-takes_effect.ensures) c.assumption.ensures

pub returns-else-takes_effect : goal.returns-else-takes_effect
returns-else-takes_effect c =
    assumed-none c.args.self.now c.args.class.now c.in-Some.found.kind c.in-Some.found.entry.now c.args.key.now c.in-Some.ensures (sym c.if-takes_effect.ensures)
