use Rattle.std.proofs.Common.{◌∙◌, ap, sym}
use Rattle.std.specs.Prelude.{Option}
use Rattle.views.specs.Face.{Face}
use Rattle.views.specs.Looks.{vouched_in}
use Rattle.views.proofs.view.View.is_vouched.Goals as goal

pub returns-in-None : goal.returns-in-None
returns-in-None c = sym (ap (λ (f : Option Face). vouched_in f c.args.unit.now) c.in-None.ensures)

pub returns-in-Some : goal.returns-in-Some
returns-in-Some c = c.is_vouched.ensures ∙ sym (ap (λ (f : Option Face). vouched_in f c.args.unit.now) c.in-Some.ensures)
