use Rattle.std.proofs.Common.{◌∙◌, ap, sym}
use Rattle.std.specs.Prelude.{Option}
use Rattle.views.specs.Face.{Face}
use Rattle.views.specs.Looks.{standing_at}
use Rattle.views.proofs.view.View.standing_at.Goals as goal

pub returns-in-None : goal.returns-in-None
returns-in-None c = c.new.ensures ∙ sym (ap (λ (f : Option Face). standing_at f c.args.unit.now) c.in-None.ensures)

pub returns-in-Some : goal.returns-in-Some
returns-in-Some c = c.promises_at.ensures ∙ sym (ap (λ (f : Option Face). standing_at f c.args.unit.now) c.in-Some.ensures)
