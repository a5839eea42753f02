use Rattle.std.proofs.Common.{◌∙◌, ap, sym}
use Rattle.views.specs.Looks.{constructor_in}
use Rattle.views.proofs.view.View.constructor.Goals as goal

pub returns-in-None : goal.returns-in-None
returns-in-None c = sym (ap constructor_in c.in-None.ensures)

pub returns-in-Some : goal.returns-in-Some
returns-in-Some c = c.constructor.ensures ∙ sym (ap constructor_in c.in-Some.ensures)
