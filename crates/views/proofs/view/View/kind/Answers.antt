use Rattle.std.proofs.Common.{ap, sym}
use Rattle.views.specs.Looks.{kind_in}
use Rattle.views.proofs.view.View.kind.Goals as goal

pub returns-in-None : goal.returns-in-None
returns-in-None c = sym (ap kind_in c.in-None.ensures)

pub returns-in-Some : goal.returns-in-Some
returns-in-Some c = sym (ap kind_in c.in-Some.ensures)
