use Rattle.std.proofs.Common.{◌∙◌, ap, sym}
use Rattle.views.specs.Looks.{region_kind_of}
use Rattle.views.proofs.Showing.{region_kind-shown}
use Rattle.views.proofs.view.View.region_kind.Goals as goal

pub returns-in-None : goal.returns-in-None
returns-in-None c = sym (ap (region_kind_of c.args.region.now) c.in-None.ensures)

pub returns-in-Some : goal.returns-in-Some
returns-in-Some c = c.region_kind.ensures ∙ region_kind-shown c.args.self.now c.args.class.now c.args.region.now c.in-Some.entry.now c.in-Some.ensures
