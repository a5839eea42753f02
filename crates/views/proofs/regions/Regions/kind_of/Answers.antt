use Rattle.std.proofs.Common.{◌∙◌, sym}
use Rattle.views.proofs.Regioning.{kind-none, kind-some}
use Rattle.views.proofs.regions.Regions.kind_of.Goals as goal

pub returns-in-Some : goal.returns-in-Some
returns-in-Some c = c.kind_of_number.ensures ∙ kind-some c.args.self.now.numbers c.args.declared.now c.args.name.now c.in-Some.number.now c.requires c.in-Some.ensures.value

pub returns-in-None : goal.returns-in-None
returns-in-None c = kind-none c.args.self.now.numbers c.args.declared.now c.args.name.now c.requires c.in-None.ensures.value
