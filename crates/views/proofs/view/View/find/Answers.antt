use Rattle.std.proofs.Common.{ap}
use Rattle.views.specs.Face.{Seen}
use Rattle.views.proofs.Showing.{match_shown}
use Rattle.views.proofs.view.View.find.Goals as goal

pub returns : goal.returns
returns c = match_shown _ c.args.self.now c.self.inside.surfaces.now c.args.name.now c.find.result (ap (λ (s : Seen). s.surfaces) c.self.view_is) c.find.ensures
