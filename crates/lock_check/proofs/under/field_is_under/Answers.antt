use Rattle.views.specs.Face.{face}
use Rattle.lock_check.proofs.RegionsUnder.{told_under}
use Rattle.lock_check.proofs.under.field_is_under.Goals as goal

pub returns : goal.returns
returns c = told_under (face c.args.view.now c.args.class.now) c.args.field.now c.args.region.now c.field_is_under.result c.field_is_under.ensures
