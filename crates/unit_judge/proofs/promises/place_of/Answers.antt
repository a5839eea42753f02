use Rattle.std.proofs.Common.{◌∙◌, arith}
use Rattle.unit_judge.proofs.Places.{place_by_none, place_by_number}
use Rattle.unit_judge.proofs.promises.place_of.Goals as goal

pub returns-in-Some : goal.returns-in-Some
returns-in-Some c = c.place_at.ensures ∙ place_by_number c.args.detail.now c.in-Some.number c.args.places.now (omega arith) (omega arith) c.in-Some.ensures

pub returns-in-None : goal.returns-in-None
returns-in-None c = place_by_none c.args.detail.now c.args.places.now (omega arith) c.in-None.ensures
