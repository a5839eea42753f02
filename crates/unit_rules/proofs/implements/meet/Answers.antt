use Rattle.std.proofs.Common.{ap, ◌∙◌, ◌||◌, not}
use Rattle.std.specs.Str.{bytes_eq}
use Rattle.bound_unit.specs.Aboves.{has_name}
use Rattle.bound_unit.proofs.NameSet.{contains_is, inserted_is}
use Rattle.unit_rules.proofs.implements.meet.Goals as goal

pub returns-clause-new : goal.returns-clause-new
returns-clause-new c =
    c.in_ok-insert.ensures.added
    ∙ ap not (contains_is c.args.met.now c.as_slice.result ∙ ap (has_name c.args.met.now) c.as_slice.ensures)

pub returns-clause-kept : goal.returns-clause-kept
returns-clause-kept c q =
    inserted_is c.args.met.now c.insert.new.self c.as_slice.result c.in_ok-insert.ensures.keys q
    ∙ ap (λ n. bytes_eq q n || has_name c.args.met.now q) c.as_slice.ensures
