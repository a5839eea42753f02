use Rattle.std.proofs.Common.{sym, ◌∙◌}
use Rattle.region_tree.proofs.Numbers.{kind_none, kind_some}
use Rattle.region_tree.proofs.names.kind_written.Goals as goal

pub returns-in_err-number : goal.returns-in_err-number
returns-in_err-number c =
    c.from_residual.ensures
    ∙ sym (kind_none c.args.numbers.now c.args.declared.now c.args.name.now c.args.is_static _ c.requires c.number_written.ensures c.in_err-number.was)

pub returns : goal.returns
returns c =
    c.kind_of_number.ensures
    ∙ sym (kind_some c.args.numbers.now c.args.declared.now c.args.name.now c.args.is_static _ c.in_ok-number.number c.requires c.number_written.ensures c.in_ok-number.was)
