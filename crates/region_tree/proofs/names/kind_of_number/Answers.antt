use Rattle.region_tree.proofs.Numbers.{kind_some_at}
use Rattle.region_tree.proofs.names.kind_of_number.Goals as goal

pub returns : goal.returns
returns c =
    let found = c.in_ok-decl.ensures.lookup in
    kind_some_at c.args.declared.now c.args.number c.in_ok-decl.decl.now c.if-number-lt2.false found.3.0 found.1
