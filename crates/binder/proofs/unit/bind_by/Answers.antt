use Rattle.std.proofs.Common.{◌∙◌, ◌++◌, ap}
use Rattle.std.specs.Option.{option_copied}
use Rattle.binder.specs.Units.{bound_under}
use Rattle.binder.proofs.Told.{told_by}
use Rattle.binder.proofs.unit.bind_by.Goals as goal

pub returns : goal.returns
returns c =
    told_by c.told_unit.result c.args.class.now (option_copied c.args.member) c.args.key c.args.view.now c.args.marks.now c.in_ok-tree.tree c.as_slice.result.now c.tokens_in.result.now
    c.in_ok-tree.ensures.tree
    (c.as_slice.ensures ∙ (c.in_ok-tree.ensures.notes ∙ ap (λ l. l ++ (bound_under c.args.class.now (option_copied c.args.member) c.args.key c.args.view.now c.args.marks.now).notes) c.new-notes.ensures))
    c.tokens_in.ensures c.told_unit.ensures
