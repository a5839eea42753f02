use Rattle.std.proofs.Common.{◌≡◌, ◌++◌, IfOk, OnOk, subst}
use Rattle.bound_tree.specs.Reading.{statement_of}
use Rattle.expression_binding.specs.Bound.{grounded}
use Rattle.tree_places.specs.Numbers.{number_of}
use Rattle.statement_binding.specs.Done.{Done}
use Rattle.statement_binding.proofs.Cases.{top_local_done}
use Rattle.statement_binding.proofs.top.bind_top_item.Goals as goal

pub returns-in-Local-clause-made : goal.returns-in-Local-clause-made
returns-in-Local-clause-made g c =
    subst (λ (d : Done). IfOk c.bind_local.result (λ made. statement_of made ≡ d.made))
    (top_local_done (grounded (g.T.TypeTable.types c.args.site.now.types.now) c.args.site.now.class.now c.args.site.now.is_static) c.args.written.now c.args.locals.now (number_of c.args.site.now.places.now) c.args.item.now c.in-Local.local c.in-Local.field-1 c.in-Local.is)
    c.bind_local.ensures.made

pub returns-in-Local-clause-notes : goal.returns-in-Local-clause-notes
returns-in-Local-clause-notes g c =
    subst (λ (d : Done). OnOk c.bind_local.result (c.bind_local.new.notes ≡ c.args.notes.now ++ d.notes))
    (top_local_done (grounded (g.T.TypeTable.types c.args.site.now.types.now) c.args.site.now.class.now c.args.site.now.is_static) c.args.written.now c.args.locals.now (number_of c.args.site.now.places.now) c.args.item.now c.in-Local.local c.in-Local.field-1 c.in-Local.is)
    c.bind_local.ensures.notes
