use Rattle.std.proofs.Common.{◌++◌, ◌∙◌, List, ap, append_assoc}
use Rattle.expression_binding.specs.Bound.{grounded}
use Rattle.tree_places.specs.Numbers.{number_of}
use Rattle.tree_places.specs.PlainStmt.{PlainStmts}
use Rattle.tree_places.specs.Plain.{plain_block}
use Rattle.name_rules.specs.declared.note.Note.{Note}
use Rattle.statement_binding.specs.Done.{block_of}
use Rattle.statement_binding.specs.Bodies.{shown_head, items_done, end_notes}
use Rattle.statement_binding.proofs.Cases.{body_items}
use Rattle.statement_binding.proofs.body.bind_body.Goals as goal

pub returns-clause-made : goal.returns-clause-made
returns-clause-made g c =
    let site = grounded (g.T.TypeTable.types c.args.site.now.types.now) c.args.site.now.class.now c.args.site.now.is_static in
    c.block.ensures
    ∙ ap block_of
    (c.in_ok-made.ensures.made
    ∙ ap (λ (ss : PlainStmts). (items_done site (shown_head c.args.head) (record { scope = c.args.scope; next = c.args.first_local }) ss).made)
    (body_items (number_of c.args.site.now.places.now) c.args.block.now c.as_slice.result.now c.as_slice.ensures))

pub returns-clause-notes : goal.returns-clause-notes
returns-clause-notes g c =
    let site = grounded (g.T.TypeTable.types c.args.site.now.types.now) c.args.site.now.class.now c.args.site.now.is_static in
    let told = end_notes (shown_head c.args.head) (plain_block (number_of c.args.site.now.places.now) c.args.block.now) in
    c.in_ok-put_end.ensures
    ∙ ap (λ (l : List Note). l ++ told)
    (c.in_ok-made.ensures.notes
    ∙ ap (λ (ss : PlainStmts). c.args.notes.now ++ (items_done site (shown_head c.args.head) (record { scope = c.args.scope; next = c.args.first_local }) ss).notes)
    (body_items (number_of c.args.site.now.places.now) c.args.block.now c.as_slice.result.now c.as_slice.ensures))
    ∙ append_assoc _ _ told
