use Rattle.std.proofs.Common.{◌≡◌, ◌++◌, IfOk, OnOk, List, subst}
use Rattle.std.specs.Option.{option_copied}
use Rattle.bound_tree.specs.Tree.{Statement}
use Rattle.bound_tree.specs.Reading.{statement_of}
use Rattle.expression_binding.specs.Bound.{grounded}
use Rattle.tree_places.specs.Numbers.{number_of}
use Rattle.statement_binding.specs.Done.{Done}
use Rattle.statement_binding.proofs.Cases.{on_ok, local_done, return_done, if_made, if_notes, if_behind, for_done, for_made, for_notes}
use Rattle.statement_binding.proofs.Running.{goes_first, goes_on, goes_made, goes_notes, goes_locals}
use Rattle.statement_binding.proofs.statement.+stmt.Goals as goal

pub bind_items-loop-item-init : goal.bind_items-loop-item-init
bind_items-loop-item-init g t c = goes_first _ _ _ _ _ _ _ c.new-made.ensures

pub bind_items-loop-item-preserved : goal.bind_items-loop-item-preserved
bind_items-loop-item-preserved g t c =
    goes_on _ _ _ _ _ _ _ _ _ _ _ _ _ _ _ _ c.loop-item-test.true c.item-item.is c.in_ok-stmt.ensures.made c.in_ok-stmt.ensures.notes c.in_ok-stmt.ensures.locals c.in_ok-push.ensures.ok c.loop-item.invariant

pub bind_items-returns-clause-made : goal.bind_items-returns-clause-made
bind_items-returns-clause-made g t c = goes_made _ _ _ _ _ _ _ _ _ _ c.loop-item-test.false c.loop-item.invariant

pub bind_items-returns-clause-notes : goal.bind_items-returns-clause-notes
bind_items-returns-clause-notes g t c = goes_notes _ _ _ _ _ _ _ _ _ _ c.loop-item-test.false c.loop-item.invariant

pub bind_items-returns-clause-locals : goal.bind_items-returns-clause-locals
bind_items-returns-clause-locals g t c = goes_locals _ _ _ _ _ _ _ _ _ _ c.loop-item-test.false c.loop-item.invariant

pub bind_item-returns-in-Local-clause-made : goal.bind_item-returns-in-Local-clause-made
bind_item-returns-in-Local-clause-made g t c =
    subst (λ (d : Done). IfOk c.bind_local.result (λ made. statement_of made ≡ d.made)) (local_done (grounded (g.T.TypeTable.types c.args.site.now.types.now) c.args.site.now.class.now c.args.site.now.is_static) (option_copied c.args.given) c.args.locals.now (number_of c.args.site.now.places.now) c.args.item.now c.in-Local.local c.in-Local.field-1 c.in-Local.is) c.bind_local.ensures.made

pub bind_item-returns-in-Local-clause-notes : goal.bind_item-returns-in-Local-clause-notes
bind_item-returns-in-Local-clause-notes g t c =
    subst (λ (d : Done). OnOk c.bind_local.result (c.bind_local.new.notes ≡ c.args.notes.now ++ d.notes)) (local_done (grounded (g.T.TypeTable.types c.args.site.now.types.now) c.args.site.now.class.now c.args.site.now.is_static) (option_copied c.args.given) c.args.locals.now (number_of c.args.site.now.places.now) c.args.item.now c.in-Local.local c.in-Local.field-1 c.in-Local.is) c.bind_local.ensures.notes

pub bind_stmt-returns-in-Return-clause-made : goal.bind_stmt-returns-in-Return-clause-made
bind_stmt-returns-in-Return-clause-made g t c =
    subst (λ (d : Done). IfOk c.bind_return.result (λ made. statement_of made ≡ d.made)) (return_done (grounded (g.T.TypeTable.types c.args.site.now.types.now) c.args.site.now.class.now c.args.site.now.is_static) (option_copied c.args.given) c.args.locals.now (number_of c.args.site.now.places.now) c.args.stmt.now c.in-Return.word c.in-Return.value c.in-Return.field-2 c.place-at-in-Return.result c.in-Return.is c.place-at-in-Return.ensures) c.bind_return.ensures.made

pub bind_stmt-returns-in-Return-clause-notes : goal.bind_stmt-returns-in-Return-clause-notes
bind_stmt-returns-in-Return-clause-notes g t c =
    subst (λ (d : Done). OnOk c.bind_return.result (c.bind_return.new.notes ≡ c.args.notes.now ++ d.notes)) (return_done (grounded (g.T.TypeTable.types c.args.site.now.types.now) c.args.site.now.class.now c.args.site.now.is_static) (option_copied c.args.given) c.args.locals.now (number_of c.args.site.now.places.now) c.args.stmt.now c.in-Return.word c.in-Return.value c.in-Return.field-2 c.place-at-in-Return.result c.in-Return.is c.place-at-in-Return.ensures) c.bind_return.ensures.notes

pub bind_stmt-returns-in_ok-no-in-If-clause-made : goal.bind_stmt-returns-in_ok-no-in-If-clause-made
bind_stmt-returns-in_ok-no-in-If-clause-made g t c =
    subst (λ (s : Statement). IfOk c.choice.result (λ made. statement_of made ≡ s))
    (if_made (grounded (g.T.TypeTable.types c.args.site.now.types.now) c.args.site.now.class.now c.args.site.now.is_static) (option_copied c.args.given) c.args.locals.now c.bind_stmt.new.locals (number_of c.args.site.now.places.now) c.args.stmt.now c.in-If.field-0 c.in-If.test c.in-If.yes c.get.result.now c.in-If.no _ _ _ c.in-If.is c.get.ensures c.in_ok-test-in-If.ensures.term c.in_ok-yes-in-If.ensures.made
    c.in_ok-yes-in-If.ensures.locals c.in_ok-no-in-If.ensures.made)
    c.choice.ensures

pub bind_stmt-returns-in_ok-no-in-If-clause-notes : goal.bind_stmt-returns-in_ok-no-in-If-clause-notes
bind_stmt-returns-in_ok-no-in-If-clause-notes g t c =
    on_ok c.choice.result
    (if_notes (grounded (g.T.TypeTable.types c.args.site.now.types.now) c.args.site.now.class.now c.args.site.now.is_static) (option_copied c.args.given) c.args.locals.now c.bind_stmt.new.locals (number_of c.args.site.now.places.now) c.args.stmt.now c.in-If.field-0 c.in-If.test c.in-If.yes c.get.result.now c.in-If.no c.args.notes.now _ _ _ c.in-If.is c.get.ensures c.in_ok-test-in-If.ensures.notes c.in_ok-yes-in-If.ensures.notes
    c.in_ok-yes-in-If.ensures.locals c.in_ok-no-in-If.ensures.notes)

pub bind_stmt-returns-in_ok-no-in-If-clause-locals : goal.bind_stmt-returns-in_ok-no-in-If-clause-locals
bind_stmt-returns-in_ok-no-in-If-clause-locals g t c =
    on_ok c.choice.result
    (if_behind c.args.locals.now c.bind_stmt.new.locals c.bind_other.new.locals (number_of c.args.site.now.places.now) c.args.stmt.now c.in-If.field-0 c.in-If.test c.in-If.yes c.get.result.now c.in-If.no c.in-If.is c.get.ensures c.in_ok-yes-in-If.ensures.locals c.in_ok-no-in-If.ensures.locals)

pub bind_stmt-returns-in_ok-body-in-For-2-clause-made : goal.bind_stmt-returns-in_ok-body-in-For-2-clause-made
bind_stmt-returns-in_ok-body-in-For-2-clause-made g t c =
    subst (λ (d : Done). IfOk c.looped.result (λ made. statement_of made ≡ d.made)) (for_done (grounded (g.T.TypeTable.types c.args.site.now.types.now) c.args.site.now.class.now c.args.site.now.is_static) (option_copied c.args.given) c.args.locals.now (number_of c.args.site.now.places.now) c.args.stmt.now c.in-For.word c.in-For.first c.in-For.test c.in-For.last c.in-For.body c.get-in-For.result.now c.place-at.result c.in-For.is c.get-in-For.ensures c.place-at.ensures)
    (subst (λ (s : Statement). IfOk c.looped.result (λ made. statement_of made ≡ s))
    (for_made (grounded (g.T.TypeTable.types c.args.site.now.types.now) c.args.site.now.class.now c.args.site.now.is_static) (option_copied c.args.given) c.args.locals.now (number_of c.args.site.now.places.now) c.place-at.result c.in-For.first c.in-For.test c.in-For.last c.get-in-For.result.now c.bind_first.new.locals c.bind_stmt-in-For.new.locals _ _ _ _ (record { entered = c.in_ok-first-in-For.ensures.locals; through = c.in_ok-body-in-For.ensures.locals })
    c.in_ok-first-in-For.ensures.made c.in_ok-test-in-For.ensures.term c.in_ok-body-in-For.ensures.made c.in_ok-body-in-For-2.ensures.made)
    c.looped.ensures)

pub bind_stmt-returns-in_ok-body-in-For-2-clause-notes : goal.bind_stmt-returns-in_ok-body-in-For-2-clause-notes
bind_stmt-returns-in_ok-body-in-For-2-clause-notes g t c =
    subst (λ (d : Done). OnOk c.looped.result (c.bind_last.new.notes ≡ c.args.notes.now ++ d.notes)) (for_done (grounded (g.T.TypeTable.types c.args.site.now.types.now) c.args.site.now.class.now c.args.site.now.is_static) (option_copied c.args.given) c.args.locals.now (number_of c.args.site.now.places.now) c.args.stmt.now c.in-For.word c.in-For.first c.in-For.test c.in-For.last c.in-For.body c.get-in-For.result.now c.place-at.result c.in-For.is c.get-in-For.ensures c.place-at.ensures)
    (on_ok c.looped.result
    (for_notes (grounded (g.T.TypeTable.types c.args.site.now.types.now) c.args.site.now.class.now c.args.site.now.is_static) (option_copied c.args.given) c.args.locals.now (number_of c.args.site.now.places.now) c.place-at.result c.in-For.first c.in-For.test c.in-For.last c.get-in-For.result.now c.bind_first.new.locals c.bind_stmt-in-For.new.locals c.args.notes.now _ _ _ _ (record { entered = c.in_ok-first-in-For.ensures.locals; through = c.in_ok-body-in-For.ensures.locals })
    c.in_ok-first-in-For.ensures.notes c.in_ok-test-in-For.ensures.notes c.in_ok-body-in-For.ensures.notes c.in_ok-body-in-For-2.ensures.notes))
