use Rattle.std.proofs.Common.{sym, ◌∙◌}
use Rattle.region_tree.proofs.Numbers.{found_is, kind_none, kind_some, none_if, kind_differs, kind_agrees}
use Rattle.region_tree.proofs.place.number_placed.Goals as goal

pub returns-in_default-clause-fault : goal.returns-in_default-clause-fault
returns-in_default-clause-fault c =
    let put = c.args.put.now in
    let none = kind_none c.args.numbers.now c.args.declared.now put.region put.is_static _ c.requires c.number_written.ensures
    (none_if _ c.in_default.not-Some) in
    (c.in_ok-name.ensures.cases, λ placed. let both = sym none ∙ placed in cc)

pub returns-then-ne-clause-fault : goal.returns-then-ne-clause-fault
returns-then-ne-clause-fault c =
    let put = c.args.put.now in
    let kind = c.kind_of_number.ensures
    ∙ sym (kind_some c.args.numbers.now c.args.declared.now put.region put.is_static _ c.in-Some.number c.requires c.number_written.ensures c.in-Some.is) in
    (c.in_ok-name-2.ensures.cases, λ placed. kind_differs _ _ c.if-ne.ensures (kind ∙ placed))

pub returns-clause-placed : goal.returns-clause-placed
returns-clause-placed c =
    let put = c.args.put.now in
    let kind = c.kind_of_number.ensures
    ∙ sym (kind_some c.args.numbers.now c.args.declared.now put.region put.is_static _ c.in-Some.number c.requires c.number_written.ensures c.in-Some.is) in
    sym kind ∙ kind_agrees _ _ c.if-ne.ensures

pub returns-clause-number : goal.returns-clause-number
returns-clause-number c =
    let put = c.args.put.now in
    sym (found_is c.args.numbers.now c.args.declared.now put.region put.is_static c.requires) ∙ sym c.number_written.ensures ∙ c.in-Some.is
