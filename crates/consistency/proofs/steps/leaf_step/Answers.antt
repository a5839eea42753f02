use Rattle.std.proofs.Common.{◌≡◌, ◌<◌, ℕ, List, Vec, Global, ap, arith, get_or, length, sym, ◌∙◌, subst, take}
use Rattle.std.specs.Prelude.{None, Option, find, true, false}
use Rattle.consistency.specs.declared.graph.Link.{Link}
use Rattle.consistency.specs.Tables.{leaf_in, missing, stays_all, step_by}
use Rattle.consistency.proofs.Searching.{find_here, find_more}
use Rattle.consistency.proofs.steps.leaf_step.Goals as goal

pub returns-then-all_stay : goal.returns-then-all_stay
returns-then-all_stay c =
    let con = c.args.con.now in
    let alts = c.args.clause.now.alternatives.items in
    let e = c.deref-links-items.ensures.value in
    let i = c.loop-links.links-index in
    let x = c.links-item.result in
    let stays : stays_all con true (length con) x.items ≡ true =
    subst (λ (n : ℕ). stays_all con true n x.items ≡ true) c.requires
    (subst (λ (z : List Link). stays_all con true c.args.rounds z ≡ true) c.deref.ensures.value (sym c.all_stay.ensures ∙ c.if-all_stay.true)) in
    let size = ap (λ (z : List (Vec Link Global)). length z) e in
    let lt : i < length alts = (let t = c.loop-links-test.true in omega (arith, t, size)) in
    let is : x ≡ get_or alts i x = c.links-item.is ∙ ap (λ (z : List (Vec Link Global)). get_or z i x) e in
    let none : find (λ (ls : Vec Link Global). stays_all con true (length con) ls.items) (take i alts) ≡ None =
    subst (λ (n : ℕ). find (λ (ls : Vec Link Global). stays_all con true n ls.items) (take i alts) ≡ None) c.requires c.loop-links.invariant in
    let found = find_here (λ (ls : Vec Link Global). stays_all con true (length con) ls.items) alts i x lt is stays none in
    let gone = c.missing_link.ensures ∙ ap (λ (z : List Link). missing c.args.firm.now false c.args.round z) c.deref-then-all_stay.ensures.value in
    c.step_to.ensures ∙ ap (λ (z : Option Link). step_by z) gone ∙ sym (ap (λ (z : Option (Vec Link Global)). leaf_in c.args.firm.now c.args.round z) found)

pub loop-links-preserved : goal.loop-links-preserved
loop-links-preserved c =
    let con = c.args.con.now in
    let alts = c.args.clause.now.alternatives.items in
    let e = c.deref-links-items.ensures.value in
    let i = c.loop-links.links-index in
    let x = c.links-item.result in
    let leaves : stays_all con true c.args.rounds x.items ≡ false =
    subst (λ (z : List Link). stays_all con true c.args.rounds z ≡ false) c.deref.ensures.value (sym c.all_stay.ensures ∙ c.if-all_stay.false) in
    let size = ap (λ (z : List (Vec Link Global)). length z) e in
    let lt : i < length alts = (let t = c.loop-links-test.true in omega (arith, t, size)) in
    let is : x ≡ get_or alts i x = c.links-item.is ∙ ap (λ (z : List (Vec Link Global)). get_or z i x) e in
    find_more (λ (ls : Vec Link Global). stays_all con true c.args.rounds ls.items) alts i x lt is leaves c.loop-links.invariant
