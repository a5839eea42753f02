use Rattle.std.proofs.Common.{◌≡◌, ℕ, arith, length, subst, sym, ap, ◌∙◌}
use Rattle.std.specs.Prelude.{Some}
use Rattle.desk_base.specs.declared.key.PromiseKey.{PromiseKey}
use Rattle.consistency.specs.Keys.{IndexesTo}
use Rattle.consistency.proofs.Judging.{place_at}
use Rattle.consistency.proofs.Keys.{indexes_more, indexes_none}
use Rattle.consistency.proofs.numbers.numbers_of.Goals as goal

pub loop-i-init : goal.loop-i-init
loop-i-init c = indexes_none c.args.keys.now c.new-numbers.result c.new-numbers.ensures.empty

pub loop-i-preserved : goal.loop-i-preserved
loop-i-preserved c =
    let i = c.loop-i.i in
    indexes_more c.args.keys.now i c.in_ok-short.field-0 c.loop-i.numbers c.insert.new.self c.in_ok-copy_of.field-0
    (place_at c.args.keys.now c.index-keys-i.result i c.loop-i-test.true (sym c.index-keys-i.is) ∙ ap (λ (z : PromiseKey). Some z) (sym c.in_ok-copy_of.ensures))
    c.in_ok-short.ensures.value c.in_ok-insert.ensures.updates c.loop-i.invariant

pub returns : goal.returns
returns c = subst (λ (z : ℕ). IndexesTo c.args.keys.now z c.loop-i.numbers) (let z : c.loop-i.i ≡ length c.args.keys.now = omega arith in z) c.loop-i.invariant
