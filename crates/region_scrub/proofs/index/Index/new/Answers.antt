use Rattle.std.proofs.Common.{◌≡◌, ℕ, ◌+◌, ◌-◌, ◌<◌, length, arith, refl, sym, ◌∙◌, ap, subst}
use Rattle.std.specs.Prelude.{Option, Some, None, replicate}
use Rattle.std.proofs.Math.ListN.{set}
use Rattle.region_scrub.specs.Numbers.{key_at}
use Rattle.region_scrub.proofs.Indexing.{Indexed, key_read, indexed_none, indexed_more, indexed_skip, indexed_all}
use Rattle.region_scrub.proofs.index.Index.new.Goals as goal

pub index-requires-in-Some : goal.index-requires-in-Some
index-requires-in-Some c =
    let low : c.loop-at.at - 1 < length c.args.keys.items = omega (arith, c.loop-at.invariant.within) in
    let here : key_at c.args.keys.items (c.loop-at.at - 1) ≡ Some c.in-Some.key = key_read c.args.keys.items (c.loop-at.at - 1) c.index.result.now low c.index.ensures ∙ c.in-Some.is in
    omega (arith, c.requires (c.loop-at.at - 1) c.in-Some.key here, c.loop-at.invariant.long_first)

pub index_mut-requires-in-Some : goal.index_mut-requires-in-Some
index_mut-requires-in-Some c =
    let low : c.loop-at.at - 1 < length c.args.keys.items = omega (arith, c.loop-at.invariant.within) in
    let here : key_at c.args.keys.items (c.loop-at.at - 1) ≡ Some c.in-Some.key = key_read c.args.keys.items (c.loop-at.at - 1) c.index.result.now low c.index.ensures ∙ c.in-Some.is in
    omega (arith, c.requires (c.loop-at.at - 1) c.in-Some.key here, c.loop-at.invariant.long_first)

pub loop-at-init : goal.loop-at-init
loop-at-init c =
    let long : c.len.result ≡ length c.args.keys.items = omega (arith, c.len.ensures) in
    let as_long : c.len-2.result ≡ length c.args.keys.items = omega (arith, c.len-2.ensures) in
    let ends : c.len-at.result ≡ length c.args.keys.items = omega (arith, c.len-at.ensures) in
    subst (Indexed c.args.keys.items c.in_ok-first.first.items c.in_ok-next.next.items) (sym ends)
    (indexed_none c.args.keys.items c.in_ok-first.first.items c.in_ok-next.next.items
    (c.in_ok-first.ensures ∙ ap (λ (n : ℕ). replicate n None) long) (c.in_ok-next.ensures ∙ ap (λ (n : ℕ). replicate n None) as_long))

pub loop-at-preserved : goal.loop-at-preserved
loop-at-preserved c =
    let low : c.loop-at.at - 1 < length c.args.keys.items = omega (arith, c.loop-at.invariant.within) in
    let back : c.loop-at.at ≡ (c.loop-at.at - 1) + 1 = omega arith in
    indexed_skip c.args.keys.items c.loop-at.first.items c.loop-at.next.items (c.loop-at.at - 1)
    (subst (Indexed c.args.keys.items c.loop-at.first.items c.loop-at.next.items) back c.loop-at.invariant)
    (key_read c.args.keys.items (c.loop-at.at - 1) c.index.result.now low c.index.ensures ∙ c.in_default.is)

pub loop-at-preserved-in-Some : goal.loop-at-preserved-in-Some
loop-at-preserved-in-Some c =
    let low : c.loop-at.at - 1 < length c.args.keys.items = omega (arith, c.loop-at.invariant.within) in
    let back : c.loop-at.at ≡ (c.loop-at.at - 1) + 1 = omega arith in
    let here : key_at c.args.keys.items (c.loop-at.at - 1) ≡ Some c.in-Some.key = key_read c.args.keys.items (c.loop-at.at - 1) c.index.result.now low c.index.ensures ∙ c.in-Some.is in
    let within : c.in-Some.key < length c.args.keys.items = c.requires (c.loop-at.at - 1) c.in-Some.key here in
    let first_low : c.in-Some.key < length c.loop-at.first.items = omega (arith, within, c.loop-at.invariant.long_first) in
    let read : key_at c.loop-at.first.items c.in-Some.key ≡ c.index-in-Some.result.now = key_read c.loop-at.first.items c.in-Some.key c.index-in-Some.result.now first_low c.index-in-Some.ensures in
    subst (λ (z : Option ℕ). Indexed c.args.keys.items (set c.loop-at.first.items c.in-Some.key (Some (c.loop-at.at - 1))) (set c.loop-at.next.items (c.loop-at.at - 1) z) (c.loop-at.at - 1)) read
    (indexed_more c.args.keys.items c.loop-at.first.items c.loop-at.next.items (c.loop-at.at - 1) c.in-Some.key
    (subst (Indexed c.args.keys.items c.loop-at.first.items c.loop-at.next.items) back c.loop-at.invariant) here within)

pub returns : goal.returns
returns c = record {
  keys = refl;
  indexed = indexed_all c.args.keys.items c.loop-at.first.items c.loop-at.next.items c.requires
      (let zero_at : c.loop-at.at ≡ 0 = omega arith in subst (Indexed c.args.keys.items c.loop-at.first.items c.loop-at.next.items) zero_at c.loop-at.invariant);
}
