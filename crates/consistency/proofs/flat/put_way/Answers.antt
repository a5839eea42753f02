use Rattle.std.proofs.Common.{◌≡◌, ◌++◌, ◌∷◌, [], Bool, ap, arith, length, refl, ◌∙◌}
use Rattle.consistency.proofs.Flattening.{ways_put}
use Rattle.consistency.proofs.flat.put_way.Goals as goal

pub returns : goal.returns
returns c =
    let g = c.args.flat.now in
    let n : c.in_ok-way.way ≡ length g.finding.items = (let v = c.in_ok-way.ensures.value in let l = c.len.ensures in let o = g.finding.ok.0 in omega (arith, v, l, o)) in
    ways_put c.args.given g _ c.put_links.new.flat c.args.finding c.in_ok-way.way c.args.links.now n refl refl c.in_ok-push.ensures.items
    (c.in_ok-push-2.ensures.items ∙ ap (λ (b : Bool). g.barred.items ++ b ∷ []) c.is_barred.ensures) refl refl c.in_ok-put_links.ensures
