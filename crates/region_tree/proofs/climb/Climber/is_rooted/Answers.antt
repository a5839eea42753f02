use Rattle.std.proofs.Common.{◌≡◌, ◌<◌, length, arith, rules, sym, ◌∙◌}
use Rattle.region_tree.specs.declared.chain_state.ChainState.TheVariants as mark
use Rattle.region_tree.specs.Marks.{mark_at}
use Rattle.region_tree.proofs.Climbs.{mark_is}
use Rattle.region_tree.proofs.Rooted.{ranked_rooted, lost_unrooted, unranked_lost}
use Rattle.region_tree.proofs.climb.Climber.is_rooted.Goals as goal

pub returns-in-Ranked : goal.returns-in-Ranked
returns-in-Ranked c =
    let known = c.requires.known in
    let within : c.args.region < length c.args.self.now.marks.items = omega (arith, known.marked.long, c.requires.within) in
    let is : mark_at c.args.self.now.marks.items c.args.region ≡ mark.Ranked c.in-Ranked.field-0 =
    mark_is c.args.self.now.marks.items c.args.region _ within c.index.ensures ∙ c.in-Ranked.is in
    (λ _. ranked_rooted _ _ _ c.args.region _ known.marked is, λ _. search rules)

pub returns-in_default : goal.returns-in_default
returns-in_default c =
    let known = c.requires.known in
    let within : c.args.region < length c.args.self.now.marks.items = omega (arith, known.marked.long, c.requires.within) in
    let is : mark_at c.args.self.now.marks.items c.args.region ≡ c.index.result.now =
    mark_is c.args.self.now.marks.items c.args.region _ within c.index.ensures in
    let lost : mark_at c.args.self.now.marks.items c.args.region ≡ mark.Lost =
    unranked_lost _ _ _ c.args.region known within (λ r e. c.in_default.not-Ranked r (sym is ∙ e)) in
    (λ f. absurd (search rules), λ rooted. absurd (lost_unrooted _ _ _ c.args.region known.marked known.lost lost rooted))
