use Rattle.std.proofs.Common.{◌≡◌, List, ℕ, ◌∙◌, subst, sym}
use Rattle.std.specs.Prelude.{Option}
use Rattle.region_tree.specs.declared.decl.RegionDecl.{RegionDecl}
use Rattle.region_tree.specs.declared.chain_state.ChainState.{ChainState}
use Rattle.region_tree.specs.Marks.{Known}
use Rattle.region_tree.specs.Regions.{parents_of}
use Rattle.region_tree.proofs.Built.{parents_within, tree_falls, numbered_within, placed_within}
use Rattle.region_tree.proofs.make.build.Goals as goal

pub new-requires-clause-within : goal.new-requires-clause-within
new-requires-clause-within c = parents_within c.args.declared.now c.in_ok-parents.parents.items c.in_ok-parents.ensures

pub invariant_of-result : goal.invariant_of-result
invariant_of-result c =
    let declared : List RegionDecl = c.args.declared.now in
    let parents : List (Option ℕ) = c.into_parts-parents.result.0.items in
    let marks : List ChainState = c.into_parts-parents.result.1.items in
    let is : parents ≡ parents_of declared =
    c.into_parts-parents.ensures.parents ∙ c.in_ok-climber.ensures.parents ∙ c.in_ok-parents.ensures in
    let known_first : Known c.in_ok-climber.climber.parents.items marks c.in_ok-climber.climber.next =
    subst (λ (m : List ChainState). Known c.in_ok-climber.climber.parents.items m c.in_ok-climber.climber.next)
    (sym c.into_parts-parents.ensures.marks) c.in_ok-climber.ensures.known in
    let known : Known parents marks c.in_ok-climber.climber.next =
    subst (λ (p : List (Option ℕ)). Known p marks c.in_ok-climber.climber.next) (sym c.into_parts-parents.ensures.parents) known_first in
    record {
      long = known.marked.long;
      within = parents_within declared parents is;
      falls = tree_falls declared parents marks _ is known c.in_ok-check_declared.ensures.good;
      numbered = numbered_within declared parents c.in_ok-numbers.numbers is c.in_ok-numbers.ensures;
      placed = placed_within declared c.args.fields.now parents c.in_ok-places.places is c.in_ok-places.ensures.places;
    }
