use Rattle.std.proofs.Common.{◌++◌, ◌∷◌, [], List, refl, sym, ◌∙◌, ap}
use Rattle.region_tree.specs.declared.decl.RegionDecl.{RegionDecl}
use Rattle.region_scrub.proofs.Leaving.{left_one, left_none, left_whole}
use Rattle.region_scrub.proofs.Walking.{untrue}
use Rattle.region_scrub.proofs.left.those_left.Goals as goal
use Rattle.region_scrub.proofs.left.those_left.Goals.{then-is_left+in_ok-clone+in_ok-push, else-is_left}

pub loop-i-preserved : goal.loop-i-preserved
loop-i-preserved c = elim c.if-is_left.branch [
  | then-is_left+in_ok-clone+in_ok-push w ↦
      ap (λ v. v.items) w.decls-is ∙ w.in_ok-push.ensures.items
      ∙ ap (λ (z : RegionDecl). c.loop-i.decls.items ++ z ∷ []) w.in_ok-clone.ensures.cases
      ∙ ap (λ (z : List RegionDecl). z ++ c.index-declared-i.result ∷ []) c.loop-i.invariant
      ∙ sym (left_one c.args.declared.now c.args.aside.now c.loop-i.i c.index-declared-i.result c.loop-i-test.true c.index-declared-i.is (w.if-is_left.ensures.0 refl))
  | else-is_left w ↦
      ap (λ v. v.items) w.decls-is ∙ c.loop-i.invariant
      ∙ sym (left_none c.args.declared.now c.args.aside.now c.loop-i.i c.loop-i-test.true (λ none. untrue (w.if-is_left.ensures.1 none)))
]

pub returns : goal.returns
returns c = c.loop-i.invariant ∙ left_whole c.args.declared.now c.args.aside.now c.loop-i.i c.loop-i-test.false
