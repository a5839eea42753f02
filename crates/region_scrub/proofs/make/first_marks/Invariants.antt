use Rattle.std.proofs.Common.{◌≡◌, ◌∷◌, replicate}
use Rattle.region_scrub.specs.declared.chain_state.ChainState.TheVariants.{Fresh, Rooted}
use Rattle.region_scrub.proofs.make.first_marks.Given as goal

abbrev pub invariant-loop-i : goal.invariant-loop-i
invariant-loop-i l = l.marks.items ≡ Rooted ∷ Rooted ∷ replicate l._i Fresh
