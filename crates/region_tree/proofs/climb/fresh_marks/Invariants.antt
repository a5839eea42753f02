use Rattle.std.proofs.Common.{◌≡◌, replicate}
use Rattle.region_tree.specs.declared.chain_state.ChainState.TheVariants.{Fresh}
use Rattle.region_tree.proofs.climb.fresh_marks.Given as goal

abbrev pub invariant-loop-i : goal.invariant-loop-i
invariant-loop-i l = l.marks.items ≡ replicate l._i Fresh
