use Rattle.region_scrub.proofs.Forgetting.{top_there, top_forgetting}
use Rattle.region_scrub.proofs.rooting.Rooting.forget.Goals as goal

pub forget_below-requires-clause-forgetting : goal.forget_below-requires-clause-forgetting
forget_below-requires-clause-forgetting c = top_forgetting _ _ _ _ c.in-Some.at c.in-Some.ensures.items c.loop-at.invariant.forgetting

pub forget_below-requires-clause-there : goal.forget_below-requires-clause-there
forget_below-requires-clause-there c = top_there _ _ _ _ c.in-Some.at c.in-Some.ensures.items c.loop-at.invariant.forgetting
