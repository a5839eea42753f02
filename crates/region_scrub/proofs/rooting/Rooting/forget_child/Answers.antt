use Rattle.std.proofs.Common.{◌<◌, List, length, arith}
use Rattle.region_scrub.specs.declared.chain_state.ChainState.{ChainState}
use Rattle.region_scrub.proofs.Forgetting.{child_forgotten_to}
use Rattle.region_scrub.proofs.rooting.Rooting.forget_child.Goals as goal

pub returns-clause-forgetting : goal.returns-clause-forgetting
returns-clause-forgetting c =
    let f = c.requires.forgetting in
    let marks : List ChainState = c.args.self.now.marks.items in
    let there : c.args.child < length marks = omega (arith, c.requires.there, f.long) in
    child_forgotten_to _ marks _ _ c.args.child f there _ c.in_ok-push.ensures.items
