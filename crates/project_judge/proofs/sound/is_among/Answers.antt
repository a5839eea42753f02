use Rattle.std.proofs.Common.{◌≡◌, true}
use Rattle.std.specs.Result.{is_ok}
use Rattle.project_judge.proofs.PromiseOrder.{found_in}
use Rattle.project_judge.proofs.sound.is_among.Goals as goal

pub returns : goal.returns
returns c so =
    let ok : is_ok c.binary_search.result ≡ true = cc in
    found_in c.args.promises.now c.args.key.now c.binary_search.result c.binary_search.ensures.ok c.binary_search.ensures.bound ok
