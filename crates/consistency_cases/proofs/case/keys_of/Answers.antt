use Rattle.std.proofs.Common.{◌≡◌, ◌<◌, ◌^◌, ◌+◌, ◌∷◌, ◌++◌, [], arith, length}
use Rattle.std.proofs.lemmas.List.{length-append}
use Rattle.consistency_cases.proofs.Named.{distinct_of, named_more}
use Rattle.consistency_cases.proofs.case.keys_of.Goals as goal

pub loop-promise-preserved : goal.loop-promise-preserved
loop-promise-preserved c =
    let keys = c.loop-promise.keys.items in
    let key = c.in_ok-key_of.field-0 in
    let size : length (keys ++ key ∷ []) ≡ c.loop-promise.promise + 1 = (let a = length-append keys (key ∷ []) in let s = c.loop-promise.invariant.0 in omega (arith, a, s)) in
    rw c.in_ok-push.ensures.items (size, named_more keys key c.loop-promise.promise c.loop-promise.invariant.0 c.in_ok-key_of.ensures c.loop-promise.invariant.1)

pub returns : goal.returns
returns c =
    let keys = c.loop-promise.keys in
    let few : length keys.items < 2 ^ 64 = (let s = c.loop-promise.invariant.0 in let f = c.ranges.promises.fits in omega (arith, s, f)) in
    distinct_of keys.items few c.loop-promise.invariant.1
