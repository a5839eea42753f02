-- What stays in front of a list.
use Rattle.std.proofs.Common.{◌≡◌, List, [], ◌++◌, sym, append_assoc, append-nil, Result, Ok, Err}
use Rattle.std.specs.Result.{OnErr}
use Rattle.finding_order.specs.Front.{Begins}

pub begins_same : {X : Type 0} (old new : List X) → new ≡ old → Begins old new
unfolding Begins
begins_same old new is = ([], rw is (sym (append-nil old)))

pub begins_more : {X : Type 0} (old more new : List X) → new ≡ old ++ more → Begins old new
unfolding Begins
begins_more old more new is = (more, is)

pub begins_on : {X : Type 0} (old mid new : List X) → Begins old mid → Begins mid new → Begins old new
unfolding Begins
begins_on old mid new (xs, is) (ys, on) = (xs ++ ys, rw (on, is) (append_assoc old xs ys))

pub begins_after : {X : Type 0} (old mid new xs : List X) → mid ≡ old ++ xs → Begins mid new → Begins old new
begins_after old mid new xs is on = begins_on old mid new (begins_more old xs mid is) on

pub on_err : {T E P : Type 0} (r : Result T E) → P → OnErr r P
on_err (Ok v) p = tt
on_err (Err e) p = p

pub ruleset fronts = (begins_same, begins_more, begins_on)
