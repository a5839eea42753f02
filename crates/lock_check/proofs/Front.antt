-- What is at the end and what stays in front, in the words of the analyses.
use Rattle.std.proofs.Common.{◌≡◌, List, [], ◌++◌, sym, subst, append-nil, Result, Ok, Err}
use Rattle.std.specs.Result.{OnErr, OnOk}
use Rattle.result_records.specs.declared.finding.Finding.{Finding}
use Rattle.finding_order.specs.Front.{Begins as KeptBegins}
use Rattle.finding_order.specs.Numbers.{in_order}
use Rattle.views.specs.Face.{Seen}
use Rattle.bound_unit.specs.Front.{Begins}
use Rattle.bound_unit.specs.UnitFacts.{UnitFacts}
use Rattle.lock_check.specs.Judged.{findings, found}

nothing_more : {X : Type 0} (old : List X) → Begins old old
unfolding Begins
nothing_more old = ([], sym (append-nil old))

kept_begins : {X : Type 0} (old new : List X) → KeptBegins old new → Begins old new
unfolding Begins KeptBegins
kept_begins old new (more, is) = (more, is)

-- nothing was put yet
pub front_same : {T E X : Type 0} (r : Result T E) (old : List X) → OnErr r (Begins old old)
front_same (Ok v) old = tt
front_same (Err e) old = nothing_more old

pub front_kept : {T E X : Type 0} (r : Result T E) (old new : List X) → OnErr r (KeptBegins old new) → OnErr r (Begins old new)
front_kept (Ok v) old new h = tt
front_kept (Err e) old new h = kept_begins old new h

-- what was found, in order
pub found_put : {T E : Type 0} (r : Result T E) (u : UnitFacts) (seen : Seen) (old new fs : List Finding) → fs ≡ found u seen
    → OnOk r (new ≡ old ++ in_order fs) → OnOk r (new ≡ old ++ findings u seen)
unfolding findings
found_put r u seen old new fs is h = subst (λ (xs : List Finding). OnOk r (new ≡ old ++ in_order xs)) is h
