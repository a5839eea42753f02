-- That a promise is one of the project is no failure by itself.
use Rattle.std.proofs.Common.{◌≡◌, ℕ, List, [], ◌∷◌, ◌++◌, map, refl, sym, ◌∙◌, Bool, true, false, cond}
use mathlib.Core.Bool.{true≢false}
use Rattle.std.specs.Prelude.{filter, Option, Some, None, All}
use Rattle.std.specs.List.{AllByRecursion, cons_option}
use Rattle.std.proofs.lemmas.List.Elements.{All-from_recursion, recursion_from_All}
use Rattle.result_records.specs.declared.code.FindingCode.{FindingCode}
use Rattle.result_records.specs.declared.finding.Finding.{Finding}
use Rattle.result_records.specs.declared.finding.FindingLink.TheVariants as link
use Rattle.result_records.specs.declared.finding.VouchKey.TheVariants as vouch
use Rattle.finding_order.specs.Order.{ordered, in_place, is_before}
use Rattle.finding_order.specs.Numbers.{numbered_after, in_order}
use Rattle.unit_findings.specs.Findings.{unit_findings, others}
use Rattle.unit_findings.specs.Promises.{only, standing_findings, aside_if, aside_findings}
use Rattle.unit_findings.specs.Vouches.{vouched, takes_vouch}
use Rattle.unit_findings.specs.declared.promise.UnitPromise.{UnitPromise}
use Rattle.project_answers.specs.declared.gather.UnitFound.{UnitFound}
use Rattle.project_answers.specs.Gathered.{is_standing, is_standing_code, says_more, first_before, unit_before, all_found, project_findings}
use Rattle.project_answers.specs.Laws.{FindingHasWay, HasWay, IsFaulted, UnitHasWays}
use Rattle.project_answers.proofs.Among.{all_append, all_filter, all_ordered}

all_numbered : (before fs : List Finding) → AllByRecursion FindingHasWay fs → AllByRecursion FindingHasWay (numbered_after before fs)
all_numbered before [] all = tt
all_numbered before (f ∷ fs) all = (all.0, all_numbered (before ++ f ∷ []) fs all.1)

all_in_order : (fs : List Finding) → AllByRecursion FindingHasWay fs → AllByRecursion FindingHasWay (in_order fs)
all_in_order fs all = all_numbered [] (in_place fs) (all_ordered is_before FindingHasWay fs all)

vouched_way : (v : Option (List ℕ)) (f : Finding) → FindingHasWay f → FindingHasWay (vouched v f)
vouched_way None f h = h
vouched_way (Some unit) f h = go (takes_vouch f)
  where
    go : (b : Bool) → FindingHasWay (cond b (record f { alternatives = only (link.Vouched (vouch.Source unit)) }) f)
    go true = λ e. refl
    go false = h

all_vouched : (v : Option (List ℕ)) (fs : List Finding) → AllByRecursion FindingHasWay fs → AllByRecursion FindingHasWay (map (vouched v) fs)
all_vouched v [] all = tt
all_vouched v (f ∷ fs) all = (vouched_way v f all.0, all_vouched v fs all.1)

all_standing : (unit : List ℕ) (promises : List UnitPromise) → AllByRecursion FindingHasWay (standing_findings unit promises)
all_standing unit [] = tt
all_standing unit (p ∷ promises) = (λ e. refl, all_standing unit promises)

all_aside : (unit : List ℕ) (promises : List UnitPromise) → AllByRecursion IsFaulted promises → AllByRecursion FindingHasWay (aside_findings unit promises)
all_aside unit [] all = tt
all_aside unit (p ∷ promises) all = go p.fault all.0 (all_aside unit promises all.1)
  where
    go : (o : Option FindingCode) → ((fault : FindingCode) → o ≡ Some fault → is_standing_code fault ≡ false) → AllByRecursion FindingHasWay (aside_findings unit promises)
        → AllByRecursion FindingHasWay (cons_option (aside_if unit p o) (aside_findings unit promises))
    go None faulted more = more
    go (Some fault) faulted more = (λ e. absurd (true≢false (sym e ∙ faulted fault refl)), more)

pub unit_ways : (unit : List ℕ) (v : Option (List ℕ)) (promises : List UnitPromise) (found : List Finding) → All IsFaulted promises → All FindingHasWay found
    → All FindingHasWay (unit_findings unit v promises found)
unit_ways unit v promises found faulted ways =
    let asides = all_vouched v (aside_findings unit promises) (all_aside unit promises (recursion_from_All IsFaulted promises faulted)) in
    let rest = all_vouched v found (recursion_from_All FindingHasWay found ways) in
    All-from_recursion FindingHasWay (unit_findings unit v promises found)
    (all_append FindingHasWay (in_order (standing_findings unit promises)) (in_order (others unit v promises found))
    (all_in_order (standing_findings unit promises) (all_standing unit promises))
    (all_in_order (others unit v promises found) (all_append FindingHasWay (map (vouched v) (aside_findings unit promises)) (map (vouched v) found) asides rest)))

all_of_units : (units : List UnitFound) → AllByRecursion UnitHasWays units → AllByRecursion HasWay (all_found units)
all_of_units [] all = tt
all_of_units (u ∷ units) all = all_append HasWay u.found.items (all_found units) (recursion_from_All HasWay u.found.items all.0) (all_of_units units all.1)

pub project_ways : (units : List UnitFound) → All UnitHasWays units → All HasWay (project_findings units)
project_ways units ways =
    let found = all_found (ordered unit_before units) in
    let each = all_of_units (ordered unit_before units) (all_ordered unit_before UnitHasWays units (recursion_from_All UnitHasWays units ways)) in
    All-from_recursion HasWay (project_findings units)
    (all_append HasWay (ordered first_before (filter is_standing found)) (filter says_more found)
    (all_ordered first_before HasWay (filter is_standing found) (all_filter HasWay is_standing found each))
    (all_filter HasWay says_more found each))
