-- Findings that speak of the promises of a project alone.
use Rattle.std.proofs.Common.{ℕ, ◌+◌, List, [], ◌∷◌, ◌++◌, map, Bool, true, false, cond}
use Rattle.std.specs.Prelude.{filter, Option, Some, None, Contains, All}
use Rattle.std.specs.List.{AllByRecursion, cons_option}
use Rattle.std.proofs.lemmas.List.Elements.{All-from_recursion, recursion_from_All, All-cons, All-nil}
use Rattle.desk_base.specs.declared.key.PromiseKey.{PromiseKey}
use Rattle.result_records.specs.declared.code.FindingCode.{FindingCode}
use Rattle.result_records.specs.declared.finding.Finding.{Finding}
use Rattle.result_records.specs.declared.finding.FindingLink.{FindingLink}
use Rattle.result_records.specs.declared.finding.FindingLink.TheVariants as link
use Rattle.result_records.specs.declared.finding.VouchKey.TheVariants as vouch
use Rattle.consistency.specs.Among.{FindingAmong, FindingsAmong, LinkAmong, WayAmong}
use Rattle.finding_order.specs.Order.{put, ordered, in_place, is_before}
use Rattle.finding_order.specs.Numbers.{numbered_after, in_order}
use Rattle.unit_findings.specs.Findings.{unit_findings, others}
use Rattle.unit_findings.specs.Promises.{program_key, only, standing_findings, aside_if, aside_findings}
use Rattle.unit_findings.specs.Vouches.{vouched, takes_vouch}
use Rattle.unit_findings.specs.declared.promise.UnitPromise.{UnitPromise}
use Rattle.project_answers.specs.declared.gather.UnitFound.{UnitFound}
use Rattle.project_answers.specs.declared.sited.Sited.{Sited}
use Rattle.project_answers.specs.Gathered.{finding_of, is_standing, says_more, first_before, unit_before, all_found, project_findings}
use Rattle.project_answers.specs.Laws.{PromiseAmong, UnitAmong}

-- ---- what holds of each element, however they are put in order

pub all_put : {X : Type 0} (lt : X → X → Bool) (P : X → Type 0) (x : X) (ys : List X) → P x → AllByRecursion P ys → AllByRecursion P (put lt x ys)
all_put lt P x [] h all = (h, tt)
all_put {X} lt P x (y ∷ ys) h all = go (lt y x) (all_put lt P x ys h all.1)
  where
    go : (b : Bool) → AllByRecursion P (put lt x ys) → AllByRecursion P (cond b (y ∷ put lt x ys) (x ∷ y ∷ ys))
    go true more = (all.0, more)
    go false more = (h, all)

pub all_ordered : {X : Type 0} (lt : X → X → Bool) (P : X → Type 0) (xs : List X) → AllByRecursion P xs → AllByRecursion P (ordered lt xs)
all_ordered lt P [] all = tt
all_ordered lt P (x ∷ xs) all = all_put lt P x (ordered lt xs) all.0 (all_ordered lt P xs all.1)

pub all_append : {X : Type 0} (P : X → Type 0) (xs ys : List X) → AllByRecursion P xs → AllByRecursion P ys → AllByRecursion P (xs ++ ys)
all_append P [] ys all more = more
all_append P (x ∷ xs) ys all more = (all.0, all_append P xs ys all.1 more)

pub all_filter : {X : Type 0} (P : X → Type 0) (p : X → Bool) (xs : List X) → AllByRecursion P xs → AllByRecursion P (filter p xs)
all_filter P p [] all = tt
all_filter {X} P p (x ∷ xs) all = go (p x) (all_filter P p xs all.1)
  where
    go : (b : Bool) → AllByRecursion P (filter p xs) → AllByRecursion P (cond b (x ∷ filter p xs) (filter p xs))
    go true more = (all.0, more)
    go false more = more

all_map : {X Y : Type 0} (P : Y → Type 0) (f : X → Y) (xs : List X) → AllByRecursion (λ x. P (f x)) xs → AllByRecursion P (map f xs)
all_map P f [] all = tt
all_map P f (x ∷ xs) all = (all.0, all_map P f xs all.1)

all_of_map : {X Y : Type 0} (P : Y → Type 0) (f : X → Y) (xs : List X) → AllByRecursion P (map f xs) → AllByRecursion (λ x. P (f x)) xs
all_of_map P f [] all = tt
all_of_map P f (x ∷ xs) all = (all.0, all_of_map P f xs all.1)

-- ---- findings of a unit

module _ (ps : List PromiseKey) where
  all_numbered : (before fs : List Finding) → AllByRecursion (FindingAmong ps) fs → AllByRecursion (FindingAmong ps) (numbered_after before fs)
  all_numbered before [] all = tt
  all_numbered before (f ∷ fs) all = (record { on = all.0.on; ways = all.0.ways }, all_numbered (before ++ f ∷ []) fs all.1)

  all_in_order : (fs : List Finding) → AllByRecursion (FindingAmong ps) fs → AllByRecursion (FindingAmong ps) (in_order fs)
  all_in_order fs all = all_numbered [] (in_place fs) (all_ordered is_before (FindingAmong ps) fs all)

  one_way : (l : FindingLink) → LinkAmong ps l → All (WayAmong ps) (only l)
  one_way l h = All-cons (WayAmong ps) (l ∷ []) [] (All-cons (LinkAmong ps) l [] h (All-nil (LinkAmong ps))) (All-nil (WayAmong ps))

  vouched_among : (v : Option (List ℕ)) (f : Finding) → FindingAmong ps f → FindingAmong ps (vouched v f)
  vouched_among None f h = h
  vouched_among (Some unit) f h = go (takes_vouch f)
    where
      go : (b : Bool) → FindingAmong ps (cond b (record f { alternatives = only (link.Vouched (vouch.Source unit)) }) f)
      go true = record { on = h.on; ways = one_way (link.Vouched (vouch.Source unit)) tt }
      go false = h

  all_vouched : (v : Option (List ℕ)) (fs : List Finding) → AllByRecursion (FindingAmong ps) fs → AllByRecursion (FindingAmong ps) (map (vouched v) fs)
  all_vouched v [] all = tt
  all_vouched v (f ∷ fs) all = (vouched_among v f all.0, all_vouched v fs all.1)

  all_standing : (unit : List ℕ) (promises : List UnitPromise) → Contains ps program_key → AllByRecursion (PromiseAmong ps) promises → AllByRecursion (FindingAmong ps) (standing_findings unit promises)
  all_standing unit [] program all = tt
  all_standing unit (p ∷ promises) program all =
      (record { on = all.0; ways = one_way (link.Promise program_key) program }, all_standing unit promises program all.1)

  all_aside : (unit : List ℕ) (promises : List UnitPromise) → AllByRecursion (PromiseAmong ps) promises → AllByRecursion (FindingAmong ps) (aside_findings unit promises)
  all_aside unit [] all = tt
  all_aside unit (p ∷ promises) all = go p.fault (all_aside unit promises all.1)
    where
      go : (o : Option FindingCode) → AllByRecursion (FindingAmong ps) (aside_findings unit promises) → AllByRecursion (FindingAmong ps) (cons_option (aside_if unit p o) (aside_findings unit promises))
      go None more = more
      go (Some fault) more = (record { on = all.0; ways = All-nil (WayAmong ps) }, more)

  pub unit_among : (unit : List ℕ) (v : Option (List ℕ)) (promises : List UnitPromise) (found : List Finding) → Contains ps program_key → All (PromiseAmong ps) promises
      → FindingsAmong ps found → FindingsAmong ps (unit_findings unit v promises found)
  unit_among unit v promises found program all so =
      let each = recursion_from_All (PromiseAmong ps) promises all in
      let P = FindingAmong ps in
      let asides = all_vouched v (aside_findings unit promises) (all_aside unit promises each) in
      let rest = all_vouched v found (recursion_from_All P found so) in
      All-from_recursion P (unit_findings unit v promises found)
      (all_append P (in_order (standing_findings unit promises)) (in_order (others unit v promises found))
      (all_in_order (standing_findings unit promises) (all_standing unit promises program each))
      (all_in_order (others unit v promises found) (all_append P (map (vouched v) (aside_findings unit promises)) (map (vouched v) found) asides rest)))

  -- ---- findings of a project

  abbrev SitedAmong : Sited → Type 0
  SitedAmong s = FindingAmong ps s.finding

  all_of_units : (units : List UnitFound) → AllByRecursion (UnitAmong ps) units → AllByRecursion SitedAmong (all_found units)
  all_of_units [] all = tt
  all_of_units (u ∷ units) all =
      all_append SitedAmong u.found.items (all_found units) (all_of_map (FindingAmong ps) finding_of u.found.items (recursion_from_All (FindingAmong ps) (map finding_of u.found.items) all.0))
      (all_of_units units all.1)

  pub project_among : (units : List UnitFound) → All (UnitAmong ps) units → FindingsAmong ps (map finding_of (project_findings units))
  project_among units all =
      let found = all_found (ordered unit_before units) in
      let each = all_of_units (ordered unit_before units) (all_ordered unit_before (UnitAmong ps) units (recursion_from_All (UnitAmong ps) units all)) in
      All-from_recursion (FindingAmong ps) (map finding_of (project_findings units))
      (all_map (FindingAmong ps) finding_of (project_findings units)
      (all_append SitedAmong (ordered first_before (filter is_standing found)) (filter says_more found)
      (all_ordered first_before SitedAmong (filter is_standing found) (all_filter SitedAmong is_standing found each))
      (all_filter SitedAmong says_more found each)))
