-- LockFindings: the findings on locks of a unit. Those on what its promises name come first, then those
-- on what the unit is, then those of its places in order of evaluation. They are not numbered yet.
use Rattle.std.specs.Prelude.{ℕ, ◌==◌, ◌&&◌, Bool, true, false, List, [], ◌∷◌, ◌++◌, Option, Some, None, map, filter, is_none, codes, if◌then◌else◌}
use Rattle.std.specs.List.{flat_map}
use Rattle.std.specs.Str.Lossy.{utf8_lossy}
use Rattle.desk_base.specs.declared.key.PromiseKey.{PromiseKey}
use Rattle.result_records.specs.declared.code.FindingCode.TheVariants as code
use Rattle.result_records.specs.declared.finding.Finding.{Finding}
use Rattle.result_records.specs.declared.finding.FindingLink.{FindingLink}
use Rattle.result_records.specs.declared.finding.FindingLink.TheVariants as link
use Rattle.bound_tree.specs.declared.unit.BoundTree.{BoundTree}
use Rattle.bound_tree.specs.Places.{Place, places_of}
use Rattle.bound_tree.specs.declared.unit.Part.{Part}
use Rattle.bound_tree.specs.declared.unit.Part.TheVariants as part
use Rattle.bound_tree.specs.Claims.{claims_of, varies_of, Seen}
use Rattle.bound_tree.specs.Reading.{statement_of}
use Rattle.bound_tree.specs.Shown.{shown}
use Rattle.bound_tree.specs.declared.place.Seen.{Seen as KeptSeen}
use Rattle.lock_findings.specs.declared.lock.Guard.{Guard}
use Rattle.lock_findings.specs.declared.lock.Need.{Need}
use Rattle.lock_findings.specs.declared.lock.Base.{Base}
use Rattle.lock_findings.specs.declared.lock.Base.TheVariants as for
use Rattle.lock_findings.specs.declared.own.Own.{Own}
use Rattle.lock_findings.specs.declared.own.OwnNeed.{OwnNeed}
use Rattle.lock_findings.specs.declared.role.Above.{Above}
use Rattle.lock_findings.specs.declared.role.Role.{Role}
use Rattle.lock_findings.specs.declared.role.Role.TheVariants as role
use Rattle.lock_findings.specs.Promises.{Promises}
use Rattle.lock_findings.specs.Ways.{same_lock, promised}
use Rattle.lock_findings.specs.Rows.{finding, rows}

-- ---- a promise that requires a lock that isn't there

abbrev pub is_absent : OwnNeed → Bool
is_absent asked = is_none asked.need.holder

abbrev pub absent_finding : Own → OwnNeed → Finding
absent_finding own asked = finding code.AbsentName own asked.need.key asked.place own.key []

abbrev pub absent_findings : Own → List Finding
absent_findings own = map (absent_finding own) (filter is_absent own.needs)

-- ---- a method of a class requires no more than the method of an interface that it implements

abbrev pub same_base : Base → Base → Bool
same_base for.Nobody for.Nobody = true
same_base for.This for.This = true
same_base (for.Param i) (for.Param j) = i == j
same_base a b = false

abbrev pub asks_same : Need → Need → Bool
asks_same need other = same_lock other.lock need.lock && same_base other.base need.base

-- the promises of the interface's method that require the same
abbrev pub above_ways : Need → List Need → List (List FindingLink)
above_ways need others = map promised (filter (asks_same need) others)

abbrev pub above_finding : Own → Need → Above → Finding
above_finding own need above =
    finding code.MoreLocksThanInterface own need.key 1 (utf8_lossy above.interface) (above_ways need above.needs)

abbrev pub above_findings : Own → List Above → OwnNeed → List Finding
above_findings own aboves asked = map (above_finding own asked.need) aboves

abbrev pub method_findings : Own → List Above → List Finding
method_findings own aboves = flat_map (above_findings own aboves) own.needs

-- ---- nobody holds a lock for a main

abbrev pub main_finding : Own → OwnNeed → Finding
main_finding own asked = finding code.LockedMain own asked.need.key 1 (codes "main") []

abbrev pub main_findings : Own → List Finding
main_findings own = map (main_finding own) own.needs

-- ---- a unique field in the region of a lock

abbrev pub unique_finding : Own → List ℕ → PromiseKey → Guard → Finding
unique_finding own name unique guard =
    finding code.GuardedUnique own guard.key 1 (utf8_lossy name) ((link.Promise unique ∷ []) ∷ [])

abbrev pub unique_findings : Own → List ℕ → PromiseKey → List Guard → List Finding
unique_findings own name unique guards = map (unique_finding own name unique) guards

abbrev pub role_findings : Promises → Own → Role → List Finding
role_findings promises own role.Plain = []
role_findings promises own (role.Method aboves) = method_findings own aboves
role_findings promises own role.Main = main_findings own
role_findings promises own (role.UniqueField class name unique) = unique_findings own name unique (promises.guards class name)

-- ---- the unit

-- what is at a place with its claims; what a bind finding stands in gives none
abbrev pub seen_findings : Promises → Own → (ℕ → Bool) → Seen → List Finding
seen_findings promises own varies s = if s.faulty then [] else rows promises own varies s.claims s.at s.what

-- the same of the program's list of places
abbrev pub kept_findings : Promises → Own → (ℕ → Bool) → KeptSeen → List Finding
kept_findings promises own varies k = seen_findings promises own varies (shown k)

-- a place, by the claims of its ancestors
abbrev pub place_findings : Promises → Own → (ℕ → Bool) → Place → List Finding
place_findings promises own varies p = if p.faulty then [] else rows promises own varies (claims_of varies p.around) p.at p.what

-- the locals of a unit that are assigned behind their declaration
abbrev pub part_varies : Part → ℕ → Bool
part_varies (part.Body b) = varies_of (statement_of b.block)
part_varies (part.Header names) = λ x. false
part_varies (part.Field ty initial) = λ x. false
part_varies (part.Sig params result) = λ x. false

abbrev pub places_findings : Promises → Own → BoundTree → List Finding
places_findings promises own tree = flat_map (place_findings promises own (part_varies tree.part)) (places_of tree)

abbrev pub lock_findings : Promises → Own → Role → BoundTree → List Finding
lock_findings promises own as_unit tree =
    absent_findings own ++ (role_findings promises own as_unit ++ places_findings promises own tree)
