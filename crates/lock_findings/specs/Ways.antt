-- The alternatives of a finding that wants a lock for a base, in their order: the lock is held there; a
-- promise of the unit requires it of the callers; the unit is a constructor, whose `this` is the base
-- and goes nowhere.
use Rattle.std.specs.Prelude.{ℕ, ◌==◌, ◌+◌, ◌&&◌, ◌||◌, not, Bool, true, false, List, [], ◌∷◌, ◌++◌, Option, Some, None, map, filter, if◌then◌else◌}
use Rattle.std.specs.Str.{bytes_eq}
use Rattle.result_records.specs.declared.finding.FindingLink.{FindingLink}
use Rattle.result_records.specs.declared.finding.FindingLink.TheVariants as link
use Rattle.lock_findings.specs.declared.lock.LockName.{LockName}
use Rattle.lock_findings.specs.declared.lock.Base.{Base}
use Rattle.lock_findings.specs.declared.lock.Base.TheVariants as for
use Rattle.lock_findings.specs.declared.lock.Need.{Need}
use Rattle.lock_findings.specs.declared.own.Own.{Own}
use Rattle.lock_findings.specs.declared.own.OwnNeed.{OwnNeed}

abbrev pub same_kind : Bool → Bool → Bool
same_kind true b = b
same_kind false b = not b

-- locks are told apart by class, name and kind
abbrev pub same_lock : LockName → LockName → Bool
same_lock a b = bytes_eq a.class b.class && (bytes_eq a.name b.name && same_kind a.is_static b.is_static)

-- the local that a base of the unit's own promises is: `this` is local 0 where there is one, and the
-- parameters follow
abbrev pub own_local : (static : Bool) → Base → Option ℕ
own_local static for.Nobody = None
own_local true for.This = None
own_local false for.This = Some 0
own_local true (for.Param i) = Some i
own_local false (for.Param i) = Some (i + 1)

abbrev pub same_local : Option ℕ → Option ℕ → Bool
same_local (Some x) (Some y) = x == y
same_local a b = false

-- a promise of the unit requires that lock for that base; a static lock needs no base
abbrev pub is_required : (static : Bool) → LockName → Option ℕ → OwnNeed → Bool
is_required static lock base own = same_lock own.need.lock lock && (lock.is_static || same_local (own_local static own.need.base) base)

abbrev pub held_way : Bool → List (List FindingLink)
held_way held = if held then [] ∷ [] else []

abbrev pub promised : Need → List FindingLink
promised need = link.Promise need.key ∷ []

abbrev pub own_promised : OwnNeed → List FindingLink
own_promised own = promised own.need

abbrev pub required_ways : Own → LockName → Option ℕ → List (List FindingLink)
required_ways own lock base = map own_promised (filter (is_required own.is_static lock base) own.needs)

abbrev pub is_this : Option ℕ → Bool
is_this (Some x) = x == 0
is_this None = false

abbrev pub excuse_ways : Option FindingLink → Bool → List (List FindingLink)
excuse_ways (Some l) excused = if excused then (l ∷ []) ∷ [] else []
excuse_ways None excused = []

-- `excused` where a constructor may do so with its `this`
abbrev pub ways : Own → LockName → Option ℕ → (held excused : Bool) → List (List FindingLink)
ways own lock base held excused = held_way held ++ (required_ways own lock base ++ excuse_ways own.confined (excused && is_this base))
