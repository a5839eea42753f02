-- What the promises of a unit say for its own code.
use Rattle.std.specs.Prelude.{ℕ, ◌+◌, Bool, true, false, List, [], ◌∷◌, ◌++◌, Option, Some, None, is_some, unwrap_or, codes, if◌then◌else◌}
use Rattle.std.specs.List.{slice_get}
use Rattle.std.specs.Str.{bytes_eq}
use Rattle.desk_base.specs.declared.key.PromiseKey.{PromiseKey}
use Rattle.desk_base.specs.declared.key.PromiseName.TheVariants as kind
use Rattle.promise_scrub.specs.declared.surface.Standing.{Standing}
use Rattle.result_records.specs.declared.finding.FindingLink.{FindingLink}
use Rattle.result_records.specs.declared.finding.FindingLink.TheVariants as link
use Rattle.bound_tree.specs.declared.unit.Part.{Part}
use Rattle.bound_tree.specs.declared.unit.Part.TheVariants as part
use Rattle.views.specs.Face.{Face, Seen, face}
use Rattle.views.specs.Looks.{assumed_in, standing_at, standing_in}
use Rattle.lock_findings.specs.declared.lock.Need.{Need}
use Rattle.lock_findings.specs.declared.own.Own.{Own}
use Rattle.lock_findings.specs.declared.own.OwnNeed.{OwnNeed}
use Rattle.bound_unit.specs.Names.{Name, Faces}
use Rattle.bound_unit.specs.UnitFacts.{UnitFacts}
use Rattle.lock_check.specs.Needs.{need_of, params_at, asks_lock}

-- ---- the locks that the unit requires, each with the token at which its annotation begins

-- of the promise of a number among those of the unit; one that was spread has the unit's first token
abbrev pub place_at : List ℕ → ℕ → ℕ
place_at places i = unwrap_or (slice_get places i) 1

abbrev pub own_need_if : Bool → Need → ℕ → List OwnNeed
own_need_if required need place = if required then record { need = need; place = place } ∷ [] else []

-- the one promise or none
abbrev pub own_need_in : (Standing → Need) → ℕ → Option Standing → List OwnNeed
own_need_in need place None = []
own_need_in need place (Some s) = own_need_if (asks_lock s) (need s) place

-- of these promises, which are numbered from i on
abbrev pub own_needs_from : (Standing → Need) → List ℕ → ℕ → List Standing → List OwnNeed
own_needs_from need places i [] = []
own_needs_from need places i (s ∷ ss) = own_need_if (asks_lock s) (need s) (place_at places i) ++ own_needs_from need places (i + 1) ss

abbrev pub own_needs : Faces → Name → (unit places : List ℕ) → List OwnNeed
own_needs faces class unit places =
    own_needs_from (need_of faces class (params_at faces class unit)) places 0 (standing_at (faces class) unit)

-- ---- that a constructor's `this` goes nowhere

abbrev pub borrowed_this : List ℕ → PromiseKey
borrowed_this unit = record { target = unit; name = kind.Borrowed; detail = codes "this" }

abbrev pub link_by : (stands assumed : Bool) → Name → PromiseKey → Option FindingLink
link_by true assumed class key = Some (link.Promise key)
link_by false true class key = Some (link.Assumed class key)
link_by false false class key = None

-- the link of a promise of the type: that it stands, else that the class whose view it is assumes it
abbrev pub link_of : Option Face → Name → PromiseKey → Option FindingLink
link_of shown class key = link_by (is_some (standing_in shown key)) (is_some (assumed_in shown key)) class key

abbrev pub is_constructor : Part → Bool
is_constructor (part.Header names) = false
is_constructor (part.Field ty initial) = false
is_constructor (part.Sig params result) = false
is_constructor (part.Body b) = bytes_eq b.name (codes "new")

abbrev pub is_static_part : Part → Bool
is_static_part (part.Header names) = false
is_static_part (part.Field ty initial) = false
is_static_part (part.Sig params result) = false
is_static_part (part.Body b) = b.is_static

abbrev pub confined : Seen → UnitFacts → Option FindingLink
confined seen u = if is_constructor u.tree.part then link_of (face seen u.tree.class) seen.class (borrowed_this u.key) else None

-- ---- the unit

abbrev pub own_of : Seen → UnitFacts → Own
own_of seen u = record {
  key = u.key;
  is_static = is_static_part u.tree.part;
  needs = own_needs (face seen) u.tree.class u.key u.tree.standing;
  confined = confined seen u;
}
