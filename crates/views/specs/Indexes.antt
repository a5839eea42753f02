-- Maps from keys to the places of list elements: at each key the first element that has it.
use Rattle.std.specs.Prelude.{◌≡◌, ℕ, Bool, List, Option, None, Some, [], map, filter, drop, take, if◌then◌else◌}
use Rattle.std.specs.List.{position_from, slice_get}
use Rattle.std.specs.Str.{bytes_eq}
use Rattle.std.specs.Ordering.{nat_cmp}
use Rattle.std.specs.declared.cmp.Ordering.{Ordering}
use Rattle.std.specs.Cmp.Lexicographic.{slice_cmp}
use Rattle.std.specs.BTreeMap.{BTreeMap, get}
use Rattle.desk_base.specs.declared.key.PromiseKey.{PromiseKey}
use Rattle.class_faces.specs.declared.face.FieldFace.{FieldFace}
use Rattle.class_faces.specs.declared.face.MemberFace.{MemberFace}
use Rattle.promise_scrub.specs.declared.surface.Assumption.{Assumption}
use Rattle.promise_scrub.specs.declared.surface.Standing.{Standing}
use Rattle.views.specs.Face.{key_cmp, same_key}
use Rattle.views.specs.Looks.{lock_given, lock_has_name, puts_field}

-- the place that a map has at a name, a text or a promise's key
abbrev pub place_at : BTreeMap (List ℕ) ℕ → List ℕ → Option ℕ
place_at index key = get (slice_cmp nat_cmp) index key

abbrev pub place_of : BTreeMap PromiseKey ℕ → PromiseKey → Option ℕ
place_of index key = get key_cmp index key

-- of the elements from a place on, the first that passes the test of a key is the one at that key
pub record FirstsFrom {K X : Type 0} (found : K → Option ℕ) (test : K → X → Bool) (at : ℕ) (xs : List X) : Type 0 where
  pub firsts : (key : K) → found key ≡ position_from (test key) at (drop at xs)

-- whether an element has the name or key
abbrev pub name_is : List ℕ → List ℕ → Bool
name_is key name = bytes_eq name key

abbrev pub field_is : List ℕ → FieldFace → Bool
field_is key f = bytes_eq f.name key

abbrev pub member_is : List ℕ → MemberFace → Bool
member_is key m = bytes_eq m.key key

abbrev pub lock_is : List ℕ → Standing → Bool
lock_is key s = lock_has_name key (lock_given s)

abbrev pub standing_is : PromiseKey → Standing → Bool
standing_is key s = same_key s.key key

abbrev pub assumption_is : PromiseKey → Assumption → Bool
assumption_is key a = same_key a.key key

-- the maps of names, fields, members, locks, and promises from a place on
abbrev pub NamesFrom : BTreeMap (List ℕ) ℕ → ℕ → List (List ℕ) → Type 0
NamesFrom index at names = FirstsFrom (place_at index) name_is at names

abbrev pub FieldsFrom : BTreeMap (List ℕ) ℕ → ℕ → List FieldFace → Type 0
FieldsFrom index at fields = FirstsFrom (place_at index) field_is at fields

abbrev pub MembersFrom : BTreeMap (List ℕ) ℕ → ℕ → List MemberFace → Type 0
MembersFrom index at members = FirstsFrom (place_at index) member_is at members

abbrev pub LocksFrom : BTreeMap (List ℕ) ℕ → ℕ → List Standing → Type 0
LocksFrom index at standing = FirstsFrom (place_at index) lock_is at standing

abbrev pub StandingFrom : BTreeMap PromiseKey ℕ → ℕ → List Standing → Type 0
StandingFrom index at standing = FirstsFrom (place_of index) standing_is at standing

abbrev pub AssumedFrom : BTreeMap PromiseKey ℕ → ℕ → List Assumption → Type 0
AssumedFrom index at assumptions = FirstsFrom (place_of index) assumption_is at assumptions

abbrev pub PutsFrom : BTreeMap (List ℕ) ℕ → ℕ → List Standing → Type 0
PutsFrom index at standing = FirstsFrom (place_at index) puts_field at standing

-- the places that the map has at a unit
abbrev pub listed : Option (List ℕ) → List ℕ
listed None = []
listed (Some places) = places

abbrev pub places_in : BTreeMap (List ℕ) (List ℕ) → List ℕ → List ℕ
places_in index unit = listed (get (slice_cmp nat_cmp) index unit)

-- the map with nothing at the unit
pub record Forgets (old new : BTreeMap (List ℕ) (List ℕ)) (unit : List ℕ) : Type 0 where
  pub forgets : (q : List ℕ) → get (slice_cmp nat_cmp) new q ≡ (if bytes_eq unit q then None else get (slice_cmp nat_cmp) old q)

-- a promise stands at the unit
abbrev pub stands_at : List ℕ → Standing → Bool
stands_at unit s = bytes_eq s.key.target unit

-- at each unit the places of those of the first n promises that stand there, in order
pub record UnitsTo (index : BTreeMap (List ℕ) (List ℕ)) (n : ℕ) (standing : List Standing) : Type 0 where
  pub units : (unit : List ℕ) → map (slice_get standing) (places_in index unit) ≡ map (λ (s : Standing). Some s) (filter (stands_at unit) (take n standing))
