-- What is looked up in a face. A name finds the first that has it.
use Rattle.std.specs.Prelude.{◌≡◌, ℕ, Bool, true, false, ◌&&◌, List, [], ◌∷◌, ◌++◌, Option, Some, None, find, filter, is_some, codes, if◌then◌else◌, option_and_then, nat_eq}
use Rattle.std.specs.List.{list_any, starts_with}
use Rattle.std.specs.Option.{option_map, option_map_or}
use Rattle.std.specs.Str.{bytes_eq}
use Rattle.desk_base.specs.declared.key.PromiseKey.{PromiseKey}
use Rattle.class_faces.specs.Keys.{text_of, counted}
use Rattle.class_faces.specs.declared.face.FieldFace.{FieldFace}
use Rattle.class_faces.specs.declared.face.MemberFace.{MemberFace}
use Rattle.promise_grammar.specs.declared.lock.LockHolder.{LockHolder}
use Rattle.promise_grammar.specs.declared.lock.LockHolder.TheVariants as holding
use Rattle.promise_grammar.specs.declared.lock.RegionLockContent.{RegionLockContent}
use Rattle.promise_grammar.specs.declared.tree.PromiseTree.{PromiseTree, out-PromiseTree}
use Rattle.promise_grammar.specs.declared.tree.PromiseTree.TheOpen.{PromiseTree-F}
use Rattle.promise_scrub.specs.declared.surface.Assumption.{Assumption}
use Rattle.promise_scrub.specs.declared.surface.Standing.{Standing}
use Rattle.region_tree.specs.declared.decl.RegionDecl.{RegionDecl}
use Rattle.region_tree.specs.Chains.{IsUnder}
use Rattle.region_tree.specs.Regions.{name_or_root, number_of, parents_of}
use Rattle.region_tree.specs.Regions as regions
use Rattle.views.specs.declared.kind.FaceKind.{FaceKind}
use Rattle.views.specs.Face.{Face, same_key}
use Rattle.views.specs.Kinds.{is_declared}

-- ---- types

abbrev pub kind_in : Option Face → Option FaceKind
kind_in shown = option_map (λ (f : Face). f.kind) shown

-- the names that a class implements, in written order
abbrev pub interfaces_in : Option Face → List (List ℕ)
interfaces_in None = []
interfaces_in (Some f) = f.implements

-- the class implements the interface by name
abbrev pub implements_in : Option Face → List ℕ → Bool
implements_in shown interface = list_any (λ n. bytes_eq n interface) (interfaces_in shown)

-- ---- fields and members

-- the first field of the name
abbrev pub field_named : List FieldFace → List ℕ → Option FieldFace
field_named fields name = find (λ f. bytes_eq f.name name) fields

abbrev pub field_in : Option Face → List ℕ → Option FieldFace
field_in None name = None
field_in (Some f) name = field_named f.fields name

-- the key of the first method of the name with so many parameters, in the class
abbrev pub member_key : List ℕ → List ℕ → ℕ → List ℕ
member_key class name count = text_of (class ++ codes "." ++ counted name count)

-- the first member of the key
abbrev pub keyed : List MemberFace → List ℕ → Option MemberFace
keyed members key = find (λ m. bytes_eq m.key key) members

abbrev pub member_in : Option Face → List ℕ → Option MemberFace
member_in None key = None
member_in (Some f) key = keyed f.members key

-- the methods, interface methods, constructors and mains of a type, in written order
abbrev pub members_in : Option Face → List MemberFace
members_in None = []
members_in (Some f) = f.members

-- what the keys of a class's constructors begin with
abbrev pub constructor_front : List ℕ → List ℕ
constructor_front class = text_of (class ++ codes ".new/")

-- the first constructor
abbrev pub constructor_in : Option Face → Option MemberFace
constructor_in None = None
constructor_in (Some f) = find (λ m. starts_with nat_eq m.key (constructor_front f.name)) f.members

-- ---- promises

-- the first promise of the key that stands
abbrev pub standing_in : Option Face → PromiseKey → Option Standing
standing_in None key = None
standing_in (Some f) key = find (λ s. same_key s.key key) f.standing

-- the first promise of the key that is assumed, which none that stands has
abbrev pub assumed_in : Option Face → PromiseKey → Option Assumption
assumed_in None key = None
assumed_in (Some f) key = find (λ a. same_key a.key key) f.assumed

-- the promises that stand at a unit of the type, in written order
abbrev pub standing_at : Option Face → List ℕ → List Standing
standing_at None unit = []
standing_at (Some f) unit = filter (λ s. bytes_eq s.key.target unit) f.standing

-- the unit is vouched for
abbrev pub vouched_in : Option Face → List ℕ → Bool
vouched_in None unit = false
vouched_in (Some f) unit = list_any (λ v. bytes_eq v unit) f.vouched

-- ---- regions

-- the regions of a declared type; Object, String and Runnable have none, not even roots
abbrev pub regions_in : Option Face → Option (List RegionDecl)
regions_in None = None
regions_in (Some f) = if is_declared f.kind then Some f.regions else None

abbrev pub region_kind_of : List ℕ → Option (List RegionDecl) → Option Bool
region_kind_of name None = None
region_kind_of name (Some ds) = regions.kind_of ds name

-- whether the region of the name is static, where there is one; the roots `Instance` and `Static` are two
abbrev pub region_kind_in : Option Face → List ℕ → Option Bool
region_kind_in shown name = region_kind_of name (regions_in shown)

-- region a of the declarations is b, or a chain of parents leads from a to b
abbrev pub UnderIn : Option (List RegionDecl) → List ℕ → List ℕ → Type 0
UnderIn None a b = ⊥
UnderIn (Some ds) a b =
    (x : ℕ) × (y : ℕ) × (number_of ds a ≡ Some x) × (number_of ds b ≡ Some y) × IsUnder (parents_of ds) x y

-- region a of the type is under its region b
abbrev pub RegionUnder : Option Face → List ℕ → List ℕ → Type 0
RegionUnder shown a b = UnderIn (regions_in shown) a b

-- the region in which the content of an annotation puts a field
abbrev pub put_in : PromiseTree-F PromiseTree → Option (List ℕ)
put_in (PromiseTree-F.InRegion name) = Some name
put_in _ = None

abbrev pub region_given : Standing → Option (List ℕ)
region_given s = put_in (out-PromiseTree s.tree)

-- the promise puts the field of the key in a region
abbrev pub puts_field : List ℕ → Standing → Bool
puts_field key s = bytes_eq s.key.target key && is_some (region_given s)

abbrev pub field_key : List ℕ → List ℕ → List ℕ
field_key class name = text_of (class ++ codes "." ++ name)

-- the region that is named for the field of the key, by the first promise that names one
abbrev pub region_named : List Standing → List ℕ → Option (List ℕ)
region_named standing key = option_and_then region_given (find (puts_field key) standing)

-- the region of a field: the one that is named, else the root of its kind
abbrev pub region_of : List ℕ → List Standing → FieldFace → List ℕ
region_of class standing f = name_or_root (region_named standing (field_key class f.name)) f.is_static

abbrev pub field_region_in : Option Face → List ℕ → Option (List ℕ)
field_region_in None name = None
field_region_in (Some f) name = option_map (region_of f.name f.standing) (field_named f.fields name)

-- the first field of the name is there, and its own region is under the region
abbrev pub FieldUnder : Option Face → List ℕ → List ℕ → Type 0
FieldUnder shown name region =
    (own : List ℕ) × (field_region_in shown name ≡ Some own) × RegionUnder shown own region

-- ---- locks

abbrev pub lock_of : PromiseTree-F PromiseTree → Option RegionLockContent
lock_of (PromiseTree-F.RegionLock content) = Some content
lock_of _ = None

-- the lock that the content of an annotation gives
abbrev pub lock_given : Standing → Option RegionLockContent
lock_given s = lock_of (out-PromiseTree s.tree)

abbrev pub lock_has_name : List ℕ → Option RegionLockContent → Bool
lock_has_name name None = false
lock_has_name name (Some content) = bytes_eq content.name name

-- the first lock of the name: the promise that gives it
abbrev pub lock_in : Option Face → List ℕ → Option Standing
lock_in None name = None
lock_in (Some f) name = find (λ s. lock_has_name name (lock_given s)) f.standing

abbrev pub is_static_field : Option FieldFace → Bool
is_static_field None = false
is_static_field (Some f) = f.is_static

-- a lock by this holder is static: the class holds it, or a static field
abbrev pub is_static_holder : List FieldFace → LockHolder → Bool
is_static_holder fields holding.This = false
is_static_holder fields holding.Class = true
is_static_holder fields (holding.Field name) = is_static_field (field_named fields name)
is_static_holder fields (holding.ThisField name) = is_static_field (field_named fields name)

abbrev pub static_lock_in : Option Face → LockHolder → Bool
static_lock_in None holder = false
static_lock_in (Some f) holder = is_static_holder f.fields holder
