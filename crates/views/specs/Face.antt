-- What a view shows of a name: the face of its type. A view has the surfaces of all types and one class,
-- whose assumptions it adds where the members don't have the promises themselves.
use Rattle.std.specs.Prelude.{◌≡◌, ℕ, Bool, true, false, ◌&&◌, not, List, [], ◌∷◌, Option, Some, None, find, filter, codes, if◌then◌else◌}
use Rattle.std.specs.List.{list_any}
use Rattle.std.specs.Option.{option_map}
use Rattle.std.specs.Ordering.{is_eq}
use Rattle.std.specs.declared.cmp.Ordering.{Ordering}
use Rattle.std.specs.Str.{bytes_eq}
use Rattle.desk_base.specs.declared.key.PromiseKey.{PromiseKey}
use Rattle.desk_base.specs.contracts.key.PromiseKeyOrd.TheImpl as key_ord
use Rattle.java_tree.specs.declared.file.TypeKind.{TypeKind}
use Rattle.java_tree.specs.declared.file.TypeKind.TheVariants as written
use Rattle.class_faces.specs.declared.face.FieldFace.{FieldFace}
use Rattle.class_faces.specs.declared.face.MemberFace.{MemberFace}
use Rattle.region_tree.specs.declared.decl.RegionDecl.{RegionDecl}
use Rattle.region_tree.specs.declared.fault.RegionError.{RegionError}
use Rattle.region_tree.specs.declared.fault.RegionError.TheVariants as fault
use Rattle.region_tree.specs.Faults.{IsFault}
use Rattle.promise_scrub.specs.declared.surface.Assumption.{Assumption}
use Rattle.promise_scrub.specs.declared.surface.Standing.{Standing}
use Rattle.promise_scrub.specs.declared.surface.Surface.{Surface}
use Rattle.views.specs.declared.kind.FaceKind.{FaceKind}
use Rattle.views.specs.declared.kind.FaceKind.TheVariants as kind

-- the types of a project by their surfaces, and the class whose view it is
pub record Seen : Type 0 where
  pub surfaces : List Surface
  pub class : List ℕ

-- What is shown of a type: its own lists, and the promises that the class `assumed_by` assumes of its
-- members, which are kept apart from those that stand.
pub record Face : Type 0 where
  pub kind : FaceKind
  pub name : List ℕ
  pub implements : List (List ℕ)
  pub fields : List FieldFace
  pub members : List MemberFace
  pub regions : List RegionDecl
  pub standing : List Standing
  pub vouched : List (List ℕ)
  pub assumed : List Assumption
  pub assumed_by : List ℕ

-- ---- keys of promises

-- the order of keys
abbrev pub key_cmp : PromiseKey → PromiseKey → Ordering
key_cmp = (key_ord.ghosts).cmp

-- the two are one key
abbrev pub same_key : PromiseKey → PromiseKey → Bool
same_key a b = is_eq (key_cmp a b)

-- one of the promises has the key
abbrev pub stands : List Standing → PromiseKey → Bool
stands promises key = list_any (λ s. same_key s.key key) promises

-- one of the members has the key
abbrev pub has_member : List MemberFace → List ℕ → Bool
has_member members key = list_any (λ m. bytes_eq m.key key) members

-- the regions have no fault: `build` can answer nothing on them but want of memory. So it is with those of
-- a class's surface (`header_scrub::regions_stand`).
abbrev pub RegionsStand : List RegionDecl → Type 0
RegionsStand regions = (error : RegionError) → IsFault regions [] error → error ≡ fault.OutOfMemory

-- ---- assumptions

-- an assumption has effect on a member that is there and doesn't have the promise itself
abbrev pub takes_effect : Surface → Assumption → Bool
takes_effect s a = has_member s.members a.key.target && not (stands s.standing a.key)

-- those of the assumptions that have effect on members of the type, in written order
abbrev pub assumed_of : Surface → List Assumption → List Assumption
assumed_of s assumptions = filter (takes_effect s) assumptions

-- ---- types

-- the surface of the first type of the name
abbrev pub surface_named : List Surface → List ℕ → Option Surface
surface_named surfaces name = find (λ s. bytes_eq s.name name) surfaces

-- a type without fields, members and promises
abbrev pub bare_surface : List ℕ → TypeKind → Surface
bare_surface name kind = record {
  kind = kind;
  name = name;
  implements = [];
  fields = [];
  members = [];
  regions = [];
  standing = [];
  aside = [];
  assumptions = [];
  vouched = [];
}

-- the one method of Runnable
abbrev pub run_face : MemberFace
run_face = record { key = codes "Runnable.run/0"; params = []; result = None; is_static = false }

-- Runnable, as an interface whose one method has no promises
abbrev pub runnable_surface : Surface
runnable_surface = record (bare_surface (codes "Runnable") written.Interface) { members = run_face ∷ [] }

abbrev pub kind_of : TypeKind → FaceKind
kind_of written.Class = kind.Class
kind_of written.Interface = kind.Interface

-- A type: what kind it is, and its surface. Object, String and Runnable have one of their own.
pub record Named : Type 0 where
  pub kind : FaceKind
  pub surface : Surface

-- Object, String and Runnable are types without being declared
abbrev pub built_in : List ℕ → Option Named
built_in name =
    if bytes_eq name (codes "Object") then Some (record { kind = kind.Object; surface = bare_surface (codes "Object") written.Class }) else (
    if bytes_eq name (codes "String") then Some (record { kind = kind.String; surface = bare_surface (codes "String") written.Class }) else (
    if bytes_eq name (codes "Runnable") then Some (record { kind = kind.Runnable; surface = runnable_surface }) else None))

abbrev pub declared_or : Option Surface → List ℕ → Option Named
declared_or (Some s) name = Some (record { kind = kind_of s.kind; surface = s })
declared_or None name = built_in name

-- the type of the name, where there is one
abbrev pub type_named : List Surface → List ℕ → Option Named
type_named surfaces name = declared_or (surface_named surfaces name) name

-- ---- faces

-- the assumptions of a class, where it is there
abbrev pub assumptions_in : Option Surface → List Assumption
assumptions_in None = []
assumptions_in (Some s) = s.assumptions

abbrev pub assumptions_of : Seen → List Assumption
assumptions_of seen = assumptions_in (surface_named seen.surfaces seen.class)

-- the face of a type, under these assumptions of a class
abbrev pub face_of : List Assumption → List ℕ → Named → Face
face_of assumptions class t = record {
  kind = t.kind;
  name = t.surface.name;
  implements = t.surface.implements;
  fields = t.surface.fields;
  members = t.surface.members;
  regions = t.surface.regions;
  standing = t.surface.standing;
  vouched = t.surface.vouched;
  assumed = assumed_of t.surface assumptions;
  assumed_by = class;
}

-- Face: what the view shows of the name, or nothing where there is no such type.
unfoldable pub face : Seen → List ℕ → Option Face
face seen name = option_map (face_of (assumptions_of seen) seen.class) (type_named seen.surfaces name)
