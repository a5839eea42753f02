-- What stands in a surface: promises with their contents, and the fields in regions.
use Rattle.std.specs.Prelude.{◌≡◌, ◌⊎◌, ℕ, List, [], ◌∷◌, Option, Some, None}
use Rattle.class_faces.specs.declared.face.FieldFace.{FieldFace}
use Rattle.class_faces.specs.Keys.{member_key}
use Rattle.promise_grammar.specs.declared.lock.RegionLockContent.{RegionLockContent}
use Rattle.promise_grammar.specs.declared.tree.PromiseTree.{PromiseTree, out-PromiseTree}
use Rattle.promise_grammar.specs.declared.tree.PromiseTree.TheOpen.{PromiseTree-F}
use Rattle.region_tree.specs.declared.decl.FieldPut.{FieldPut}
use Rattle.header_scrub.specs.Fields.{field_named}
use Rattle.promise_scrub.specs.declared.surface.Standing.{Standing}
use Rattle.promise_scrub.specs.declared.surface.Surface.{Surface as Face}

-- it is one of these
abbrev pub IsOneOf : {A : Type 0} → A → List A → Type 0
IsOneOf x [] = ⊥
IsOneOf x (y ∷ ys) = (x ≡ y) ⊎ IsOneOf x ys

-- a promise that stands, with this content
pub record HasContent (face : Face) (s : Standing) (content : PromiseTree-F PromiseTree) : Type 0 where
  pub stands : IsOneOf s face.standing
  pub holds : out-PromiseTree s.tree ≡ content

-- a lock that stands
abbrev pub HasLock : Face → Standing → RegionLockContent → Type 0
HasLock face s content = HasContent face s (PromiseTree-F.RegionLock content)

-- the first field of the name is in the region that an InRegion of it names, or none is named
abbrev pub IsInRegion : Face → List ℕ → Option (List ℕ) → Type 0
IsInRegion face field None = Unit {0}
IsInRegion face field (Some region) =
    (s : Standing) × HasContent face s (PromiseTree-F.InRegion region) × (s.key.target ≡ member_key face.name field None 1)

-- a field as it is put into its region: the first of its name
pub record IsPut (face : Face) (put : FieldPut) : Type 0 where
  pub field : FieldFace
  pub first : field_named face.fields put.field ≡ Some field
  pub kind : put.is_static ≡ field.is_static
  pub region : IsInRegion face put.field put.region
