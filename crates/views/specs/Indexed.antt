-- A surface with the places of its parts.
use Rattle.std.specs.Prelude.{◌≡◌, ℕ, Bool, List, Option, None, Some, map, length, nat_eq, ◌<◌}
use Rattle.std.specs.List.{position_from, slice_get, starts_with}
use Rattle.std.specs.Option.{option_map}
use Rattle.class_faces.specs.declared.face.FieldFace.{FieldFace}
use Rattle.class_faces.specs.declared.face.MemberFace.{MemberFace}
use Rattle.promise_scrub.specs.declared.surface.Surface.{Surface}
use Rattle.region_tree.specs.declared.decl.RegionDecl.{RegionDecl}
use Rattle.region_tree.specs.declared.tree.RegionId.{RegionId}
use Rattle.region_tree.specs.declared.tree.RegionTree.{RegionTree}
use Rattle.region_tree.specs.Regions.{number_of, parents_of}
use Rattle.region_tree.specs.Chains.{IsUnder}
use Rattle.region_tree.specs.Names.{Numbered}
use Rattle.region_tree.specs.Tree.{parents_in, region_in}
use Rattle.views.specs.declared.shape.Shape.{Shape}
use Rattle.views.specs.declared.promises.PromisePlaces.{PromisePlaces}
use Rattle.views.specs.declared.regions.Regions.{Regions}
use Rattle.views.specs.Indexes.{AssumedFrom, FieldsFrom, LocksFrom, MembersFrom, NamesFrom, StandingFrom, UnitsTo}
use Rattle.views.specs.Looks.{UnderIn, constructor_front, field_named, region_of}

-- a member whose key begins so is a constructor
abbrev pub constructor_is : List ℕ → MemberFace → Bool
constructor_is front m = starts_with nat_eq m.key front

pub record IsShape (s : Surface) (shape : Shape) : Type 0 where
  pub implements : NamesFrom shape.implements 0 s.implements
  pub fields : FieldsFrom shape.fields 0 s.fields
  pub members : MembersFrom shape.members 0 s.members
  pub constructor : shape.constructor ≡ position_from (constructor_is (constructor_front s.name)) 0 s.members

pub record ArePlaces (s : Surface) (places : PromisePlaces) : Type 0 where
  pub standing : StandingFrom places.standing 0 s.standing
  pub assumed : AssumedFrom places.assumed 0 s.assumptions
  pub locks : LocksFrom places.locks 0 s.standing
  pub units : UnitsTo places.units (length s.standing) s.standing
  pub vouched : NamesFrom places.vouched 0 s.vouched

-- the tree has the regions of these declarations
pub record IsTree (declared : List RegionDecl) (tree : RegionTree) : Type 0 where
  pub parents : parents_in tree ≡ parents_of declared
  pub names : (name : List ℕ) → region_in tree name ≡ number_of declared name

abbrev pub region_id : ℕ → RegionId
region_id n = record { number = n }

-- the region of a field, where it is there
abbrev pub region_at : Surface → FieldFace → Option RegionId
region_at s f = option_map region_id (number_of s.regions (region_of s.name s.standing f))

abbrev pub field_regions : Surface → List (Option RegionId)
field_regions s = map (region_at s) s.fields

-- the regions of fields are of the tree
pub record AllWithin (regions : Regions) : Type 0 where
  pub within : (at : ℕ) (id : RegionId) → slice_get regions.of_fields at ≡ Some (Some id) → id.number < length (parents_in regions.tree)

-- the region, where it is there, is under that of the name
abbrev pub IdUnder : RegionTree → Option (Option RegionId) → List ℕ → Type 0
IdUnder tree None name = ⊥
IdUnder tree (Some None) name = ⊥
IdUnder tree (Some (Some id)) name = (k : ℕ) × (region_in tree name ≡ Some k) × IsUnder (parents_in tree) id.number k

-- the region of the first field of the name is under the region
pub record FieldUnderIn (s : Surface) (field region : List ℕ) : Type 0 where
  pub own : List ℕ
  pub named : option_map (region_of s.name s.standing) (field_named s.fields field) ≡ Some own
  pub under : UnderIn (Some s.regions) own region

pub record AreRegions (s : Surface) (regions : Regions) : Type 0 where
  pub tree : IsTree s.regions regions.tree
  pub numbers : Numbered regions.numbers s.regions
  pub fields : regions.of_fields ≡ field_regions s

pub record IsIndexed (s : Surface) (shape : Shape) (places : PromisePlaces) (regions : Regions) : Type 0 where
  pub has_shape : IsShape s shape
  pub has_places : ArePlaces s places
  pub has_regions : AreRegions s regions
