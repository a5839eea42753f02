-- Which declaration or field is faulty, and how.
use Rattle.std.specs.Prelude.{◌≡◌, ◌≢◌, ℕ, ◌+◌, ◌<◌, List, Some, None, Bool, length}
use Rattle.std.specs.List.{slice_get}
use Rattle.region_tree.specs.declared.decl.RegionDecl.{RegionDecl}
use Rattle.region_tree.specs.declared.decl.FieldPut.{FieldPut}
use Rattle.region_tree.specs.declared.fault.RegionError.{RegionError}
use Rattle.region_tree.specs.declared.fault.RegionError.TheVariants as fault
use Rattle.region_tree.specs.Chains.{IsRooted}
use Rattle.region_tree.specs.Regions.{number_of, parents_of, parent_name, field_region, kind_of}

-- declaration i is the first region of its name: no root and no earlier declaration has it
abbrev pub IsFirst : List RegionDecl → ℕ → RegionDecl → Type 0
IsFirst declared i decl = number_of declared decl.name ≡ Some (i + 2)

-- its parent is there and of its kind
abbrev pub HasKind : List RegionDecl → RegionDecl → Type 0
HasKind declared decl = kind_of declared (parent_name decl) ≡ Some decl.is_static

-- declaration i has no fault
abbrev pub IsGood : List RegionDecl → ℕ → RegionDecl → Type 0
IsGood declared i decl = IsFirst declared i decl × HasKind declared decl × IsRooted (parents_of declared) (i + 2)

-- the first n declarations have no fault
abbrev pub AllGood : List RegionDecl → ℕ → Type 0
AllGood declared n = (i : ℕ) (decl : RegionDecl) → i < n → slice_get declared i ≡ Some decl → IsGood declared i decl

-- the fault of declaration i; where it has several, the first in this order. Want of memory says nothing
abbrev pub DeclFault : List RegionDecl → ℕ → RegionDecl → RegionError → Type 0
DeclFault declared i decl (fault.Repeated name) = (name ≡ decl.name) × ¬ (IsFirst declared i decl)
DeclFault declared i decl (fault.UnknownParent name) =
    (name ≡ decl.name) × IsFirst declared i decl × (kind_of declared (parent_name decl) ≡ None)
DeclFault declared i decl (fault.Mixed name) =
    (name ≡ decl.name) × IsFirst declared i decl
    × ((kind : Bool) × (kind_of declared (parent_name decl) ≡ Some kind) × (kind ≢ decl.is_static))
DeclFault declared i decl (fault.Cycle name) =
    (name ≡ decl.name) × IsFirst declared i decl × HasKind declared decl × ¬ (IsRooted (parents_of declared) (i + 2))
DeclFault declared i decl (fault.FieldRegion name) = ⊥
DeclFault declared i decl fault.OutOfMemory = Unit {0}

-- the region of the field is there and of its kind
abbrev pub IsPlaced : List RegionDecl → FieldPut → Type 0
IsPlaced declared put = kind_of declared (field_region put) ≡ Some put.is_static

-- the first n fields have no fault
abbrev pub AllPlaced : List RegionDecl → List FieldPut → ℕ → Type 0
AllPlaced declared puts n = (i : ℕ) (put : FieldPut) → i < n → slice_get puts i ≡ Some put → IsPlaced declared put

-- declaration i is the first faulty one, and this is its fault
abbrev pub FaultAt : List RegionDecl → ℕ → RegionError → Type 0
FaultAt declared i error =
    (decl : RegionDecl) × (slice_get declared i ≡ Some decl) × AllGood declared i × DeclFault declared i decl error

-- the first faulty declaration has this fault
abbrev pub FirstDeclFault : List RegionDecl → RegionError → Type 0
FirstDeclFault declared error = (i : ℕ) × FaultAt declared i error

-- what an error of the declarations says; want of memory says nothing
abbrev pub IsDeclFault : List RegionDecl → RegionError → Type 0
IsDeclFault declared (fault.Repeated name) = FirstDeclFault declared (fault.Repeated name)
IsDeclFault declared (fault.UnknownParent name) = FirstDeclFault declared (fault.UnknownParent name)
IsDeclFault declared (fault.Mixed name) = FirstDeclFault declared (fault.Mixed name)
IsDeclFault declared (fault.Cycle name) = FirstDeclFault declared (fault.Cycle name)
IsDeclFault declared (fault.FieldRegion name) = ⊥
IsDeclFault declared fault.OutOfMemory = Unit {0}

-- the fault of a field
abbrev pub PutFault : List RegionDecl → FieldPut → RegionError → Type 0
PutFault declared put (fault.Repeated name) = ⊥
PutFault declared put (fault.UnknownParent name) = ⊥
PutFault declared put (fault.Mixed name) = ⊥
PutFault declared put (fault.Cycle name) = ⊥
PutFault declared put (fault.FieldRegion name) = (name ≡ put.field) × ¬ (IsPlaced declared put)
PutFault declared put fault.OutOfMemory = Unit {0}

-- the first faulty field has this name
abbrev pub FirstFieldFault : List RegionDecl → List FieldPut → List ℕ → Type 0
FirstFieldFault declared puts name =
    (i : ℕ) × (put : FieldPut) × (slice_get puts i ≡ Some put) × AllPlaced declared puts i
    × (name ≡ put.field) × ¬ (IsPlaced declared put)

-- what an error of the fields says
abbrev pub IsFieldFault : List RegionDecl → List FieldPut → RegionError → Type 0
IsFieldFault declared puts (fault.Repeated name) = ⊥
IsFieldFault declared puts (fault.UnknownParent name) = ⊥
IsFieldFault declared puts (fault.Mixed name) = ⊥
IsFieldFault declared puts (fault.Cycle name) = ⊥
IsFieldFault declared puts (fault.FieldRegion name) = FirstFieldFault declared puts name
IsFieldFault declared puts fault.OutOfMemory = Unit {0}

-- what an error of `build` says: a field is named only where all declarations are good
abbrev pub IsFault : List RegionDecl → List FieldPut → RegionError → Type 0
IsFault declared puts (fault.Repeated name) = FirstDeclFault declared (fault.Repeated name)
IsFault declared puts (fault.UnknownParent name) = FirstDeclFault declared (fault.UnknownParent name)
IsFault declared puts (fault.Mixed name) = FirstDeclFault declared (fault.Mixed name)
IsFault declared puts (fault.Cycle name) = FirstDeclFault declared (fault.Cycle name)
IsFault declared puts (fault.FieldRegion name) = AllGood declared (length declared) × FirstFieldFault declared puts name
IsFault declared puts fault.OutOfMemory = Unit {0}
