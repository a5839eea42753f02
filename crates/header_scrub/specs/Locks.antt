-- The locks of a class: which of its RegionLock annotations stand.
use Rattle.std.specs.Prelude.{◌≡◌, ℕ, Bool, true, false, ◌&&◌, ◌||◌, not, ◌⊎◌, ◌↔◌, List, [], ◌∷◌, ◌++◌, length, take, Option, Some, None, if◌then◌else◌}
use Rattle.std.specs.List.{list_any, slice_get, slice_index_or}
use Rattle.std.specs.Ordering.{nat_cmp}
use Rattle.std.specs.Cmp.Lexicographic.{slice_cmp}
use Rattle.std.specs.BTreeSet.{BTreeSet, contains}
use Rattle.std.specs.Str.{bytes_eq}
use Rattle.promise_grammar.specs.declared.lock.LockHolder.{LockHolder}
use Rattle.promise_grammar.specs.declared.lock.LockHolder.TheVariants as holding
use Rattle.promise_grammar.specs.declared.lock.RegionLockContent.{RegionLockContent}
use Rattle.promise_grammar.specs.declared.tree.PromiseTree.{PromiseTree, out-PromiseTree}
use Rattle.promise_grammar.specs.declared.tree.PromiseTree.TheOpen.{PromiseTree-F}
use Rattle.promise_marks.specs.declared.mark.Mark.{Mark}
use Rattle.region_tree.specs.declared.decl.RegionDecl.{RegionDecl}
use Rattle.region_tree.specs.Chains.{IsUnder}
use Rattle.region_tree.specs.declared.disjoint.DisjointRegions.{DisjointRegions}
use Rattle.region_tree.specs.Disjoint.{AreOf, IsHeld, OverlapsHeld}
use Rattle.region_tree.specs.Regions.{number_of, parents_of}
use Rattle.result_records.specs.declared.code.FindingCode.{FindingCode}
use Rattle.result_records.specs.declared.code.FindingCode.TheVariants as scrub
use Rattle.scrub_rules.specs.Target.{Kinds}
use Rattle.header_scrub.specs.declared.lock.Lock.{Lock}
use Rattle.header_scrub.specs.declared.lock.LockField.{LockField}
use Rattle.header_scrub.specs.Fields.{Fields}
use Rattle.header_scrub.specs.Regions.{is_root}

abbrev pub is_static_field : Option LockField → Bool
is_static_field None = false
is_static_field (Some f) = f.is_static

abbrev pub is_instance_field : Option LockField → Bool
is_instance_field None = false
is_instance_field (Some f) = not f.is_static

-- a lock by `class` or a static field is static
abbrev pub is_static_lock : Fields → LockHolder → Bool
is_static_lock fields holding.This = false
is_static_lock fields holding.Class = true
is_static_lock fields (holding.Field name) = is_static_field (fields name)
is_static_lock fields (holding.ThisField name) = is_static_field (fields name)

-- a lock by `this` or an instance field is one of the instance
abbrev pub is_instance_lock : Fields → LockHolder → Bool
is_instance_lock fields holding.This = true
is_instance_lock fields holding.Class = false
is_instance_lock fields (holding.Field name) = is_instance_field (fields name)
is_instance_lock fields (holding.ThisField name) = is_instance_field (fields name)

-- an instance form of a static lock
abbrev pub mixes_form : Fields → LockHolder → Bool
mixes_form fields (holding.ThisField name) = is_static_field (fields name)
mixes_form fields _ = false

abbrev pub has_lock_form : Option LockField → Bool
has_lock_form None = false
has_lock_form (Some f) = f.lock_form

-- the field has the form that a lock's field has
abbrev pub fits_lock : Fields → LockHolder → Bool
fits_lock fields holding.This = true
fits_lock fields holding.Class = true
fits_lock fields (holding.Field name) = has_lock_form (fields name)
fits_lock fields (holding.ThisField name) = has_lock_form (fields name)

abbrev pub has_lock : List Lock → List ℕ → Bool
has_lock locks name = list_any (λ l. bytes_eq l.name name) locks

-- the set has the names of these locks and no others
pub record HasNames (names : BTreeSet (List ℕ)) (locks : List Lock) : Type 0 where
  pub has : (name : List ℕ) → contains (slice_cmp nat_cmp) names name ≡ has_lock locks name

abbrev pub by_kind : Fields → LockHolder → Option Bool → Option FindingCode
by_kind fields holder None = Some scrub.UnknownRegion
by_kind fields holder (Some is_static) =
    if is_static && is_instance_lock fields holder then Some scrub.MixedKinds else (
    if fits_lock fields holder then None else Some scrub.BadLockField)

-- the first code of a RegionLock but that of overlapping regions, after these locks stand
abbrev pub early_code : Kinds → Fields → List Lock → RegionLockContent → Option FindingCode
early_code kinds fields locks content =
    if mixes_form fields content.holder then Some scrub.BadPlace else (
    if has_lock locks content.name || is_root content.name then Some scrub.NameUsedTwice else
    by_kind fields content.holder (kinds content.region))

-- one of the two regions is under the other
abbrev pub Overlap : List RegionDecl → List ℕ → List ℕ → Type 0
Overlap declared a b =
    (x : ℕ) × (y : ℕ) × (number_of declared a ≡ Some x) × (number_of declared b ≡ Some y)
    × (IsUnder (parents_of declared) x y ⊎ IsUnder (parents_of declared) y x)

-- the region overlaps that of one of the locks
abbrev pub OverlapsAny : List RegionDecl → List ℕ → List Lock → Type 0
OverlapsAny declared region [] = ⊥
OverlapsAny declared region (l ∷ ls) = Overlap declared region l.region ⊎ OverlapsAny declared region ls

-- one of the locks has the region of this number
abbrev pub HasRegion : List RegionDecl → List Lock → ℕ → Type 0
HasRegion declared [] k = ⊥
HasRegion declared (l ∷ ls) k = (number_of declared l.region ≡ Some k) ⊎ HasRegion declared ls k

-- the regions that are held are those of the locks
pub record HoldsRegions (declared : List RegionDecl) (held : DisjointRegions) (locks : List Lock) : Type 0 where
  pub of : AreOf (parents_of declared) held
  pub holds : (k : ℕ) → IsHeld held k ↔ HasRegion declared locks k

-- the region of the name is a held one, or under or above one
abbrev pub HeldOverlaps : List RegionDecl → DisjointRegions → List ℕ → Type 0
HeldOverlaps declared held name = (x : ℕ) × (number_of declared name ≡ Some x) × OverlapsHeld (parents_of declared) held x

-- with no earlier code: set aside exactly where the region overlaps that of a lock that stands
abbrev pub IsLateCode : List RegionDecl → List Lock → RegionLockContent → Option FindingCode → Option FindingCode → Type 0
IsLateCode declared locks content (Some early) code = code ≡ Some early
IsLateCode declared locks content None (Some late) = (late ≡ scrub.OverlappingRegions) × OverlapsAny declared content.region locks
IsLateCode declared locks content None None = OverlapsAny declared content.region locks → ⊥

-- the code of a RegionLock after these locks stand, or none where it stands too
abbrev pub IsLockCode : List RegionDecl → Kinds → Fields → List Lock → RegionLockContent → Option FindingCode → Type 0
IsLockCode declared kinds fields locks content code = IsLateCode declared locks content (early_code kinds fields locks content) code

-- the lock that stands
abbrev pub lock_of : Fields → RegionLockContent → Lock
lock_of fields content = record { name = content.name; is_static = is_static_lock fields content.holder; region = content.region }

abbrev pub lock_in : PromiseTree-F PromiseTree → Option RegionLockContent
lock_in (PromiseTree-F.RegionLock content) = Some content
lock_in _ = None

-- the lock that an annotation with no code gives
abbrev pub lock_by : Option FindingCode → Option PromiseTree → Option RegionLockContent
lock_by None (Some tree) = lock_in (out-PromiseTree tree)
lock_by _ _ = None

abbrev pub lock_given : Fields → Option RegionLockContent → List Lock
lock_given fields None = []
lock_given fields (Some content) = lock_of fields content ∷ []

-- these locks and that of a RegionLock with this code
abbrev pub locks_with : Fields → List Lock → RegionLockContent → Option FindingCode → List Lock
locks_with fields locks content None = locks ++ lock_of fields content ∷ []
locks_with fields locks content (Some code) = locks

-- the locks that annotations with these codes give
abbrev pub locks_in : Fields → List Mark → List (Option FindingCode) → List Lock
locks_in fields [] codes = []
locks_in fields (m ∷ ms) [] = []
locks_in fields (m ∷ ms) (c ∷ cs) = lock_given fields (lock_by c m.tree) ++ locks_in fields ms cs

-- the code of an annotation, which is a RegionLock or not, after these locks stand
abbrev pub IsCodeAfter : List RegionDecl → Kinds → Fields → List Lock → Option FindingCode → Option RegionLockContent → Option FindingCode → Type 0
IsCodeAfter declared kinds fields locks before None code = code ≡ before
IsCodeAfter declared kinds fields locks before (Some content) code = IsLockCode declared kinds fields locks content code

abbrev pub code_at : List (Option FindingCode) → ℕ → Option FindingCode
code_at codes i = slice_index_or codes i None

-- The codes of annotations once the locks are judged: each is that after the locks which the
-- annotations before it give. `before` are their codes by all but that.
pub record AreLockCodes (declared : List RegionDecl) (kinds : Kinds) (fields : Fields) (marks : List Mark) (before after : List (Option FindingCode)) : Type 0 where
  pub long : length after ≡ length marks
  pub each : (i : ℕ) (m : Mark) (code : Option FindingCode) → slice_get marks i ≡ Some m → slice_get after i ≡ Some code
      → IsCodeAfter declared kinds fields (locks_in fields (take i marks) (take i after)) (code_at before i) (lock_by (code_at before i) m.tree) code

-- annotation i is a RegionLock that stands, with this content
pub record StandsAt (marks : List Mark) (codes : List (Option FindingCode)) (i : ℕ) (content : RegionLockContent) : Type 0 where
  pub mark : Mark
  pub there : slice_get marks i ≡ Some mark
  pub stands : slice_get codes i ≡ Some None
  pub holds : lock_by None mark.tree ≡ Some content
