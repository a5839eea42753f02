-- When contents that hold no other one are the same: exactly where they are equal. It stands here since a
-- comparison is written with its laws.
use Rattle.std.specs.Prelude.{◌≡◌, ℕ, Bool, true, ◌&&◌, ◌==◌, Option, Some, None, List, nat_eq, refl}
use Rattle.std.specs.Bool.{Decides}
use Rattle.std.specs.Option.{option_eq}
use Rattle.std.specs.Cmp.{booleans_Decides, first_so, second_so, unsigned_Decides}
use Rattle.std.specs.Cmp.Lexicographic.{bytes_decides, pointwise, pointwise_decides}
use mathlib.Core.Path.{sym, ap, ap₂, subst}
use mathlib.Core.Bool.{beq, true≢false}
use Rattle.promise_grammar.specs.declared.region.RegionContent.{RegionContent}
use Rattle.promise_grammar.specs.declared.region.Visibility.{Visibility}
use Rattle.promise_grammar.specs.declared.region.Visibility.TheVariants as visible
use Rattle.promise_grammar.specs.declared.lock.LockHolder.{LockHolder}
use Rattle.promise_grammar.specs.declared.lock.LockHolder.TheVariants as holding
use Rattle.promise_grammar.specs.declared.lock.LockItem.{LockItem}
use Rattle.promise_grammar.specs.declared.lock.LockItem.TheVariants as lock
use Rattle.promise_grammar.specs.declared.lock.RegionLockContent.{RegionLockContent}
use Rattle.promise_grammar.specs.declared.effects.EffectTarget.{EffectTarget}
use Rattle.promise_grammar.specs.declared.effects.EffectTarget.TheVariants as effect
use Rattle.promise_grammar.specs.declared.effects.EffectsContent.{EffectsContent}
use Rattle.promise_grammar.specs.declared.mark.UniqueContent.{UniqueContent}
use Rattle.promise_grammar.specs.declared.mark.UniqueContent.TheVariants as unique_at
use Rattle.promise_grammar.specs.declared.mark.BorrowedContent.{BorrowedContent}
use Rattle.promise_grammar.specs.declared.mark.BorrowedContent.TheVariants as borrowed_at
use Rattle.promise_grammar.specs.declared.scope.NamePattern.{NamePattern}
use Rattle.promise_grammar.specs.declared.scope.NamePattern.TheVariants as pattern
use Rattle.promise_grammar.specs.declared.scope.ScopeContent.{ScopeContent}
use Rattle.promise_grammar.specs.declared.scope.ScopeContent.TheVariants as scope
use Rattle.promise_grammar.specs.declared.member.MemberContent.{MemberContent}
use Rattle.promise_grammar.specs.declared.member.MemberName.{MemberName}
use Rattle.promise_grammar.specs.declared.member.MemberName.TheVariants as member
use Rattle.promise_grammar.specs.contracts.region.VisibilityPartialEq.TheImpl as visibility_eq
use Rattle.promise_grammar.specs.contracts.region.RegionContentPartialEq.TheImpl as region_eq
use Rattle.promise_grammar.specs.contracts.lock.LockHolderPartialEq.TheImpl as holder_eq
use Rattle.promise_grammar.specs.contracts.lock.LockItemPartialEq.TheImpl as item_eq
use Rattle.promise_grammar.specs.contracts.lock.RegionLockContentPartialEq.TheImpl as lock_eq
use Rattle.promise_grammar.specs.contracts.effects.EffectTargetPartialEq.TheImpl as target_eq
use Rattle.promise_grammar.specs.contracts.mark.UniqueContentPartialEq.TheImpl as unique_eq
use Rattle.promise_grammar.specs.contracts.mark.BorrowedContentPartialEq.TheImpl as borrowed_eq
use Rattle.promise_grammar.specs.contracts.scope.NamePatternPartialEq.TheImpl as pattern_eq
use Rattle.promise_grammar.specs.contracts.scope.ScopeContentPartialEq.TheImpl as scope_eq
use Rattle.promise_grammar.specs.contracts.member.MemberNamePartialEq.TheImpl as name_eq
use Rattle.promise_grammar.specs.contracts.member.MemberContentPartialEq.TheImpl as member_eq

-- ---- tests

abbrev pub same_name : List ℕ → List ℕ → Bool
same_name a b = pointwise nat_eq a b

abbrev pub same_visibility : Visibility → Visibility → Bool
same_visibility = (visibility_eq.ghosts).eq

abbrev pub same_region : RegionContent → RegionContent → Bool
same_region = (region_eq.ghosts).eq

abbrev pub same_holder : LockHolder → LockHolder → Bool
same_holder = (holder_eq.ghosts).eq

abbrev pub same_lock : RegionLockContent → RegionLockContent → Bool
same_lock = (lock_eq.ghosts).eq

abbrev pub same_item : LockItem → LockItem → Bool
same_item = (item_eq.ghosts).eq

abbrev pub same_items : List LockItem → List LockItem → Bool
same_items a b = pointwise same_item a b

abbrev pub same_target : EffectTarget → EffectTarget → Bool
same_target = (target_eq.ghosts).eq

abbrev pub same_effects : EffectsContent → EffectsContent → Bool
same_effects a b = pointwise same_target a.reads b.reads && pointwise same_target a.writes b.writes

abbrev pub same_unique : UniqueContent → UniqueContent → Bool
same_unique = (unique_eq.ghosts).eq

abbrev pub same_borrowed : BorrowedContent → BorrowedContent → Bool
same_borrowed = (borrowed_eq.ghosts).eq

abbrev pub same_pattern : NamePattern → NamePattern → Bool
same_pattern = (pattern_eq.ghosts).eq

abbrev pub same_scope : ScopeContent → ScopeContent → Bool
same_scope = (scope_eq.ghosts).eq

abbrev pub same_member_name : MemberName → MemberName → Bool
same_member_name = (name_eq.ghosts).eq

abbrev pub same_member : MemberContent → MemberContent → Bool
same_member = (member_eq.ghosts).eq

-- ---- they hold exactly where the contents are equal

-- a test that tells equal values and holds of each value and itself
pub exact : {A : Type 0} (E : A → A → Bool) → ((a b : A) → E a b ≡ true → a ≡ b) → ((a : A) → E a a ≡ true) → (a b : A) → Decides (E a b) (a ≡ b)
exact E to own a b = (to a b, λ e. subst (λ z. E a z ≡ true) e (own a))

option_to : {A : Type 0} (E : A → A → Bool) → ((a b : A) → Decides (E a b) (a ≡ b)) → (x y : Option A) → option_eq E x y ≡ true → x ≡ y
option_to E decides None None h = refl
option_to E decides None (Some y) h = absurd (true≢false (sym h))
option_to E decides (Some x) None h = absurd (true≢false (sym h))
option_to E decides (Some x) (Some y) h = ap Some ((decides x y).0 h)

option_own : {A : Type 0} (E : A → A → Bool) → ((a b : A) → Decides (E a b) (a ≡ b)) → (x : Option A) → option_eq E x x ≡ true
option_own E decides None = refl
option_own E decides (Some x) = (decides x x).1 refl

pub name_decides : (a b : List ℕ) → Decides (same_name a b) (a ≡ b)
name_decides = bytes_decides

name_own : (a : List ℕ) → same_name a a ≡ true
name_own a = (bytes_decides a a).1 refl

-- two names with a constructor round them
both_to : {A : Type 0} (f : List ℕ → List ℕ → A) (a b x y : List ℕ) → (same_name a b && same_name x y) ≡ true → f a x ≡ f b y
both_to f a b x y h =
    let one : a ≡ b = (bytes_decides a b).0 (first_so (same_name a b) (same_name x y) h) in
    let other : x ≡ y = (bytes_decides x y).0 (second_so (same_name a b) (same_name x y) h) in
    λ i. f (one i) (other i)

both_own : (a x : List ℕ) → (same_name a a && same_name x x) ≡ true
both_own a x = λ i. name_own a i && name_own x i

visibility_to : (a b : Visibility) → same_visibility a b ≡ true → a ≡ b
visibility_to visible.Public visible.Public h = refl
visibility_to visible.Protected visible.Protected h = refl
visibility_to visible.Private visible.Private h = refl
visibility_to _ _ h = absurd (true≢false (sym h))

visibility_own : (a : Visibility) → same_visibility a a ≡ true
visibility_own visible.Public = refl
visibility_own visible.Protected = refl
visibility_own visible.Private = refl

visibility_decides : (a b : Visibility) → Decides (same_visibility a b) (a ≡ b)
visibility_decides = exact same_visibility visibility_to visibility_own

region_to : (a b : RegionContent) → same_region a b ≡ true → a ≡ b
region_to a b h =
    let more = second_so (option_eq same_visibility a.visibility b.visibility) _ h in
    let last = second_so (beq a.is_static b.is_static) _ more in
    let visibility : a.visibility ≡ b.visibility = option_to same_visibility visibility_decides a.visibility b.visibility (first_so (option_eq same_visibility a.visibility b.visibility) _ h) in
    let is_static : a.is_static ≡ b.is_static = (booleans_Decides a.is_static b.is_static).0 (first_so (beq a.is_static b.is_static) _ more) in
    let name : a.name ≡ b.name = (bytes_decides a.name b.name).0 (first_so (same_name a.name b.name) _ last) in
    let parent : a.parent ≡ b.parent = option_to same_name bytes_decides a.parent b.parent (second_so (same_name a.name b.name) _ last) in
    λ i. record { visibility = visibility i; is_static = is_static i; name = name i; parent = parent i }

region_own : (a : RegionContent) → same_region a a ≡ true
region_own a =
    λ i. option_own same_visibility visibility_decides a.visibility i
    && ((booleans_Decides a.is_static a.is_static).1 refl i && (name_own a.name i && option_own same_name bytes_decides a.parent i))

pub region_decides : (a b : RegionContent) → Decides (same_region a b) (a ≡ b)
region_decides = exact same_region region_to region_own

holder_to : (a b : LockHolder) → same_holder a b ≡ true → a ≡ b
holder_to holding.This holding.This h = refl
holder_to holding.Class holding.Class h = refl
holder_to (holding.Field x) (holding.Field y) h = ap holding.Field ((bytes_decides x y).0 h)
holder_to (holding.ThisField x) (holding.ThisField y) h = ap holding.ThisField ((bytes_decides x y).0 h)
holder_to _ _ h = absurd (true≢false (sym h))

holder_own : (a : LockHolder) → same_holder a a ≡ true
holder_own holding.This = refl
holder_own holding.Class = refl
holder_own (holding.Field x) = name_own x
holder_own (holding.ThisField x) = name_own x

holder_decides : (a b : LockHolder) → Decides (same_holder a b) (a ≡ b)
holder_decides = exact same_holder holder_to holder_own

lock_to : (a b : RegionLockContent) → same_lock a b ≡ true → a ≡ b
lock_to a b h =
    let more = second_so (same_name a.name b.name) _ h in
    let name : a.name ≡ b.name = (bytes_decides a.name b.name).0 (first_so (same_name a.name b.name) _ h) in
    let holder : a.holder ≡ b.holder = (holder_decides a.holder b.holder).0 (first_so (same_holder a.holder b.holder) _ more) in
    let region : a.region ≡ b.region = (bytes_decides a.region b.region).0 (second_so (same_holder a.holder b.holder) _ more) in
    λ i. record { name = name i; holder = holder i; region = region i }

lock_own : (a : RegionLockContent) → same_lock a a ≡ true
lock_own a = λ i. name_own a.name i && ((holder_decides a.holder a.holder).1 refl i && name_own a.region i)

pub lock_decides : (a b : RegionLockContent) → Decides (same_lock a b) (a ≡ b)
lock_decides = exact same_lock lock_to lock_own

item_to : (a b : LockItem) → same_item a b ≡ true → a ≡ b
item_to (lock.Bare x) (lock.Bare y) h = ap lock.Bare ((bytes_decides x y).0 h)
item_to (lock.This x) (lock.This y) h = ap lock.This ((bytes_decides x y).0 h)
item_to (lock.Of a x) (lock.Of b y) h = both_to (λ o l. lock.Of o l) a b x y h
item_to _ _ h = absurd (true≢false (sym h))

item_own : (a : LockItem) → same_item a a ≡ true
item_own (lock.Bare x) = name_own x
item_own (lock.This x) = name_own x
item_own (lock.Of a x) = both_own a x

item_decides : (a b : LockItem) → Decides (same_item a b) (a ≡ b)
item_decides = exact same_item item_to item_own

pub items_decides : (a b : List LockItem) → Decides (same_items a b) (a ≡ b)
items_decides = pointwise_decides item_decides

target_to : (a b : EffectTarget) → same_target a b ≡ true → a ≡ b
target_to (effect.Bare x) (effect.Bare y) h = ap effect.Bare ((bytes_decides x y).0 h)
target_to (effect.This x) (effect.This y) h = ap effect.This ((bytes_decides x y).0 h)
target_to (effect.Of a x) (effect.Of b y) h = both_to (λ o r. effect.Of o r) a b x y h
target_to (effect.Any a x) (effect.Any b y) h = both_to (λ o r. effect.Any o r) a b x y h
target_to _ _ h = absurd (true≢false (sym h))

target_own : (a : EffectTarget) → same_target a a ≡ true
target_own (effect.Bare x) = name_own x
target_own (effect.This x) = name_own x
target_own (effect.Of a x) = both_own a x
target_own (effect.Any a x) = both_own a x

target_decides : (a b : EffectTarget) → Decides (same_target a b) (a ≡ b)
target_decides = exact same_target target_to target_own

effects_to : (a b : EffectsContent) → same_effects a b ≡ true → a ≡ b
effects_to a b h =
    let reads : a.reads ≡ b.reads = (pointwise_decides target_decides a.reads b.reads).0 (first_so (pointwise same_target a.reads b.reads) _ h) in
    let writes : a.writes ≡ b.writes = (pointwise_decides target_decides a.writes b.writes).0 (second_so (pointwise same_target a.reads b.reads) _ h) in
    λ i. record { reads = reads i; writes = writes i }

effects_own : (a : EffectsContent) → same_effects a a ≡ true
effects_own a = λ i. (pointwise_decides target_decides a.reads a.reads).1 refl i && (pointwise_decides target_decides a.writes a.writes).1 refl i

pub effects_decides : (a b : EffectsContent) → Decides (same_effects a b) (a ≡ b)
effects_decides = exact same_effects effects_to effects_own

unique_to : (a b : UniqueContent) → same_unique a b ≡ true → a ≡ b
unique_to unique_at.Place unique_at.Place h = refl
unique_to unique_at.Return unique_at.Return h = refl
unique_to _ _ h = absurd (true≢false (sym h))

unique_own : (a : UniqueContent) → same_unique a a ≡ true
unique_own unique_at.Place = refl
unique_own unique_at.Return = refl

pub unique_decides : (a b : UniqueContent) → Decides (same_unique a b) (a ≡ b)
unique_decides = exact same_unique unique_to unique_own

borrowed_to : (a b : BorrowedContent) → same_borrowed a b ≡ true → a ≡ b
borrowed_to borrowed_at.Place borrowed_at.Place h = refl
borrowed_to borrowed_at.This borrowed_at.This h = refl
borrowed_to _ _ h = absurd (true≢false (sym h))

borrowed_own : (a : BorrowedContent) → same_borrowed a a ≡ true
borrowed_own borrowed_at.Place = refl
borrowed_own borrowed_at.This = refl

pub borrowed_decides : (a b : BorrowedContent) → Decides (same_borrowed a b) (a ≡ b)
borrowed_decides = exact same_borrowed borrowed_to borrowed_own

pattern_to : (a b : NamePattern) → same_pattern a b ≡ true → a ≡ b
pattern_to (pattern.Exactly x) (pattern.Exactly y) h = ap pattern.Exactly ((bytes_decides x y).0 h)
pattern_to pattern.Any pattern.Any h = refl
pattern_to (pattern.Starred x j) (pattern.Starred y k) h =
    let name : x ≡ y = (bytes_decides x y).0 (first_so (same_name x y) (j == k) h) in
    let at : j ≡ k = (unsigned_Decides j k).0 (second_so (same_name x y) (j == k) h) in
    λ i. pattern.Starred (name i) (at i)
pattern_to _ _ h = absurd (true≢false (sym h))

pattern_own : (a : NamePattern) → same_pattern a a ≡ true
pattern_own (pattern.Exactly x) = name_own x
pattern_own pattern.Any = refl
pattern_own (pattern.Starred x j) = λ i. name_own x i && (unsigned_Decides j j).1 refl i

pattern_decides : (a b : NamePattern) → Decides (same_pattern a b) (a ≡ b)
pattern_decides = exact same_pattern pattern_to pattern_own

scope_to : (a b : ScopeContent) → same_scope a b ≡ true → a ≡ b
scope_to (scope.Fields x) (scope.Fields y) h = ap scope.Fields ((pattern_decides x y).0 h)
scope_to (scope.Methods x) (scope.Methods y) h = ap scope.Methods ((pattern_decides x y).0 h)
scope_to (scope.PlainMethods x) (scope.PlainMethods y) h = ap scope.PlainMethods ((pattern_decides x y).0 h)
scope_to scope.Constructors scope.Constructors h = refl
scope_to _ _ h = absurd (true≢false (sym h))

scope_own : (a : ScopeContent) → same_scope a a ≡ true
scope_own (scope.Fields x) = (pattern_decides x x).1 refl
scope_own (scope.Methods x) = (pattern_decides x x).1 refl
scope_own (scope.PlainMethods x) = (pattern_decides x x).1 refl
scope_own scope.Constructors = refl

pub scope_decides : (a b : ScopeContent) → Decides (same_scope a b) (a ≡ b)
scope_decides = exact same_scope scope_to scope_own

member_name_to : (a b : MemberName) → same_member_name a b ≡ true → a ≡ b
member_name_to (member.Named x) (member.Named y) h = ap member.Named ((bytes_decides x y).0 h)
member_name_to member.New member.New h = refl
member_name_to _ _ h = absurd (true≢false (sym h))

member_name_own : (a : MemberName) → same_member_name a a ≡ true
member_name_own (member.Named x) = name_own x
member_name_own member.New = refl

member_name_decides : (a b : MemberName) → Decides (same_member_name a b) (a ≡ b)
member_name_decides = exact same_member_name member_name_to member_name_own

member_to : (a b : MemberContent) → same_member a b ≡ true → a ≡ b
member_to a b h =
    let more = second_so (same_member_name a.name b.name) _ h in
    let name : a.name ≡ b.name = (member_name_decides a.name b.name).0 (first_so (same_member_name a.name b.name) _ h) in
    let count : a.count ≡ b.count = (unsigned_Decides a.count b.count).0 (first_so (a.count == b.count) _ more) in
    let class : a.class ≡ b.class = (bytes_decides a.class b.class).0 (second_so (a.count == b.count) _ more) in
    λ i. record { name = name i; count = count i; class = class i }

member_own : (a : MemberContent) → same_member a a ≡ true
member_own a = λ i. (member_name_decides a.name a.name).1 refl i && ((unsigned_Decides a.count a.count).1 refl i && name_own a.class i)

pub member_decides : (a b : MemberContent) → Decides (same_member a b) (a ≡ b)
member_decides = exact same_member member_to member_own
