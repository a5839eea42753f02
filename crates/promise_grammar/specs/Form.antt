-- The forms of contents: which parts are lawful, and the pieces that spell them.
use Rattle.std.specs.Prelude.{◌≡◌, ℕ, ◌<◌, ◌≤◌, Bool, true, false, List, [], ◌∷◌, ◌++◌, length, take, drop, Option, Some, None, IfSome, codes}
use Rattle.std.specs.List.{AllByRecursion}
use Rattle.promise_grammar.specs.declared.region.RegionContent.{RegionContent}
use Rattle.promise_grammar.specs.declared.region.Visibility.{Visibility}
use Rattle.promise_grammar.specs.declared.region.Visibility.TheVariants as visible
use Rattle.promise_grammar.specs.declared.lock.LockHolder.{LockHolder}
use Rattle.promise_grammar.specs.declared.lock.LockHolder.TheVariants as holding
use Rattle.promise_grammar.specs.declared.lock.RegionLockContent.{RegionLockContent}
use Rattle.promise_grammar.specs.declared.lock.LockItem.{LockItem}
use Rattle.promise_grammar.specs.declared.lock.LockItem.TheVariants as lock
use Rattle.promise_grammar.specs.declared.effects.EffectTarget.{EffectTarget}
use Rattle.promise_grammar.specs.declared.effects.EffectTarget.TheVariants as effect
use Rattle.promise_grammar.specs.declared.effects.EffectsContent.{EffectsContent}
use Rattle.promise_grammar.specs.declared.mark.UniqueContent.{UniqueContent}
use Rattle.promise_grammar.specs.declared.mark.UniqueContent.TheVariants as unique_at
use Rattle.promise_grammar.specs.declared.mark.BorrowedContent.{BorrowedContent}
use Rattle.promise_grammar.specs.declared.mark.BorrowedContent.TheVariants as borrowed_at
use Rattle.promise_grammar.specs.declared.scope.NamePattern.{NamePattern}
use Rattle.promise_grammar.specs.declared.scope.NamePattern.TheVariants as pattern
use Rattle.promise_grammar.specs.declared.scope.ScopeContent.{ScopeContent}
use Rattle.promise_grammar.specs.declared.scope.ScopeContent.TheVariants as scope
use Rattle.promise_grammar.specs.declared.member.MemberName.{MemberName}
use Rattle.promise_grammar.specs.declared.member.MemberName.TheVariants as member
use Rattle.promise_grammar.specs.declared.member.MemberContent.{MemberContent}
use Rattle.promise_grammar.specs.Word.{is_name}
use Rattle.promise_grammar.specs.Piece.{Piece, Word, Sign}

abbrev pub IsName : List ℕ → Type 0
IsName word = is_name word ≡ true

-- ---- lists: the items, with a comma between each two

abbrev pub later_words : {A : Type 0} → (A → List Piece) → List A → List Piece
later_words words [] = []
later_words words (x ∷ xs) = Sign 44 ∷ (words x ++ later_words words xs)

abbrev pub list_words : {A : Type 0} → (A → List Piece) → List A → List Piece
list_words words [] = []
list_words words (x ∷ xs) = words x ++ later_words words xs

-- at least one item, and each is lawful
pub record IsList {A : Type 0} (Is : A → Type 0) (xs : List A) : Type 0 where
  pub some : 0 < length xs
  pub each : AllByRecursion Is xs

-- ---- Region: `[public|protected|private] [static] name [extends parent]`

abbrev pub visibility_words : Option Visibility → List Piece
visibility_words None = []
visibility_words (Some visible.Public) = Word (codes "public") ∷ []
visibility_words (Some visible.Protected) = Word (codes "protected") ∷ []
visibility_words (Some visible.Private) = Word (codes "private") ∷ []

abbrev pub static_words : Bool → List Piece
static_words true = Word (codes "static") ∷ []
static_words false = []

abbrev pub parent_words : Option (List ℕ) → List Piece
parent_words None = []
parent_words (Some parent) = Word (codes "extends") ∷ Word parent ∷ []

abbrev pub region_words : RegionContent → List Piece
region_words r = visibility_words r.visibility ++ (static_words r.is_static ++ (Word r.name ∷ parent_words r.parent))

pub record IsRegion (r : RegionContent) : Type 0 where
  pub name : IsName r.name
  pub parent : IfSome r.parent IsName

-- ---- RegionLock: `name is holder protects region`

abbrev pub holder_words : LockHolder → List Piece
holder_words holding.This = Word (codes "this") ∷ []
holder_words holding.Class = Word (codes "class") ∷ []
holder_words (holding.Field name) = Word name ∷ []
holder_words (holding.ThisField name) = Word (codes "this") ∷ Sign 46 ∷ Word name ∷ []

abbrev pub IsHolder : LockHolder → Type 0
IsHolder holding.This = Unit {0}
IsHolder holding.Class = Unit {0}
IsHolder (holding.Field name) = IsName name
IsHolder (holding.ThisField name) = IsName name

abbrev pub region_lock_words : RegionLockContent → List Piece
region_lock_words r = Word r.name ∷ Word (codes "is") ∷ (holder_words r.holder ++ (Word (codes "protects") ∷ Word r.region ∷ []))

pub record IsRegionLock (r : RegionLockContent) : Type 0 where
  pub name : IsName r.name
  pub holder : IsHolder r.holder
  pub region : IsName r.region

-- ---- RequiresLock: a list of `lock`, `this:lock`, `owner:lock`

abbrev pub lock_item_words : LockItem → List Piece
lock_item_words (lock.Bare name) = Word name ∷ []
lock_item_words (lock.This name) = Word (codes "this") ∷ Sign 58 ∷ Word name ∷ []
lock_item_words (lock.Of owner name) = Word owner ∷ Sign 58 ∷ Word name ∷ []

abbrev pub IsLockItem : LockItem → Type 0
IsLockItem (lock.Bare name) = IsName name
IsLockItem (lock.This name) = IsName name
IsLockItem (lock.Of owner name) = IsName owner × IsName name

-- ---- RegionEffects: `none`, `reads targets`, `writes targets`, `reads targets; writes targets`

abbrev pub target_words : EffectTarget → List Piece
target_words (effect.Bare region) = Word region ∷ []
target_words (effect.This region) = Word (codes "this") ∷ Sign 58 ∷ Word region ∷ []
target_words (effect.Of owner region) = Word owner ∷ Sign 58 ∷ Word region ∷ []
target_words (effect.Any class region) = Word (codes "any") ∷ Sign 40 ∷ Word class ∷ Sign 41 ∷ Sign 58 ∷ Word region ∷ []

abbrev pub IsTarget : EffectTarget → Type 0
IsTarget (effect.Bare region) = IsName region
IsTarget (effect.This region) = IsName region
IsTarget (effect.Of owner region) = IsName owner × IsName region
IsTarget (effect.Any class region) = IsName class × IsName region

abbrev pub writes_words : List EffectTarget → List Piece
writes_words ws = Word (codes "writes") ∷ list_words target_words ws

-- a list that is empty isn't written
abbrev pub both_words : List EffectTarget → List EffectTarget → List Piece
both_words [] [] = Word (codes "none") ∷ []
both_words [] (w ∷ ws) = writes_words (w ∷ ws)
both_words (r ∷ rs) [] = Word (codes "reads") ∷ list_words target_words (r ∷ rs)
both_words (r ∷ rs) (w ∷ ws) = Word (codes "reads") ∷ (list_words target_words (r ∷ rs) ++ (Sign 59 ∷ writes_words (w ∷ ws)))

abbrev pub effects_words : EffectsContent → List Piece
effects_words e = both_words e.reads e.writes

pub record IsEffects (e : EffectsContent) : Type 0 where
  pub reads : AllByRecursion IsTarget e.reads
  pub writes : AllByRecursion IsTarget e.writes

-- ---- Unique: nothing, or `return`; Borrowed: nothing, or `this`

abbrev pub unique_words : UniqueContent → List Piece
unique_words unique_at.Place = []
unique_words unique_at.Return = Word (codes "return") ∷ []

abbrev pub borrowed_words : BorrowedContent → List Piece
borrowed_words borrowed_at.Place = []
borrowed_words borrowed_at.This = Word (codes "this") ∷ []

-- ---- scopes: `W`, `W(**)`, `W()` and `new(**)`, W being a name with at most one star in it, or a star

abbrev pub pattern_word : NamePattern → List ℕ
pattern_word (pattern.Exactly name) = name
pattern_word pattern.Any = 42 ∷ []
pattern_word (pattern.Starred name at) = take at name ++ (42 ∷ drop at name)

-- without its star it is a name, and the star stands in it, before it or after it
abbrev pub IsPattern : NamePattern → Type 0
IsPattern (pattern.Exactly name) = IsName name
IsPattern pattern.Any = Unit {0}
IsPattern (pattern.Starred name at) = IsName name × (at ≤ length name)

abbrev pub scope_words : ScopeContent → List Piece
scope_words (scope.Fields w) = Word (pattern_word w) ∷ []
scope_words (scope.Methods w) = Word (pattern_word w) ∷ Sign 40 ∷ Word (codes "**") ∷ Sign 41 ∷ []
scope_words (scope.PlainMethods w) = Word (pattern_word w) ∷ Sign 40 ∷ Sign 41 ∷ []
scope_words scope.Constructors = Word (codes "new") ∷ Sign 40 ∷ Word (codes "**") ∷ Sign 41 ∷ []

abbrev pub IsScope : ScopeContent → Type 0
IsScope (scope.Fields w) = IsPattern w
IsScope (scope.Methods w) = IsPattern w
IsScope (scope.PlainMethods w) = IsPattern w
IsScope scope.Constructors = Unit {0}

-- ---- members: `name/count in class`, or `new` for the name

abbrev pub member_name_word : MemberName → List ℕ
member_name_word (member.Named name) = name
member_name_word member.New = codes "new"

abbrev pub IsMemberName : MemberName → Type 0
IsMemberName (member.Named name) = IsName name
IsMemberName member.New = Unit {0}

-- with the digits that spell its count
abbrev pub member_words : MemberContent → List ℕ → List Piece
member_words m digits = Word (member_name_word m.name) ∷ Sign 47 ∷ Word digits ∷ Word (codes "in") ∷ Word m.class ∷ []

pub record IsMember (m : MemberContent) : Type 0 where
  pub name : IsMemberName m.name
  pub class : IsName m.class
