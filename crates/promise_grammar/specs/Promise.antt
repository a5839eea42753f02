-- ReadsPromise: which tree a content of a kind spells.
use Rattle.std.specs.Prelude.{◌≡◌, ◌⊎◌, ℕ, zero, suc, ◌≤◌, List, [], ◌∷◌, ◌++◌, length, Result, Ok, Err, codes}
use Rattle.std.specs.Str.{IsUtf8}
use Rattle.promise_grammar.specs.declared.error.PromiseError.{PromiseError}
use Rattle.promise_grammar.specs.declared.error.PromiseError.TheVariants as error
use Rattle.promise_grammar.specs.declared.kind.PromiseKind.{PromiseKind}
use Rattle.promise_grammar.specs.declared.kind.PromiseKind.TheVariants as kind
use Rattle.promise_grammar.specs.declared.region.RegionContent.{RegionContent}
use Rattle.promise_grammar.specs.declared.lock.RegionLockContent.{RegionLockContent}
use Rattle.promise_grammar.specs.declared.lock.LockItem.{LockItem}
use Rattle.promise_grammar.specs.declared.effects.EffectsContent.{EffectsContent}
use Rattle.promise_grammar.specs.declared.mark.UniqueContent.{UniqueContent}
use Rattle.promise_grammar.specs.declared.mark.BorrowedContent.{BorrowedContent}
use Rattle.promise_grammar.specs.declared.scope.ScopeContent.{ScopeContent}
use Rattle.promise_grammar.specs.declared.member.MemberContent.{MemberContent}
use Rattle.promise_grammar.specs.declared.tree.PromiseTree.{PromiseTree}
use Rattle.promise_grammar.specs.declared.tree.PromiseTree.TheVariants as tree
use Rattle.promise_grammar.specs.Kind.{kind_text}
use Rattle.promise_grammar.specs.Piece.{Piece, Word, Sign, cut}
use Rattle.promise_grammar.specs.Count.{IsCount}
use Rattle.promise_grammar.specs.Form.{IsName, list_words, IsList, region_words, IsRegion, region_lock_words, IsRegionLock, lock_item_words, IsLockItem, effects_words, IsEffects, unique_words, borrowed_words, scope_words, IsScope, member_words, IsMember}

-- the text of a Vouch: well-formed UTF-8 of 1 to 1024 bytes
pub record IsVouch (text : List ℕ) : Type 0 where
  pub some : 1 ≤ length text
  pub most : length text ≤ 1024
  pub utf8 : IsUtf8 text

-- A content that holds no other promise spells the tree: its pieces are the words of lawful parts.
abbrev pub Plain : PromiseKind → List ℕ → PromiseTree → Type 0
Plain kind.Region content t = (r : RegionContent) × (t ≡ tree.Region r) × IsRegion r × (cut content ≡ region_words r)
Plain kind.InRegion content t = (name : List ℕ) × (t ≡ tree.InRegion name) × IsName name × (cut content ≡ Word name ∷ [])
Plain kind.RegionLock content t = (r : RegionLockContent) × (t ≡ tree.RegionLock r) × IsRegionLock r × (cut content ≡ region_lock_words r)
Plain kind.RequiresLock content t = (xs : List LockItem) × (t ≡ tree.RequiresLock xs) × IsList IsLockItem xs × (cut content ≡ list_words lock_item_words xs)
Plain kind.Unique content t = (u : UniqueContent) × (t ≡ tree.Unique u) × (cut content ≡ unique_words u)
Plain kind.Borrowed content t = (u : BorrowedContent) × (t ≡ tree.Borrowed u) × (cut content ≡ borrowed_words u)
Plain kind.RegionEffects content t = (e : EffectsContent) × (t ≡ tree.RegionEffects e) × IsEffects e × (cut content ≡ effects_words e)
Plain kind.Starts content t = (t ≡ tree.Starts) × (cut content ≡ Word (codes "nothing") ∷ [])
Plain kind.Vouch content t = (t ≡ tree.Vouch content) × IsVouch content
Plain kind.Promise content t = ⊥
Plain kind.Assume content t = ⊥

-- A content is `@P` and the last pieces, or `@P(text)` and the last pieces: it holds P with the text, which is
-- empty in the first case. The text may be any bytes; that the last pieces follow its `)` tells where it ends.
abbrev pub Holds : List ℕ → PromiseKind → List ℕ → List Piece → Type 0
Holds content inner text last =
    ((cut content ≡ Sign 64 ∷ Word (kind_text inner) ∷ last) × (text ≡ []))
    ⊎ ((name rest : List ℕ) × (content ≡ name ++ (40 ∷ (text ++ (41 ∷ rest)))) × (cut name ≡ Sign 64 ∷ Word (kind_text inner) ∷ []) × (cut rest ≡ last))

-- `@P for F` or `@P(text) for F`, where Inner says what P with the text spells
pub record Scoped (Inner : PromiseKind → List ℕ → PromiseTree → Type 0) (content : List ℕ) (t : PromiseTree) : Type 0 where
  pub inner_kind : PromiseKind
  pub text : List ℕ
  pub inner : PromiseTree
  pub scope : ScopeContent
  pub is : t ≡ tree.Promise inner scope
  pub lawful : IsScope scope
  pub holds : Holds content inner_kind text (Word (codes "for") ∷ scope_words scope)
  pub spells : Inner inner_kind text inner

-- `@P for M in N` or `@P(text) for M in N`, where Inner says what P with the text spells
pub record Assumed (Inner : PromiseKind → List ℕ → PromiseTree → Type 0) (content : List ℕ) (t : PromiseTree) : Type 0 where
  pub inner_kind : PromiseKind
  pub text : List ℕ
  pub inner : PromiseTree
  pub member : MemberContent
  pub digits : List ℕ
  pub is : t ≡ tree.Assume inner member
  pub lawful : IsMember member
  pub counted : IsCount digits member.count
  pub holds : Holds content inner_kind text (Word (codes "for") ∷ member_words member digits)
  pub spells : Inner inner_kind text inner

-- The content spells the tree, with so many promises that hold another one.
abbrev pub Nested : ℕ → PromiseKind → List ℕ → PromiseTree → Type 0
Nested zero k content t = Plain k content t
Nested (suc n) kind.Promise content t = Scoped (Nested n) content t
Nested (suc n) kind.Assume content t = Assumed (Nested n) content t
Nested (suc n) kind.Region content t = ⊥
Nested (suc n) kind.InRegion content t = ⊥
Nested (suc n) kind.RegionLock content t = ⊥
Nested (suc n) kind.RequiresLock content t = ⊥
Nested (suc n) kind.Unique content t = ⊥
Nested (suc n) kind.Borrowed content t = ⊥
Nested (suc n) kind.RegionEffects content t = ⊥
Nested (suc n) kind.Starts content t = ⊥
Nested (suc n) kind.Vouch content t = ⊥

-- The content spells the tree as a promise of that kind.
unfoldable pub ReadsPromise : PromiseKind → List ℕ → PromiseTree → Type 0
ReadsPromise k content t = (n : ℕ) × Nested n k content t

-- The answer to a content: the one tree that it spells, or Grammar, and then it spells none, or memory ran out.
abbrev pub IsAnswer : PromiseKind → List ℕ → Result PromiseTree PromiseError → Type 0
IsAnswer k content (Ok t) = ReadsPromise k content t × ((other : PromiseTree) → ReadsPromise k content other → other ≡ t)
IsAnswer k content (Err e) = e ≡ error.Grammar → (t : PromiseTree) → ReadsPromise k content t → ⊥
