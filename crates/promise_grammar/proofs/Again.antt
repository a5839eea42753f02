-- What is spelled is found again by the form's reader.
use Rattle.std.proofs.Common.{◌≡◌, ℕ, Bool, true, false, List, [], ◌∷◌, ◌++◌, Option, Some, None, IfSome, codes, refl}
use Rattle.promise_grammar.specs.declared.region.RegionContent.{RegionContent}
use Rattle.promise_grammar.specs.declared.region.Visibility.{Visibility}
use Rattle.promise_grammar.specs.declared.region.Visibility.TheVariants as visible
use Rattle.promise_grammar.specs.declared.lock.LockHolder.{LockHolder}
use Rattle.promise_grammar.specs.declared.lock.LockHolder.TheVariants as holding
use Rattle.promise_grammar.specs.declared.lock.RegionLockContent.{RegionLockContent}
use Rattle.promise_grammar.specs.declared.lock.LockItem.{LockItem}
use Rattle.promise_grammar.specs.declared.lock.LockItem.TheVariants as lock
use Rattle.promise_grammar.specs.declared.effects.EffectTarget.{EffectTarget}
use Rattle.promise_grammar.specs.declared.effects.EffectTarget.TheVariants as effect
use Rattle.promise_grammar.specs.Piece.{Piece, Word, Sign}
use Rattle.promise_grammar.specs.Word.{is_reserved, is_name}
use Rattle.promise_grammar.specs.Outcome.{Found, sees_word, sees_sign, eaten}
use Rattle.promise_grammar.specs.Form.{IsName, visibility_words, static_words, parent_words, region_words, IsRegion, holder_words, IsHolder, region_lock_words, IsRegionLock, lock_item_words, IsLockItem, target_words, IsTarget}
use Rattle.promise_grammar.specs.Reading.{visibility, parent, region, this_holder, holder, region_lock, lock_item, any_target, named_target, target}
use Rattle.promise_grammar.proofs.Steps.{name_finds, name_apart}

-- the words that a reader looks for where a name may stand are reserved
public_reserved : is_reserved (codes "public") ≡ true
unfolding is_reserved
public_reserved = refl

protected_reserved : is_reserved (codes "protected") ≡ true
unfolding is_reserved
protected_reserved = refl

private_reserved : is_reserved (codes "private") ≡ true
unfolding is_reserved
private_reserved = refl

static_reserved : is_reserved (codes "static") ≡ true
unfolding is_reserved
static_reserved = refl

pub this_reserved : is_reserved (codes "this") ≡ true
unfolding is_reserved
this_reserved = refl

class_reserved : is_reserved (codes "class") ≡ true
unfolding is_reserved
class_reserved = refl

-- ---- Region

visibility_finds : (v : Option Visibility) (b : Bool) (n : List ℕ) (ps : List Piece) → IsName n
    → visibility (visibility_words v ++ (static_words b ++ (Word n ∷ ps))) ≡ Found v (static_words b ++ (Word n ∷ ps))
unfolding visibility
visibility_finds (Some visible.Public) b n ps is = refl
visibility_finds (Some visible.Protected) b n ps is = refl
visibility_finds (Some visible.Private) b n ps is = refl
visibility_finds None true n ps is = refl
visibility_finds None false n ps is = rw (name_apart n (codes "public") is public_reserved, name_apart n (codes "protected") is protected_reserved, name_apart n (codes "private") is private_reserved) refl

static_finds : (b : Bool) (n : List ℕ) (ps : List Piece) → IsName n
    → (sees_word (codes "static") (static_words b ++ (Word n ∷ ps)) ≡ b) × (eaten b (static_words b ++ (Word n ∷ ps)) ≡ Word n ∷ ps)
static_finds true n ps is = (refl, refl)
static_finds false n ps is = (name_apart n (codes "static") is static_reserved, refl)

parent_finds : (p : Option (List ℕ)) → IfSome p IsName → parent (parent_words p) ≡ Found p []
unfolding parent
parent_finds None is = refl
parent_finds (Some n) is = rw (name_finds n [] is) refl

pub region_finds : (r : RegionContent) → IsRegion r → region (region_words r) ≡ Found r []
unfolding region
region_finds r is =
    let s = static_finds r.is_static r.name (parent_words r.parent) is.name in
    rw (visibility_finds r.visibility r.is_static r.name (parent_words r.parent) is.name, s.0, s.1, name_finds r.name (parent_words r.parent) is.name, parent_finds r.parent is.parent) refl

-- ---- RegionLock

pub holder_finds : (h : LockHolder) (w : List ℕ) (ps : List Piece) → IsHolder h → holder (holder_words h ++ (Word w ∷ ps)) ≡ Found h (Word w ∷ ps)
unfolding holder this_holder
holder_finds holding.This w ps is = refl
holder_finds holding.Class w ps is = refl
holder_finds (holding.Field n) w ps is = rw (name_apart n (codes "class") is class_reserved, name_apart n (codes "this") is this_reserved, name_finds n (Word w ∷ ps) is) refl
holder_finds (holding.ThisField n) w ps is = rw (name_finds n (Word w ∷ ps) is) refl

pub region_lock_finds : (r : RegionLockContent) → IsRegionLock r → region_lock (region_lock_words r) ≡ Found r []
unfolding region_lock
region_lock_finds r is =
    rw (
      name_finds r.name (Word (codes "is") ∷ (holder_words r.holder ++ (Word (codes "protects") ∷ Word r.region ∷ []))) is.name,
      holder_finds r.holder (codes "protects") (Word r.region ∷ []) is.holder,
      name_finds r.region [] is.region,
    ) refl

-- ---- RequiresLock

pub lock_item_finds : (x : LockItem) (ps : List Piece) → IsLockItem x → sees_sign 58 ps ≡ false → lock_item (lock_item_words x ++ ps) ≡ Found x ps
unfolding lock_item
lock_item_finds (lock.Bare n) ps is none = rw (name_apart n (codes "this") is this_reserved, name_finds n ps is, none) refl
lock_item_finds (lock.This n) ps is none = rw (name_finds n ps is) refl
lock_item_finds (lock.Of o n) ps is none = rw (name_apart o (codes "this") is.0 this_reserved, name_finds o (Sign 58 ∷ Word n ∷ ps) is.0, name_finds n ps is.1) refl

-- ---- RegionEffects

any_name : IsName (codes "any")
unfolding is_name is_reserved
any_name = refl

pub target_finds : (x : EffectTarget) (ps : List Piece) → IsTarget x → sees_sign 58 ps ≡ false → sees_sign 40 ps ≡ false → target (target_words x ++ ps) ≡ Found x ps
unfolding target named_target any_target
target_finds (effect.Bare n) ps is none closed = rw (name_apart n (codes "this") is this_reserved, name_finds n ps is, closed, none) refl
target_finds (effect.This n) ps is none closed = rw (name_finds n ps is) refl
target_finds (effect.Of o n) ps is none closed = rw (name_apart o (codes "this") is.0 this_reserved, name_finds o (Sign 58 ∷ Word n ∷ ps) is.0, name_finds n ps is.1) refl
target_finds (effect.Any k n) ps is none closed =
    rw (name_finds (codes "any") (Sign 40 ∷ Word k ∷ Sign 41 ∷ Sign 58 ∷ Word n ∷ ps) any_name, name_finds k (Sign 41 ∷ Sign 58 ∷ Word n ∷ ps) is.0, name_finds n ps is.1) refl
