-- Readers of the forms, piece by piece from the front. What they read is stated apart, in Form.
use Rattle.std.specs.Prelude.{ℕ, zero, suc, Bool, true, false, if◌then◌else◌, ◌&&◌, List, [], ◌∷◌, ◌++◌, length, Option, Some, None, codes}
use Rattle.std.specs.Str.{bytes_eq}
use Rattle.promise_grammar.specs.declared.region.RegionContent.{RegionContent}
use Rattle.promise_grammar.specs.declared.region.Visibility.{Visibility}
use Rattle.promise_grammar.specs.declared.region.Visibility.TheVariants as visible
use Rattle.promise_grammar.specs.declared.lock.LockHolder.{LockHolder}
use Rattle.promise_grammar.specs.declared.lock.LockHolder.TheVariants as holding
use Rattle.promise_grammar.specs.declared.lock.RegionLockContent.{RegionLockContent}
use Rattle.promise_grammar.specs.declared.lock.LockItem.{LockItem}
use Rattle.promise_grammar.specs.declared.lock.LockItem.TheVariants as lock
use Rattle.promise_grammar.specs.declared.effects.EffectTarget.{EffectTarget}
use Rattle.promise_grammar.specs.declared.effects.EffectTarget.TheVariants as effect
use Rattle.promise_grammar.specs.declared.effects.EffectsContent.{EffectsContent}
use Rattle.promise_grammar.specs.declared.mark.UniqueContent.{UniqueContent}
use Rattle.promise_grammar.specs.declared.mark.UniqueContent.TheVariants as unique_at
use Rattle.promise_grammar.specs.declared.mark.BorrowedContent.{BorrowedContent}
use Rattle.promise_grammar.specs.declared.mark.BorrowedContent.TheVariants as borrowed_at
use Rattle.promise_grammar.specs.declared.scope.NamePattern.{NamePattern}
use Rattle.promise_grammar.specs.declared.scope.NamePattern.TheVariants as pattern_of
use Rattle.promise_grammar.specs.declared.scope.ScopeContent.{ScopeContent}
use Rattle.promise_grammar.specs.declared.scope.ScopeContent.TheVariants as scope_of
use Rattle.promise_grammar.specs.declared.member.MemberName.{MemberName}
use Rattle.promise_grammar.specs.declared.member.MemberName.TheVariants as member_of
use Rattle.promise_grammar.specs.declared.member.MemberContent.{MemberContent}
use Rattle.promise_grammar.specs.declared.kind.PromiseKind.{PromiseKind}
use Rattle.promise_grammar.specs.declared.kind.PromiseKind.TheVariants as kind
use Rattle.promise_grammar.specs.declared.layer.Layer.{Layer}
use Rattle.promise_grammar.specs.declared.layer.Layer.TheVariants as layer
use Rattle.promise_grammar.specs.declared.tree.PromiseTree.{PromiseTree}
use Rattle.promise_grammar.specs.declared.tree.PromiseTree.TheVariants as tree
use Rattle.promise_grammar.specs.Kind.{kind_named}
use Rattle.promise_grammar.specs.Word.{is_name}
use Rattle.promise_grammar.specs.Split.{first_split, closing_split}
use Rattle.promise_grammar.specs.Count.{count_of}
use Rattle.promise_grammar.specs.Piece.{Piece, cut}
use Rattle.promise_grammar.specs.Outcome.{Outcome, Found, Lost, Reader, is_over, ◌>>=◌, ◌>>◌, ◌<$>◌, pure, lost, settled, word, name, eat_word, eat_sign, expect_word, expect_sign}

-- ---- lists

-- The items up to the first that no comma follows. The number bounds how many are left to be read.
abbrev pub separated_from : {A : Type 0} → Reader A → ℕ → List A → Reader (List A)
separated_from item zero found = lost
separated_from item (suc n) found = do
  x ← item
  more ← eat_sign 44
  if more then separated_from item n (found ++ x ∷ []) else pure (found ++ x ∷ [])

unfoldable pub separated : {A : Type 0} → Reader A → Reader (List A)
separated item = λ ps. separated_from item (length ps) [] ps

-- ---- regions

unfoldable pub visibility : Reader (Option Visibility)
visibility = do
  is_public ← eat_word (codes "public")
  if is_public then pure (Some visible.Public) else (do
    is_protected ← eat_word (codes "protected")
    if is_protected then pure (Some visible.Protected) else (do
      is_private ← eat_word (codes "private")
      if is_private then pure (Some visible.Private) else pure None))

unfoldable pub parent : Reader (Option (List ℕ))
parent = do
  extends ← eat_word (codes "extends")
  if extends then Some <$> name else pure None

unfoldable pub region : Reader RegionContent
region = do
  v ← visibility
  s ← eat_word (codes "static")
  n ← name
  p ← parent
  pure (record { visibility = v; is_static = s; name = n; parent = p })

-- ---- locks

unfoldable pub this_holder : Reader LockHolder
this_holder = do
  dotted ← eat_sign 46
  if dotted then holding.ThisField <$> name else pure holding.This

unfoldable pub holder : Reader LockHolder
holder = do
  is_class ← eat_word (codes "class")
  if is_class then pure holding.Class else (do
    is_this ← eat_word (codes "this")
    if is_this then this_holder else holding.Field <$> name)

unfoldable pub region_lock : Reader RegionLockContent
region_lock = do
  n ← name
  expect_word (codes "is")
  h ← holder
  expect_word (codes "protects")
  r ← name
  pure (record { name = n; holder = h; region = r })

unfoldable pub lock_item : Reader LockItem
lock_item = do
  is_this ← eat_word (codes "this")
  if is_this then expect_sign 58 >> (lock.This <$> name) else (do
    first ← name
    more ← eat_sign 58
    if more then lock.Of first <$> name else pure (lock.Bare first))

-- ---- effects

unfoldable pub any_target : Reader EffectTarget
any_target = do
  class ← name
  expect_sign 41
  expect_sign 58
  effect.Any class <$> name

unfoldable pub named_target : List ℕ → Reader EffectTarget
named_target first = do
  opened ← eat_sign 40
  if opened then (if bytes_eq first (codes "any") then any_target else lost) else (do
    more ← eat_sign 58
    if more then effect.Of first <$> name else pure (effect.Bare first))

unfoldable pub target : Reader EffectTarget
target = do
  is_this ← eat_word (codes "this")
  if is_this then expect_sign 58 >> (effect.This <$> name) else (name >>= named_target)

unfoldable pub more_writes : Reader (List EffectTarget)
more_writes = do
  more ← eat_sign 59
  if more then expect_word (codes "writes") >> separated target else pure []

abbrev pub both : List EffectTarget → List EffectTarget → EffectsContent
both rs ws = record { reads = rs; writes = ws }

unfoldable pub effects : Reader EffectsContent
effects = do
  is_reading ← eat_word (codes "reads")
  if is_reading then (separated target >>= λ rs. both rs <$> more_writes) else (do
    is_writing ← eat_word (codes "writes")
    if is_writing then both [] <$> separated target else expect_word (codes "none") >> pure (both [] []))

-- ---- marks

unfoldable pub unique : Reader UniqueContent
unique = do
  returns ← eat_word (codes "return")
  pure (if returns then unique_at.Return else unique_at.Place)

unfoldable pub borrowed : Reader BorrowedContent
borrowed = do
  is_this ← eat_word (codes "this")
  pure (if is_this then borrowed_at.This else borrowed_at.Place)

-- ---- scopes

unfoldable pub exact_pattern : List ℕ → Option NamePattern
exact_pattern w = if is_name w then Some (pattern_of.Exactly w) else None

abbrev pub is_nil : List ℕ → Bool
is_nil [] = true
is_nil (b ∷ bs) = false

unfoldable pub starred_pattern : List ℕ → List ℕ → Option NamePattern
starred_pattern before after =
    if is_nil before && is_nil after then Some pattern_of.Any
    else (if is_name (before ++ after) then Some (pattern_of.Starred (before ++ after) (length before)) else None)

abbrev pub by_star : List ℕ → Option (List ℕ × List ℕ) → Option NamePattern
by_star w None = exact_pattern w
by_star w (Some p) = starred_pattern p.0 p.1

unfoldable pub pattern : List ℕ → Option NamePattern
pattern w = by_star w (first_split 42 w)

unfoldable pub constructors : Reader ScopeContent
constructors = do
  expect_sign 40
  expect_word (codes "**")
  expect_sign 41
  pure scope_of.Constructors

abbrev pub opened_members : NamePattern → Reader ScopeContent
opened_members p = do
  all ← eat_word (codes "**")
  if all then expect_sign 41 >> pure (scope_of.Methods p) else expect_sign 41 >> pure (scope_of.PlainMethods p)

unfoldable pub members : NamePattern → Reader ScopeContent
members p = do
  opened ← eat_sign 40
  if opened then opened_members p else pure (scope_of.Fields p)

unfoldable pub scope : Reader ScopeContent
scope = do
  w ← word
  if bytes_eq w (codes "new") then constructors else (settled (pattern w) >>= members)

-- ---- members

unfoldable pub member_name : Reader MemberName
member_name = do
  w ← word
  if bytes_eq w (codes "new") then pure member_of.New else (if is_name w then pure (member_of.Named w) else lost)

unfoldable pub member_count : Reader ℕ
member_count = do
  w ← word
  settled (count_of w)

unfoldable pub member : Reader MemberContent
member = do
  m ← member_name
  expect_sign 47
  n ← member_count
  expect_word (codes "in")
  k ← name
  pure (record { name = m; count = n; class = k })

-- ---- trees of a content's words

unfoldable pub tree_of : PromiseKind → Reader PromiseTree
tree_of kind.Region = tree.Region <$> region
tree_of kind.InRegion = tree.InRegion <$> name
tree_of kind.RegionLock = tree.RegionLock <$> region_lock
tree_of kind.RequiresLock = tree.RequiresLock <$> separated lock_item
tree_of kind.Unique = tree.Unique <$> unique
tree_of kind.Borrowed = tree.Borrowed <$> borrowed
tree_of kind.RegionEffects = tree.RegionEffects <$> effects
tree_of kind.Starts = expect_word (codes "nothing") >> pure tree.Starts
tree_of kind.Promise = lost
tree_of kind.Assume = lost
tree_of kind.Vouch = lost

-- what a reader finds, where nothing follows it
abbrev pub if_over : {A : Type 0} → Outcome A → Option A
if_over (Found a rest) = if is_over rest then Some a else None
if_over Lost = None

abbrev pub whole : {A : Type 0} → Reader A → List Piece → Option A
whole read ps = if_over (read ps)

unfoldable pub words_tree : PromiseKind → List ℕ → Option PromiseTree
words_tree k content = whole (tree_of k) (cut content)

-- ---- layers

unfoldable pub annotation : Reader PromiseKind
annotation = do
  expect_sign 64
  w ← word
  settled (kind_named w)

unfoldable pub tail : PromiseKind → Reader Layer
tail kind.Promise = expect_word (codes "for") >> (layer.Promise <$> scope)
tail kind.Assume = expect_word (codes "for") >> (layer.Assume <$> member)
tail kind.Region = lost
tail kind.InRegion = lost
tail kind.RegionLock = lost
tail kind.RequiresLock = lost
tail kind.Unique = lost
tail kind.Borrowed = lost
tail kind.RegionEffects = lost
tail kind.Starts = lost
tail kind.Vouch = lost

-- a layer, the kind of the promise in it, and that one's content
abbrev pub Opened : Type 0
Opened = Layer × PromiseKind × List ℕ

-- without a content
unfoldable pub bare : PromiseKind → Reader Opened
bare k = do
  inner ← annotation
  l ← tail k
  pure (l, inner, [])

abbrev pub closed_by : Option PromiseKind → List ℕ → Option Layer → Option Opened
closed_by None text l = None
closed_by (Some inner) text None = None
closed_by (Some inner) text (Some l) = Some (l, inner, text)

abbrev pub named_by : PromiseKind → List ℕ → Option (List ℕ × List ℕ) → Option Opened
named_by k rest None = None
named_by k rest (Some p) = closed_by (whole annotation (cut p.0)) p.1 (whole (tail k) (cut rest))

-- with a content in parentheses
unfoldable pub enclosing : PromiseKind → List ℕ → List ℕ → Option Opened
enclosing k front rest = named_by k rest (first_split 40 front)

abbrev pub opened_by : PromiseKind → List ℕ → Option (List ℕ × List ℕ) → Option Opened
opened_by k content None = whole (bare k) (cut content)
opened_by k content (Some p) = enclosing k p.0 p.1

unfoldable pub opened : PromiseKind → List ℕ → Option Opened
opened k content = opened_by k content (closing_split content)
