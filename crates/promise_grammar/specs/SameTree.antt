-- When two contents are the same: exactly where they are equal, whatever they hold.
use Rattle.std.specs.Prelude.{◌≡◌, ℕ, Bool, true, false, ◌&&◌, Option, Some, None, List, refl, if◌then◌else◌}
use Rattle.std.specs.Bool.{Decides}
use Rattle.std.specs.Cmp.{first_so, second_so}
use mathlib.Core.Path.{sym, ap, subst, ◌∙◌}
use mathlib.Core.Bool.{true≢false}
use Rattle.promise_grammar.specs.declared.lock.RegionLockContent.{RegionLockContent}
use Rattle.promise_grammar.specs.declared.lock.LockItem.{LockItem}
use Rattle.promise_grammar.specs.declared.region.RegionContent.{RegionContent}
use Rattle.promise_grammar.specs.declared.effects.EffectsContent.{EffectsContent}
use Rattle.promise_grammar.specs.declared.mark.UniqueContent.{UniqueContent}
use Rattle.promise_grammar.specs.declared.mark.BorrowedContent.{BorrowedContent}
use Rattle.promise_grammar.specs.declared.scope.ScopeContent.{ScopeContent}
use Rattle.promise_grammar.specs.declared.member.MemberContent.{MemberContent}
use Rattle.promise_grammar.specs.declared.tree.PromiseTree.{PromiseTree, out-PromiseTree, roll-PromiseTree, map-PromiseTree}
use Rattle.promise_grammar.specs.declared.tree.PromiseTree.TheOpen.{PromiseTree-F}
use Rattle.promise_grammar.specs.declared.tree.PromiseTree.TheFolds.{ind-PromiseTree, fold-PromiseTree, fold-roll-PromiseTree}
use Rattle.promise_grammar.specs.declared.tree.PromiseTree.TheViews.{out-roll-PromiseTree, roll-out-PromiseTree}
use Rattle.promise_grammar.specs.Same.{borrowed_decides, effects_decides, exact, items_decides, lock_decides, member_decides, name_decides, region_decides, same_borrowed, same_effects, same_items, same_lock, same_member, same_name, same_region, same_scope, same_unique, scope_decides, unique_decides}

-- ---- one layer

-- the content is of the kind and the same
abbrev pub is_region : RegionContent → PromiseTree-F PromiseTree → Bool
is_region x (PromiseTree-F.Region y) = same_region x y
is_region x _ = false

abbrev pub is_in_region : List ℕ → PromiseTree-F PromiseTree → Bool
is_in_region x (PromiseTree-F.InRegion y) = same_name x y
is_in_region x _ = false

abbrev pub is_lock : RegionLockContent → PromiseTree-F PromiseTree → Bool
is_lock x (PromiseTree-F.RegionLock y) = same_lock x y
is_lock x _ = false

abbrev pub is_required : List LockItem → PromiseTree-F PromiseTree → Bool
is_required x (PromiseTree-F.RequiresLock y) = same_items x y
is_required x _ = false

abbrev pub is_unique : UniqueContent → PromiseTree-F PromiseTree → Bool
is_unique x (PromiseTree-F.Unique y) = same_unique x y
is_unique x _ = false

abbrev pub is_borrowed : BorrowedContent → PromiseTree-F PromiseTree → Bool
is_borrowed x (PromiseTree-F.Borrowed y) = same_borrowed x y
is_borrowed x _ = false

abbrev pub is_effects : EffectsContent → PromiseTree-F PromiseTree → Bool
is_effects x (PromiseTree-F.RegionEffects y) = same_effects x y
is_effects x _ = false

abbrev pub is_starts : PromiseTree-F PromiseTree → Bool
is_starts PromiseTree-F.Starts = true
is_starts _ = false

abbrev pub is_vouch : List ℕ → PromiseTree-F PromiseTree → Bool
is_vouch x (PromiseTree-F.Vouch y) = same_name x y
is_vouch x _ = false

-- the content in a promise that is for the same, and in an assumption about the same member
abbrev pub scoped : ScopeContent → PromiseTree-F PromiseTree → Option PromiseTree
scoped x (PromiseTree-F.Promise inner y) = if same_scope x y then Some inner else None
scoped x _ = None

abbrev pub assumed : MemberContent → PromiseTree-F PromiseTree → Option PromiseTree
assumed x (PromiseTree-F.Assume inner y) = if same_member x y then Some inner else None
assumed x _ = None

-- ---- a tree

-- the test, at the content if there is one
abbrev pub at_inner : (PromiseTree → Bool) → Option PromiseTree → Bool
at_inner test None = false
at_inner test (Some inner) = test inner

-- one layer, where each inner content has its own test
abbrev pub same_layer : PromiseTree-F (PromiseTree → Bool) → PromiseTree-F PromiseTree → Bool
same_layer (PromiseTree-F.Region x) t = is_region x t
same_layer (PromiseTree-F.InRegion x) t = is_in_region x t
same_layer (PromiseTree-F.RegionLock x) t = is_lock x t
same_layer (PromiseTree-F.RequiresLock x) t = is_required x t
same_layer (PromiseTree-F.Unique x) t = is_unique x t
same_layer (PromiseTree-F.Borrowed x) t = is_borrowed x t
same_layer (PromiseTree-F.RegionEffects x) t = is_effects x t
same_layer PromiseTree-F.Starts t = is_starts t
same_layer (PromiseTree-F.Promise test x) t = at_inner test (scoped x t)
same_layer (PromiseTree-F.Assume test x) t = at_inner test (assumed x t)
same_layer (PromiseTree-F.Vouch x) t = is_vouch x t

abbrev pub tree_step : PromiseTree-F (PromiseTree → Bool) → PromiseTree → Bool
tree_step layer other = same_layer layer (out-PromiseTree other)

-- the two contents are the same
unfoldable pub same_tree : PromiseTree → PromiseTree → Bool
same_tree = fold-PromiseTree (PromiseTree → Bool) tree_step

-- ---- it holds exactly where they are equal

abbrev Told : PromiseTree → Type 0
Told a = (b : PromiseTree) → same_tree a b ≡ true → a ≡ b

module _ {S : Type 0} (get : S → PromiseTree) (told : (s : S) → Told (get s)) where
  scoped_to : (s : S) (x : ScopeContent) (t : PromiseTree-F PromiseTree) → at_inner (same_tree (get s)) (scoped x t) ≡ true → PromiseTree-F.Promise (get s) x ≡ t
  scoped_to s x (PromiseTree-F.Promise inner y) h = by (same_scope x y) refl h
    where
      by : (b : Bool) → same_scope x y ≡ b → at_inner (same_tree (get s)) (if b then Some inner else None) ≡ true → PromiseTree-F.Promise (get s) x ≡ PromiseTree-F.Promise inner y
      by true e k = let one = told s inner k in let other = (scope_decides x y).0 e in λ i. PromiseTree-F.Promise (one i) (other i)
      by false e k = absurd (true≢false (sym k))
  scoped_to s x _ h = absurd (true≢false (sym h))

  assumed_to : (s : S) (x : MemberContent) (t : PromiseTree-F PromiseTree) → at_inner (same_tree (get s)) (assumed x t) ≡ true → PromiseTree-F.Assume (get s) x ≡ t
  assumed_to s x (PromiseTree-F.Assume inner y) h = by (same_member x y) refl h
    where
      by : (b : Bool) → same_member x y ≡ b → at_inner (same_tree (get s)) (if b then Some inner else None) ≡ true → PromiseTree-F.Assume (get s) x ≡ PromiseTree-F.Assume inner y
      by true e k = let one = told s inner k in let other = (member_decides x y).0 e in λ i. PromiseTree-F.Assume (one i) (other i)
      by false e k = absurd (true≢false (sym k))
  assumed_to s x _ h = absurd (true≢false (sym h))

  layer_to : (y : PromiseTree-F S) (t : PromiseTree-F PromiseTree)
      → same_layer (map-PromiseTree PromiseTree (PromiseTree → Bool) same_tree (map-PromiseTree S PromiseTree get y)) t ≡ true → map-PromiseTree S PromiseTree get y ≡ t
  layer_to (PromiseTree-F.Region x) (PromiseTree-F.Region y) h = ap PromiseTree-F.Region ((region_decides x y).0 h)
  layer_to (PromiseTree-F.Region x) _ h = absurd (true≢false (sym h))
  layer_to (PromiseTree-F.InRegion x) (PromiseTree-F.InRegion y) h = ap PromiseTree-F.InRegion ((name_decides x y).0 h)
  layer_to (PromiseTree-F.InRegion x) _ h = absurd (true≢false (sym h))
  layer_to (PromiseTree-F.RegionLock x) (PromiseTree-F.RegionLock y) h = ap PromiseTree-F.RegionLock ((lock_decides x y).0 h)
  layer_to (PromiseTree-F.RegionLock x) _ h = absurd (true≢false (sym h))
  layer_to (PromiseTree-F.RequiresLock x) (PromiseTree-F.RequiresLock y) h = ap PromiseTree-F.RequiresLock ((items_decides x y).0 h)
  layer_to (PromiseTree-F.RequiresLock x) _ h = absurd (true≢false (sym h))
  layer_to (PromiseTree-F.Unique x) (PromiseTree-F.Unique y) h = ap PromiseTree-F.Unique ((unique_decides x y).0 h)
  layer_to (PromiseTree-F.Unique x) _ h = absurd (true≢false (sym h))
  layer_to (PromiseTree-F.Borrowed x) (PromiseTree-F.Borrowed y) h = ap PromiseTree-F.Borrowed ((borrowed_decides x y).0 h)
  layer_to (PromiseTree-F.Borrowed x) _ h = absurd (true≢false (sym h))
  layer_to (PromiseTree-F.RegionEffects x) (PromiseTree-F.RegionEffects y) h = ap PromiseTree-F.RegionEffects ((effects_decides x y).0 h)
  layer_to (PromiseTree-F.RegionEffects x) _ h = absurd (true≢false (sym h))
  layer_to PromiseTree-F.Starts PromiseTree-F.Starts h = refl
  layer_to PromiseTree-F.Starts _ h = absurd (true≢false (sym h))
  layer_to (PromiseTree-F.Promise s x) t h = scoped_to s x t h
  layer_to (PromiseTree-F.Assume s x) t h = assumed_to s x t h
  layer_to (PromiseTree-F.Vouch x) (PromiseTree-F.Vouch y) h = ap PromiseTree-F.Vouch ((name_decides x y).0 h)
  layer_to (PromiseTree-F.Vouch x) _ h = absurd (true≢false (sym h))

-- what the test of a tree is
pub same_roll : (layer : PromiseTree-F PromiseTree) (b : PromiseTree)
    → same_tree (roll-PromiseTree layer) b ≡ same_layer (map-PromiseTree PromiseTree (PromiseTree → Bool) same_tree layer) (out-PromiseTree b)
unfolding same_tree
same_roll layer b = ap (λ f. f b) (fold-roll-PromiseTree (PromiseTree → Bool) tree_step layer)

roll_to : {S : Type 0} (get : S → PromiseTree) (told : (s : S) → Told (get s)) (y : PromiseTree-F S) → Told (roll-PromiseTree (map-PromiseTree S PromiseTree get y))
roll_to {S} get told y b h =
    ap roll-PromiseTree (layer_to get told y (out-PromiseTree b) (sym (same_roll (map-PromiseTree S PromiseTree get y) b) ∙ h)) ∙ roll-out-PromiseTree b

tree_to : (a b : PromiseTree) → same_tree a b ≡ true → a ≡ b
tree_to = ind-PromiseTree Told (λ x y is. subst (λ f. Told (roll-PromiseTree f)) is (roll_to (λ s. s.0) (λ s. s.1) y))

abbrev Own : PromiseTree → Type 0
Own a = same_tree a a ≡ true

module _ {S : Type 0} (get : S → PromiseTree) (own : (s : S) → Own (get s)) where
  scoped_own : (s : S) (x : ScopeContent) → at_inner (same_tree (get s)) (scoped x (PromiseTree-F.Promise (get s) x)) ≡ true
  scoped_own s x = ap (λ (b : Bool). at_inner (same_tree (get s)) (if b then Some (get s) else None)) ((scope_decides x x).1 refl) ∙ own s

  assumed_own : (s : S) (x : MemberContent) → at_inner (same_tree (get s)) (assumed x (PromiseTree-F.Assume (get s) x)) ≡ true
  assumed_own s x = ap (λ (b : Bool). at_inner (same_tree (get s)) (if b then Some (get s) else None)) ((member_decides x x).1 refl) ∙ own s

  layer_own : (y : PromiseTree-F S)
      → same_layer (map-PromiseTree PromiseTree (PromiseTree → Bool) same_tree (map-PromiseTree S PromiseTree get y)) (map-PromiseTree S PromiseTree get y) ≡ true
  layer_own (PromiseTree-F.Region x) = (region_decides x x).1 refl
  layer_own (PromiseTree-F.InRegion x) = (name_decides x x).1 refl
  layer_own (PromiseTree-F.RegionLock x) = (lock_decides x x).1 refl
  layer_own (PromiseTree-F.RequiresLock x) = (items_decides x x).1 refl
  layer_own (PromiseTree-F.Unique x) = (unique_decides x x).1 refl
  layer_own (PromiseTree-F.Borrowed x) = (borrowed_decides x x).1 refl
  layer_own (PromiseTree-F.RegionEffects x) = (effects_decides x x).1 refl
  layer_own PromiseTree-F.Starts = refl
  layer_own (PromiseTree-F.Promise s x) = scoped_own s x
  layer_own (PromiseTree-F.Assume s x) = assumed_own s x
  layer_own (PromiseTree-F.Vouch x) = (name_decides x x).1 refl

roll_own : {S : Type 0} (get : S → PromiseTree) (own : (s : S) → Own (get s)) (y : PromiseTree-F S) → Own (roll-PromiseTree (map-PromiseTree S PromiseTree get y))
roll_own {S} get own y =
    let layer = map-PromiseTree S PromiseTree get y in
    same_roll layer (roll-PromiseTree layer)
    ∙ ap (same_layer (map-PromiseTree PromiseTree (PromiseTree → Bool) same_tree layer)) (out-roll-PromiseTree layer)
    ∙ layer_own get own y

tree_own : (a : PromiseTree) → same_tree a a ≡ true
tree_own = ind-PromiseTree Own (λ x y is. subst (λ f. Own (roll-PromiseTree f)) is (roll_own (λ s. s.0) (λ s. s.1) y))

pub tree_decides : (a b : PromiseTree) → Decides (same_tree a b) (a ≡ b)
tree_decides = exact same_tree tree_to tree_own

-- what is left to compare, by the layer that comes next
pub same_next : (tree like one other : PromiseTree) (layer : PromiseTree-F PromiseTree) → same_tree tree like ≡ same_tree one other → one ≡ roll-PromiseTree layer
    → same_tree tree like ≡ same_layer (map-PromiseTree PromiseTree (PromiseTree → Bool) same_tree layer) (out-PromiseTree other)
same_next tree like one other layer so is = so ∙ ap (λ t. same_tree t other) is ∙ same_roll layer other
