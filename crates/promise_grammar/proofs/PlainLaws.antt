-- Contents that hold no other promise: what is found is spelled, and what is spelled is found.
use Rattle.std.proofs.Common.{◌≡◌, ℕ, List, [], ◌∷◌, Some, None, Result, Ok, Err, codes, refl, sym, ap, ◌∙◌, append-nil}
use Rattle.promise_grammar.specs.declared.error.PromiseError.{PromiseError}
use Rattle.promise_grammar.specs.declared.kind.PromiseKind.{PromiseKind}
use Rattle.promise_grammar.specs.declared.kind.PromiseKind.TheVariants as kind
use Rattle.promise_grammar.specs.declared.tree.PromiseTree.{PromiseTree}
use Rattle.promise_grammar.specs.declared.tree.PromiseTree.TheVariants as tree
use Rattle.promise_grammar.specs.Piece.{Piece, Word, cut}
use Rattle.promise_grammar.specs.Outcome.{Outcome, Found, Lost, Reader, and_then, pure, name, Answers}
use Rattle.promise_grammar.specs.Form.{region_words, region_lock_words, list_words, lock_item_words, unique_words, borrowed_words, effects_words}
use Rattle.promise_grammar.specs.Reading.{if_over, whole, tree_of, words_tree, region, region_lock, separated, lock_item, unique, borrowed, effects}
use Rattle.promise_grammar.specs.Promise.{Plain}
use Rattle.promise_grammar.specs.Peeling.{PlainAnswer}
use Rattle.promise_grammar.proofs.Steps.{then_found, name_found, name_finds, expected_word}
use Rattle.promise_grammar.proofs.Sound.{region_found, region_lock_found}
use Rattle.promise_grammar.proofs.Again.{region_finds, region_lock_finds}
use Rattle.promise_grammar.proofs.EffectLaws.{lock_items_found, lock_items_find, effects_found, effects_find, unique_found, unique_finds, borrowed_found, borrowed_finds}

over_is : {A : Type 0} (o : Outcome A) (a : A) → if_over o ≡ Some a → o ≡ Found a []
over_is (Found x []) a e = let same : x ≡ a = cc in ap (λ y. Found y []) same
over_is (Found x (p ∷ ps)) a e = cc
over_is Lost a e = cc

pub whole_is : {A : Type 0} (read : Reader A) (ps : List Piece) (a : A) → whole read ps ≡ Some a → read ps ≡ Found a []
whole_is read ps a e = over_is (read ps) a e

pub mapped_found : {A B : Type 0} (make : A → B) (o : Outcome A) (y : B) → and_then o (λ x. pure (make x)) ≡ Found y [] → (x : A) × (o ≡ Found x []) × (y ≡ make x)
mapped_found make o y e =
    let s = then_found o (λ x. pure (make x)) y [] e in
    let same : make s.0 ≡ y = cc in
    let over : s.1 ≡ [] = cc in
    (s.0, s.2 ∙ ap (λ (ps : List Piece). Found s.0 ps) over, sym same)

pub plain_found : (k : PromiseKind) (content : List ℕ) (t : PromiseTree) → words_tree k content ≡ Some t → Plain k content t
unfolding words_tree tree_of
plain_found kind.Region content t e =
    let m = mapped_found tree.Region (region (cut content)) t (whole_is (tree_of kind.Region) (cut content) t e) in
    let s = region_found (cut content) m.0 [] m.1 in
    (m.0, m.2, s.1, s.0 ∙ append-nil (region_words m.0))
plain_found kind.InRegion content t e =
    let m = mapped_found tree.InRegion (name (cut content)) t (whole_is (tree_of kind.InRegion) (cut content) t e) in
    let s = name_found (cut content) m.0 [] m.1 in
    (m.0, m.2, s.1, s.0)
plain_found kind.RegionLock content t e =
    let m = mapped_found tree.RegionLock (region_lock (cut content)) t (whole_is (tree_of kind.RegionLock) (cut content) t e) in
    let s = region_lock_found (cut content) m.0 [] m.1 in
    (m.0, m.2, s.1, s.0 ∙ append-nil (region_lock_words m.0))
plain_found kind.RequiresLock content t e =
    let m = mapped_found tree.RequiresLock (separated lock_item (cut content)) t (whole_is (tree_of kind.RequiresLock) (cut content) t e) in
    let s = lock_items_found (cut content) m.0 [] m.1 in
    (m.0, m.2, s.1, s.0 ∙ append-nil (list_words lock_item_words m.0))
plain_found kind.Unique content t e =
    let m = mapped_found tree.Unique (unique (cut content)) t (whole_is (tree_of kind.Unique) (cut content) t e) in
    (m.0, m.2, unique_found (cut content) m.0 [] m.1 ∙ append-nil (unique_words m.0))
plain_found kind.Borrowed content t e =
    let m = mapped_found tree.Borrowed (borrowed (cut content)) t (whole_is (tree_of kind.Borrowed) (cut content) t e) in
    (m.0, m.2, borrowed_found (cut content) m.0 [] m.1 ∙ append-nil (borrowed_words m.0))
plain_found kind.RegionEffects content t e =
    let m = mapped_found tree.RegionEffects (effects (cut content)) t (whole_is (tree_of kind.RegionEffects) (cut content) t e) in
    let s = effects_found (cut content) m.0 [] m.1 in
    (m.0, m.2, s.1, s.0 ∙ append-nil (effects_words m.0))
plain_found kind.Starts content t e =
    let s = expected_word (codes "nothing") (pure tree.Starts) (cut content) t [] (whole_is (tree_of kind.Starts) (cut content) t e) in
    let same : tree.Starts ≡ t = cc in
    let over : s.0 ≡ [] = cc in
    (sym same, s.1 ∙ ap (λ (ps : List Piece). Word (codes "nothing") ∷ ps) over)
plain_found kind.Promise content t e = cc
plain_found kind.Assume content t e = cc
plain_found kind.Vouch content t e = cc

pub plain_finds : (k : PromiseKind) (content : List ℕ) (t : PromiseTree) → (k ≡ kind.Vouch → ⊥) → Plain k content t → words_tree k content ≡ Some t
unfolding words_tree tree_of
plain_finds kind.Region content t other p = rw (p.3, region_finds p.0 p.2, p.1) refl
plain_finds kind.InRegion content t other p = rw (p.3, name_finds p.0 [] p.2, p.1) refl
plain_finds kind.RegionLock content t other p = rw (p.3, region_lock_finds p.0 p.2, p.1) refl
plain_finds kind.RequiresLock content t other p = rw (p.3, lock_items_find p.0 p.2, p.1) refl
plain_finds kind.Unique content t other p = rw (p.2, unique_finds p.0, p.1) refl
plain_finds kind.Borrowed content t other p = rw (p.2, borrowed_finds p.0, p.1) refl
plain_finds kind.RegionEffects content t other p = rw (p.3, effects_find p.0 p.2, p.1) refl
plain_finds kind.Starts content t other p = rw (p.1, p.0) refl
plain_finds kind.Promise content t other p = absurd p
plain_finds kind.Assume content t other p = absurd p
plain_finds kind.Vouch content t other p = absurd (other refl)

-- what is found is the one tree that is spelled
pub plain_answer : (k : PromiseKind) (content : List ℕ) (r : Result PromiseTree PromiseError) → (k ≡ kind.Vouch → ⊥) → Answers (words_tree k content) r → PlainAnswer k content r
plain_answer k content (Ok t) other e =
    (plain_found k content t e, λ (u : PromiseTree) p. let again = plain_finds k content u other p in cc)
plain_answer k content (Err f) other e = λ g t p. let none : words_tree k content ≡ None = e g in let again = plain_finds k content t other p in cc
