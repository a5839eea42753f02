-- RegionEffects, Unique and Borrowed: what their readers find is spelled so, and what is spelled is found.
use Rattle.std.proofs.Common.{◌≡◌, ◌⊎◌, inl, inr, ◌<◌, Bool, true, false, cond, List, [], ◌∷◌, ◌++◌, length, codes, refl, sym, ap, ◌∙◌, append_assoc, append-nil, arith}
use Rattle.std.specs.List.{AllByRecursion}
use Rattle.promise_grammar.specs.declared.lock.LockItem.{LockItem}
use Rattle.promise_grammar.specs.declared.lock.LockItem.TheVariants as lock
use Rattle.promise_grammar.specs.declared.effects.EffectTarget.{EffectTarget}
use Rattle.promise_grammar.specs.declared.effects.EffectTarget.TheVariants as effect
use Rattle.promise_grammar.specs.declared.effects.EffectsContent.{EffectsContent}
use Rattle.promise_grammar.specs.declared.mark.UniqueContent.{UniqueContent}
use Rattle.promise_grammar.specs.declared.mark.UniqueContent.TheVariants as unique_at
use Rattle.promise_grammar.specs.declared.mark.BorrowedContent.{BorrowedContent}
use Rattle.promise_grammar.specs.declared.mark.BorrowedContent.TheVariants as borrowed_at
use Rattle.promise_grammar.specs.Piece.{Piece, Word, Sign}
use Rattle.promise_grammar.specs.Outcome.{Found, sees_word, sees_sign, eaten}
use Rattle.promise_grammar.specs.Form.{IsList, list_words, lock_item_words, IsLockItem, target_words, IsTarget, writes_words, both_words, effects_words, IsEffects, unique_words, borrowed_words}
use Rattle.promise_grammar.specs.Reading.{separated, lock_item, target, more_writes, both, effects, unique, borrowed}
use Rattle.promise_grammar.proofs.Steps.{then_found, pure_is, word_seen, eaten_word, eaten_sign, expected_word}
use Rattle.promise_grammar.proofs.Sound.{Begins, Sound, lock_item_found, target_found}
use Rattle.promise_grammar.proofs.Again.{lock_item_finds, target_finds}
use Rattle.promise_grammar.proofs.Lists.{separated_found, separated_finds}

-- ---- lists of locks and of targets

pub lock_items_found : Sound (list_words lock_item_words) (IsList IsLockItem) (separated lock_item)
lock_items_found = separated_found lock_item_words IsLockItem lock_item lock_item_found

some_lock : (x : LockItem) → 0 < length (lock_item_words x)
some_lock (lock.Bare name) = omega arith
some_lock (lock.This name) = omega arith
some_lock (lock.Of owner name) = omega arith

pub lock_items_find : (xs : List LockItem) → IsList IsLockItem xs → separated lock_item (list_words lock_item_words xs) ≡ Found xs []
lock_items_find xs is =
    ap (separated lock_item) (sym (append-nil (list_words lock_item_words xs)))
    ∙ separated_finds lock_item_words IsLockItem (λ ps. sees_sign 58 ps ≡ false) lock_item lock_item_finds (λ ps. refl) some_lock xs [] is refl refl

pub targets_found : Sound (list_words target_words) (IsList IsTarget) (separated target)
targets_found = separated_found target_words IsTarget target target_found

some_target : (x : EffectTarget) → 0 < length (target_words x)
some_target (effect.Bare region) = omega arith
some_target (effect.This region) = omega arith
some_target (effect.Of owner region) = omega arith
some_target (effect.Any class region) = omega arith

abbrev FreeOfTarget : List Piece → Type 0
FreeOfTarget ps = (sees_sign 58 ps ≡ false) × (sees_sign 40 ps ≡ false)

targets_find : (xs : List EffectTarget) (ps : List Piece) → IsList IsTarget xs → FreeOfTarget ps → sees_sign 44 ps ≡ false → separated target (list_words target_words xs ++ ps) ≡ Found xs ps
targets_find xs ps is free none =
    separated_finds target_words IsTarget FreeOfTarget target (λ x qs lawful free_there. target_finds x qs lawful free_there.0 free_there.1) (λ qs. (refl, refl)) some_target xs ps is free none

last_targets_find : (xs : List EffectTarget) → IsList IsTarget xs → separated target (list_words target_words xs) ≡ Found xs []
last_targets_find xs is = ap (separated target) (sym (append-nil (list_words target_words xs))) ∙ targets_find xs [] is (refl, refl) refl

-- ---- effects

reads_alone : (rs : List EffectTarget) → 0 < length rs → both_words rs [] ≡ Word (codes "reads") ∷ list_words target_words rs
reads_alone [] some = absurd (omega arith)
reads_alone (r ∷ rs) some = refl

writes_alone : (ws : List EffectTarget) → 0 < length ws → both_words [] ws ≡ writes_words ws
writes_alone [] some = absurd (omega arith)
writes_alone (w ∷ ws) some = refl

reads_and_writes : (rs ws : List EffectTarget) → 0 < length rs → 0 < length ws → both_words rs ws ≡ Word (codes "reads") ∷ (list_words target_words rs ++ (Sign 59 ∷ writes_words ws))
reads_and_writes [] ws some more = absurd (omega arith)
reads_and_writes (r ∷ rs) [] some more = absurd (omega arith)
reads_and_writes (r ∷ rs) (w ∷ ws) some more = refl

abbrev MoreWrites : List Piece → List EffectTarget → List Piece → Type 0
MoreWrites ps ws rest = ((ws ≡ []) × (ps ≡ rest)) ⊎ ((ps ≡ Sign 59 ∷ (writes_words ws ++ rest)) × IsList IsTarget ws)

more_writes_found : (ps : List Piece) (ws : List EffectTarget) (rest : List Piece) → more_writes ps ≡ Found ws rest → MoreWrites ps ws rest
unfolding more_writes
more_writes_found ps ws rest e =
    elim (eaten_sign 59 _ _ ps ws rest e) [
      | inl a ↦ (let w = expected_word (codes "writes") _ a.0 ws rest a.2 in
          let t = targets_found w.0 ws rest w.2 in
          inr (a.1 ∙ ap (λ (r : List Piece). Sign 59 ∷ r) (w.1 ∙ ap (λ (r : List Piece). Word (codes "writes") ∷ r) t.0), t.1))
      | inr b ↦ pure_is (λ (vs : List EffectTarget) (r : List Piece). MoreWrites ps vs r) [] ws ps rest b.1 (inl (refl, refl))
    ]

reads_found : (ps : List Piece) (rs ws : List EffectTarget) (mid rest : List Piece) → Begins (list_words target_words) (IsList IsTarget) ps rs mid → MoreWrites mid ws rest
    → Begins effects_words IsEffects (Word (codes "reads") ∷ ps) (both rs ws) rest
reads_found ps rs ws mid rest front (inl none) =
    let words : both_words rs ws ≡ Word (codes "reads") ∷ list_words target_words rs = ap (both_words rs) none.0 ∙ reads_alone rs front.1.some in
    let lawful : AllByRecursion IsTarget ws = rw none.0 tt in (
      ap (λ (r : List Piece). Word (codes "reads") ∷ r) (front.0 ∙ ap (λ (r : List Piece). list_words target_words rs ++ r) none.1) ∙ ap (λ (w : List Piece). w ++ rest) (sym words),
      record { reads = front.1.each; writes = lawful },
    )
reads_found ps rs ws mid rest front (inr some) =
    let words = reads_and_writes rs ws front.1.some some.1.some in (
      ap (λ (r : List Piece). Word (codes "reads") ∷ r)
          (front.0 ∙ ap (λ (r : List Piece). list_words target_words rs ++ r) some.0 ∙ sym (append_assoc (list_words target_words rs) (Sign 59 ∷ writes_words ws) rest))
          ∙ ap (λ (w : List Piece). w ++ rest) (sym words),
      record { reads = front.1.each; writes = some.1.each },
    )

pub effects_found : Sound effects_words IsEffects effects
unfolding effects
effects_found ps x rest e =
    let P : EffectsContent → List Piece → Type 0 = λ y r. Begins effects_words IsEffects ps y r in
    elim (eaten_word (codes "reads") _ _ ps x rest e) [
      | inl a ↦ (let rs = then_found (separated target a.0) _ x rest a.2 in
          let t = targets_found a.0 rs.0 rs.1 rs.2 in
          let ws = then_found (more_writes rs.1) _ x rest rs.3 in
          let m = more_writes_found rs.1 ws.0 ws.1 ws.2 in
          let all = reads_found a.0 rs.0 ws.0 rs.1 ws.1 t m in
          pure_is P (both rs.0 ws.0) x ws.1 rest ws.3 (a.1 ∙ all.0, all.1))
      | inr b ↦ elim (eaten_word (codes "writes") _ _ ps x rest b.1) [
        | inl a ↦ (let ws = then_found (separated target a.0) _ x rest a.2 in
            let t = targets_found a.0 ws.0 ws.1 ws.2 in
            pure_is P (both [] ws.0) x ws.1 rest ws.3
            (a.1 ∙ ap (λ (r : List Piece). Word (codes "writes") ∷ r) t.0 ∙ ap (λ (w : List Piece). w ++ ws.1) (sym (writes_alone ws.0 t.1.some)), record { reads = tt; writes = t.1.each }))
        | inr c ↦ (let n = expected_word (codes "none") _ ps x rest c.1 in
            pure_is P (both [] []) x n.0 rest n.2 (n.1, record { reads = tt; writes = tt }))
      ]
    ]

find_both : (rs ws : List EffectTarget) → AllByRecursion IsTarget rs → AllByRecursion IsTarget ws → effects (both_words rs ws) ≡ Found (both rs ws) []
unfolding effects more_writes
find_both [] [] is also = refl
find_both [] (w ∷ ws) is also =
    let some : 0 < length (w ∷ ws) = omega arith in
    rw (last_targets_find (w ∷ ws) (record { some = some; each = also })) refl
find_both (r ∷ rs) [] is also =
    let some : 0 < length (r ∷ rs) = omega arith in
    rw (last_targets_find (r ∷ rs) (record { some = some; each = is })) refl
find_both (r ∷ rs) (w ∷ ws) is also =
    let some : 0 < length (r ∷ rs) = omega arith in
    let more : 0 < length (w ∷ ws) = omega arith in
    rw (
      targets_find (r ∷ rs) (Sign 59 ∷ writes_words (w ∷ ws)) (record { some = some; each = is }) (refl, refl) refl,
      last_targets_find (w ∷ ws) (record { some = more; each = also }),
    ) refl

pub effects_find : (e : EffectsContent) → IsEffects e → effects (effects_words e) ≡ Found e []
effects_find e is = find_both e.reads e.writes is.reads is.writes

-- ---- marks

unique_by : (ps : List Piece) (t : Bool) → sees_word (codes "return") ps ≡ t → ps ≡ unique_words (cond t unique_at.Return unique_at.Place) ++ eaten t ps
unique_by ps true e = word_seen (codes "return") ps e
unique_by ps false e = refl

pub unique_found : (ps : List Piece) (u : UniqueContent) (rest : List Piece) → unique ps ≡ Found u rest → ps ≡ unique_words u ++ rest
unfolding unique
unique_found ps u rest e = pure_is (λ (v : UniqueContent) (r : List Piece). ps ≡ unique_words v ++ r) _ u _ rest e (unique_by ps (sees_word (codes "return") ps) refl)

pub unique_finds : (u : UniqueContent) → unique (unique_words u) ≡ Found u []
unfolding unique
unique_finds unique_at.Place = refl
unique_finds unique_at.Return = refl

borrowed_by : (ps : List Piece) (t : Bool) → sees_word (codes "this") ps ≡ t → ps ≡ borrowed_words (cond t borrowed_at.This borrowed_at.Place) ++ eaten t ps
borrowed_by ps true e = word_seen (codes "this") ps e
borrowed_by ps false e = refl

pub borrowed_found : (ps : List Piece) (u : BorrowedContent) (rest : List Piece) → borrowed ps ≡ Found u rest → ps ≡ borrowed_words u ++ rest
unfolding borrowed
borrowed_found ps u rest e = pure_is (λ (v : BorrowedContent) (r : List Piece). ps ≡ borrowed_words v ++ r) _ u _ rest e (borrowed_by ps (sees_word (codes "this") ps) refl)

pub borrowed_finds : (u : BorrowedContent) → borrowed (borrowed_words u) ≡ Found u []
unfolding borrowed
borrowed_finds borrowed_at.Place = refl
borrowed_finds borrowed_at.This = refl
