-- Lists: a turn of their reader, and what it finds.
use Rattle.std.proofs.Common.{◌≡◌, inl, inr, ℕ, zero, suc, ◌<◌, ◌≤◌, true, false, List, [], ◌∷◌, ◌++◌, length, refl, sym, ap, ◌∙◌, subst, append_assoc, append-nil, arith, length-append}
use Rattle.std.specs.List.{AllByRecursion}
use Rattle.promise_grammar.specs.declared.lock.LockItem.{LockItem}
use Rattle.promise_grammar.specs.declared.lock.LockItem.TheVariants as lock
use Rattle.promise_grammar.specs.declared.effects.EffectTarget.{EffectTarget}
use Rattle.promise_grammar.specs.declared.effects.EffectTarget.TheVariants as effect
use Rattle.promise_grammar.specs.Piece.{Piece, Sign}
use Rattle.promise_grammar.specs.Outcome.{Outcome, Found, Lost, Reader, pure, sees_sign, after, eaten}
use Rattle.promise_grammar.specs.Form.{lock_item_words, target_words, later_words, list_words, IsList}
use Rattle.promise_grammar.specs.Reading.{separated_from, separated, lock_item, target}
use Rattle.promise_grammar.proofs.Steps.{then_found, pure_is, eaten_sign}
use Rattle.promise_grammar.proofs.Sound.{Begins, Sound, lock_item_found, target_found}

-- what an item takes is never nothing
abbrev pub Shrinks : {A : Type 0} → Reader A → Type 0
Shrinks {A} item = (ps : List Piece) (x : A) (mid : List Piece) → item ps ≡ Found x mid → length mid < length ps

lock_item_takes : (x : LockItem) (rest : List Piece) → length rest < length (lock_item_words x ++ rest)
lock_item_takes (lock.Bare name) rest = omega arith
lock_item_takes (lock.This name) rest = omega arith
lock_item_takes (lock.Of owner name) rest = omega arith

pub lock_item_shrinks : Shrinks lock_item
lock_item_shrinks ps x mid e = rw (lock_item_found ps x mid e).0 (lock_item_takes x mid)

target_takes : (x : EffectTarget) (rest : List Piece) → length rest < length (target_words x ++ rest)
target_takes (effect.Bare region) rest = omega arith
target_takes (effect.This region) rest = omega arith
target_takes (effect.Of owner region) rest = omega arith
target_takes (effect.Any class region) rest = omega arith

pub target_shrinks : Shrinks target
target_shrinks ps x mid e = rw (target_found ps x mid e).0 (target_takes x mid)

eaten_shrinks : (ps : List Piece) → sees_sign 44 ps ≡ true → length (eaten true ps) < length ps
eaten_shrinks [] e = cc
eaten_shrinks (p ∷ ps) e = omega arith

-- one turn, where a comma follows the item
goes_on_from : {A : Type 0} (item : Reader A) → Shrinks item → (n : ℕ) (found : List A) (ps : List Piece) (x : A) (mid : List Piece)
    → length ps ≤ n → item ps ≡ Found x mid → sees_sign 44 mid ≡ true
    → (length (after mid) < length ps) × ((m : ℕ) × (length (after mid) ≤ m) × (separated_from item n found ps ≡ separated_from item m (found ++ x ∷ []) (after mid)))
goes_on_from item shrinks zero found ps x mid room e seen = let less = shrinks ps x mid e in absurd (omega arith)
goes_on_from item shrinks (suc n) found ps x mid room e seen =
    let less : length mid < length ps = shrinks ps x mid e in
    let fewer : length (after mid) < length mid = eaten_shrinks mid seen in
    let shorter : length (after mid) < length ps = omega arith in
    let left : length (after mid) ≤ n = omega arith in
    (shorter, (n, left, rw (e, seen) refl))

-- what a list's loop keeps, from the outcome of the whole list on
abbrev pub Keeps : {A : Type 0} → Reader A → Outcome (List A) → List A → List Piece → Type 0
Keeps item start found ps = (n : ℕ) × (length ps ≤ n) × (start ≡ separated_from item n found ps)

pub goes_on : {A : Type 0} (item : Reader A) → Shrinks item → (start : Outcome (List A)) (found more : List A) (ps : List Piece) (x : A) (mid new : List Piece)
    → Keeps item start found ps → item ps ≡ Found x mid → sees_sign 44 mid ≡ true → new ≡ eaten (sees_sign 44 mid) mid → more ≡ found ++ x ∷ []
    → (length new < length ps) × Keeps item start more new
goes_on {A} item shrinks start found more ps x mid new keeps e seen left all =
    let go = goes_on_from item shrinks keeps.0 found ps x mid keeps.1 e seen in
    let is : new ≡ after mid = left ∙ ap (λ t. eaten t mid) seen in
    let shorter : length new < length ps = rw is go.0 in
    let room : length new ≤ go.1.0 = rw is go.1.1 in
    (shorter, (go.1.0, room, keeps.2 ∙ go.1.2 ∙ ap (λ (ys : List A). separated_from item go.1.0 ys (after mid)) (sym all) ∙ ap (λ (qs : List Piece). separated_from item go.1.0 more qs) (sym is)))

-- the last turn, where no comma follows
ends_from : {A : Type 0} (item : Reader A) → Shrinks item → (n : ℕ) (found : List A) (ps : List Piece) (x : A) (mid : List Piece)
    → length ps ≤ n → item ps ≡ Found x mid → sees_sign 44 mid ≡ false → separated_from item n found ps ≡ Found (found ++ x ∷ []) mid
ends_from item shrinks zero found ps x mid room e seen = let less = shrinks ps x mid e in absurd (omega arith)
ends_from item shrinks (suc n) found ps x mid room e seen = rw (e, seen) refl

pub ends : {A : Type 0} (item : Reader A) → Shrinks item → (start : Outcome (List A)) (found more : List A) (ps : List Piece) (x : A) (mid new : List Piece)
    → Keeps item start found ps → item ps ≡ Found x mid → sees_sign 44 mid ≡ false → new ≡ eaten (sees_sign 44 mid) mid → more ≡ found ++ x ∷ []
    → start ≡ Found more new
ends {A} item shrinks start found more ps x mid new keeps e seen left all =
    let is : new ≡ mid = left ∙ ap (λ t. eaten t mid) seen in
    let last = ends_from item shrinks keeps.0 found ps x mid keeps.1 e seen in
    keeps.2 ∙ last ∙ ap (λ (ys : List A). Found ys mid) (sym all) ∙ ap (λ (qs : List Piece). Found more qs) (sym is)

fails_from : {A : Type 0} (item : Reader A) (n : ℕ) (found : List A) (ps : List Piece) → item ps ≡ Lost → separated_from item n found ps ≡ Lost
fails_from item zero found ps e = refl
fails_from item (suc n) found ps e = rw e refl

pub fails : {A : Type 0} (item : Reader A) (start : Outcome (List A)) (found : List A) (ps : List Piece) → Keeps item start found ps → item ps ≡ Lost → start ≡ Lost
fails item start found ps keeps e = keeps.2 ∙ fails_from item keeps.0 found ps e

-- ---- what a list's reader finds is a list

-- the list so far, and what is found next
joined_list : {A : Type 0} (words : A → List Piece) (found : List A) (x : A) (ys : List A) (rest : List Piece)
    → words x ++ (later_words words ys ++ rest) ≡ list_words words (x ∷ ys) ++ rest
joined_list words found x ys rest = sym (append_assoc (words x) (later_words words ys) rest)

abbrev FoundList : {A : Type 0} → (A → List Piece) → (A → Type 0) → List A → List Piece → List A → List Piece → Type 0
FoundList {A} words Is found ps xs rest = (x : A) × (ys : List A) × (xs ≡ found ++ (x ∷ ys)) × (ps ≡ list_words words (x ∷ ys) ++ rest) × Is x × AllByRecursion Is ys

separated_from_found : {A : Type 0} (words : A → List Piece) (Is : A → Type 0) (item : Reader A) → Sound words Is item
    → (n : ℕ) (found : List A) (ps : List Piece) (xs : List A) (rest : List Piece) → separated_from item n found ps ≡ Found xs rest → FoundList words Is found ps xs rest
separated_from_found words Is item sound zero found ps xs rest e = cc
separated_from_found {A} words Is item sound (suc n) found ps xs rest e =
    let s = then_found (item ps) _ xs rest e in
    let x : A = s.0 in
    let is = sound ps x s.1 s.2 in
    let P : List A → List Piece → Type 0 = λ ys r. FoundList words Is found ps ys r in
    elim (eaten_sign 44 (separated_from item n (found ++ x ∷ [])) (pure (found ++ x ∷ [])) s.1 xs rest s.3) [
      | inl a ↦ (let t = separated_from_found words Is item sound n (found ++ x ∷ []) a.0 xs rest a.2 in (
        x,
        t.0 ∷ t.1,
        t.2 ∙ append_assoc found (x ∷ []) (t.0 ∷ t.1),
        is.0 ∙ ap (λ (r : List Piece). words x ++ r) (a.1 ∙ ap (λ (r : List Piece). Sign 44 ∷ r) t.3) ∙ sym (append_assoc (words x) (later_words words (t.0 ∷ t.1)) rest),
        is.1,
        (t.4, t.5),
      ))
      | inr b ↦ pure_is P (found ++ x ∷ []) xs s.1 rest b.1 (x, [], refl, is.0 ∙ ap (λ (w : List Piece). w ++ s.1) (sym (append-nil (words x))), is.1, tt)
    ]

pub separated_found : {A : Type 0} (words : A → List Piece) (Is : A → Type 0) (item : Reader A) → Sound words Is item → Sound (list_words words) (IsList Is) (separated item)
unfolding separated
separated_found {A} words Is item sound ps xs rest e =
    let t = separated_from_found words Is item sound (length ps) [] ps xs rest e in
    let whole : (t.0 ∷ t.1) ≡ xs = sym t.2 in
    let some : 0 < length (t.0 ∷ t.1) = omega arith in
    let all : IsList Is (t.0 ∷ t.1) = record { some = some; each = (t.4, t.5) } in
    subst (λ (ys : List A). Begins (list_words words) (IsList Is) ps ys rest) whole (t.3, all)

-- ---- a list is found

-- the item's reader finds what is spelled, whatever follows that isn't one of the signs that go on
abbrev pub Finds : {A : Type 0} → (A → List Piece) → (A → Type 0) → (List Piece → Type 0) → Reader A → Type 0
Finds {A} words Is Free item = (x : A) (ps : List Piece) → Is x → Free ps → item (words x ++ ps) ≡ Found x ps

separated_from_finds : {A : Type 0} (words : A → List Piece) (Is : A → Type 0) (Free : List Piece → Type 0) (item : Reader A) → Finds words Is Free item
    → ((ps : List Piece) → Free (Sign 44 ∷ ps)) → (xs : List A) (n : ℕ) (found : List A) (x : A) (ps : List Piece)
    → length xs < n → Is x → AllByRecursion Is xs → Free ps → sees_sign 44 ps ≡ false → separated_from item n found (words x ++ (later_words words xs ++ ps)) ≡ Found (found ++ (x ∷ xs)) ps
separated_from_finds words Is Free item finds comma xs zero found x ps room is each free none = absurd (omega arith)
separated_from_finds words Is Free item finds comma [] (suc n) found x ps room is each free none = rw (finds x ps is free, none) refl
separated_from_finds {A} words Is Free item finds comma (y ∷ ys) (suc n) found x ps room is each free none =
    let rest : List Piece = words y ++ (later_words words ys ++ ps) in
    let left : length ys < n = omega arith in
    let again = separated_from_finds words Is Free item finds comma ys n (found ++ x ∷ []) y ps left each.0 each.1 free none in
    let group : (words y ++ later_words words ys) ++ ps ≡ rest = append_assoc (words y) (later_words words ys) ps in
    rw (group, finds x (Sign 44 ∷ rest) is (comma rest)) (again ∙ ap (λ (zs : List A). Found zs ps) (append_assoc found (x ∷ []) (y ∷ ys)))

later_len : {A : Type 0} (words : A → List Piece) (xs : List A) (ps : List Piece) → length xs ≤ length (later_words words xs ++ ps)
later_len words [] ps = omega arith
later_len words (x ∷ xs) ps =
    let e = append_assoc (words x) (later_words words xs) ps in
    let n = length-append (words x) (later_words words xs ++ ps) in
    let less = later_len words xs ps in
    rw e (omega (arith, n, less))

pub separated_finds : {A : Type 0} (words : A → List Piece) (Is : A → Type 0) (Free : List Piece → Type 0) (item : Reader A) → Finds words Is Free item
    → ((ps : List Piece) → Free (Sign 44 ∷ ps)) → ((x : A) → 0 < length (words x))
    → (xs : List A) (ps : List Piece) → IsList Is xs → Free ps → sees_sign 44 ps ≡ false → separated item (list_words words xs ++ ps) ≡ Found xs ps
unfolding separated
separated_finds words Is Free item finds comma some [] ps is free none = let h = is.some in absurd (omega arith)
separated_finds {A} words Is Free item finds comma some (x ∷ xs) ps is free none =
    let group : (words x ++ later_words words xs) ++ ps ≡ words x ++ (later_words words xs ++ ps) = append_assoc (words x) (later_words words xs) ps in
    let n = length-append (words x) (later_words words xs ++ ps) in
    let first = some x in
    let less = later_len words xs ps in
    let room : length xs < length (words x ++ (later_words words xs ++ ps)) = omega (arith, n, first, less) in
    rw group (separated_from_finds words Is Free item finds comma xs (length (words x ++ (later_words words xs ++ ps))) [] x ps room is.each.0 is.each.1 free none)
