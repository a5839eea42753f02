-- Lists in order. Putting each element in its place gives one that is in order and in which those that
-- tie stand as before; and there is no other such list.
use Rattle.std.proofs.Common.{◌≡◌, ℕ, suc, ◌<◌, ◌≤◌, List, [], ◌∷◌, length, get_or, refl, sym, ◌∙◌, ap, subst, arith, Bool, true, false, cond}
use mathlib.Core.Bool.{◌&&◌, not}
use Rattle.std.specs.List.{AllByRecursion, filter}
use Rattle.std.specs.Cmp.{IsStrictWeakOrder}
use Rattle.std.specs.List.Sorted.{IsSortedBy, IsStableBy, ties}
use Rattle.std.proofs.lemmas.List.Sorted.{sorted_far}
use Rattle.finding_order.specs.Order.{put, ordered}

-- each element comes before none that stands in front of it
abbrev pub Rises : {X : Type 0} → (X → X → Bool) → List X → Type 0
Rises lt [] = Unit {0}
Rises lt (x ∷ xs) = AllByRecursion (λ y. lt y x ≡ false) xs × Rises lt xs

-- ---- tests

both_not : (a b : Bool) → (not a && not b) ≡ true → (a ≡ false) × (b ≡ false)
both_not true b h = absurd cc
both_not false true h = absurd cc
both_not false false h = (refl, refl)

not_itself : {X : Type 0} (lt : X → X → Bool) (o : IsStrictWeakOrder lt) (x : X) → lt x x ≡ false
not_itself {X} lt o x = go (lt x x) refl
  where
    go : (b : Bool) → lt x x ≡ b → lt x x ≡ false
    go true e = o.one_way x x e
    go false e = e

ties_itself : {X : Type 0} (lt : X → X → Bool) (o : IsStrictWeakOrder lt) (x : X) → ties lt x x ≡ true
ties_itself lt o x = ap (λ (b : Bool). not b && not b) (not_itself lt o x)

-- ---- putting in place

all_put : {X : Type 0} (lt : X → X → Bool) (P : X → Type 0) (x : X) (ys : List X) → P x → AllByRecursion P ys → AllByRecursion P (put lt x ys)
all_put lt P x [] h a = (h, tt)
all_put {X} lt P x (y ∷ ys) h a = go (lt y x) (all_put lt P x ys h a.1)
  where
    go : (b : Bool) → AllByRecursion P (put lt x ys) → AllByRecursion P (cond b (y ∷ put lt x ys) (x ∷ y ∷ ys))
    go true more = (a.0, more)
    go false more = (h, a)

all_chain : {X : Type 0} (lt : X → X → Bool) (o : IsStrictWeakOrder lt) (x f : X) (ys : List X) → lt x f ≡ false
    → AllByRecursion (λ y. lt y x ≡ false) ys → AllByRecursion (λ y. lt y f ≡ false) ys
all_chain lt o x f [] e a = tt
all_chain lt o x f (y ∷ ys) e a = (o.chain y x f a.0 e, all_chain lt o x f ys e a.1)

pub rises_put : {X : Type 0} (lt : X → X → Bool) (o : IsStrictWeakOrder lt) (f : X) (xs : List X) → Rises lt xs → Rises lt (put lt f xs)
rises_put lt o f [] r = (tt, tt)
rises_put {X} lt o f (x ∷ xs) r = go (lt x f) refl (rises_put lt o f xs r.1)
  where
    go : (b : Bool) → lt x f ≡ b → Rises lt (put lt f xs) → Rises lt (cond b (x ∷ put lt f xs) (f ∷ x ∷ xs))
    go true e more = (all_put lt (λ y. lt y x ≡ false) f xs (o.one_way x f e) r.0, more)
    go false e more = ((e, all_chain lt o x f xs e r.0), r)

swapped : {X : Type 0} (a b : Bool) (x f : X) (ys : List X) → (a ≡ true → b ≡ true → ⊥)
    → cond a (x ∷ cond b (f ∷ ys) ys) (cond b (f ∷ ys) ys) ≡ cond b (f ∷ cond a (x ∷ ys) ys) (cond a (x ∷ ys) ys)
swapped true true x f ys apart = absurd (apart refl refl)
swapped true false x f ys apart = refl
swapped false true x f ys apart = refl
swapped false false x f ys apart = refl

not_both : {X : Type 0} (lt : X → X → Bool) (o : IsStrictWeakOrder lt) (q x f : X) → lt x f ≡ true → ties lt q x ≡ true → ties lt q f ≡ true → ⊥
not_both lt o q x f e first second =
    let below : lt x q ≡ false = (both_not (lt q x) (lt x q) first).1 in
    let above : lt q f ≡ false = (both_not (lt q f) (lt f q) second).0 in
    let not_before : lt x f ≡ false = o.chain x q f below above in
    cc

pub filter-put : {X : Type 0} (lt : X → X → Bool) (o : IsStrictWeakOrder lt) (q f : X) (xs : List X)
    → filter (ties lt q) (put lt f xs) ≡ filter (ties lt q) (f ∷ xs)
filter-put lt o q f [] = refl
filter-put {X} lt o q f (x ∷ xs) = go (lt x f) refl (filter-put lt o q f xs)
  where
    go : (b : Bool) → lt x f ≡ b → filter (ties lt q) (put lt f xs) ≡ filter (ties lt q) (f ∷ xs)
        → filter (ties lt q) (cond b (x ∷ put lt f xs) (f ∷ x ∷ xs)) ≡ filter (ties lt q) (f ∷ x ∷ xs)
    go true e more =
        ap (λ (ys : List X). cond (ties lt q x) (x ∷ ys) ys) more
        ∙ swapped (ties lt q x) (ties lt q f) x f (filter (ties lt q) xs) (not_both lt o q x f e)
    go false e more = refl

pub rises_ordered : {X : Type 0} (lt : X → X → Bool) (o : IsStrictWeakOrder lt) (xs : List X) → Rises lt (ordered lt xs)
rises_ordered lt o [] = tt
rises_ordered lt o (x ∷ xs) = rises_put lt o x (ordered lt xs) (rises_ordered lt o xs)

pub filter-ordered : {X : Type 0} (lt : X → X → Bool) (o : IsStrictWeakOrder lt) (q : X) (xs : List X)
    → filter (ties lt q) (ordered lt xs) ≡ filter (ties lt q) xs
filter-ordered lt o q [] = refl
filter-ordered {X} lt o q (x ∷ xs) =
    filter-put lt o q x (ordered lt xs) ∙ ap (λ (ys : List X). cond (ties lt q x) (x ∷ ys) ys) (filter-ordered lt o q xs)

-- ---- there is one such list

nothing_left : {X : Type 0} (lt : X → X → Bool) (o : IsStrictWeakOrder lt) (x : X) (xs : List X) → filter (ties lt x) (x ∷ xs) ≡ [] → ⊥
nothing_left {X} lt o x xs e =
    let kept : x ∷ filter (ties lt x) xs ≡ [] =
    sym (ap (λ (b : Bool). cond b (x ∷ filter (ties lt x) xs) (filter (ties lt x) xs)) (ties_itself lt o x)) ∙ e in
    cc

first_has : {X : Type 0} (P : X → Type 0) (p : X → Bool) (a : X) (ys us : List X) → AllByRecursion P ys → filter p ys ≡ a ∷ us → P a
first_has P p a [] us all e = absurd cc
first_has {X} P p a (y ∷ ys) us all e = go (p y) e (λ h. first_has P p a ys us all.1 h)
  where
    go : (b : Bool) → cond b (y ∷ filter p ys) (filter p ys) ≡ a ∷ us → (filter p ys ≡ a ∷ us → P a) → P a
    go true h more = let same : y ≡ a = cc in subst P same all.0
    go false h more = more h

heads : {X : Type 0} (lt : X → X → Bool) (o : IsStrictWeakOrder lt) (a b : X) (xs ys : List X)
    → AllByRecursion (λ y. lt y a ≡ false) xs → AllByRecursion (λ y. lt y b ≡ false) ys
    → filter (ties lt a) (b ∷ ys) ≡ filter (ties lt a) (a ∷ xs) → filter (ties lt b) (b ∷ ys) ≡ filter (ties lt b) (a ∷ xs)
    → a ≡ b
heads {X} lt o a b xs ys over under at_a at_b = go (lt a b) (lt b a) refl refl
  where
    kept_a : filter (ties lt a) (a ∷ xs) ≡ a ∷ filter (ties lt a) xs
    kept_a = ap (λ (t : Bool). cond t (a ∷ filter (ties lt a) xs) (filter (ties lt a) xs)) (ties_itself lt o a)

    kept_b : filter (ties lt b) (b ∷ ys) ≡ b ∷ filter (ties lt b) ys
    kept_b = ap (λ (t : Bool). cond t (b ∷ filter (ties lt b) ys) (filter (ties lt b) ys)) (ties_itself lt o b)

    go : (s t : Bool) → lt a b ≡ s → lt b a ≡ t → a ≡ b
    go true t e f =
        let not_tied : ties lt a b ≡ false = ap (λ (s : Bool). not s && not (lt b a)) e in
        let found : filter (ties lt a) ys ≡ a ∷ filter (ties lt a) xs =
        sym (ap (λ (s : Bool). cond s (b ∷ filter (ties lt a) ys) (filter (ties lt a) ys)) not_tied) ∙ at_a ∙ kept_a in
        let no : lt a b ≡ false = first_has (λ y. lt y b ≡ false) (ties lt a) a ys (filter (ties lt a) xs) under found in
        absurd cc
    go false true e f =
        let not_tied : ties lt b a ≡ false = ap (λ (s : Bool). not s && not (lt a b)) f in
        let found : filter (ties lt b) xs ≡ b ∷ filter (ties lt b) ys =
        sym (ap (λ (s : Bool). cond s (a ∷ filter (ties lt b) xs) (filter (ties lt b) xs)) not_tied) ∙ sym at_b ∙ kept_b in
        let no : lt b a ≡ false = first_has (λ y. lt y a ≡ false) (ties lt b) b xs (filter (ties lt b) ys) over found in
        absurd cc
    go false false e f =
        let tied : ties lt a b ≡ true = ap (λ (s : Bool). not s && not (lt b a)) e ∙ ap (λ (s : Bool). not s) f in
        let found : b ∷ filter (ties lt a) ys ≡ a ∷ filter (ties lt a) xs =
        sym (ap (λ (s : Bool). cond s (b ∷ filter (ties lt a) ys) (filter (ties lt a) ys)) tied) ∙ at_a ∙ kept_a in
        cc

tails : {X : Type 0} (t : Bool) (b : X) (us vs : List X) → cond t (b ∷ us) us ≡ cond t (b ∷ vs) vs → us ≡ vs
tails true b us vs e = cc
tails false b us vs e = e

pub one_order : {X : Type 0} (lt : X → X → Bool) (o : IsStrictWeakOrder lt) (xs ys : List X) → Rises lt xs → Rises lt ys
    → ((q : X) → filter (ties lt q) ys ≡ filter (ties lt q) xs) → xs ≡ ys
one_order lt o [] [] r s e = refl
one_order lt o [] (b ∷ ys) r s e = absurd (nothing_left lt o b ys (e b))
one_order lt o (a ∷ xs) [] r s e = absurd (nothing_left lt o a xs (sym (e a)))
one_order {X} lt o (a ∷ xs) (b ∷ ys) r s e =
    let same : a ≡ b = heads lt o a b xs ys r.0 s.0 (e a) (e b) in
    let rest : xs ≡ ys =
    one_order lt o xs ys r.1 s.1
    (λ q. tails (ties lt q b) b (filter (ties lt q) ys) (filter (ties lt q) xs)
    (e q ∙ ap (λ (x : X). cond (ties lt q x) (x ∷ filter (ties lt q) xs) (filter (ties lt q) xs)) same)) in
    cc

-- ---- from what a sort ensures

all_from : {X : Type 0} (P : X → Type 0) (xs : List X) → ((j : ℕ) (d : X) → j < length xs → P (get_or xs j d)) → AllByRecursion P xs
all_from P [] h = tt
all_from P (x ∷ xs) h = (h 0 x (omega arith), all_from P xs (λ j d low. h (suc j) d (omega arith)))

rises_from : {X : Type 0} (lt : X → X → Bool) (o : IsStrictWeakOrder lt) (xs : List X)
    → ((i j : ℕ) (d : X) → i ≤ j → j < length xs → lt (get_or xs j d) (get_or xs i d) ≡ false) → Rises lt xs
rises_from lt o [] h = tt
rises_from lt o (x ∷ xs) h =
    (all_from (λ y. lt y x ≡ false) xs (λ j d low. h 0 (suc j) d (omega arith) (omega arith)), rises_from lt o xs (λ i j d less low. h (suc i) (suc j) d (omega arith) (omega arith)))

-- what a stable sort by the order gives is the list with each element in its place
pub sorted-ordered : {X : Type 0} (lt : X → X → Bool) (o : IsStrictWeakOrder lt) (xs ys : List X) → IsSortedBy lt ys → IsStableBy lt xs ys → ys ≡ ordered lt xs
sorted-ordered lt o xs ys up stable =
    one_order lt o ys (ordered lt xs) (rises_from lt o ys (sorted_far lt o ys up)) (rises_ordered lt o xs)
    (λ q. filter-ordered lt o q xs ∙ sym (stable q))
