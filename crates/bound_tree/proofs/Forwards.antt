-- The pass forwards is equal to what all runs say, in both directions.
use Rattle.std.proofs.Common.{◌≡◌, refl, ℕ, zero, suc, ◌==◌, Bool, true, false, ◌&&◌, ◌||◌, if◌then◌else◌, List, [], ◌∷◌, ◌++◌, ◌⊎◌, inl, inr, sym, ap, ◌∙◌, eq-eqb, eqb-true}
use Rattle.std.proofs.lemmas.Bool.{cases_Bool, or_cases, and_parts, and_from}
use Rattle.bound_tree.specs.Flows.{Flow, End, Names, Sets, Leaves, Either, Again}
use Rattle.bound_tree.specs.Runs.{Mark, Named, Set, InTurn, Turns, Goes, Behind, reaches, Follows}
use Rattle.bound_tree.specs.Live.{spent_by, spent, spent_before}
use Rattle.bound_tree.proofs.Tests.{or-left, or-right, false-true}
use Rattle.bound_tree.proofs.Backwards.{some-run, one-turn}

-- a run sets the local nowhere
abbrev pub free : ℕ → List Mark → Bool
free x [] = true
free x (Named y p ∷ t) = free x t
free x (Set y ∷ t) = if x == y then false else free x t

-- ---- one run and another

cut : (b c : Bool) → (if b then false else c) ≡ true → c ≡ true
cut true c e = false-true e
cut false c e = e

uncut : (b c : Bool) → (if b then false else c) ≡ true → b ≡ false
uncut true c e = false-true e
uncut false c e = refl

under : (b c : Bool) → b ≡ false → c ≡ true → (if b then false else c) ≡ true
under true c e f = false-true (sym e)
under false c e f = f

free-append : (x : ℕ) (u v : List Mark) → free x u ≡ true → free x v ≡ true → free x (u ++ v) ≡ true
free-append x [] v f g = g
free-append x (Named y p ∷ u) v f g = free-append x u v f g
free-append x (Set y ∷ u) v f g =
    under (x == y) (free x (u ++ v)) (uncut (x == y) (free x u) f) (free-append x u v (cut (x == y) (free x u) f) g)

free-parts : (x : ℕ) (u v : List Mark) → free x (u ++ v) ≡ true → (free x u ≡ true) × (free x v ≡ true)
free-parts x [] v f = (refl, f)
free-parts x (Named y p ∷ u) v f = free-parts x u v f
free-parts x (Set y ∷ u) v f =
    let s : (free x u ≡ true) × (free x v ≡ true) = free-parts x u v (cut (x == y) (free x (u ++ v)) f) in
    (under (x == y) (free x u) (uncut (x == y) (free x (u ++ v)) f) s.0, s.1)

reach-left : (x p : ℕ) (u v : List Mark) → reaches x p u ≡ true → reaches x p (u ++ v) ≡ true
reach-left x p [] v h = false-true h
reach-left x p (Named y q ∷ u) v h = at (or_cases ((x == y) && (p == q)) (reaches x p u) h) (reach-left x p u v)
  where
    at : (((x == y) && (p == q)) ≡ true) ⊎ (reaches x p u ≡ true) → (reaches x p u ≡ true → reaches x p (u ++ v) ≡ true)
        → (((x == y) && (p == q)) || reaches x p (u ++ v)) ≡ true
    at (inl e) ih = or-left ((x == y) && (p == q)) (reaches x p (u ++ v)) e
    at (inr e) ih = or-right ((x == y) && (p == q)) (reaches x p (u ++ v)) (ih e)
reach-left x p (Set y ∷ u) v h =
    under (x == y) (reaches x p (u ++ v)) (uncut (x == y) (reaches x p u) h) (reach-left x p u v (cut (x == y) (reaches x p u) h))

reach-right : (x p : ℕ) (u v : List Mark) → free x u ≡ true → reaches x p v ≡ true → reaches x p (u ++ v) ≡ true
reach-right x p [] v f h = h
reach-right x p (Named y q ∷ u) v f h = or-right ((x == y) && (p == q)) (reaches x p (u ++ v)) (reach-right x p u v f h)
reach-right x p (Set y ∷ u) v f h =
    under (x == y) (reaches x p (u ++ v)) (uncut (x == y) (free x u) f) (reach-right x p u v (cut (x == y) (free x u) f) h)

abbrev Parted : ℕ → ℕ → List Mark → List Mark → Type 0
Parted x p u v = (reaches x p u ≡ true) ⊎ ((free x u ≡ true) × (reaches x p v ≡ true))

reach-parts : (x p : ℕ) (u v : List Mark) → reaches x p (u ++ v) ≡ true → Parted x p u v
reach-parts x p [] v h = inr (refl, h)
reach-parts x p (Named y q ∷ u) v h = at (or_cases ((x == y) && (p == q)) (reaches x p (u ++ v)) h) (reach-parts x p u v)
  where
    deeper : Parted x p u v → Parted x p (Named y q ∷ u) v
    deeper (inl e) = inl (or-right ((x == y) && (p == q)) (reaches x p u) e)
    deeper (inr e) = inr e

    at : (((x == y) && (p == q)) ≡ true) ⊎ (reaches x p (u ++ v) ≡ true) → (reaches x p (u ++ v) ≡ true → Parted x p u v)
        → Parted x p (Named y q ∷ u) v
    at (inl e) ih = inl (or-left ((x == y) && (p == q)) (reaches x p u) e)
    at (inr e) ih = deeper (ih e)
reach-parts x p (Set y ∷ u) v h = deeper (reach-parts x p u v (cut (x == y) (reaches x p (u ++ v)) h))
  where
    deeper : Parted x p u v → Parted x p (Set y ∷ u) v
    deeper (inl e) = inl (under (x == y) (reaches x p u) (uncut (x == y) (reaches x p (u ++ v)) h) e)
    deeper (inr e) = inr (under (x == y) (free x u) (uncut (x == y) (reaches x p (u ++ v)) h) e.0, e.1)

-- along equal runs
reached : (x p : ℕ) (t u : List Mark) → t ≡ u → reaches x p t ≡ true → reaches x p u ≡ true
reached x p t u e h = sym (ap (λ (l : List Mark). reaches x p l) e) ∙ h

freed : (x : ℕ) (t u : List Mark) → t ≡ u → free x t ≡ true → free x u ≡ true
freed x t u e h = sym (ap (λ (l : List Mark). free x l) e) ∙ h

-- ---- runs from where the local was spent: from the beginning where it was spent before, or from behind
-- a naming that spends it

abbrev pub From : ℕ → (ℕ → Bool) → Flow → Bool → List Mark → Bool → Type 0
From x spends f k t on = ((k ≡ true) × Goes f t on) ⊎ ((q : ℕ) × (spends q ≡ true) × Behind x q f t on)

by-state : (b c k : Bool) → k ≡ true → (if b then c || k else k) ≡ true
by-state true c k e = or-right c k e
by-state false c k e = e

by-spend : (x : ℕ) (spends : ℕ → Bool) (y p q : ℕ) (k : Bool) → x ≡ y → q ≡ p → spends q ≡ true → spent_by x spends y p k ≡ true
by-spend x spends y p q k e f s =
    ap (λ (b : Bool). if b then spends p || k else k) (eq-eqb x y e)
    ∙ or-left (spends p) k (sym (ap spends f) ∙ s)

spent-cases : (x : ℕ) (spends : ℕ → Bool) (y p : ℕ) (k : Bool) → spent_by x spends y p k ≡ true → ((x == y) ≡ true) ⊎ ((x == y) ≡ false)
    → ((x ≡ y) × (spends p ≡ true)) ⊎ (k ≡ true)
spent-cases x spends y p k h (inl e) =
    at (or_cases (spends p) k (sym (ap (λ (b : Bool). if b then spends p || k else k) e) ∙ h))
  where
    at : (spends p ≡ true) ⊎ (k ≡ true) → ((x ≡ y) × (spends p ≡ true)) ⊎ (k ≡ true)
    at (inl s) = inl (eqb-true x y e, s)
    at (inr s) = inr s
spent-cases x spends y p k h (inr e) = inr (sym (ap (λ (b : Bool). if b then spends p || k else k) e) ∙ h)

-- ---- spent

abbrev IsSpent : ℕ → (ℕ → Bool) → Flow → Bool → Type 0
IsSpent x spends f k = (t : List Mark) × From x spends f k t true × (free x t ≡ true)

one-spent : (x : ℕ) (spends : ℕ → Bool) (a b : Flow) (k : Bool)
    → ((t : List Mark) → From x spends a k t true → free x t ≡ true → spent x spends a k ≡ true)
    → ((t : List Mark) → From x spends b k t true → free x t ≡ true → spent x spends b k ≡ true)
    → (t : List Mark) → From x spends a k t true ⊎ From x spends b k t true → free x t ≡ true
    → (spent x spends a k || spent x spends b k) ≡ true
one-spent x spends a b k ia ib t (inl g) h = or-left (spent x spends a k) (spent x spends b k) (ia t g h)
one-spent x spends a b k ia ib t (inr g) h = or-right (spent x spends a k) (spent x spends b k) (ib t g h)

begun : (x : ℕ) (spends : ℕ → Bool) (a b : Flow) (k : Bool) (t : List Mark) (on : Bool) → k ≡ true → Goes a t on ⊎ Goes b t on
    → From x spends a k t on ⊎ From x spends b k t on
begun x spends a b k t on e (inl g) = inl (inl (e, g))
begun x spends a b k t on e (inr g) = inr (inl (e, g))

going : (x : ℕ) (spends : ℕ → Bool) (a b : Flow) (k : Bool) (t : List Mark) (on : Bool) (q : ℕ) → spends q ≡ true
    → Behind x q a t on ⊎ Behind x q b t on → From x spends a k t on ⊎ From x spends b k t on
going x spends a b k t on q e (inl g) = inl (inr (q, e, g))
going x spends a b k t on q e (inr g) = inr (inr (q, e, g))

pub spent-from : (x : ℕ) (spends : ℕ → Bool) (f : Flow) (k : Bool) (t : List Mark) → From x spends f k t true → free x t ≡ true
    → spent x spends f k ≡ true
spent-from x spends End k t (inl (e, g)) h = e
spent-from x spends End k t (inr (q, s, b)) h = absurd b
spent-from x spends (Names y p r) k t (inl (e, (u, d, g))) h =
    spent-from x spends r (spent_by x spends y p k) u (inl (by-state (x == y) (spends p) k e, g)) (freed x t (Named y p ∷ u) d h)
spent-from x spends (Names y p r) k t (inr (q, s, inl (e, f, g))) h =
    spent-from x spends r (spent_by x spends y p k) t (inl (by-spend x spends y p q k e f s, g)) h
spent-from x spends (Names y p r) k t (inr (q, s, inr b)) h = spent-from x spends r (spent_by x spends y p k) t (inr (q, s, b)) h
spent-from x spends (Sets y r) k t (inl (e, (u, d, g))) h =
    let c : (if x == y then false else free x u) ≡ true = freed x t (Set y ∷ u) d h in
    spent-from x spends r (if x == y then false else k) u (inl (under (x == y) k (uncut (x == y) (free x u) c) e, g)) (cut (x == y) (free x u) c)
spent-from x spends (Sets y r) k t (inr (q, s, b)) h = spent-from x spends r (if x == y then false else k) t (inr (q, s, b)) h
spent-from x spends (Leaves r) k t (inl (e, (d, f))) h = false-true (sym f)
spent-from x spends (Leaves r) k t (inr (q, s, b)) h = spent-from x spends r false t (inr (q, s, b)) h
spent-from x spends (Either a b r) k t (inl (e, inl (g, f))) h = false-true (sym f)
spent-from x spends (Either a b r) k t (inl (e, inr (u, v, d, g, w))) h =
    let c : (free x u ≡ true) × (free x v ≡ true) = free-parts x u v (freed x t (u ++ v) d h) in
    spent-from x spends r (spent x spends a k || spent x spends b k) v
    (inl (one-spent x spends a b k (spent-from x spends a k) (spent-from x spends b k) u (begun x spends a b k u true e g) c.0, w)) c.1
spent-from x spends (Either a b r) k t (inr (q, s, inl (inl (g, f)))) h = false-true (sym f)
spent-from x spends (Either a b r) k t (inr (q, s, inl (inr (u, v, d, g, w)))) h =
    let c : (free x u ≡ true) × (free x v ≡ true) = free-parts x u v (freed x t (u ++ v) d h) in
    spent-from x spends r (spent x spends a k || spent x spends b k) v
    (inl (one-spent x spends a b k (spent-from x spends a k) (spent-from x spends b k) u (going x spends a b k u true q s g) c.0, w)) c.1
spent-from x spends (Either a b r) k t (inr (q, s, inr g)) h =
    spent-from x spends r (spent x spends a k || spent x spends b k) t (inr (q, s, g)) h
spent-from x spends (Again a r) k t (inl (e, (n, inl (g, f)))) h = false-true (sym f)
spent-from x spends (Again a r) k t (inl (e, (n, inr (u, v, d, g, w)))) h =
    spent-from x spends r (k || spent x spends a k) v (inl (or-left k (spent x spends a k) e, w)) (free-parts x u v (freed x t (u ++ v) d h)).1
spent-from x spends (Again a r) k t (inr (q, s, inl (inl (g, f)))) h = false-true (sym f)
spent-from x spends (Again a r) k t (inr (q, s, inl (inr (u, v, d, g, (n, inl (w, f)))))) h = false-true (sym f)
spent-from x spends (Again a r) k t (inr (q, s, inl (inr (u, v, d, g, (n, inr (y, z, l, o, w)))))) h =
    let c : (free x u ≡ true) × (free x v ≡ true) = free-parts x u v (freed x t (u ++ v) d h) in
    spent-from x spends r (k || spent x spends a k) z
    (inl (or-right k (spent x spends a k) (spent-from x spends a k u (inr (q, s, g)) c.0), w))
    (free-parts x y z (freed x v (y ++ z) l c.1)).1
spent-from x spends (Again a r) k t (inr (q, s, inr g)) h = spent-from x spends r (k || spent x spends a k) t (inr (q, s, g)) h

-- ---- and back

spent-name : (x : ℕ) (spends : ℕ → Bool) (y p : ℕ) (r : Flow) (k : Bool) (u : List Mark) → From x spends r (spent_by x spends y p k) u true
    → free x u ≡ true → IsSpent x spends (Names y p r) k
spent-name x spends y p r k u (inl (e, g)) h = at (spent-cases x spends y p k e (cases_Bool (x == y)))
  where
    at : ((x ≡ y) × (spends p ≡ true)) ⊎ (k ≡ true) → IsSpent x spends (Names y p r) k
    at (inl d) = (u, inr (p, d.1, inl (d.0, refl, g)), h)
    at (inr d) = (Named y p ∷ u, inl (d, (u, refl, g)), h)
spent-name x spends y p r k u (inr (q, s, b)) h = (u, inr (q, s, inr b), h)

spent-set : (x : ℕ) (spends : ℕ → Bool) (y : ℕ) (r : Flow) (k : Bool) (u : List Mark) → From x spends r (if x == y then false else k) u true
    → free x u ≡ true → IsSpent x spends (Sets y r) k
spent-set x spends y r k u (inl (e, g)) h =
    (Set y ∷ u, inl (cut (x == y) k e, (u, refl, g)), under (x == y) (free x u) (uncut (x == y) k e) h)
spent-set x spends y r k u (inr (q, s, b)) h = (u, inr (q, s, b), h)

spent-leave : (x : ℕ) (spends : ℕ → Bool) (r : Flow) (k : Bool) (u : List Mark) → From x spends r false u true
    → free x u ≡ true → IsSpent x spends (Leaves r) k
spent-leave x spends r k u (inl (e, g)) h = false-true e
spent-leave x spends r k u (inr (q, s, b)) h = (u, inr (q, s, b), h)

-- a part in which it is spent, and what comes after it
spent-left : (x : ℕ) (spends : ℕ → Bool) (a b r : Flow) (k : Bool) (u v : List Mark) (o : Bool) → From x spends a k u true → Goes r v o
    → From x spends (Either a b r) k (u ++ v) o
spent-left x spends a b r k u v o (inl (e, g)) w = inl (e, inr (u, v, refl, inl g, w))
spent-left x spends a b r k u v o (inr (q, s, g)) w = inr (q, s, inl (inr (u, v, refl, inl g, w)))

spent-right : (x : ℕ) (spends : ℕ → Bool) (a b r : Flow) (k : Bool) (u v : List Mark) (o : Bool) → From x spends b k u true → Goes r v o
    → From x spends (Either a b r) k (u ++ v) o
spent-right x spends a b r k u v o (inl (e, g)) w = inl (e, inr (u, v, refl, inr g, w))
spent-right x spends a b r k u v o (inr (q, s, g)) w = inr (q, s, inl (inr (u, v, refl, inr g, w)))

no-turn : (a r : Flow) (v : List Mark) (o : Bool) → Goes r v o → Goes (Again a r) v o
no-turn a r v o w = (zero, inr ([], v, refl, (refl, refl), w))

spent-either : (x : ℕ) (spends : ℕ → Bool) (a b r : Flow) (k : Bool)
    → (spent x spends a k ≡ true → IsSpent x spends a k) → (spent x spends b k ≡ true → IsSpent x spends b k)
    → (u : List Mark) → From x spends r (spent x spends a k || spent x spends b k) u true → free x u ≡ true
    → IsSpent x spends (Either a b r) k
spent-either x spends a b r k ia ib u (inl (e, g)) h = at (or_cases (spent x spends a k) (spent x spends b k) e)
  where
    at : (spent x spends a k ≡ true) ⊎ (spent x spends b k ≡ true) → IsSpent x spends (Either a b r) k
    at (inl d) =
        let w : IsSpent x spends a k = ia d in
        (w.0 ++ u, spent-left x spends a b r k w.0 u true w.1 g, free-append x w.0 u w.2 h)
    at (inr d) =
        let w : IsSpent x spends b k = ib d in
        (w.0 ++ u, spent-right x spends a b r k w.0 u true w.1 g, free-append x w.0 u w.2 h)
spent-either x spends a b r k ia ib u (inr (q, s, g)) h = (u, inr (q, s, inr g), h)

-- a loop before which, or in an earlier turn of which, the local is spent
again-spent : (x : ℕ) (spends : ℕ → Bool) (a r : Flow) (k : Bool) (u v : List Mark) (o : Bool) → From x spends a k u true → free x u ≡ true
    → Goes (Again a r) v o → (t : List Mark) × From x spends (Again a r) k t o × ((free x v ≡ true → free x t ≡ true) × ((p : ℕ) → reaches x p v ≡ true → reaches x p t ≡ true))
again-spent x spends a r k u v o (inl (e, g)) h w = (v, inl (e, w), (λ f. f, λ p f. f))
again-spent x spends a r k u v o (inr (q, s, g)) h w =
    (u ++ v, inr (q, s, inl (inr (u, v, refl, g, w))), (λ f. free-append x u v h f, λ p f. reach-right x p u v h f))

spent-again : (x : ℕ) (spends : ℕ → Bool) (a r : Flow) (k : Bool) → (spent x spends a k ≡ true → IsSpent x spends a k)
    → (u : List Mark) → From x spends r (k || spent x spends a k) u true → free x u ≡ true → IsSpent x spends (Again a r) k
spent-again x spends a r k ia u (inl (e, g)) h = at (or_cases k (spent x spends a k) e)
  where
    at : (k ≡ true) ⊎ (spent x spends a k ≡ true) → IsSpent x spends (Again a r) k
    at (inl d) = (u, inl (d, no-turn a r u true g), h)
    at (inr d) =
        let w : IsSpent x spends a k = ia d in
        let z : (t : List Mark) × From x spends (Again a r) k t true × ((free x u ≡ true → free x t ≡ true) × ((p : ℕ) → reaches x p u ≡ true → reaches x p t ≡ true))
        = again-spent x spends a r k w.0 u true w.1 w.2 (no-turn a r u true g) in
        (z.0, z.1, z.2.0 h)
spent-again x spends a r k ia u (inr (q, s, g)) h = (u, inr (q, s, inr g), h)

pub spent-to : (x : ℕ) (spends : ℕ → Bool) (f : Flow) (k : Bool) → spent x spends f k ≡ true → IsSpent x spends f k
spent-to x spends End k h = ([], inl (h, (refl, refl)), refl)
spent-to x spends (Names y p r) k h =
    let s : IsSpent x spends r (spent_by x spends y p k) = spent-to x spends r (spent_by x spends y p k) h in
    spent-name x spends y p r k s.0 s.1 s.2
spent-to x spends (Sets y r) k h =
    let s : IsSpent x spends r (if x == y then false else k) = spent-to x spends r (if x == y then false else k) h in
    spent-set x spends y r k s.0 s.1 s.2
spent-to x spends (Leaves r) k h =
    let s : IsSpent x spends r false = spent-to x spends r false h in spent-leave x spends r k s.0 s.1 s.2
spent-to x spends (Either a b r) k h =
    let s : IsSpent x spends r (spent x spends a k || spent x spends b k) = spent-to x spends r (spent x spends a k || spent x spends b k) h in
    spent-either x spends a b r k (spent-to x spends a k) (spent-to x spends b k) s.0 s.1 s.2
spent-to x spends (Again a r) k h =
    let s : IsSpent x spends r (k || spent x spends a k) = spent-to x spends r (k || spent x spends a k) h in
    spent-again x spends a r k (spent-to x spends a k) s.0 s.1 s.2

-- ---- spent before a naming

-- a first part and what comes after it, where the local is named in one or the other
before-in-turn : (x p : ℕ) (P : List Mark → Bool → Type 0) (r : Flow) (A B : Bool)
    → ((u : List Mark) (o : Bool) → P u o → reaches x p u ≡ true → A ≡ true)
    → ((u v : List Mark) (o : Bool) → P u true → free x u ≡ true → Goes r v o → reaches x p v ≡ true → B ≡ true)
    → (t : List Mark) (on : Bool) → InTurn P (Goes r) t on → reaches x p t ≡ true → (A || B) ≡ true
before-in-turn x p P r A B f g t on (inl (d, e)) h = or-left A B (f t false d h)
before-in-turn x p P r A B f g t on (inr (u, v, e, d, w)) h = at (reach-parts x p u v (reached x p t (u ++ v) e h))
  where
    at : Parted x p u v → (A || B) ≡ true
    at (inl c) = or-left A B (f u true d c)
    at (inr c) = or-right A B (g u v on d c.0 w c.1)

one-before : (x : ℕ) (spends : ℕ → Bool) (p : ℕ) (a b : Flow) (k : Bool)
    → ((t : List Mark) (o : Bool) → From x spends a k t o → reaches x p t ≡ true → spent_before x spends p a k ≡ true)
    → ((t : List Mark) (o : Bool) → From x spends b k t o → reaches x p t ≡ true → spent_before x spends p b k ≡ true)
    → (t : List Mark) (o : Bool) → From x spends a k t o ⊎ From x spends b k t o → reaches x p t ≡ true
    → (spent_before x spends p a k || spent_before x spends p b k) ≡ true
one-before x spends p a b k ia ib t o (inl g) h = or-left (spent_before x spends p a k) (spent_before x spends p b k) (ia t o g h)
one-before x spends p a b k ia ib t o (inr g) h = or-right (spent_before x spends p a k) (spent_before x spends p b k) (ib t o g h)

-- a loop that begins where the local was spent
turns-before : (x : ℕ) (spends : ℕ → Bool) (p : ℕ) (a : Flow) (k : Bool) → k ≡ true
    → ((t : List Mark) (o : Bool) → From x spends a k t o → reaches x p t ≡ true → spent_before x spends p a k ≡ true)
    → (n : ℕ) (t : List Mark) (on : Bool) → Turns (Goes a) n t on → reaches x p t ≡ true → spent_before x spends p a k ≡ true
turns-before x spends p a k e ia zero t on (d, f) h = false-true (reached x p t [] d h)
turns-before x spends p a k e ia (suc n) t on (inl (g, f)) h = ia t false (inl (e, g)) h
turns-before x spends p a k e ia (suc n) t on (inr (u, v, d, g, w)) h =
    at (reach-parts x p u v (reached x p t (u ++ v) d h)) (turns-before x spends p a k e ia n v on w)
  where
    at : Parted x p u v → (reaches x p v ≡ true → spent_before x spends p a k ≡ true) → spent_before x spends p a k ≡ true
    at (inl c) i = ia u true (inl (e, g)) c
    at (inr c) i = i c.1

before-from : (x : ℕ) (spends : ℕ → Bool) (p : ℕ) (f : Flow) (k : Bool) (t : List Mark) (on : Bool) → From x spends f k t on
    → reaches x p t ≡ true → spent_before x spends p f k ≡ true
before-from x spends p End k t on (inl (e, (d, f))) h = false-true (reached x p t [] d h)
before-from x spends p End k t on (inr (q, s, b)) h = absurd b
before-from x spends p (Names y n r) k t on (inl (e, (u, d, g))) h =
    at (or_cases ((x == y) && (p == n)) (reaches x p u) (reached x p t (Named y n ∷ u) d h))
    (before-from x spends p r (spent_by x spends y n k) u on (inl (by-state (x == y) (spends n) k e, g)))
  where
    at : (((x == y) && (p == n)) ≡ true) ⊎ (reaches x p u ≡ true)
        → (reaches x p u ≡ true → spent_before x spends p r (spent_by x spends y n k) ≡ true)
        → spent_before x spends p (Names y n r) k ≡ true
    at (inl c) i =
        or-left (((x == y) && (p == n)) && k) (spent_before x spends p r (spent_by x spends y n k)) (and_from ((x == y) && (p == n)) k c e)
    at (inr c) i = or-right (((x == y) && (p == n)) && k) (spent_before x spends p r (spent_by x spends y n k)) (i c)
before-from x spends p (Names y n r) k t on (inr (q, s, inl (e, f, g))) h =
    or-right (((x == y) && (p == n)) && k) (spent_before x spends p r (spent_by x spends y n k))
    (before-from x spends p r (spent_by x spends y n k) t on (inl (by-spend x spends y n q k e f s, g)) h)
before-from x spends p (Names y n r) k t on (inr (q, s, inr b)) h =
    or-right (((x == y) && (p == n)) && k) (spent_before x spends p r (spent_by x spends y n k))
    (before-from x spends p r (spent_by x spends y n k) t on (inr (q, s, b)) h)
before-from x spends p (Sets y r) k t on (inl (e, (u, d, g))) h =
    let c : (if x == y then false else reaches x p u) ≡ true = reached x p t (Set y ∷ u) d h in
    before-from x spends p r (if x == y then false else k) u on (inl (under (x == y) k (uncut (x == y) (reaches x p u) c) e, g)) (cut (x == y) (reaches x p u) c)
before-from x spends p (Sets y r) k t on (inr (q, s, b)) h = before-from x spends p r (if x == y then false else k) t on (inr (q, s, b)) h
before-from x spends p (Leaves r) k t on (inl (e, (d, f))) h = false-true (reached x p t [] d h)
before-from x spends p (Leaves r) k t on (inr (q, s, b)) h = before-from x spends p r false t on (inr (q, s, b)) h
before-from x spends p (Either a b r) k t on (inl (e, g)) h =
    before-in-turn x p (λ u o. Goes a u o ⊎ Goes b u o) r (spent_before x spends p a k || spent_before x spends p b k)
    (spent_before x spends p r (spent x spends a k || spent x spends b k))
    (λ u o d. one-before x spends p a b k (before-from x spends p a k) (before-from x spends p b k) u o (begun x spends a b k u o e d))
    (λ u v o d f w. before-from x spends p r (spent x spends a k || spent x spends b k) v o
    (inl (one-spent x spends a b k (spent-from x spends a k) (spent-from x spends b k) u (begun x spends a b k u true e d) f, w)))
    t on g h
before-from x spends p (Either a b r) k t on (inr (q, s, inl g)) h =
    before-in-turn x p (λ u o. Behind x q a u o ⊎ Behind x q b u o) r (spent_before x spends p a k || spent_before x spends p b k)
    (spent_before x spends p r (spent x spends a k || spent x spends b k))
    (λ u o d. one-before x spends p a b k (before-from x spends p a k) (before-from x spends p b k) u o (going x spends a b k u o q s d))
    (λ u v o d f w. before-from x spends p r (spent x spends a k || spent x spends b k) v o
    (inl (one-spent x spends a b k (spent-from x spends a k) (spent-from x spends b k) u (going x spends a b k u true q s d) f, w)))
    t on g h
before-from x spends p (Either a b r) k t on (inr (q, s, inr g)) h =
    or-right (spent_before x spends p a k || spent_before x spends p b k) (spent_before x spends p r (spent x spends a k || spent x spends b k))
    (before-from x spends p r (spent x spends a k || spent x spends b k) t on (inr (q, s, g)) h)
before-from x spends p (Again a r) k t on (inl (e, (n, g))) h =
    let c : (k || spent x spends a k) ≡ true = or-left k (spent x spends a k) e in
    before-in-turn x p (Turns (Goes a) n) r (spent_before x spends p a (k || spent x spends a k)) (spent_before x spends p r (k || spent x spends a k))
    (turns-before x spends p a (k || spent x spends a k) c (before-from x spends p a (k || spent x spends a k)) n)
    (λ u v o d f w. before-from x spends p r (k || spent x spends a k) v o (inl (c, w)))
    t on g h
before-from x spends p (Again a r) k t on (inr (q, s, inl (inl (g, f)))) h =
    or-left (spent_before x spends p a (k || spent x spends a k)) (spent_before x spends p r (k || spent x spends a k))
    (before-from x spends p a (k || spent x spends a k) t false (inr (q, s, g)) h)
before-from x spends p (Again a r) k t on (inr (q, s, inl (inr (u, v, d, g, (n, w))))) h =
    at (reach-parts x p u v (reached x p t (u ++ v) d h)) (before-from x spends p a (k || spent x spends a k))
    (before-from x spends p r (k || spent x spends a k))
  where
    at : Parted x p u v
        → ((y : List Mark) (o : Bool) → From x spends a (k || spent x spends a k) y o → reaches x p y ≡ true → spent_before x spends p a (k || spent x spends a k) ≡ true)
        → ((y : List Mark) (o : Bool) → From x spends r (k || spent x spends a k) y o → reaches x p y ≡ true → spent_before x spends p r (k || spent x spends a k) ≡ true)
        → spent_before x spends p (Again a r) k ≡ true
    at (inl c) ia ir =
        or-left (spent_before x spends p a (k || spent x spends a k)) (spent_before x spends p r (k || spent x spends a k))
        (ia u true (inr (q, s, g)) c)
    at (inr c) ia ir =
        let e : (k || spent x spends a k) ≡ true = or-right k (spent x spends a k) (spent-from x spends a k u (inr (q, s, g)) c.0) in
        before-in-turn x p (Turns (Goes a) n) r (spent_before x spends p a (k || spent x spends a k)) (spent_before x spends p r (k || spent x spends a k))
        (turns-before x spends p a (k || spent x spends a k) e ia n)
        (λ y z o m f l. ir z o (inl (e, l)))
        v on w c.1
before-from x spends p (Again a r) k t on (inr (q, s, inr g)) h =
    or-right (spent_before x spends p a (k || spent x spends a k)) (spent_before x spends p r (k || spent x spends a k))
    (before-from x spends p r (k || spent x spends a k) t on (inr (q, s, g)) h)

-- ---- and back

abbrev IsBefore : ℕ → (ℕ → Bool) → ℕ → Flow → Bool → Type 0
IsBefore x spends p f k = (t : List Mark) × (on : Bool) × From x spends f k t on × (reaches x p t ≡ true)

before-later : (x : ℕ) (spends : ℕ → Bool) (p y n : ℕ) (r : Flow) (k : Bool) → IsBefore x spends p r (spent_by x spends y n k) → IsBefore x spends p (Names y n r) k
before-later x spends p y n r k (u, on, inl (e, g), h) = at (spent-cases x spends y n k e (cases_Bool (x == y)))
  where
    at : ((x ≡ y) × (spends n ≡ true)) ⊎ (k ≡ true) → IsBefore x spends p (Names y n r) k
    at (inl d) = (u, on, inr (n, d.1, inl (d.0, refl, g)), h)
    at (inr d) = (Named y n ∷ u, on, inl (d, (u, refl, g)), or-right ((x == y) && (p == n)) (reaches x p u) h)
before-later x spends p y n r k (u, on, inr (q, s, b), h) = (u, on, inr (q, s, inr b), h)

before-name : (x : ℕ) (spends : ℕ → Bool) (p y n : ℕ) (r : Flow) (k : Bool)
    → (spent_before x spends p r (spent_by x spends y n k) ≡ true → IsBefore x spends p r (spent_by x spends y n k))
    → ((((x == y) && (p == n)) && k) ≡ true) ⊎ (spent_before x spends p r (spent_by x spends y n k) ≡ true) → IsBefore x spends p (Names y n r) k
before-name x spends p y n r k ih (inl c) =
    let d : (((x == y) && (p == n)) ≡ true) × (k ≡ true) = and_parts ((x == y) && (p == n)) k c in (
      Named y n ∷ (some-run r).0,
      (some-run r).1,
      inl (d.1, ((some-run r).0, refl, (some-run r).2)),
      or-left ((x == y) && (p == n)) (reaches x p (some-run r).0) d.0,
    )
before-name x spends p y n r k ih (inr c) = before-later x spends p y n r k (ih c)

before-set : (x : ℕ) (spends : ℕ → Bool) (p y : ℕ) (r : Flow) (k : Bool) → IsBefore x spends p r (if x == y then false else k) → IsBefore x spends p (Sets y r) k
before-set x spends p y r k (u, on, inl (e, g), h) =
    (Set y ∷ u, on, inl (cut (x == y) k e, (u, refl, g)), under (x == y) (reaches x p u) (uncut (x == y) k e) h)
before-set x spends p y r k (u, on, inr (q, s, b), h) = (u, on, inr (q, s, b), h)

before-leave : (x : ℕ) (spends : ℕ → Bool) (p : ℕ) (r : Flow) (k : Bool) → IsBefore x spends p r false → IsBefore x spends p (Leaves r) k
before-leave x spends p r k (u, on, inl (e, g), h) = false-true e
before-leave x spends p r k (u, on, inr (q, s, b), h) = (u, on, inr (q, s, b), h)

-- a run that names the local, and what comes after it
extend : (x p : ℕ) (P Q : List Mark → Bool → Type 0) (t : List Mark) (on : Bool) → P t on → reaches x p t ≡ true
    → ((v : List Mark) × (o : Bool) × Q v o) → (u : List Mark) × (o : Bool) × InTurn P Q u o × (reaches x p u ≡ true)
extend x p P Q t false g h q = (t, false, inl (g, refl), h)
extend x p P Q t true g h q = (t ++ q.0, q.1, inr (t, q.0, refl, g, q.2), reach-left x p t q.0 h)

before-part : (x : ℕ) (spends : ℕ → Bool) (p : ℕ) (a b r : Flow) (k : Bool) → IsBefore x spends p a k ⊎ IsBefore x spends p b k
    → IsBefore x spends p (Either a b r) k
before-part x spends p a b r k (inl (t, on, inl (e, g), h)) =
    let w : (u : List Mark) × (o : Bool) × InTurn (λ u o. Goes a u o ⊎ Goes b u o) (Goes r) u o × (reaches x p u ≡ true)
    = extend x p (λ u o. Goes a u o ⊎ Goes b u o) (Goes r) t on (inl g) h (some-run r) in
    (w.0, w.1, inl (e, w.2), w.3)
before-part x spends p a b r k (inl (t, on, inr (q, s, g), h)) =
    let w : (u : List Mark) × (o : Bool) × InTurn (λ u o. Behind x q a u o ⊎ Behind x q b u o) (Goes r) u o × (reaches x p u ≡ true)
    = extend x p (λ u o. Behind x q a u o ⊎ Behind x q b u o) (Goes r) t on (inl g) h (some-run r) in
    (w.0, w.1, inr (q, s, inl w.2), w.3)
before-part x spends p a b r k (inr (t, on, inl (e, g), h)) =
    let w : (u : List Mark) × (o : Bool) × InTurn (λ u o. Goes a u o ⊎ Goes b u o) (Goes r) u o × (reaches x p u ≡ true)
    = extend x p (λ u o. Goes a u o ⊎ Goes b u o) (Goes r) t on (inr g) h (some-run r) in
    (w.0, w.1, inl (e, w.2), w.3)
before-part x spends p a b r k (inr (t, on, inr (q, s, g), h)) =
    let w : (u : List Mark) × (o : Bool) × InTurn (λ u o. Behind x q a u o ⊎ Behind x q b u o) (Goes r) u o × (reaches x p u ≡ true)
    = extend x p (λ u o. Behind x q a u o ⊎ Behind x q b u o) (Goes r) t on (inr g) h (some-run r) in
    (w.0, w.1, inr (q, s, inl w.2), w.3)

before-rest : (x : ℕ) (spends : ℕ → Bool) (p : ℕ) (a b r : Flow) (k : Bool) → IsBefore x spends p r (spent x spends a k || spent x spends b k)
    → IsBefore x spends p (Either a b r) k
before-rest x spends p a b r k (u, on, inl (e, g), h) = at (or_cases (spent x spends a k) (spent x spends b k) e)
  where
    at : (spent x spends a k ≡ true) ⊎ (spent x spends b k ≡ true) → IsBefore x spends p (Either a b r) k
    at (inl d) =
        let w : IsSpent x spends a k = spent-to x spends a k d in
        (w.0 ++ u, on, spent-left x spends a b r k w.0 u on w.1 g, reach-right x p w.0 u w.2 h)
    at (inr d) =
        let w : IsSpent x spends b k = spent-to x spends b k d in
        (w.0 ++ u, on, spent-right x spends a b r k w.0 u on w.1 g, reach-right x p w.0 u w.2 h)
before-rest x spends p a b r k (u, on, inr (q, s, g), h) = (u, on, inr (q, s, inr g), h)

before-either : (x : ℕ) (spends : ℕ → Bool) (p : ℕ) (a b r : Flow) (k : Bool)
    → (spent_before x spends p a k ≡ true → IsBefore x spends p a k) → (spent_before x spends p b k ≡ true → IsBefore x spends p b k)
    → (spent_before x spends p r (spent x spends a k || spent x spends b k) ≡ true → IsBefore x spends p r (spent x spends a k || spent x spends b k))
    → ((spent_before x spends p a k || spent_before x spends p b k) ≡ true) ⊎ (spent_before x spends p r (spent x spends a k || spent x spends b k) ≡ true)
    → IsBefore x spends p (Either a b r) k
before-either x spends p a b r k ia ib ir (inl c) = at (or_cases (spent_before x spends p a k) (spent_before x spends p b k) c)
  where
    at : (spent_before x spends p a k ≡ true) ⊎ (spent_before x spends p b k ≡ true) → IsBefore x spends p (Either a b r) k
    at (inl d) = before-part x spends p a b r k (inl (ia d))
    at (inr d) = before-part x spends p a b r k (inr (ib d))
before-either x spends p a b r k ia ib ir (inr c) = before-rest x spends p a b r k (ir c)

-- a loop: what goes on from a loop that begins where the local is spent, or in an earlier turn of which it is
looped : (x : ℕ) (spends : ℕ → Bool) (p : ℕ) (a r : Flow) (k : Bool) → (k || spent x spends a k) ≡ true
    → (v : List Mark) (o : Bool) → Goes (Again a r) v o → reaches x p v ≡ true → IsBefore x spends p (Again a r) k
looped x spends p a r k e v o g h = at (or_cases k (spent x spends a k) e)
  where
    at : (k ≡ true) ⊎ (spent x spends a k ≡ true) → IsBefore x spends p (Again a r) k
    at (inl d) = (v, o, inl (d, g), h)
    at (inr d) =
        let w : IsSpent x spends a k = spent-to x spends a k d in
        let z : (t : List Mark) × From x spends (Again a r) k t o × ((free x v ≡ true → free x t ≡ true) × ((n : ℕ) → reaches x n v ≡ true → reaches x n t ≡ true))
        = again-spent x spends a r k w.0 v o w.1 w.2 g in
        (z.0, o, z.1, z.2.1 p h)

before-turn : (x : ℕ) (spends : ℕ → Bool) (p : ℕ) (a r : Flow) (k : Bool) → IsBefore x spends p a (k || spent x spends a k)
    → IsBefore x spends p (Again a r) k
before-turn x spends p a r k (t, on, inl (e, g), h) =
    let w : (u : List Mark) × (o : Bool) × InTurn (Turns (Goes a) (suc zero)) (Goes r) u o × (reaches x p u ≡ true)
    = extend x p (Turns (Goes a) (suc zero)) (Goes r) t on (one-turn (Goes a) t on g) h (some-run r) in
    looped x spends p a r k e w.0 w.1 (suc zero, w.2) w.3
before-turn x spends p a r k (t, on, inr (q, s, g), h) =
    let w : (u : List Mark) × (o : Bool) × InTurn (Behind x q a) (Goes (Again a r)) u o × (reaches x p u ≡ true)
    = extend x p (Behind x q a) (Goes (Again a r)) t on g h (some-run (Again a r)) in
    (w.0, w.1, inr (q, s, inl w.2), w.3)

before-done : (x : ℕ) (spends : ℕ → Bool) (p : ℕ) (a r : Flow) (k : Bool) → IsBefore x spends p r (k || spent x spends a k)
    → IsBefore x spends p (Again a r) k
before-done x spends p a r k (u, on, inl (e, g), h) = looped x spends p a r k e u on (no-turn a r u on g) h
before-done x spends p a r k (u, on, inr (q, s, g), h) = (u, on, inr (q, s, inr g), h)

before-again : (x : ℕ) (spends : ℕ → Bool) (p : ℕ) (a r : Flow) (k : Bool)
    → (spent_before x spends p a (k || spent x spends a k) ≡ true → IsBefore x spends p a (k || spent x spends a k))
    → (spent_before x spends p r (k || spent x spends a k) ≡ true → IsBefore x spends p r (k || spent x spends a k))
    → (spent_before x spends p a (k || spent x spends a k) ≡ true) ⊎ (spent_before x spends p r (k || spent x spends a k) ≡ true)
    → IsBefore x spends p (Again a r) k
before-again x spends p a r k ia ir (inl c) = before-turn x spends p a r k (ia c)
before-again x spends p a r k ia ir (inr c) = before-done x spends p a r k (ir c)

before-to : (x : ℕ) (spends : ℕ → Bool) (p : ℕ) (f : Flow) (k : Bool) → spent_before x spends p f k ≡ true → IsBefore x spends p f k
before-to x spends p End k h = false-true h
before-to x spends p (Names y n r) k h =
    before-name x spends p y n r k (before-to x spends p r (spent_by x spends y n k))
    (or_cases (((x == y) && (p == n)) && k) (spent_before x spends p r (spent_by x spends y n k)) h)
before-to x spends p (Sets y r) k h = before-set x spends p y r k (before-to x spends p r (if x == y then false else k) h)
before-to x spends p (Leaves r) k h = before-leave x spends p r k (before-to x spends p r false h)
before-to x spends p (Either a b r) k h =
    before-either x spends p a b r k (before-to x spends p a k) (before-to x spends p b k)
    (before-to x spends p r (spent x spends a k || spent x spends b k))
    (or_cases (spent_before x spends p a k || spent_before x spends p b k) (spent_before x spends p r (spent x spends a k || spent x spends b k)) h)
before-to x spends p (Again a r) k h =
    before-again x spends p a r k (before-to x spends p a (k || spent x spends a k)) (before-to x spends p r (k || spent x spends a k))
    (or_cases (spent_before x spends p a (k || spent x spends a k)) (spent_before x spends p r (k || spent x spends a k)) h)

-- a local can be spent before a naming exactly where that naming follows one that spends it
pub before-follows : (f : Flow) (x : ℕ) (spends : ℕ → Bool) (p : ℕ) → spent_before x spends p f false ≡ true
    → (q : ℕ) × (spends q ≡ true) × Follows f x q p
before-follows f x spends p h = at (before-to x spends p f false h)
  where
    at : IsBefore x spends p f false → (q : ℕ) × (spends q ≡ true) × Follows f x q p
    at (t, on, inl (e, g), r) = false-true e
    at (t, on, inr (q, s, b), r) = (q, s, (t, on, b, r))

pub follows-before : (f : Flow) (x : ℕ) (spends : ℕ → Bool) (q p : ℕ) → spends q ≡ true → Follows f x q p
    → spent_before x spends p f false ≡ true
follows-before f x spends q p s (t, on, b, r) = before-from x spends p f false t on (inr (q, s, b)) r
