-- The passes, way by way.
use Rattle.std.proofs.Common.{◌≡◌, refl, ℕ, ◌+◌, ◌<◌, ◌==◌, Bool, true, false, ◌&&◌, ◌||◌, List, length, take, get_or, sym, ap, ◌∙◌, subst}
use Rattle.std.proofs.lemmas.List.{take_more}
use Rattle.bound_tree.specs.Flows.{Flow, End}
use Rattle.bound_tree.specs.Live.{live, named_later, spent, spent_before, spent_by}
use Rattle.bound_tree.specs.Ways.{onto, way_layer, way_of, whole}
use Rattle.bound_tree.specs.declared.way.Way.{Way, out-Way, roll-out-Way}
use Rattle.bound_tree.specs.declared.way.Way.TheOpen.{Way-F}
use Rattle.bound_tree.specs.declared.way.Way.TheFolds.{fold-roll-Way}
use Rattle.bound_tree.proofs.Pushing.{onto-last, way_of-Names, way_of-Sets, way_of-Leaves, way_of-Either, way_of-Again}

pub ruleset ways = (way_of-Names, way_of-Sets, way_of-Leaves, way_of-Either, way_of-Again)

-- what holds of each layer holds of each way
by-layer : (P : (Flow → Flow) → Type 0) → ((h : Way-F (Flow → Flow)) → P (way_layer h)) → (w : Way) → P (way_of w)
unfolding way_of
by-layer P p w =
    subst (λ (v : Way). P (way_of v)) (roll-out-Way w)
    (subst P (sym (fold-roll-Way (Flow → Flow) way_layer (out-Way w))) (p _))

-- the flow of one way more
whole-more : (ws : List Way) (i : ℕ) (w : Way) → i < length ws → whole (take (i + 1) ws) ≡ way_of (get_or ws i w) (whole (take i ws))
whole-more ws i w h = ap whole (take_more ws i w h) ∙ onto-last (take i ws) (get_or ws i w) End

live-layer : (x : ℕ) (f : Flow) (k : Bool) (h : Way-F (Flow → Flow)) → live x (way_layer h f) k ≡ live x (way_layer h End) (live x f k)
live-layer x f k (Way-F.Names y p) = refl
live-layer x f k (Way-F.Sets y) = refl
live-layer x f k Way-F.Leaves = refl
live-layer x f k (Way-F.Either a b) = refl
live-layer x f k (Way-F.Again a) = refl

pub live_more : (x : ℕ) (ws : List Way) (i : ℕ) (w : Way) (k : Bool) → i < length ws
    → live x (whole (take (i + 1) ws)) k ≡ live x (way_of (get_or ws i w) End) (live x (whole (take i ws)) k)
live_more x ws i w k h =
    ap (λ (f : Flow). live x f k) (whole-more ws i w h)
    ∙ by-layer (λ (g : Flow → Flow). live x (g (whole (take i ws))) k ≡ live x (g End) (live x (whole (take i ws)) k))
    (live-layer x (whole (take i ws)) k) (get_or ws i w)

or-none : (b : Bool) → b ≡ (b || false)
or-none true = refl
or-none false = refl

or-either : (a b c : Bool) → ((a || b) || c) ≡ (((a || b) || false) || c)
or-either a b c = ap (λ (d : Bool). d || c) (or-none (a || b))

later-layer : (x q : ℕ) (f : Flow) (k : Bool) (h : Way-F (Flow → Flow))
    → named_later x q (way_layer h f) k ≡ (named_later x q (way_layer h End) (live x f k) || named_later x q f k)
later-layer x q f k (Way-F.Names y p) = ap (λ (d : Bool). d || named_later x q f k) (or-none (((x == y) && (q == p)) && live x f k))
later-layer x q f k (Way-F.Sets y) = refl
later-layer x q f k Way-F.Leaves = refl
later-layer x q f k (Way-F.Either a b) = or-either (named_later x q (onto a End) (live x f k)) (named_later x q (onto b End) (live x f k)) (named_later x q f k)
later-layer x q f k (Way-F.Again a) =
    ap (λ (d : Bool). d || named_later x q f k) (or-none (named_later x q (onto a End) (live x f k || live x (onto a End) (live x f k))))

pub later_more : (x q : ℕ) (ws : List Way) (i : ℕ) (w : Way) (k : Bool) → i < length ws
    → named_later x q (whole (take (i + 1) ws)) k
    ≡ (named_later x q (way_of (get_or ws i w) End) (live x (whole (take i ws)) k) || named_later x q (whole (take i ws)) k)
later_more x q ws i w k h =
    ap (λ (f : Flow). named_later x q f k) (whole-more ws i w h)
    ∙ by-layer (λ (g : Flow → Flow). named_later x q (g (whole (take i ws))) k ≡ (named_later x q (g End) (live x (whole (take i ws)) k) || named_later x q (whole (take i ws)) k))
    (later-layer x q (whole (take i ws)) k) (get_or ws i w)

spent-layer : (x : ℕ) (s : ℕ → Bool) (f : Flow) (k : Bool) (h : Way-F (Flow → Flow))
    → spent x s (way_layer h f) k ≡ spent x s f (spent x s (way_layer h End) k)
spent-layer x s f k (Way-F.Names y p) = refl
spent-layer x s f k (Way-F.Sets y) = refl
spent-layer x s f k Way-F.Leaves = refl
spent-layer x s f k (Way-F.Either a b) = refl
spent-layer x s f k (Way-F.Again a) = refl

spent-less : (x : ℕ) (s : ℕ → Bool) (ws : List Way) (i : ℕ) (w : Way) (k : Bool) → i < length ws
    → spent x s (whole (take (i + 1) ws)) k ≡ spent x s (whole (take i ws)) (spent x s (way_of (get_or ws i w) End) k)
spent-less x s ws i w k h =
    ap (λ (f : Flow). spent x s f k) (whole-more ws i w h)
    ∙ by-layer (λ (g : Flow → Flow). spent x s (g (whole (take i ws))) k ≡ spent x s (whole (take i ws)) (spent x s (g End) k))
    (spent-layer x s (whole (take i ws)) k) (get_or ws i w)

pub spent_less : (x : ℕ) (s : ℕ → Bool) (ws : List Way) (j i : ℕ) (w : Way) (k : Bool) → j ≡ i + 1 → i < length ws
    → spent x s (whole (take j ws)) k ≡ spent x s (whole (take i ws)) (spent x s (way_of (get_or ws i w) End) k)
spent_less x s ws j i w k e h = ap (λ (n : ℕ). spent x s (whole (take n ws)) k) e ∙ spent-less x s ws i w k h

before-layer : (x : ℕ) (s : ℕ → Bool) (p : ℕ) (f : Flow) (k : Bool) (h : Way-F (Flow → Flow))
    → spent_before x s p (way_layer h f) k ≡ (spent_before x s p (way_layer h End) k || spent_before x s p f (spent x s (way_layer h End) k))
before-layer x s p f k (Way-F.Names y q) = ap (λ (d : Bool). d || spent_before x s p f (spent_by x s y q k)) (or-none (((x == y) && (p == q)) && k))
before-layer x s p f k (Way-F.Sets y) = refl
before-layer x s p f k Way-F.Leaves = refl
before-layer x s p f k (Way-F.Either a b) =
    or-either (spent_before x s p (onto a End) k) (spent_before x s p (onto b End) k)
    (spent_before x s p f (spent x s (onto a End) k || spent x s (onto b End) k))
before-layer x s p f k (Way-F.Again a) =
    ap (λ (d : Bool). d || spent_before x s p f (k || spent x s (onto a End) k))
    (or-none (spent_before x s p (onto a End) (k || spent x s (onto a End) k)))

before-less : (x : ℕ) (s : ℕ → Bool) (p : ℕ) (ws : List Way) (i : ℕ) (w : Way) (k : Bool) → i < length ws
    → spent_before x s p (whole (take (i + 1) ws)) k
    ≡ (spent_before x s p (way_of (get_or ws i w) End) k || spent_before x s p (whole (take i ws)) (spent x s (way_of (get_or ws i w) End) k))
before-less x s p ws i w k h =
    ap (λ (f : Flow). spent_before x s p f k) (whole-more ws i w h)
    ∙ by-layer (λ (g : Flow → Flow). spent_before x s p (g (whole (take i ws))) k ≡ (spent_before x s p (g End) k || spent_before x s p (whole (take i ws)) (spent x s (g End) k)))
    (before-layer x s p (whole (take i ws)) k) (get_or ws i w)

or-assoc : (a b c : Bool) → (a || (b || c)) ≡ ((a || b) || c)
or-assoc true b c = refl
or-assoc false b c = refl

pub before_less : (found : Bool) (x : ℕ) (s : ℕ → Bool) (p : ℕ) (ws : List Way) (j i : ℕ) (w : Way) (k : Bool) → j ≡ i + 1 → i < length ws
    → (found || spent_before x s p (whole (take j ws)) k)
    ≡ ((found || spent_before x s p (way_of (get_or ws i w) End) k) || spent_before x s p (whole (take i ws)) (spent x s (way_of (get_or ws i w) End) k))
before_less found x s p ws j i w k e h =
    ap (λ (n : ℕ). found || spent_before x s p (whole (take n ws)) k) e
    ∙ ap (λ (d : Bool). found || d) (before-less x s p ws i w k h)
    ∙ or-assoc found _ _
