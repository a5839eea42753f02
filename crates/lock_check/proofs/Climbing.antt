-- A climb of as many steps as there are regions comes to each region that a chain of parents leads to:
-- a chain that comes to a region twice can be cut short, and one that doesn't isn't longer than that.
use Rattle.std.proofs.Common.{◌≡◌, ℕ, zero, suc, ◌<◌, ◌≤◌, ◌==◌, List, [], ◌∷◌, length, refl, sym, ◌∙◌, ap, subst, arith, ◌⊎◌, inl, inr, Bool, true, false, cond, ◌||◌}
use Rattle.std.specs.Prelude.{Option, Some, None}
use Rattle.std.proofs.lemmas.Grind.{common_steps}
use Rattle.region_tree.specs.Chains.{IsUnder, Leads, parent_at}
use Rattle.lock_check.specs.Under.{climbs_on, comes_to, is_under}

-- ---- tests of numbers

test_of : (b : Bool) → (b ≡ true) ⊎ (b ≡ false)
test_of true = inl refl
test_of false = inr refl

same_number : (x y : ℕ) → (x == y) ≡ true → x ≡ y
same_number x y e = grind (arith, common_steps)

itself : (x : ℕ) → (x == x) ≡ true
itself x = grind (arith, common_steps)

either : (a b : Bool) → (a || b) ≡ true → (a ≡ true) ⊎ (b ≡ true)
either true b e = inl refl
either false b e = inr e

or_first : (a b : Bool) → a ≡ true → (a || b) ≡ true
or_first a b e = ap (λ (x : Bool). x || b) e

or_second : (a b : Bool) → b ≡ true → (a || b) ≡ true
or_second true b e = refl
or_second false b e = e

-- ---- lists without repeats

abbrev Lacks : ℕ → List ℕ → Type 0
Lacks x [] = Unit {0}
Lacks x (y ∷ ys) = ((x == y) ≡ false) × Lacks x ys

abbrev IsDistinct : List ℕ → Type 0
IsDistinct [] = Unit {0}
IsDistinct (x ∷ xs) = Lacks x xs × IsDistinct xs

abbrev AreBelow : ℕ → List ℕ → Type 0
AreBelow n [] = Unit {0}
AreBelow n (x ∷ xs) = (x < n) × AreBelow n xs

abbrev without : ℕ → List ℕ → List ℕ
without m [] = []
without m (x ∷ xs) = cond (m == x) (without m xs) (x ∷ without m xs)

lacks_without : (m x : ℕ) (xs : List ℕ) → Lacks x xs → Lacks x (without m xs)
lacks_without m x [] h = tt
lacks_without m x (y ∷ ys) h = go (m == y) (lacks_without m x ys h.1)
  where
    go : (b : Bool) → Lacks x (without m ys) → Lacks x (cond b (without m ys) (y ∷ without m ys))
    go true more = more
    go false more = (h.0, more)

distinct_without : (m : ℕ) (xs : List ℕ) → IsDistinct xs → IsDistinct (without m xs)
distinct_without m [] h = tt
distinct_without m (x ∷ xs) h = go (m == x) (distinct_without m xs h.1)
  where
    go : (b : Bool) → IsDistinct (without m xs) → IsDistinct (cond b (without m xs) (x ∷ without m xs))
    go true more = more
    go false more = (lacks_without m x xs h.0, more)

below_without : (m : ℕ) (xs : List ℕ) → AreBelow (suc m) xs → AreBelow m (without m xs)
below_without m [] h = tt
below_without m (x ∷ xs) h = go (m == x) refl (below_without m xs h.1)
  where
    go : (b : Bool) → (m == x) ≡ b → AreBelow m (without m xs) → AreBelow m (cond b (without m xs) (x ∷ without m xs))
    go true e more = more
    go false e more = (let low : x < suc m = h.0 in grind (arith, common_steps), more)

-- nothing is taken out where it isn't there
none_taken : (m : ℕ) (xs : List ℕ) → Lacks m xs → length (without m xs) ≡ length xs
none_taken m [] h = refl
none_taken m (x ∷ xs) h = ap (λ (b : Bool). length (cond b (without m xs) (x ∷ without m xs))) h.0 ∙ ap suc (none_taken m xs h.1)

-- at most one is taken out
one_taken : (m : ℕ) (xs : List ℕ) → IsDistinct xs → length xs ≤ suc (length (without m xs))
one_taken m [] h = omega arith
one_taken m (x ∷ xs) h = go (m == x) refl (one_taken m xs h.1)
  where
    go : (b : Bool) → (m == x) ≡ b → length xs ≤ suc (length (without m xs)) → suc (length xs) ≤ suc (length (cond b (without m xs) (x ∷ without m xs)))
    go true e more =
        let same : m ≡ x = same_number m x e in
        let kept : length (without m xs) ≡ length xs = none_taken m xs (subst (λ (k : ℕ). Lacks k xs) (sym same) h.0) in
        omega arith
    go false e more = omega arith

-- of the numbers below n there are n
pub distinct_short : (n : ℕ) (xs : List ℕ) → IsDistinct xs → AreBelow n xs → length xs ≤ n
distinct_short zero [] d b = omega arith
distinct_short zero (x ∷ xs) d b = let low : x < 0 = b.0 in absurd (omega arith)
distinct_short (suc n) xs d b =
    let rest : length (without n xs) ≤ n = distinct_short n (without n xs) (distinct_without n xs d) (below_without n xs b) in
    let one : length xs ≤ suc (length (without n xs)) = one_taken n xs d in
    omega arith

-- ---- chains

-- from where the steps of a chain go
abbrev starts : ℕ → List ℕ → List ℕ
starts a [] = []
starts a (x ∷ chain) = a ∷ starts x chain

starts-length : (a : ℕ) (chain : List ℕ) → length (starts a chain) ≡ length chain
starts-length a [] = refl
starts-length a (x ∷ chain) = ap suc (starts-length x chain)

parent_there : (parents : List (Option ℕ)) (a x : ℕ) → parent_at parents a ≡ Some x → a < length parents
parent_there parents a x e = grind (arith, common_steps)

starts_below : (parents : List (Option ℕ)) (a b : ℕ) (chain : List ℕ) → Leads parents a chain b → AreBelow (length parents) (starts a chain)
starts_below parents a b [] l = tt
starts_below parents a b (x ∷ chain) l = (parent_there parents a x l.0, starts_below parents x b chain l.1)

-- a chain whose steps go from different regions
pub record Short (parents : List (Option ℕ)) (a b : ℕ) : Type 0 where
  pub chain : List ℕ
  pub leads : Leads parents a chain b
  pub distinct : IsDistinct (starts a chain)

-- the chain goes from the region, from where on it is such a chain too; or from none such
abbrev Visits : List (Option ℕ) → (a x b : ℕ) → List ℕ → Type 0
Visits parents a x b chain = Short parents a b ⊎ Lacks a (starts x chain)

visits_of : (parents : List (Option ℕ)) (a x b : ℕ) (chain : List ℕ) → Leads parents x chain b → IsDistinct (starts x chain) → Visits parents a x b chain
visits_of parents a x b [] l d = inr tt
visits_of parents a x b (y ∷ chain) l d = go (a == x) refl (visits_of parents a y b chain l.1 d.1)
  where
    go : (t : Bool) → (a == x) ≡ t → Visits parents a y b chain → Visits parents a x b (y ∷ chain)
    go true e more =
        let same : x ≡ a = sym (same_number a x e) in
        inl (subst (λ (k : ℕ). Short parents k b) same (record { chain = y ∷ chain; leads = l; distinct = d }))
    go false e (inl found) = inl found
    go false e (inr lacks) = inr (e, lacks)

-- each chain can be cut to one whose steps go from different regions
pub shortened : (parents : List (Option ℕ)) (a b : ℕ) (chain : List ℕ) → Leads parents a chain b → Short parents a b
shortened parents a b [] l = record { chain = []; leads = l; distinct = tt }
shortened parents a b (x ∷ chain) l = go (shortened parents x b chain l.1)
  where
    go : Short parents x b → Short parents a b
    go s = elim (visits_of parents a x b s.chain s.leads s.distinct) [
      | inl found ↦ found
      | inr lacks ↦ record { chain = x ∷ s.chain; leads = (l.0, s.leads); distinct = (lacks, s.distinct) }
    ]

-- ---- climbs

pub comes_by : (parents : List (Option ℕ)) (n a b : ℕ) (chain : List ℕ) → Leads parents a chain b → length chain ≤ n → comes_to parents n b a ≡ true
comes_by parents zero a b [] l short = ap (λ (x : ℕ). x == b) l ∙ itself b
comes_by parents (suc n) a b [] l short = or_first (a == b) _ (ap (λ (x : ℕ). x == b) l ∙ itself b)
comes_by parents zero a b (x ∷ chain) l short = absurd (omega arith)
comes_by parents (suc n) a b (x ∷ chain) l short =
    or_second (a == b) _
    (ap (λ (p : Option ℕ). climbs_on p (λ y. comes_to parents n b y)) l.0 ∙ comes_by parents n x b chain l.1 (omega arith))

-- a climb goes by a chain
pub leads_to : (parents : List (Option ℕ)) (n a b : ℕ) → comes_to parents n b a ≡ true → (chain : List ℕ) × Leads parents a chain b
leads_to parents zero a b e = ([], same_number a b e)
leads_to parents (suc n) a b e = elim (either (a == b) _ e) [
  | inl here ↦ ([], same_number a b here)
  | inr on ↦ go (parent_at parents a) refl on (λ x h. leads_to parents n x b h)
]
  where
    go : (p : Option ℕ) → parent_at parents a ≡ p → climbs_on p (λ x. comes_to parents n b x) ≡ true
        → ((x : ℕ) → comes_to parents n b x ≡ true → (chain : List ℕ) × Leads parents x chain b) → (chain : List ℕ) × Leads parents a chain b
    go None is h more = absurd cc
    go (Some x) is h more = let rest = more x h in (x ∷ rest.0, (is, rest.1))

pub under_climbs : (parents : List (Option ℕ)) (a b : ℕ) → IsUnder parents a b → is_under parents a b ≡ true
unfolding IsUnder
under_climbs parents a b u =
    let s : Short parents a b = shortened parents a b u.0 u.1 in
    let few : length (starts a s.chain) ≤ length parents = distinct_short (length parents) (starts a s.chain) s.distinct (starts_below parents a b s.chain s.leads) in
    comes_by parents (length parents) a b s.chain s.leads (omega (arith, starts-length a s.chain))

pub climbs_under : (parents : List (Option ℕ)) (a b : ℕ) → is_under parents a b ≡ true → IsUnder parents a b
unfolding IsUnder
climbs_under parents a b e = leads_to parents (length parents) a b e
