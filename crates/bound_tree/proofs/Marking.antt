-- Tables of locals.
use Rattle.std.proofs.Common.{◌≡◌, ◌≢◌, refl, ℕ, zero, suc, ◌+◌, ◌<◌, ◌==◌, Bool, true, false, ◌||◌, List, [], ◌∷◌, ◌++◌, ◌⊎◌, inl, inr, length, take, get_or, sym, ap, ◌∙◌, append_assoc, eq-eqb, eqb-true, get_or-set_other, get_or-set_same}
use Rattle.std.proofs.Math.ListN.{set}
use Rattle.std.proofs.lemmas.Bool.{cases_Bool}
use Rattle.std.proofs.lemmas.List.{append-nil, take_more}
use Rattle.bound_tree.specs.Claims.{among}
use Rattle.bound_tree.proofs.Tests.{false-true}

pub ruleset appending = (append_assoc, append-nil)

or-none : (b : Bool) → (b || false) ≡ b
or-none true = refl
or-none false = refl

or-some : (b : Bool) → (b || true) ≡ true
or-some true = refl
or-some false = refl

or-assoc : (a b c : Bool) → ((a || b) || c) ≡ (a || (b || c))
or-assoc true b c = refl
or-assoc false b c = refl

-- a table that ends later
pub get_or-padded : (xs : List Bool) (x : ℕ) → get_or (xs ++ false ∷ []) x false ≡ get_or xs x false
get_or-padded [] zero = refl
get_or-padded [] (suc n) = refl
get_or-padded (y ∷ ys) zero = refl
get_or-padded (y ∷ ys) (suc n) = get_or-padded ys n

marked-by : (xs : List Bool) (i x : ℕ) → i < length xs → ((x == i) ≡ true) ⊎ ((x == i) ≡ false)
    → get_or (set xs i true) x false ≡ (get_or xs x false || (x == i))
marked-by xs i x h (inl e) =
    let same : x ≡ i = eqb-true x i e in
    ap (λ (n : ℕ). get_or (set xs i true) n false) same
    ∙ get_or-set_same xs i true false h
    ∙ sym (or-some (get_or xs x false))
    ∙ ap (λ (b : Bool). get_or xs x false || b) (sym e)
marked-by xs i x h (inr e) =
    let ne : x ≢ i = λ s. false-true (sym e ∙ eq-eqb x i s) in
    get_or-set_other xs i x true false ne ∙ sym (or-none (get_or xs x false)) ∙ ap (λ (b : Bool). get_or xs x false || b) (sym e)

-- what a mark leaves
pub marked : (xs : List Bool) (i x : ℕ) → i < length xs → get_or (set xs i true) x false ≡ (get_or xs x false || (x == i))
marked xs i x h = marked-by xs i x h (cases_Bool (x == i))

among-append : (x : ℕ) (xs ys : List ℕ) → among x (xs ++ ys) ≡ (among x xs || among x ys)
among-append x [] ys = refl
among-append x (y ∷ xs) ys = ap (λ (b : Bool). (x == y) || b) (among-append x xs ys) ∙ sym (or-assoc (x == y) (among x xs) (among x ys))

-- one local more
pub among_more : (x : ℕ) (xs : List ℕ) (i d : ℕ) → i < length xs → among x (take (i + 1) xs) ≡ (among x (take i xs) || (x == get_or xs i d))
among_more x xs i d h =
    ap (among x) (take_more xs i d h) ∙ among-append x (take i xs) (get_or xs i d ∷ [])
    ∙ ap (λ (b : Bool). among x (take i xs) || b) (or-none (x == get_or xs i d))

-- what marking one local more leaves
pub marked_more : (x i d : ℕ) (xs : List ℕ) (old new : Bool) → new ≡ (old || (x == get_or xs i d)) → old ≡ among x (take i xs) → i < length xs
    → new ≡ among x (take (i + 1) xs)
marked_more x i d xs old new e f h = e ∙ ap (λ (b : Bool). b || (x == get_or xs i d)) f ∙ sym (among_more x xs i d h)
