-- The methods of interfaces that have been put when some names have been met.
use Rattle.std.proofs.Common.{◌≡◌, ℕ, ◌+◌, ◌<◌, Bool, true, false, ◌||◌, not, List, [], ◌∷◌, ◌++◌, refl, sym, ap, ◌∙◌, length, take, drop, get_or, append_assoc, arith, if◌then◌else◌}
use Rattle.std.specs.List.{flat_map}
use Rattle.std.specs.Str.{bytes_eq}
use Rattle.std.proofs.lemmas.Grind.{common_steps}
use Rattle.std.proofs.lemmas.List.Folds.{list_any_more}
use Rattle.bound_unit.specs.Names.{Name}
use Rattle.bound_unit.specs.Implemented.{Above, is_among, new_names}

or_swap : (a b : Bool) → (a || b) ≡ (b || a)
or_swap true true = refl
or_swap true false = refl
or_swap false true = refl
or_swap false false = refl

-- one more name is met
pub met_more : (old new : Name → Bool) (xs : List Name) (i : ℕ) (x : Name) → i < length xs → x ≡ get_or xs i x
    → ((q : Name) → old q ≡ is_among (take i xs) q) → ((q : Name) → new q ≡ (bytes_eq q x || old q))
    → (q : Name) → new q ≡ is_among (take (i + 1) xs) q
met_more old new xs i x less is before put q =
    put q ∙ (ap (λ b. bytes_eq q x || b) (before q)
    ∙ (or_swap (bytes_eq q x) (is_among (take i xs) q)
    ∙ (ap (λ y. is_among (take i xs) q || bytes_eq q y) is ∙ sym (list_any_more (λ m. bytes_eq q m) xs i x less))))

drop_one : (xs : List Name) (i : ℕ) (x : Name) → i < length xs → x ≡ get_or xs i x → drop i xs ≡ x ∷ drop (i + 1) xs
drop_one xs i x less is = grind (arith, common_steps)

take_one : (xs : List Name) (i : ℕ) (x : Name) → i < length xs → x ≡ get_or xs i x → take (i + 1) xs ≡ take i xs ++ x ∷ []
take_one xs i x less is = grind (arith, common_steps)

-- the names that are left, the first of which is that one
left : (before rest : List Name) (x : Name) (b : Bool) → is_among before x ≡ b
    → new_names before (x ∷ rest) ≡ (if b then new_names (before ++ x ∷ []) rest else x ∷ new_names (before ++ x ∷ []) rest)
left before rest x b is = ap (λ t. if t then new_names (before ++ x ∷ []) rest else x ∷ new_names (before ++ x ∷ []) rest) is

next : (xs : List Name) (i : ℕ) (x : Name) (b : Bool) → i < length xs → x ≡ get_or xs i x → is_among (take i xs) x ≡ b
    → new_names (take i xs) (drop i xs) ≡ (if b then new_names (take (i + 1) xs) (drop (i + 1) xs) else x ∷ new_names (take (i + 1) xs) (drop (i + 1) xs))
next xs i x b less is among =
    ap (new_names (take i xs)) (drop_one xs i x less is)
    ∙ (left (take i xs) (drop (i + 1) xs) x b among
    ∙ ap (λ ys. if b then new_names ys (drop (i + 1) xs) else x ∷ new_names ys (drop (i + 1) xs)) (sym (take_one xs i x less is)))

-- a name that has been met puts nothing
met_puts : (f : Name → List Above) (xs : List Name) (i : ℕ) (x : Name) (old all : List Above)
    → i < length xs → x ≡ get_or xs i x → is_among (take i xs) x ≡ true
    → old ++ flat_map f (new_names (take i xs) (drop i xs)) ≡ all
    → old ++ flat_map f (new_names (take (i + 1) xs) (drop (i + 1) xs)) ≡ all
met_puts f xs i x old all less is among before =
    ap (λ ns. old ++ flat_map f ns) (sym (next xs i x true less is among)) ∙ before

-- a new name puts its own
new_puts : (f : Name → List Above) (xs : List Name) (i : ℕ) (x : Name) (old new all : List Above)
    → i < length xs → x ≡ get_or xs i x → is_among (take i xs) x ≡ false
    → old ++ flat_map f (new_names (take i xs) (drop i xs)) ≡ all → new ≡ old ++ f x
    → new ++ flat_map f (new_names (take (i + 1) xs) (drop (i + 1) xs)) ≡ all
new_puts f xs i x old new all less is among before put =
    ap (λ l. l ++ flat_map f (new_names (take (i + 1) xs) (drop (i + 1) xs))) put
    ∙ (append_assoc old (f x) (flat_map f (new_names (take (i + 1) xs) (drop (i + 1) xs)))
    ∙ (ap (λ ns. old ++ flat_map f ns) (sym (next xs i x false less is among)) ∙ before))

not_true : (b : Bool) → not b ≡ true → b ≡ false
not_true false h = refl
not_true true h = absurd (cc)

not_false : (b : Bool) → not b ≡ false → b ≡ true
not_false true h = refl
not_false false h = absurd (cc)

-- what the loop does at a name: it is met, and puts its own where it is new
pub at_new : (f : Name → List Above) (met : Name → Bool) (xs : List Name) (i : ℕ) (x : Name) (fresh : Bool) (old new all : List Above)
    → i < length xs → x ≡ get_or xs i x → ((q : Name) → met q ≡ is_among (take i xs) q) → fresh ≡ not (met x) → fresh ≡ true
    → old ++ flat_map f (new_names (take i xs) (drop i xs)) ≡ all → new ≡ old ++ f x
    → new ++ flat_map f (new_names (take (i + 1) xs) (drop (i + 1) xs)) ≡ all
at_new f met xs i x fresh old new all less is before told holds =
    new_puts f xs i x old new all less is (sym (before x) ∙ not_true (met x) (sym told ∙ holds))

pub at_met : (f : Name → List Above) (met : Name → Bool) (xs : List Name) (i : ℕ) (x : Name) (fresh : Bool) (old new all : List Above)
    → i < length xs → x ≡ get_or xs i x → ((q : Name) → met q ≡ is_among (take i xs) q) → fresh ≡ not (met x) → fresh ≡ false
    → old ++ flat_map f (new_names (take i xs) (drop i xs)) ≡ all → new ≡ old
    → new ++ flat_map f (new_names (take (i + 1) xs) (drop (i + 1) xs)) ≡ all
at_met f met xs i x fresh old new all less is before told fails from same =
    ap (λ l. l ++ flat_map f (new_names (take (i + 1) xs) (drop (i + 1) xs))) same
    ∙ met_puts f xs i x old all less is (sym (before x) ∙ not_false (met x) (sym told ∙ fails)) from
