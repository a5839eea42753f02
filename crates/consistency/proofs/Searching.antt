-- A search goes one element further.
use Rattle.std.proofs.Common.{◌≡◌, ℕ, zero, suc, ◌+◌, ◌<◌, List, [], ◌∷◌, ◌++◌, length, get_or, take, arith, refl, sym, ◌∙◌, ap, subst, Bool, true, false, cond, ◌||◌}
use Rattle.std.specs.Prelude.{Option, Some, None, find}
use Rattle.std.specs.List.{list_any}
use Rattle.std.proofs.lemmas.List.{take_more}

any_put : {X : Type 0} (t : X → Bool) (xs : List X) (x : X) (b : Bool) → list_any t xs ≡ false → t x ≡ b → list_any t (xs ++ x ∷ []) ≡ b
any_put t [] x true h e = or_left (t x) e
  where
    or_left : (a : Bool) → a ≡ true → (a || false) ≡ true
    or_left true e = refl
    or_left false e = absurd cc
any_put t [] x false h e = or_left (t x) e
  where
    or_left : (a : Bool) → a ≡ false → (a || false) ≡ false
    or_left true e = absurd cc
    or_left false e = refl
any_put t (y ∷ ys) x b h e = let w = or_fails (t y) (list_any t ys) h in or_right (t y) (list_any t (ys ++ x ∷ [])) b w.0 (any_put t ys x b w.1 e)
  where
    or_fails : (a b : Bool) → (a || b) ≡ false → (a ≡ false) × (b ≡ false)
    or_fails true b h = absurd cc
    or_fails false b h = (refl, h)

    or_right : (a b c : Bool) → a ≡ false → b ≡ c → (a || b) ≡ c
    or_right true b c e h = absurd cc
    or_right false b c e h = h

-- none so far, and not this one
pub none_more : {X : Type 0} (t : X → Bool) (xs : List X) (i : ℕ) (x : X) → i < length xs → x ≡ get_or xs i x → t x ≡ false → list_any t (take i xs) ≡ false → list_any t (take (i + 1) xs) ≡ false
none_more {X} t xs i x lt is e h =
    ap (λ (z : List X). list_any t z) (take_more xs i x lt ∙ ap (λ (z : X). take i xs ++ z ∷ []) (sym is)) ∙ any_put t (take i xs) x false h e

any_part : {X : Type 0} (t : X → Bool) (xs : List X) (i : ℕ) (x : X) → i < length xs → x ≡ get_or xs i x → t x ≡ true → list_any t xs ≡ true
any_part t [] i x lt is e = absurd (omega arith)
any_part {X} t (y ∷ ys) zero x lt is e = or_true (t y) (list_any t ys) (subst (λ (z : X). t z ≡ true) is e)
  where
    or_true : (a b : Bool) → a ≡ true → (a || b) ≡ true
    or_true true b e = refl
    or_true false b e = absurd cc
any_part t (y ∷ ys) (suc i) x lt is e = or_also (t y) (list_any t ys) (any_part t ys i x (omega arith) is e)
  where
    or_also : (a b : Bool) → b ≡ true → (a || b) ≡ true
    or_also true b e = refl
    or_also false b e = e

pub any_here : {X : Type 0} (t : X → Bool) (xs : List X) (i : ℕ) (x : X) → i < length xs → x ≡ get_or xs i x → t x ≡ true → list_any t xs ≡ true
any_here t xs i x lt is e = any_part t xs i x lt is e

-- the first that passes, where none before it does
pub find_here : {X : Type 0} (t : X → Bool) (xs : List X) (i : ℕ) (x : X) → i < length xs → x ≡ get_or xs i x → t x ≡ true → find t (take i xs) ≡ None → find t xs ≡ Some x
find_here t [] i x lt is e h = absurd (omega arith)
find_here {X} t (y ∷ ys) zero x lt is e h = here (t y) (subst (λ (z : X). t z ≡ true) is e) is
  where
    here : (b : Bool) → b ≡ true → x ≡ y → cond b (Some y) (find t ys) ≡ Some x
    here true e is = ap (λ (z : X). Some z) (sym is)
    here false e is = absurd cc
find_here {X} t (y ∷ ys) (suc i) x lt is e h = later (t y) (find t (take i ys)) (find t ys) h (λ h2. find_here t ys i x (omega arith) is e h2)
  where
    later : (b : Bool) (o p : Option X) → cond b (Some y) o ≡ None → (o ≡ None → p ≡ Some x) → cond b (Some y) p ≡ Some x
    later true o p h f = absurd cc
    later false o p h f = f h

-- none so far, and not this one
pub find_more : {X : Type 0} (t : X → Bool) (xs : List X) (i : ℕ) (x : X) → i < length xs → x ≡ get_or xs i x → t x ≡ false → find t (take i xs) ≡ None → find t (take (i + 1) xs) ≡ None
find_more {X} t xs i x lt is e h = ap (λ (z : List X). find t z) (take_more xs i x lt ∙ ap (λ (z : X). take i xs ++ z ∷ []) (sym is)) ∙ put t (take i xs) x h e
  where
    later : (b : Bool) (y : X) (o p : Option X) → cond b (Some y) o ≡ None → (o ≡ None → p ≡ None) → cond b (Some y) p ≡ None
    later true y o p h f = absurd cc
    later false y o p h f = f h

    one : (b : Bool) (y : X) → b ≡ false → cond b (Some y) None ≡ None
    one true y e = absurd cc
    one false y e = refl

    put : (t : X → Bool) (ys : List X) (x : X) → find t ys ≡ None → t x ≡ false → find t (ys ++ x ∷ []) ≡ None
    put t [] x h e = one (t x) x e
    put t (y ∷ ys) x h e = later (t y) y (find t ys) (find t (ys ++ x ∷ [])) h (λ h2. put t ys x h2 e)
