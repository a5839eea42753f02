-- One more element of a list that is mapped.
use Rattle.std.proofs.Common.{◌≡◌, ℕ, ◌+◌, ◌<◌, List, [], ◌∷◌, ◌++◌, Bool, length, map, take, drop, get_or, ap, sym, ◌∙◌, append_assoc, arith}
use Rattle.std.specs.List.Sorted.{IsSortedBy}
use Rattle.std.proofs.lemmas.List.{map-append, take_more, drop_more, take-append-drop, get_or-map, get_or_default, length-map}

pub map_more : {X Y : Type 0} (f : X → Y) (xs : List X) (i : ℕ) (x : X) → i < length xs → x ≡ get_or xs i x → map f (take (i + 1) xs) ≡ map f (take i xs) ++ f x ∷ []
map_more f xs i x low is = ap (map f) (take_more xs i x low) ∙ map-append f (take i xs) (get_or xs i x ∷ []) ∙ ap (λ y. map f (take i xs) ++ f y ∷ []) (sym is)

pub map_read : {X Y : Type 0} (f : X → Y) (xs : List X) (i : ℕ) (d x : X) → i < length xs → x ≡ get_or xs i d → map f (take i xs) ++ f x ∷ [] ≡ map f (take (i + 1) xs)
map_read f xs i d x low is = sym (map_more f xs i x low (is ∙ get_or_default xs i d x low))

-- one more element of xs, behind ys
pub put_more : {X Y : Type 0} (f : X → Y) (ys : List Y) (xs : List X) (i : ℕ) (x : X) → i < length xs → x ≡ get_or xs i x → (ys ++ map f (take i xs)) ++ f x ∷ [] ≡ ys ++ map f (take (i + 1) xs)
put_more f ys xs i x low is = append_assoc ys (map f (take i xs)) (f x ∷ []) ∙ ap (λ l. ys ++ l) (sym (map_more f xs i x low is))

pub map_split : {X Y : Type 0} (f : X → Y) (xs : List X) (i : ℕ) (x : X) → i < length xs → x ≡ get_or xs i x → map f xs ≡ map f (take i xs) ++ f x ∷ map f (drop (i + 1) xs)
map_split f xs i x low is =
    ap (map f) (sym (take-append-drop i xs) ∙ ap (λ l. take i xs ++ l) (drop_more xs i x low ∙ ap (λ y. y ∷ drop (i + 1) xs) (sym is)))
    ∙ map-append f (take i xs) (x ∷ drop (i + 1) xs)

sorted_from : {X Y : Type 0} (f : X → Y) (lt : Y → Y → Bool) (xs : List X) (e : X) → IsSortedBy (λ a b. lt (f a) (f b)) xs → IsSortedBy lt (map f xs)
sorted_from f lt xs e h = λ k d low less.
    let next : k + 1 < length xs = omega (arith, less, length-map xs f) in
    let here : k < length xs = omega arith in
    rw (get_or-map f xs (k + 1) e d next, get_or-map f xs k e d here) (h k e low next)

pub sorted_map : {X Y : Type 0} (f : X → Y) (lt : Y → Y → Bool) (xs : List X) → IsSortedBy (λ a b. lt (f a) (f b)) xs → IsSortedBy lt (map f xs)
sorted_map f lt [] h = λ k d low less. absurd (omega arith)
sorted_map f lt (x ∷ xs) h = sorted_from f lt (x ∷ xs) x h
