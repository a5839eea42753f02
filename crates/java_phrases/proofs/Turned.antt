-- A list that is kept with its first element last.
use Rattle.std.proofs.Common.{◌≡◌, ◌-◌, List, [], ◌∷◌, ◌++◌, length, reverse, refl, ap, ◌∙◌, sym, arith, append_assoc}
use Rattle.std.proofs.lemmas.List.{reverse-append, append-nil}
use Rattle.std.specs.List.{slice_get}
use Rattle.java_phrases.specs.Parser.{first}

first-onto : {A : Type 0} (x : A) (xs acc : List A) → first (reverse (x ∷ xs) ++ acc) ≡ slice_get (x ∷ xs) (length xs)
first-onto x [] acc = refl
first-onto x (y ∷ ys) acc =
    ap (λ r. first (r ++ acc)) (reverse-append (x ∷ []) (y ∷ ys)) ∙ ap first (append_assoc (reverse (y ∷ ys)) (x ∷ []) acc) ∙ first-onto y ys (x ∷ acc)

pub first_reverse : {A : Type 0} (xs : List A) → first (reverse xs) ≡ slice_get xs (length xs - 1)
first_reverse [] = refl
first_reverse (x ∷ xs) =
    let last : length xs ≡ length (x ∷ xs) - 1 = omega arith in
    ap first (sym (append-nil (reverse (x ∷ xs)))) ∙ first-onto x xs [] ∙ ap (slice_get (x ∷ xs)) last

pub reverse_push : {A : Type 0} (xs : List A) (x : A) → reverse (xs ++ x ∷ []) ≡ x ∷ reverse xs
reverse_push xs x = reverse-append xs (x ∷ [])
