-- Fronts of a list whose elements pass a test, and words that a list begins with.
use Rattle.std.proofs.Common.{◌≡◌, ℕ, ◌+◌, Bool, true, false, List, [], ◌∷◌, ◌++◌, ◌&&◌, length, take, drop, cond, Some, None, refl, ap, sym, ◌∙◌, nat_eq, add_comm, add-one}
use Rattle.std.specs.List.{list_all, prefix_len, take_while}
use Rattle.std.specs.Cmp.Lexicographic.{pointwise}
use Rattle.std.proofs.Math.Seq.{drop-append_seam}
use Rattle.std.proofs.lemmas.List.Sums.{take_while-cons}
use Rattle.std.proofs.lemmas.List.{take-append-drop}
use Rattle.std.proofs.lemmas.Slice.Eq.{bytes_eq-Decides}
use Rattle.bundle.specs.Reading.{stripped}

passes_by : (p : ℕ → Bool) (x : ℕ) (xs : List ℕ) (b : Bool) → p x ≡ b → list_all p (take_while p xs) ≡ true → list_all p (cond b (x ∷ take_while p xs) []) ≡ true
passes_by p x xs true is rest = rw is rest
passes_by p x xs false is rest = refl

-- each element of the longest front that passes does
pub passes-take_while : (p : ℕ → Bool) (xs : List ℕ) → list_all p (take_while p xs) ≡ true
passes-take_while p [] = refl
passes-take_while p (x ∷ xs) = rw (take_while-cons p x xs) (passes_by p x xs (p x) refl (passes-take_while p xs))

front_by : (p : ℕ → Bool) (n k : ℕ) (all rest : Bool) → (all && rest) ≡ true → (rest ≡ true → n ≡ k) → cond all (1 + n) 0 ≡ k + 1
front_by p n k true rest passes ih = rw (ih passes) (add_comm 1 k)
front_by p n k false rest passes ih = cc

-- the front ends at the first byte that fails
pub prefix_len-front : (p : ℕ → Bool) (xs : List ℕ) (y : ℕ) (ys : List ℕ) → list_all p xs ≡ true → p y ≡ false → prefix_len p (xs ++ y ∷ ys) ≡ length xs
prefix_len-front p [] y ys all stop = rw stop refl
prefix_len-front p (x ∷ xs) y ys all stop = front_by p _ _ (p x) (list_all p xs) all (λ passes. prefix_len-front p xs y ys passes stop) ∙ add-one (length xs)

pub take-front : (xs ys : List ℕ) → take (length xs) (xs ++ ys) ≡ xs
take-front [] ys = refl
take-front (x ∷ xs) ys = ap (λ l. x ∷ l) (take-front xs ys)

pub take_while-front : (p : ℕ → Bool) (xs : List ℕ) (y : ℕ) (ys : List ℕ) → list_all p xs ≡ true → p y ≡ false → take_while p (xs ++ y ∷ ys) ≡ xs
take_while-front p xs y ys all stop = ap (λ n. take n (xs ++ y ∷ ys)) (prefix_len-front p xs y ys all stop) ∙ take-front xs (y ∷ ys)

pub drop_while-front : (p : ℕ → Bool) (xs : List ℕ) (y : ℕ) (ys : List ℕ) → list_all p xs ≡ true → p y ≡ false → drop (prefix_len p (xs ++ y ∷ ys)) (xs ++ y ∷ ys) ≡ y ∷ ys
drop_while-front p xs y ys all stop = ap (λ n. drop n (xs ++ y ∷ ys)) (prefix_len-front p xs y ys all stop) ∙ drop-append_seam xs (y ∷ ys)

strip_by : (word bytes rest : List ℕ) (b : Bool) → pointwise nat_eq word (take (length word) bytes) ≡ b → cond b (Some (drop (length word) bytes)) None ≡ Some rest → bytes ≡ word ++ rest
strip_by word bytes rest true same e =
    let front : word ≡ take (length word) bytes = (bytes_eq-Decides word (take (length word) bytes)).0 same in
    let after : drop (length word) bytes ≡ rest = cc in
    sym (take-append-drop (length word) bytes) ∙ ap (λ l. l ++ drop (length word) bytes) (sym front) ∙ ap (λ l. word ++ l) after
strip_by word bytes rest false same e = cc

-- what is left after a word is what follows it
pub stripped_is : (word bytes rest : List ℕ) → stripped word bytes ≡ Some rest → bytes ≡ word ++ rest
stripped_is word bytes rest e = strip_by word bytes rest _ refl e

pub stripped_again : (word rest : List ℕ) → stripped word (word ++ rest) ≡ Some rest
stripped_again word rest =
    let same : pointwise nat_eq word (take (length word) (word ++ rest)) ≡ true = (bytes_eq-Decides word (take (length word) (word ++ rest))).1 (sym (take-front word rest)) in
    rw same (ap (λ l. Some l) (drop-append_seam word rest))
