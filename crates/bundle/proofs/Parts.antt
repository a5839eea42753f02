-- How a path is cut at its first slash.
use Rattle.std.proofs.Common.{◌≡◌, ℕ, ◌+◌, ◌<◌, ◌≤◌, ◌==◌, Bool, true, false, List, [], ◌∷◌, length, take, drop, cond, Some, None, Option, refl, ap, ◌∙◌, arith, ltb}
use Rattle.std.specs.Option.{MatchOption}
use Rattle.std.specs.List.{slice_split, position, position_or_len, onto_first}
use Rattle.std.proofs.lemmas.List.Splits.{slice_split_first, slice_split-cons_no}
use borrow.Author.Tests.{ltb-true, ltb-false}

-- cut at the first place of which p holds, if there is one
abbrev pub CutAt : (ℕ → Bool) → List ℕ → Option ℕ → Type 0
CutAt p xs found = MatchOption found (slice_split p xs ≡ xs ∷ []) (λ i. (i < length xs) × (slice_split p xs ≡ take i xs ∷ slice_split p (drop (i + 1) xs)))

none_by : (p : ℕ → Bool) (x : ℕ) (xs : List ℕ) (b : Bool) → p x ≡ b → (length xs ≤ position_or_len p xs → slice_split p xs ≡ xs ∷ []) → length (x ∷ xs) ≤ position_or_len p (x ∷ xs) → slice_split p (x ∷ xs) ≡ (x ∷ xs) ∷ []
none_by p x xs true is rest past = grind (arith, is)
none_by p x xs false is rest past = slice_split-cons_no p x xs is ∙ ap (onto_first x) (rest (grind (arith, is)))

-- where p holds nowhere, the list is its one part
none_found : (p : ℕ → Bool) (xs : List ℕ) → length xs ≤ position_or_len p xs → slice_split p xs ≡ xs ∷ []
none_found p [] _ = refl
none_found p (x ∷ xs) past = none_by p x xs (p x) refl (none_found p xs) past

cut_by : (p : ℕ → Bool) (xs : List ℕ) (b : Bool) (found : Option ℕ) → ltb (position_or_len p xs) (length xs) ≡ b → found ≡ cond b (Some (position_or_len p xs)) None → CutAt p xs found
cut_by p xs true found low e = let within : position_or_len p xs < length xs = ltb-true _ _ low in rw e (within, slice_split_first p xs 0 within)
cut_by p xs false found low e = rw e (none_found p xs (ltb-false _ _ low))

pub cut_at_slash : (path : List ℕ) (found : Option ℕ) → found ≡ position (λ b. b == 47) path → CutAt (λ b. b == 47) path found
cut_at_slash path found e = cut_by (λ b. b == 47) path _ found refl e
