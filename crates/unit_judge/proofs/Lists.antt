-- What loops put for the elements of lists.
use Rattle.std.proofs.Common.{◌≡◌, ℕ, ◌+◌, ◌<◌, zero, suc, Bool, true, false, cond, List, [], ◌∷◌, ◌++◌, length, get_or, refl, sym, ap, ◌∙◌, drop, take, map, append_assoc, arith}
use Rattle.std.specs.List.{slice_get}
use Rattle.std.specs.Prelude.{Option}
use Rattle.std.proofs.lemmas.List.{take_more, map-append}
use Rattle.std.proofs.lemmas.List.Elements.{filter-append}
use Rattle.std.specs.Prelude.{filter}
use Rattle.promise_scrub.specs.declared.surface.Aside.{Aside}
use Rattle.promise_scrub.specs.declared.surface.Standing.{Standing}
use Rattle.unit_findings.specs.declared.promise.UnitPromise.{UnitPromise}
use Rattle.unit_judge.specs.Promises.{aside_if, aside_promise, aside_promises, is_at, promise_if, standing_promise}

one_more : (i : ℕ) → i + 1 ≡ suc i
one_more i = omega arith

first_left : (xs : List Standing) (i : ℕ)
    → map standing_promise (drop i xs) ≡ promise_if (slice_get xs i) ++ map standing_promise (drop (suc i) xs)
first_left [] zero = refl
first_left [] (suc i) = refl
first_left (x ∷ xs) zero = refl
first_left (x ∷ xs) (suc i) = first_left xs i

pub put_next : (xs : List Standing) (i : ℕ) (given : Option Standing) (old new all : List UnitPromise)
    → given ≡ slice_get xs i → old ++ map standing_promise (drop i xs) ≡ all
    → new ≡ old ++ promise_if given
    → new ++ map standing_promise (drop (i + 1) xs) ≡ all
put_next xs i given old new all is before put =
    ap (λ l. l ++ map standing_promise (drop (i + 1) xs)) (put ∙ ap (λ g. old ++ promise_if g) is)
    ∙ (append_assoc old (promise_if (slice_get xs i)) (map standing_promise (drop (i + 1) xs))
    ∙ (ap (λ k. old ++ (promise_if (slice_get xs i) ++ map standing_promise (drop k xs))) (one_more i)
    ∙ (ap (λ l. old ++ l) (sym (first_left xs i)) ∙ before)))

one_aside : (unit places : List ℕ) (a : Aside) → aside_promises unit places (a ∷ []) ≡ aside_if unit places a
one_aside unit places a = go (is_at unit a)
  where
    go : (b : Bool) → map (aside_promise places) (cond b (a ∷ []) []) ≡ cond b (aside_promise places a ∷ []) []
    go true = refl
    go false = refl

pub asides_more : (unit places : List ℕ) (xs : List Aside) (i : ℕ) (a : Aside) (old mid new : List UnitPromise)
    → i < length xs → a ≡ get_or xs i a → mid ≡ old ++ aside_promises unit places (take i xs)
    → new ≡ mid ++ aside_if unit places a → new ≡ old ++ aside_promises unit places (take (i + 1) xs)
asides_more unit places xs i a old mid new low is before put =
    let front = take i xs in
    let all : take (i + 1) xs ≡ front ++ a ∷ [] = take_more xs i a low ∙ ap (λ x. front ++ x ∷ []) (sym is) in
    let both : aside_promises unit places (take (i + 1) xs) ≡ aside_promises unit places front ++ aside_if unit places a =
    ap (aside_promises unit places) all
    ∙ (ap (map (aside_promise places)) (filter-append (is_at unit) front (a ∷ []))
    ∙ (map-append (aside_promise places) (filter (is_at unit) front) (filter (is_at unit) (a ∷ []))
    ∙ ap (λ l. aside_promises unit places front ++ l) (one_aside unit places a))) in
    put ∙ (ap (λ l. l ++ aside_if unit places a) before
    ∙ (append_assoc old (aside_promises unit places front) (aside_if unit places a)
    ∙ ap (λ l. old ++ l) (sym both)))
