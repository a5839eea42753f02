-- What is set aside has its number.
use Rattle.std.proofs.Common.{◌≡◌, ℕ, zero, suc, ◌+◌, List, [], ◌∷◌, ◌++◌, take, refl, sym, ◌∙◌, ap, subst, inl, inr, arith}
use Rattle.std.specs.Prelude.{◌⊎◌, Option, Some}
use Rattle.std.specs.List.{slice_get}
use Rattle.desk_base.specs.declared.key.PromiseName.{PromiseName}
use Rattle.result_records.specs.declared.code.FindingCode.{FindingCode}
use Rattle.promise_scrub.specs.Counted.{IsAmong, IsCounted}
use Rattle.promise_scrub.specs.Steps.{number_in}
use Rattle.promise_scrub.specs.Verdicts.{Judged, Verdict, Stands, SetAside, Dropped, aside_of, asides, counts, set_aside_by}
use Rattle.promise_scrub.specs.declared.surface.Aside.{Aside}

among_right : (a : Aside) (xs ys : List Aside) → IsAmong a ys → IsAmong a (xs ++ ys)
among_right a [] ys h = h
among_right a (x ∷ xs) ys h = inr (among_right a xs ys h)

some_same : (a b : Judged) → Some a ≡ Some b → a ≡ b
some_same a b e = cc

aside_after : (key : List ℕ) (n : ℕ) (js : List Judged) (i : ℕ) (j : Judged) (code : FindingCode) → slice_get js i ≡ Some j → j.verdict ≡ SetAside code
    → IsAmong (aside_of key j.annotation.name ((n + number_in (take i js)) + 1) code) (asides key n js)
aside_after key n [] i j code at v = absurd (cc)
aside_after key n (x ∷ xs) zero j code at v =
    let same : x ≡ j = some_same x j at in
    let mine : x.verdict ≡ SetAside code = ap (λ (z : Judged). z.verdict) same ∙ v in
    let number : (n + 0) + 1 ≡ n + 1 = omega arith in
    subst (λ (w : Verdict). IsAmong (aside_of key j.annotation.name ((n + 0) + 1) code) (set_aside_by key (n + 1) x.annotation.name w ++ asides key (n + counts x.verdict) xs)) (sym mine)
    (inl ((λ i. aside_of key (sym same i).annotation.name (number i) code)))
aside_after key n (x ∷ xs) (suc i) j code at v =
    let number : ((n + counts x.verdict) + number_in (take i xs)) + 1 ≡ (n + (counts x.verdict + number_in (take i xs))) + 1 = omega arith in
    among_right _ (set_aside_by key (n + 1) x.annotation.name x.verdict) (asides key (n + counts x.verdict) xs)
    (subst (λ (k : ℕ). IsAmong (aside_of key j.annotation.name k code) (asides key (n + counts x.verdict) xs)) number
    (aside_after key (n + counts x.verdict) xs i j code at v))

pub aside_where : (key : List ℕ) (js : List Judged) (k : ℕ) (j : Judged) (code : FindingCode) → IsCounted js k j → j.verdict ≡ SetAside code
    → IsAmong (aside_of key j.annotation.name k code) (asides key 0 js)
aside_where key js k j code c v =
    let number : (0 + number_in (take c.place js)) + 1 ≡ k = (let e : (0 + number_in (take c.place js)) + 1 ≡ number_in (take c.place js) + 1 = omega arith in e) ∙ sym c.number in
    subst (λ (n : ℕ). IsAmong (aside_of key j.annotation.name n code) (asides key 0 js)) number (aside_after key 0 js c.place j code c.there v)

-- and nothing else is set aside
abbrev Found : List ℕ → ℕ → List Judged → Aside → Type 0
Found key n js a = (i : ℕ) × (j : Judged) × (code : FindingCode) × (slice_get js i ≡ Some j) × (j.verdict ≡ SetAside code)
    × (a ≡ aside_of key j.annotation.name ((n + number_in (take i js)) + 1) code)

later : (key : List ℕ) (n : ℕ) (x : Judged) (xs : List Judged) (a : Aside) → Found key (n + counts x.verdict) xs a → Found key n (x ∷ xs) a
later key n x xs a (i, j, code, at, v, is) =
    let number : ((n + counts x.verdict) + number_in (take i xs)) + 1 ≡ (n + (counts x.verdict + number_in (take i xs))) + 1 = omega arith in
    (suc i, j, code, at, v, is ∙ ap (λ (k : ℕ). aside_of key j.annotation.name k code) number)

found_after : (key : List ℕ) (n : ℕ) (js : List Judged) (a : Aside) → IsAmong a (asides key n js) → Found key n js a
found_after key n [] a h = absurd h
found_after key n (x ∷ xs) a h = go x.verdict refl (found_after key (n + counts x.verdict) xs a) h
  where
    go : (v : Verdict) → x.verdict ≡ v → (IsAmong a (asides key (n + counts x.verdict) xs) → Found key (n + counts x.verdict) xs a)
        → IsAmong a (set_aside_by key (n + 1) x.annotation.name v ++ asides key (n + counts x.verdict) xs) → Found key n (x ∷ xs) a
    go (Stands tree offers) e rest k = later key n x xs a (rest k)
    go Dropped e rest k = later key n x xs a (rest k)
    go (SetAside code) e rest (inl same) =
        (0, x, code, refl, e, same ∙ ap (λ (k : ℕ). aside_of key x.annotation.name k code) (let z : n + 1 ≡ (n + 0) + 1 = omega arith in z))
    go (SetAside code) e rest (inr k) = later key n x xs a (rest k)

pub where_aside : (key : List ℕ) (js : List Judged) (a : Aside) → IsAmong a (asides key 0 js)
    → (k : ℕ) × (j : Judged) × (code : FindingCode) × IsCounted js k j × (j.verdict ≡ SetAside code) × (a ≡ aside_of key j.annotation.name k code)
where_aside key js a h =
    let (i, j, code, at, v, is) = found_after key 0 js a h in (
      number_in (take i js) + 1,
      j,
      code,
      record { place = i; there = at; left = ap counts v; number = refl },
      v,
      is ∙ ap (λ (k : ℕ). aside_of key j.annotation.name k code) (let e : (0 + number_in (take i js)) + 1 ≡ number_in (take i js) + 1 = omega arith in e),
    )
