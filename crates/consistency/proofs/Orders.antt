-- The promises that left, in the order of their rounds.
use Rattle.std.proofs.Common.{◌≡◌, ℕ, ◌+◌, ◌<◌, ◌≤◌, List, ◌++◌, length, get_or, take, arith, refl, sym, ◌∙◌, subst, ◌⊎◌, inl, inr, replicate}
use Rattle.std.specs.Prelude.{Option, Some, None, Contains}
use Rattle.std.proofs.lemmas.List.{get_or-replicate, length-replicate, take-append-le, length-append, get_or_append_left, get_or_past, length-take, get_or-take}
use Rattle.std.proofs.lemmas.List.Elements.{Contains-append_left, Contains-append_right, Contains-append_cases, Contains-get_or}
use Rattle.consistency.specs.Steps.{Grows, InOrder, LeftBy, Leave}

below_or_past : (i n : ℕ) → (i < n) ⊎ (n ≤ i)
below_or_past i n = grind arith

-- who has left is in the list
pub some_within : (left : List (Option ℕ)) (p r : ℕ) → get_or left p None ≡ Some r → p < length left
some_within left p r h = elim (below_or_past p (length left)) [
  | inl lt ↦ lt
  | inr past ↦ absurd (let z = get_or_past left p None past in cc)
]

cause_of : (on emptied : List ℕ) (round : ℕ) (before after : List (Option ℕ)) (front : List ℕ) → Leave on emptied round before after front
    → (p r : ℕ) → get_or after p None ≡ Some r → (o : Option ℕ) → get_or before p None ≡ o → (get_or before p None ≡ Some r) ⊎ ((r ≡ round) × Contains front p)
cause_of on emptied round before after front e p r h None is = elim (e.cause p is) [
  | inl still ↦ absurd cc
  | inr gone ↦ (let g = gone.0 in let same : r ≡ round = cc in
      let lt = some_within after p r h in let size = e.size in
      inr (same, e.front_all p (omega arith) is (subst (λ (z : ℕ). get_or after p None ≡ Some z) same h)))
]
cause_of on emptied round before after front e p r h (Some x) is =
    let s = e.stays p x is in let same : x ≡ r = cc in inl (subst (λ (z : ℕ). get_or before p None ≡ Some z) same is)

pub grows_of : (on emptied : List ℕ) (round : ℕ) (before after : List (Option ℕ)) (front : List ℕ) → Leave on emptied round before after front → Grows round before after front
grows_of on emptied round before after front e = record {
  size = e.size;
  stays = e.stays;
  cause = λ p r h. cause_of on emptied round before after front e p r h (get_or before p None) refl;
  front_in = λ p c. let w = e.front_in p c in (w.0, w.1);
}

none_in : (n p r : ℕ) → (get_or (replicate n None) p None ≡ Some r) → ⊥
none_in n p r h = elim (below_or_past p n) [
  | inl lt ↦ (let no : Option ℕ = None in let z : get_or (replicate n no) p no ≡ no = get_or-replicate n p no no lt in cc)
  | inr past ↦ (let no : Option ℕ = None in let y = length-replicate n no in let z : get_or (replicate n no) p no ≡ no = get_or_past (replicate n no) p no (omega arith) in cc)
]

pub order_first : (n : ℕ) (left : List (Option ℕ)) (front : List ℕ) → Grows 1 (replicate n None) left front → InOrder left front
order_first n left front g = record {
  has = λ p r h. elim (g.cause p r h) [ inl old ↦ absurd (none_in n p r old) | inr new ↦ new.1 ];
  within = λ p c. let w = g.front_in p c in (let size = g.size in let lt = w.0 in omega arith, (1, w.1));
  sorted = λ i p r s li hr hs lt.
      let r1 : r ≡ 1 = elim (g.cause (get_or front i 0) r hr) [ inl old ↦ absurd (none_in n (get_or front i 0) r old) | inr new ↦ new.0 ] in
      let s1 : s ≡ 1 = elim (g.cause p s hs) [ inl old ↦ absurd (none_in n p s old) | inr new ↦ new.0 ] in
      absurd (omega arith);
}

pub by_first : (n : ℕ) (left : List (Option ℕ)) (front : List ℕ) → Grows 1 (replicate n None) left front → LeftBy 1 left
by_first n left front g p r h = elim (g.cause p r h) [ inl old ↦ absurd (none_in n p r old) | inr new ↦ (let e = new.0 in omega arith) ]

pub by_next : (round : ℕ) (left now : List (Option ℕ)) (front : List ℕ) → LeftBy round left → Grows (round + 1) left now front → LeftBy (round + 1) now
by_next round left now front by g p r h = elim (g.cause p r h) [ inl old ↦ (let e = by p r old in omega arith) | inr new ↦ (let e = new.0 in omega arith) ]

-- a front of the list that is no shorter than its beginning has what the beginning has
before_all : (order front : List ℕ) (p i : ℕ) → length order ≤ i → Contains order p → Contains (take i (order ++ front)) p
before_all order front p i past c =
    let lt = c.1 in
    let l = length-take i (order ++ front) in
    let m = length-append order front in
    (c.0, omega arith, get_or-take i (order ++ front) c.0 p (omega arith) ∙ get_or_append_left order front p c.0 lt ∙ c.2)

pub order_next : (round : ℕ) (left now : List (Option ℕ)) (order front : List ℕ) → LeftBy round left → InOrder left order → Grows (round + 1) left now front → InOrder now (order ++ front)
order_next round left now order front by o g = record {
  has = λ p r h. elim (g.cause p r h) [ inl old ↦ Contains-append_left order front p (o.has p r old) | inr new ↦ Contains-append_right order front p new.1 ];
  within = λ p c. elim (Contains-append_cases order front p c) [
    | inl old ↦ (let w = o.within p old in (let size = g.size in let lt = w.0 in omega arith, (w.1.0, g.stays p w.1.0 w.1.1)))
    | inr new ↦ (let w = g.front_in p new in (let size = g.size in let lt = w.0 in omega arith, (round + 1, w.1)))
  ];
  sorted = λ i p r s li hr hs lt. elim (below_or_past i (length order)) [
    | inl below ↦ (
        let at = get_or_append_left order front 0 i below in
        let hr2 : get_or now (get_or order i 0) None ≡ Some r = subst (λ (z : ℕ). get_or now z None ≡ Some r) at hr in
        let w = o.within (get_or order i 0) (Contains-get_or order i 0 below) in
        let was = w.1.1 in
        let stayed = g.stays (get_or order i 0) w.1.0 was in
        let same : w.1.0 ≡ r = cc in
        let hr3 : get_or left (get_or order i 0) None ≡ Some r = subst (λ (z : ℕ). get_or left (get_or order i 0) None ≡ Some z) same was in
        let early = by (get_or order i 0) r hr3 in
        let hs2 : get_or left p None ≡ Some s = elim (g.cause p s hs) [ inl old ↦ old | inr new ↦ absurd (let e = new.0 in omega arith) ] in
        subst (λ (z : List ℕ). Contains z p) (sym (take-append-le i order front (omega arith))) (o.sorted i p r s below hr3 hs2 lt))
    | inr past ↦ (
        let late : r ≤ round + 1 = by_next round left now front by g (get_or (order ++ front) i 0) r hr in
        let hs2 : get_or left p None ≡ Some s = elim (g.cause p s hs) [ inl old ↦ old | inr new ↦ absurd (let e = new.0 in omega arith) ] in
        before_all order front p i past (o.has p s hs2))
  ];
}
