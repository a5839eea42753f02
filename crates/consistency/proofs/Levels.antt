-- One level, done by lists, is one round.
use Rattle.std.proofs.Common.{◌≡◌, ℕ, zero, suc, ◌+◌, ◌-◌, ◌<◌, ◌≤◌, List, [], length, get_or, arith, refl, sym, ◌∙◌, subst, ◌⊎◌, inl, inr, replicate}
use Rattle.std.specs.Prelude.{Bool, true, false, Option, Some, None, Contains}
use Rattle.std.proofs.lemmas.List.{get_or-replicate, length-replicate}
use Rattle.std.proofs.lemmas.List.Elements.{Contains-get_or}
use Rattle.consistency.specs.declared.flat.Flat.{Flat}
use Rattle.consistency.specs.Flat.{alternative_of, target_of, Survives, Alive, Left, Fits}
use Rattle.consistency.specs.Steps.{Level, Dying, Killed, Leave, Dependents, Counted, Empties}
use Rattle.consistency.proofs.Rounding.{survives_down, alive_below, left_more}
use Rattle.consistency.proofs.Counting.{living_counted, living_found}

-- a mark is set or not
marked : (b : Bool) → (b ≡ true) ⊎ (b ≡ false)
marked true = inl refl
marked false = inr refl

at_or_below : (r k : ℕ) → r < suc k → (suc r ≤ k) ⊎ (r ≡ k)
at_or_below r k l = grind arith

pub later : (r k : ℕ) → r < suc k → (Some (suc r) ≡ Some (suc k) → ⊥) → suc r ≤ k
later r k l differ = elim (at_or_below r k l) [ inl le ↦ le | inr e ↦ absurd (differ cc) ]

-- a target of a living alternative that isn't in the front survives one round more
stays_on : (g : Flat) (k t : ℕ) (o : Option ℕ) → Left g (suc k) t o → Alive g k t → (o ≡ Some (suc k) → ⊥) → Alive g (suc k) t
stays_on g k t None l s differ = l
stays_on g k t (Some zero) l s differ = absurd l
stays_on g k t (Some (suc r)) l s differ = absurd (l.2 (alive_below g (suc r) k t (later r k l.0 differ) s))

-- nobody who left by round k is kept as leaving later
not_later : (g : Flat) (k p r : ℕ) → Left g k p (Some r) → r ≤ k
not_later g k p zero h = absurd h
not_later g k p (suc r) h = omega (arith, h.0)

dead_next : (g : Flat) (k : ℕ) (dead : List Bool) (living : List ℕ) (left : List (Option ℕ)) (front dying : List ℕ) (after : List Bool) (less emptied : List ℕ)
    → Level g k dead living left front → Dying g front dying → Killed g.finding.items dying dead after living less emptied
    → (a : ℕ) → a < length g.finding.items → get_or after a false ≡ true → Survives g (Alive g (suc k)) a → ⊥
dead_next g k dead living left front dying after less emptied v d m a lt e s =
    elim (m.cause a (omega (arith, v.dead_size)) e) [
      | inl was ↦ v.is_dead a lt was (survives_down g k a s)
      | inr c ↦ (let w = d.sound a c in
          let q = v.front_in (target_of g w.0) w.3 in
          let l : Left g (suc k) (target_of g w.0) (Some (suc k)) = subst (λ (o : Option ℕ). Left g (suc k) (target_of g w.0) o) q.1 (v.kept (target_of g w.0) q.0) in
          l.2 (s.1 w.0 w.1 w.2))
    ]

living_next : (g : Flat) (k : ℕ) (dead : List Bool) (living : List ℕ) (left : List (Option ℕ)) (front dying : List ℕ) (after : List Bool) (less emptied : List ℕ)
    → Fits g → Level g k dead living left front → Dying g front dying → Killed g.finding.items dying dead after living less emptied
    → (a : ℕ) → a < length g.finding.items → get_or after a false ≡ false → Survives g (Alive g (suc k)) a
living_next g k dead living left front dying after less emptied fit v d m a lt e =
    let lived : get_or dead a false ≡ false = elim (marked (get_or dead a false)) [ inl y ↦ absurd (let z = m.stays a y in cc) | inr n ↦ n ] in
    let s = v.is_living a lt lived in (
      s.0,
      λ l lin al. stays_on g k (target_of g l) (get_or left (target_of g l) None) (v.kept (target_of g l) (fit.target_in l lin)) (s.1 l lin al)
          (λ e2. let dies = m.dies (alternative_of g l) (d.whole l lin (v.front_all (target_of g l) (fit.target_in l lin) e2)) in
          let dies2 = subst (λ (z : ℕ). get_or after z false ≡ true) al dies in cc),
    )

-- ---- the promises

none_or_some : (n : ℕ) → (n ≡ 0) ⊎ (0 < n)
none_or_some n = grind arith

kept_next : (g : Flat) (k : ℕ) (dead : List Bool) (living : List ℕ) (left : List (Option ℕ)) (front dying : List ℕ) (after : List Bool) (less emptied : List ℕ) (now : List (Option ℕ)) (front2 : List ℕ)
    → Fits g → Level g k dead living left front → Dying g front dying → Killed g.finding.items dying dead after living less emptied
    → Leave g.on.items emptied (suc (suc k)) left now front2
    → (p : ℕ) → p < g.promises → (o : Option ℕ) → get_or left p None ≡ o → Left g (suc (suc k)) p (get_or now p None)
kept_next g k dead living left front dying after less emptied now front2 fit v d m e p lt (Some r) is =
    let l : Left g (suc k) p (Some r) = subst (λ (o : Option ℕ). Left g (suc k) p o) is (v.kept p lt) in
    subst (λ (o : Option ℕ). Left g (suc (suc k)) p o) (sym (e.stays p r is)) (left_more g (suc k) p r l)
kept_next g k dead living left front dying after less emptied now front2 fit v d m e p lt None is =
    let alive : Alive g (suc k) p = subst (λ (o : Option ℕ). Left g (suc k) p o) is (v.kept p lt) in
    elim (e.cause p is) [
      | inl still ↦ subst (λ (o : Option ℕ). Left g (suc (suc k)) p o) (sym still) (λ f in' on.
          let w = alive f in' on in
          let lives : get_or dead w.0 false ≡ false = elim (marked (get_or dead w.0 false)) [ inl y ↦ absurd (v.is_dead w.0 w.1 y w.3) | inr n ↦ n ] in
          let had : 0 < get_or living f 0 = (let c = living_counted f g.finding.items dead w.0 w.1 (let z = v.dead_size in omega (arith, w.1)) w.2 lives in let z = v.counts f in' in omega (arith, c, z)) in
          let inl' : f < length living = (let y = v.living_size in omega (arith, in')) in
          let has : 0 < get_or less f 0 = elim (none_or_some (get_or less f 0)) [
            | inl z ↦ absurd (e.leaves f (m.zero_all f inl' had z) (subst (λ (x : ℕ). get_or now x None ≡ None) (sym on) still))
            | inr some ↦ some
          ] in
          let u = living_found f g.finding.items after (let z = m.counts f (let y = v.living_size in omega (arith, in')) in omega (arith, has, z)) in
          (u.0, u.1, u.2, living_next g k dead living left front dying after less emptied fit v d m u.0 u.1 u.3))
      | inr gone ↦ subst (λ (o : Option ℕ). Left g (suc (suc k)) p o) (sym gone.0) (
        omega arith,
        alive,
        λ h.
            let f = gone.1.0 in
            let z = m.zero_in f gone.1.1 in
            let w = h f (let y = v.living_size in omega (arith, z.0)) gone.1.2 in
            elim (marked (get_or after w.0 false)) [
              | inl y ↦ dead_next g k dead living left front dying after less emptied v d m w.0 w.1 y w.3
              | inr n ↦ (let c = living_counted f g.finding.items after w.0 w.1 (let a = v.dead_size in let b = m.dead_size in omega (arith, w.1)) w.2 n in let q = m.counts f z.0 in let zz = z.1 in omega (arith, c, q, zz))
            ],
      )
    ]

front_next : (g : Flat) (k : ℕ) (left : List (Option ℕ)) (emptied : List ℕ) (now : List (Option ℕ)) (front2 : List ℕ)
    → length left ≡ g.promises → ((p : ℕ) → p < g.promises → Left g (suc k) p (get_or left p None))
    → Leave g.on.items emptied (suc (suc k)) left now front2
    → (q : ℕ) → q < g.promises → (o : Option ℕ) → get_or left q None ≡ o → get_or now q None ≡ Some (suc (suc k)) → Contains front2 q
front_next g k left emptied now front2 size kept e q lt None is now' = e.front_all q (omega arith) is now'
front_next g k left emptied now front2 size kept e q lt (Some r) is now' =
    let same = e.stays q r is in
    let r' : r ≡ suc (suc k) = cc in
    let le = not_later g (suc k) q r (subst (λ (o : Option ℕ). Left g (suc k) q o) is (kept q lt)) in
    absurd (omega (arith, le, r'))

pub level_next : (g : Flat) (k : ℕ) (dead : List Bool) (living : List ℕ) (left : List (Option ℕ)) (front dying : List ℕ) (after : List Bool) (less emptied : List ℕ) (now : List (Option ℕ)) (front2 : List ℕ)
    → Fits g → Level g k dead living left front → Dying g front dying → Killed g.finding.items dying dead after living less emptied
    → Leave g.on.items emptied (suc (suc k)) left now front2
    → Level g (suc k) after less now front2
level_next g k dead living left front dying after less emptied now front2 fit v d m e = record {
  dead_size = m.dead_size ∙ v.dead_size;
  living_size = m.living_size ∙ v.living_size;
  left_size = e.size ∙ v.left_size;
  is_dead = dead_next g k dead living left front dying after less emptied v d m;
  is_living = living_next g k dead living left front dying after less emptied fit v d m;
  counts = λ f in'. m.counts f (let y = v.living_size in omega (arith, in'));
  kept = λ p lt. kept_next g k dead living left front dying after less emptied now front2 fit v d m e p lt (get_or left p None) refl;
  front_in = λ q c. let w = e.front_in q c in (let y = v.left_size in let z = w.0 in omega (arith, y, z), w.1);
  front_all = λ q lt is. front_next g k left emptied now front2 v.left_size v.kept e q lt (get_or left q None) refl is;
}

-- ---- the first level

first_kept : (g : Flat) (living emptied : List ℕ) (left : List (Option ℕ)) (front : List ℕ)
    → Fits g → length living ≡ length g.on.items → Counted g.finding.items g.barred.items living → Empties living (length living) emptied
    → Leave g.on.items emptied 1 (replicate g.promises None) left front
    → (p : ℕ) → p < g.promises → Left g 1 p (get_or left p None)
first_kept g living emptied left front fit size counted em e p lt = elim (e.cause p (get_or-replicate g.promises p None None lt)) [
  | inl still ↦ subst (λ (o : Option ℕ). Left g 1 p o) (sym still) (λ f in' on.
      let has : 0 < get_or living f 0 = elim (none_or_some (get_or living f 0)) [
        | inl z ↦ absurd (e.leaves f (em.whole f (omega arith) z) (subst (λ (x : ℕ). get_or left x None ≡ None) (sym on) still))
        | inr some ↦ some
      ] in
      let u = living_found f g.finding.items g.barred.items (let z = counted f (omega arith) in omega arith) in
      (u.0, u.1, u.2, (u.3, λ l lin al. tt)))
  | inr gone ↦ subst (λ (o : Option ℕ). Left g 1 p o) (sym gone.0) (
    omega arith,
    tt,
    λ h.
        let f = gone.1.0 in
        let z = em.sound f gone.1.1 in
        let w = h f (let z0 = z.0 in omega arith) gone.1.2 in
        let c = living_counted f g.finding.items g.barred.items w.0 w.1 (let a = fit.barred in let b = w.1 in omega arith) w.2 w.3.0 in
        let q = counted f z.0 in let zz = z.1 in omega arith,
  )
]

pub level_first : (g : Flat) (living emptied : List ℕ) (left : List (Option ℕ)) (front : List ℕ)
    → Fits g → length living ≡ length g.on.items → Counted g.finding.items g.barred.items living → Empties living (length living) emptied
    → Leave g.on.items emptied 1 (replicate g.promises None) left front
    → Level g 0 g.barred.items living left front
level_first g living emptied left front fit size counted em e = record {
  dead_size = fit.barred;
  living_size = size;
  left_size = e.size ∙ length-replicate g.promises None;
  is_dead = λ a lt d s. (let z = s.0 in cc);
  is_living = λ a lt d. (d, λ l lin al. tt);
  counts = λ f lt. counted f (omega arith);
  kept = first_kept g living emptied left front fit size counted em e;
  front_in = λ q c. (let w = e.front_in q c in (let y = length-replicate g.promises (let z : Option ℕ = None in z) in let z = w.0 in omega arith, w.1));
  front_all = λ q lt is. e.front_all q (let y = length-replicate g.promises (let z : Option ℕ = None in z) in omega arith) (get_or-replicate g.promises q None None lt) is;
}

-- ---- one level of the program

pub dying_of : (g : Flat) (rows : List (List ℕ)) (front dying : List ℕ) → Dependents g (length g.alternative.items) rows
    → ((q : ℕ) → Contains front q → q < g.promises)
    → ((q a : ℕ) → Contains front q → Contains (get_or rows q []) a → Contains dying a)
    → ((a : ℕ) → Contains dying a → (q : ℕ) × Contains front q × Contains (get_or rows q []) a)
    → Dying g front dying
dying_of g rows front dying d in' found only = record {
  sound = λ a c. let w = only a c in let s = d.sound w.0 a (in' w.0 w.1) w.2 in (s.0, s.1, s.2, subst (λ (z : ℕ). Contains front z) (sym s.3) w.1);
  whole = λ l ll c. found (target_of g l) (alternative_of g l) c (d.whole l ll);
}

pub level_step : (g : Flat) (round : ℕ) (dead : List Bool) (living : List ℕ) (left : List (Option ℕ)) (front dying : List ℕ) (after : List Bool) (less emptied : List ℕ) (now : List (Option ℕ)) (front2 : List ℕ)
    → 1 ≤ round → Fits g → Level g (round - 1) dead living left front → Dying g front dying → Killed g.finding.items dying dead after living less emptied
    → Leave g.on.items emptied (round + 1) left now front2
    → Level g round after less now front2
level_step g zero dead living left front dying after less emptied now front2 some fit v d m e = absurd (omega arith)
level_step g (suc k) dead living left front dying after less emptied now front2 some fit v d m e =
    let down : suc k - 1 ≡ k = omega arith in
    let up : suc k + 1 ≡ suc (suc k) = omega arith in
    level_next g k dead living left front dying after less emptied now front2 fit (subst (λ (z : ℕ). Level g z dead living left front) down v) d m
    (subst (λ (z : ℕ). Leave g.on.items emptied z left now front2) up e)

pub dying_within : (g : Flat) (front dying : List ℕ) → Fits g → Dying g front dying → (k d : ℕ) → k < length dying → get_or dying k d < length g.finding.items
dying_within g front dying fit dy k d lt =
    let w = dy.sound (get_or dying k d) (Contains-get_or dying k d lt) in
    subst (λ (z : ℕ). z < length g.finding.items) w.2 (fit.alternative_in w.0 w.1)

pub emptied_within : (finding dying : List ℕ) (dead after : List Bool) (living less emptied : List ℕ) → Killed finding dying dead after living less emptied
    → (k d : ℕ) → k < length emptied → get_or emptied k d < length living
emptied_within finding dying dead after living less emptied m k d lt = let w = m.zero_in (get_or emptied k d) (Contains-get_or emptied k d lt) in w.0
