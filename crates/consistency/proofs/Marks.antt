-- One mark keeps the counts, and one more is killed.
use Rattle.std.proofs.Common.{◌≡◌, ◌≢◌, ℕ, ◌+◌, ◌-◌, ◌<◌, ◌≤◌, List, [], ◌∷◌, ◌++◌, length, get_or, take, arith, sym, ◌∙◌, subst, ◌⊎◌, inl, inr}
use Rattle.std.specs.Prelude.{Bool, true, false, Contains}
use Rattle.std.proofs.Math.ListN.{set}
use Rattle.std.proofs.lemmas.List.{length-set, length-take, get_or-set_same, get_or-set_other}
use Rattle.std.proofs.lemmas.List.Elements.{Contains-append_left, Contains-push, Contains-push_cases}
use Rattle.std.proofs.lemmas.Bool.Decides.{eqb_tells}
use Rattle.consistency.specs.Flat.{living_of}
use Rattle.consistency.specs.Steps.{Killed, Counted, Emptying}
use Rattle.consistency.proofs.Counting.{living_marked, living_other, living_falls, counted_yes, counted_dead, counted_other, living_at_most}
use Rattle.consistency.proofs.Takes.{before, here, cases}

-- two numbers are the same or not
pub same_or_not : (a b : ℕ) → (a ≡ b) ⊎ (a ≢ b)
same_or_not a b = elim (eqb_tells a b) [ inl y ↦ inl y.1 | inr n ↦ inr n.1 ]

pub counted_marked : (finding : List ℕ) (dead : List Bool) (living : List ℕ) (a : ℕ) → a < length finding → length dead ≡ length finding
    → get_or finding a 0 < length living → get_or dead a false ≡ false → Counted finding dead living
    → Counted finding (set dead a true) (set living (get_or finding a 0) (get_or living (get_or finding a 0) 0 - 1))
counted_marked finding dead living a l size fl alive c f lt =
    let lt' : f < length living = (let z = length-set living (get_or finding a 0) (get_or living (get_or finding a 0) 0 - 1) in omega (arith, z, lt)) in
    let was = c f lt' in
    elim (same_or_not (get_or finding a 0) f) [
      | inl e ↦ (let m = living_marked f finding dead a l (omega arith) alive e in
          let at = get_or-set_same living (get_or finding a 0) (get_or living (get_or finding a 0) 0 - 1) 0 fl in
          let at2 = subst (λ (z : ℕ). get_or (set living (get_or finding a 0) (get_or living (get_or finding a 0) 0 - 1)) z 0 ≡ get_or living z 0 - 1) e (at) in
          omega (arith, at2, m, was))
      | inr ne ↦ (let m = living_other f finding dead a ne in
          let at = get_or-set_other living (get_or finding a 0) f (get_or living (get_or finding a 0) 0 - 1) 0 (λ e. ne (sym e)) in
          at ∙ was ∙ sym m)
    ]

set_true : (dead : List Bool) (a x : ℕ) → a < length dead → get_or dead x false ≡ true → get_or (set dead a true) x false ≡ true
set_true dead a x l h = elim (same_or_not x a) [
  | inl e ↦ subst (λ (z : ℕ). get_or (set dead a true) z false ≡ true) (sym e) (get_or-set_same dead a true false l)
  | inr ne ↦ get_or-set_other dead a x true false ne ∙ h
]

-- what is kept of the emptied, where one more is put to them if r
pub record Grown (old new : List ℕ) (at : ℕ) (r : Bool) : Type 0 where
  pub more : (f : ℕ) → Contains old f → Contains new f
  pub put : r ≡ true → Contains new at
  pub cause : (f : ℕ) → Contains new f → Contains old f ⊎ ((f ≡ at) × (r ≡ true))

pub killed_more : (finding dying : List ℕ) (i : ℕ) (first dead : List Bool) (full living less : List ℕ) (emptied grown : List ℕ) (r : Bool)
    → i < length dying → get_or dying i 0 < length finding → length dead ≡ length finding → get_or finding (get_or dying i 0) 0 < length living
    → length less ≡ length living
    → Counted finding dead living → Counted finding (set dead (get_or dying i 0) true) less
    → (r ≡ true → get_or less (get_or finding (get_or dying i 0) 0) 0 ≡ 0)
    → Emptying finding (get_or dying i 0) living less r
    → Grown emptied grown (get_or finding (get_or dying i 0) 0) r
    → Killed finding (take i dying) first dead full living emptied
    → Killed finding (take (i + 1) dying) first (set dead (get_or dying i 0) true) full less grown
killed_more finding dying i first dead full living less emptied grown r li la size lf lsize counted counted2 emp oth gr m =
    let a = get_or dying i 0 in
    record {
      dead_size = length-set dead a true ∙ m.dead_size;
      living_size = lsize ∙ m.living_size;
      cause = λ x lx h. elim (same_or_not x a) [
        | inl e ↦ inr (subst (λ (z : ℕ). Contains (take (i + 1) dying) z) (sym e) (here dying i 0 li))
        | inr ne ↦ elim (m.cause x lx (sym (get_or-set_other dead a x true false ne) ∙ h)) [ inl was ↦ inl was | inr c ↦ inr (before dying i 0 x li c) ]
      ];
      stays = λ x h. set_true dead a x (omega arith) (m.stays x h);
      dies = λ x c. elim (cases dying i 0 x li c) [
        | inl old ↦ set_true dead a x (omega arith) (m.dies x old)
        | inr e ↦ subst (λ (z : ℕ). get_or (set dead a true) z false ≡ true) e (get_or-set_same dead a true false (omega arith))
      ];
      counts = λ f lt. counted2 f (let z = m.living_size in omega arith);
      zero_in = λ f c. elim (gr.cause f c) [
        | inl old ↦ (let z = m.zero_in f old in let z1 = z.1 in
            let lt : f < length living = (let y = m.living_size in let z0 = z.0 in omega arith) in
            let fall = living_falls f finding dead a in let c1 = counted f lt in let c2 = counted2 f (omega arith) in
            (z.0, omega (arith, fall, c1, c2, z1)))
        | inr new ↦ (let e = new.0 in (let y = m.living_size in omega arith, subst (λ (z : ℕ). get_or less z 0 ≡ 0) (sym e) (emp new.1)))
      ];
      zero_all = λ f lt some z. elim (oth f (let y = m.living_size in omega arith) z) [
        | inl old ↦ gr.more f (m.zero_all f lt some old)
        | inr e ↦ subst (λ (x : ℕ). Contains grown x) (sym e.0) (gr.put e.1)
      ];
    }

pub grown_push : (old : List ℕ) (at : ℕ) (r : Bool) → r ≡ true → Grown old (old ++ at ∷ []) at r
grown_push old at r is = record {
  more = λ f c. Contains-append_left old (at ∷ []) f c;
  put = λ y. Contains-push old at;
  cause = λ f c. elim (Contains-push_cases old at f c) [ inl c2 ↦ inl c2 | inr e ↦ inr (sym e, is) ];
}

pub grown_same : (old : List ℕ) (at : ℕ) (r : Bool) → r ≡ false → Grown old old at r
grown_same old at r is = record { more = λ f c. c; put = λ y. absurd cc; cause = λ f c. inl c }

pub killed_step : (finding dying : List ℕ) (i : ℕ) (first dead dead2 : List Bool) (full living less : List ℕ) (emptied grown : List ℕ) (r : Bool)
    → dead2 ≡ set dead (get_or dying i 0) true
    → i < length dying → get_or dying i 0 < length finding → length dead ≡ length finding → get_or finding (get_or dying i 0) 0 < length living
    → length less ≡ length living
    → Counted finding dead living → Counted finding dead2 less
    → (r ≡ true → get_or less (get_or finding (get_or dying i 0) 0) 0 ≡ 0)
    → Emptying finding (get_or dying i 0) living less r
    → Grown emptied grown (get_or finding (get_or dying i 0) 0) r
    → Killed finding (take i dying) first dead full living emptied
    → Killed finding (take (i + 1) dying) first dead2 full less grown
killed_step finding dying i first dead dead2 full living less emptied grown r is li la size lf lsize counted counted2 emp oth gr m =
    subst (λ (z : List Bool). Killed finding (take (i + 1) dying) first z full less grown) (sym is)
    (killed_more finding dying i first dead full living less emptied grown r li la size lf lsize counted (subst (λ (z : List Bool). Counted finding z less) is counted2) emp oth gr m)

-- the counts over the first alternatives, one further
abbrev pub CountedTo : List ℕ → List Bool → List ℕ → ℕ → Type 0
CountedTo finding dead living a = (f : ℕ) → f < length living → get_or living f 0 ≡ living_of f (take a finding) (take a dead)

pub counted_put : (finding : List ℕ) (dead : List Bool) (living : List ℕ) (a v : ℕ) → a < length finding → a < length dead → get_or dead a false ≡ false
    → get_or finding a 0 < length living → v ≡ get_or living (get_or finding a 0) 0 → CountedTo finding dead living a
    → CountedTo finding dead (set living (get_or finding a 0) (v + 1)) (a + 1)
counted_put finding dead living a v l m alive fl is c f lt =
    let lt' : f < length living = (let z = length-set living (get_or finding a 0) (v + 1) in omega (arith, z, lt)) in
    let was = c f lt' in
    elim (same_or_not (get_or finding a 0) f) [
      | inl e ↦ (let n = counted_yes f finding dead a l m alive e in
          let at = get_or-set_same living (get_or finding a 0) (v + 1) 0 fl in
          let at2 = subst (λ (z : ℕ). get_or (set living (get_or finding a 0) (v + 1)) z 0 ≡ v + 1) e at in
          let is2 = subst (λ (z : ℕ). v ≡ get_or living z 0) e is in
          omega (arith, at2, n, was, is2))
      | inr ne ↦ (let n = counted_other f finding dead a l m ne in
          get_or-set_other living (get_or finding a 0) f (v + 1) 0 (λ e. ne (sym e)) ∙ was ∙ sym n)
    ]

pub counted_kept : (finding : List ℕ) (dead : List Bool) (living : List ℕ) (a : ℕ) → a < length finding → a < length dead → get_or dead a false ≡ true
    → CountedTo finding dead living a → CountedTo finding dead living (a + 1)
counted_kept finding dead living a l m is c f lt = c f lt ∙ sym (counted_dead f finding dead a l m is)

pub count_small : (finding : List ℕ) (dead : List Bool) (living : List ℕ) (a f : ℕ) → a < length finding → f < length living → CountedTo finding dead living a → get_or living f 0 ≤ a
count_small finding dead living a f l lf c = let h = c f lf in let b = living_at_most f (take a finding) (take a dead) in let t = length-take a finding in omega (arith, h, b, t)
