-- Regions that are held apart from one another, as chains of parents are climbed and marked.
use Rattle.std.proofs.Common.{◌≡◌, ◌≢◌, ℕ, zero, suc, ◌<◌, List, [], ◌∷◌, length, get_or, replicate, refl, sym, ◌∙◌, ap, subst, inl, inr, arith, ◌⊎◌}
use Rattle.std.specs.Prelude.{Option, Some, None, ◌↔◌}
use Rattle.std.proofs.Math.ListN.{set}
use Rattle.std.proofs.lemmas.Grind.{common_steps, elements}
use Rattle.std.proofs.lemmas.List.{get_or_default}
use Rattle.region_tree.specs.declared.disjoint.HeldState.{HeldState}
use Rattle.region_tree.specs.declared.disjoint.HeldState.TheVariants as state
use Rattle.region_tree.specs.Chains.{parent_at, Leads, IsUnder}
use Rattle.region_tree.specs.Disjoint.{state_at, HeldIn, UnderHeld, Stands, MarksUp}
use Rattle.region_tree.proofs.Rooted.{under_same, under_step, under_inv, under_falls}

-- the ranks fall along the parents
abbrev pub Falls : List (Option ℕ) → (ℕ → ℕ) → Type 0
Falls parents rank = (k x : ℕ) → parent_at parents k ≡ Some x → rank x < rank k

-- ---- chains

trans_chain : (parents : List (Option ℕ)) (b c : ℕ) → IsUnder parents b c → (chain : List ℕ) (a : ℕ) → Leads parents a chain b → IsUnder parents a c
trans_chain parents b c u [] a same = subst (λ (z : ℕ). IsUnder parents z c) (sym same) u
trans_chain parents b c u (x ∷ chain) a l = under_step parents a x c l.0 (trans_chain parents b c u chain x l.1)

pub under_trans : (parents : List (Option ℕ)) (a b c : ℕ) → IsUnder parents a b → IsUnder parents b c → IsUnder parents a c
unfolding IsUnder
under_trans parents a b c ab bc = trans_chain parents b c bc ab.0 a ab.1

chain_under : (parents : List (Option ℕ)) (a b : ℕ) (chain : List ℕ) → Leads parents a chain b → IsUnder parents a b
unfolding IsUnder
chain_under parents a b chain l = (chain, l)

line_chain : (parents : List (Option ℕ)) (b c : ℕ) (chain : List ℕ) (a : ℕ) → Leads parents a chain b → IsUnder parents a c → IsUnder parents b c ⊎ IsUnder parents c b
line_chain parents b c [] a same u = inl (subst (λ (z : ℕ). IsUnder parents z c) same u)
line_chain parents b c (x ∷ chain) a l u =
    elim (under_inv parents a c u) [
      | inl same ↦ inr (subst (λ (z : ℕ). IsUnder parents z b) same (chain_under parents a b (x ∷ chain) l))
      | inr up ↦ (let same : up.0 ≡ x = cc in line_chain parents b c chain x l.1 (subst (λ (z : ℕ). IsUnder parents z c) same up.2))
    ]

-- of two regions above a third, one is under the other
pub under_line : (parents : List (Option ℕ)) (a b c : ℕ) → IsUnder parents a b → IsUnder parents a c → IsUnder parents b c ⊎ IsUnder parents c b
unfolding IsUnder
under_line parents a b c ab ac = line_chain parents b c ab.0 a ab.1 ac

-- no two regions are under one another
pub under_both : (parents : List (Option ℕ)) (rank : ℕ → ℕ) (a b : ℕ) → Falls parents rank → IsUnder parents a b → IsUnder parents b a → a ≡ b
under_both parents rank a b falls ab ba =
    elim (under_falls parents rank a b falls ab) [
      | inl same ↦ same
      | inr less ↦ elim (under_falls parents rank b a falls ba) [ inl same ↦ sym same | inr more ↦ absurd (omega arith) ]
    ]

-- ---- states

pub state_read : (states : List HeldState) (at : ℕ) (read s : HeldState) → at < length states → read ≡ get_or states at read → read ≡ s → state_at states at ≡ s
state_read states at read s within e is = grind (arith, get_or_default)

-- a read after a write
after_set : (states : List HeldState) (at k : ℕ) (s : HeldState) → at < length states
    → ((k ≡ at) × (state_at (set states at s) k ≡ s)) ⊎ ((k ≢ at) × (state_at (set states at s) k ≡ state_at states k))
after_set states at k s within = grind (arith, common_steps, elements)

all_free : (n k : ℕ) → state_at (replicate n state.Free) k ≡ state.Free
all_free zero k = refl
all_free (suc n) zero = refl
all_free (suc n) (suc k) = all_free n k

pub none_held : (n k : ℕ) → HeldIn (replicate n state.Free) k → ⊥
none_held n k held = let free = all_free n k in cc

pub stands_free : (parents : List (Option ℕ)) (n : ℕ) → n ≡ length parents → Stands parents (replicate n state.Free)
stands_free parents n same = record {
  long = grind (arith, common_steps);
  free = λ k y e held u. none_held n y held;
  over = λ k y e held u. none_held n y held;
  over_held = λ k e. let free = all_free n k in absurd (cc);
  under_held = λ k e. let free = all_free n k in absurd (cc);
}

-- ---- the climb that looks for a held region

-- a free region is under a held one where its parent is
pub climb_back : (parents : List (Option ℕ)) (states : List HeldState) (at x : ℕ) → state_at states at ≡ state.Free → parent_at parents at ≡ Some x
    → UnderHeld parents states at → UnderHeld parents states x
climb_back parents states at x free p held =
    elim (under_inv parents at held.0 held.2) [
      | inl same ↦ (let both : state_at states at ≡ state.Held = ap (λ (z : ℕ). state_at states z) same ∙ held.1 in absurd (cc))
      | inr up ↦ (let same : up.0 ≡ x = cc in (held.0, held.1, subst (λ (z : ℕ). IsUnder parents z held.0) same up.2))
    ]

pub climb_there : (parents : List (Option ℕ)) (states : List HeldState) (at x : ℕ) → parent_at parents at ≡ Some x → UnderHeld parents states x → UnderHeld parents states at
climb_there parents states at x p held = (held.0, held.1, under_step parents at x held.0 p held.2)

pub climb_end : (parents : List (Option ℕ)) (states : List HeldState) (at : ℕ) → state_at states at ≡ state.Free → parent_at parents at ≡ None
    → UnderHeld parents states at → ⊥
climb_end parents states at free none held =
    elim (under_inv parents at held.0 held.2) [
      | inl same ↦ (let both : state_at states at ≡ state.Held = ap (λ (z : ℕ). state_at states z) same ∙ held.1 in absurd (cc))
      | inr up ↦ (let both = sym none ∙ up.1 in cc)
    ]

pub held_under : (parents : List (Option ℕ)) (states : List HeldState) (at : ℕ) → Stands parents states
    → (state_at states at ≡ state.Held) ⊎ (state_at states at ≡ state.Under) → UnderHeld parents states at
held_under parents states at stands here = elim here [ inl held ↦ (at, held, under_same parents at) | inr under ↦ stands.under_held at under ]

-- where a region is neither free, held nor under a held one, none is held above it
pub over_not : (parents : List (Option ℕ)) (states : List HeldState) (at : ℕ) → Stands parents states → state_at states at ≢ state.Free
    → state_at states at ≢ state.Held → state_at states at ≢ state.Under → UnderHeld parents states at → ⊥
over_not parents states at stands free held under some = go (state_at states at) refl
  where
    go : (s : HeldState) → state_at states at ≡ s → ⊥
    go state.Free e = free e
    go state.Held e = held e
    go state.Over e = stands.over at some.0 e some.1 some.2
    go state.Under e = under e

-- a region that is not free overlaps a held one
pub begun_overlaps : (parents : List (Option ℕ)) (states : List HeldState) (at : ℕ) → Stands parents states → state_at states at ≢ state.Free
    → (y : ℕ) × HeldIn states y × (IsUnder parents at y ⊎ IsUnder parents y at)
begun_overlaps parents states at stands begun = go (state_at states at) refl
  where
    go : (s : HeldState) → state_at states at ≡ s → (y : ℕ) × HeldIn states y × (IsUnder parents at y ⊎ IsUnder parents y at)
    go state.Free e = absurd (begun e)
    go state.Held e = (at, e, inl (under_same parents at))
    go state.Over e = let h = stands.over_held at e in (h.0, h.1, inr h.2)
    go state.Under e = let h = stands.under_held at e in (h.0, h.1, inl h.2)

-- ---- the climb that marks

-- what holds while free regions on the way up from `start` are given a standing, where the climb has come to `at`
pub record Climbing (parents : List (Option ℕ)) (rank : ℕ → ℕ) (old new : List HeldState) (start at : ℕ) (given : HeldState) : Type 0 where
  pub long : length new ≡ length old
  pub there : IsUnder parents start at
  pub changes : (k : ℕ) → (state_at new k ≡ state_at old k)
      ⊎ ((state_at old k ≡ state.Free) × (state_at new k ≡ given) × IsUnder parents start k × (rank at < rank k))
  pub covers : (k : ℕ) → IsUnder parents start k → (state_at new k ≡ given) ⊎ IsUnder parents at k

pub climbing_none : (parents : List (Option ℕ)) (rank : ℕ → ℕ) (old : List HeldState) (start : ℕ) (given : HeldState) → Climbing parents rank old old start start given
climbing_none parents rank old start given = record { long = refl; there = under_same parents start; changes = λ k. inl refl; covers = λ k u. inr u }

was_free : (parents : List (Option ℕ)) (rank : ℕ → ℕ) (old new : List HeldState) (start at : ℕ) (given : HeldState) → Climbing parents rank old new start at given
    → state_at new at ≡ state.Free → state_at old at ≡ state.Free
was_free parents rank old new start at given c free = elim (c.changes at) [ inl same ↦ sym same ∙ free | inr h ↦ h.0 ]

set_covers : (parents : List (Option ℕ)) (rank : ℕ → ℕ) (old new : List HeldState) (start at : ℕ) (given : HeldState) → Climbing parents rank old new start at given
    → at < length new → (k : ℕ) → IsUnder parents start k
    → (state_at (set new at given) k ≡ given) ⊎ ((x : ℕ) × (parent_at parents at ≡ Some x) × IsUnder parents x k)
set_covers parents rank old new start at given c within k u =
    elim (after_set new at k given within) [
      | inl h ↦ inl h.1
      | inr h ↦ elim (c.covers k u) [
        | inl e ↦ inl (h.1 ∙ e)
        | inr above ↦ elim (under_inv parents at k above) [ inl same ↦ absurd (h.0 (sym same)) | inr up ↦ inr up ]
      ]
    ]

-- one region up
pub climbing_more : (parents : List (Option ℕ)) (rank : ℕ → ℕ) (old new : List HeldState) (start at x : ℕ) (given : HeldState) → Falls parents rank
    → Climbing parents rank old new start at given → at < length new → state_at new at ≡ state.Free → parent_at parents at ≡ Some x
    → Climbing parents rank old (set new at given) start x given
climbing_more parents rank old new start at x given falls c within free p = record {
  long = grind (arith, common_steps, c.long);
  there = under_trans parents start at x c.there (under_step parents at x x p (under_same parents x));
  changes = λ k. step k;
  covers = λ k u.
      elim (set_covers parents rank old new start at given c within k u) [
        | inl e ↦ inl e
        | inr up ↦ (let same : up.0 ≡ x = cc in inr (subst (λ (z : ℕ). IsUnder parents z k) same up.2))
      ];
}
  where
    step : (k : ℕ) → (state_at (set new at given) k ≡ state_at old k)
        ⊎ ((state_at old k ≡ state.Free) × (state_at (set new at given) k ≡ given) × IsUnder parents start k × (rank x < rank k))
    step k =
        let down : rank x < rank at = falls at x p in
        elim (after_set new at k given within) [
          | inl h ↦ inr (
            ap (λ (z : ℕ). state_at old z) h.0 ∙ was_free parents rank old new start at given c free,
            h.1,
            subst (λ (z : ℕ). IsUnder parents start z) (sym h.0) c.there,
            subst (λ (z : ℕ). rank x < rank z) (sym h.0) down,
          )
          | inr h ↦ elim (c.changes k) [
            | inl same ↦ inl (h.1 ∙ same)
            | inr m ↦ inr (m.0, h.1 ∙ m.1, m.2, omega (arith, m.3))
          ]
        ]

-- at the end of a chain
pub climbing_end : (parents : List (Option ℕ)) (rank : ℕ → ℕ) (old new : List HeldState) (start at : ℕ) (given : HeldState)
    → Climbing parents rank old new start at given → at < length new → state_at new at ≡ state.Free → parent_at parents at ≡ None
    → MarksUp parents old (set new at given) start given
climbing_end parents rank old new start at given c within free none = record {
  long = grind (arith, common_steps, c.long);
  changes = λ k. step k;
  covers = λ k u.
      elim (set_covers parents rank old new start at given c within k u) [
        | inl e ↦ inl e
        | inr up ↦ (let both = sym none ∙ up.1 in absurd (cc))
      ];
}
  where
    step : (k : ℕ) → (state_at (set new at given) k ≡ state_at old k)
        ⊎ ((state_at old k ≡ state.Free) × (state_at (set new at given) k ≡ given) × IsUnder parents start k)
    step k =
        elim (after_set new at k given within) [
          | inl h ↦ inr (
            ap (λ (z : ℕ). state_at old z) h.0 ∙ was_free parents rank old new start at given c free,
            h.1,
            subst (λ (z : ℕ). IsUnder parents start z) (sym h.0) c.there,
          )
          | inr h ↦ elim (c.changes k) [ inl same ↦ inl (h.1 ∙ same) | inr m ↦ inr (m.0, h.1 ∙ m.1, m.2) ]
        ]

-- at a region that is not free
pub climbing_stop : (parents : List (Option ℕ)) (rank : ℕ → ℕ) (old new : List HeldState) (start at : ℕ) (given : HeldState)
    → Climbing parents rank old new start at given → state_at new at ≢ state.Free → MarksUp parents old new start given
climbing_stop parents rank old new start at given c begun = record {
  long = c.long;
  changes = λ k. elim (c.changes k) [ inl same ↦ inl same | inr m ↦ inr (m.0, m.1, m.2) ];
  covers = λ k u. elim (c.covers k u) [ inl e ↦ inl e | inr above ↦ inr (at, before, c.there, above) ];
}
  where
    before : state_at old at ≢ state.Free
    before e = elim (c.changes at) [ inl same ↦ begun (same ∙ e) | inr m ↦ absurd (omega (arith, m.3)) ]

-- ---- a region that is under a held one

pub under_held_same : (parents : List (Option ℕ)) (old new : List HeldState) (r : ℕ) → MarksUp parents old new r state.Under → (k : ℕ) → HeldIn new k ↔ HeldIn old k
under_held_same parents old new r marks k = (
  λ held. elim (marks.changes k) [ inl same ↦ sym same ∙ held | inr m ↦ absurd (cc) ],
  λ held. elim (marks.changes k) [ inl same ↦ same ∙ held | inr m ↦ absurd (cc) ],
)

pub under_stands : (parents : List (Option ℕ)) (old new : List HeldState) (r : ℕ) → Stands parents old → UnderHeld parents old r → MarksUp parents old new r state.Under
    → Stands parents new
under_stands parents old new r stands some marks = record {
  long = marks.long ∙ stands.long;
  free = λ k y e held u. elim (marks.changes k) [ inl same ↦ stands.free k y (sym same ∙ e) (back y held) u | inr m ↦ stands.free k y m.0 (back y held) u ];
  over = λ k y e held u. elim (marks.changes k) [ inl same ↦ stands.over k y (sym same ∙ e) (back y held) u | inr m ↦ absurd (cc) ];
  over_held = λ k e.
      elim (marks.changes k) [
        | inl same ↦ (let h = stands.over_held k (sym same ∙ e) in (h.0, there h.0 h.1, h.2))
        | inr m ↦ absurd (cc)
      ];
  under_held = λ k e.
      elim (marks.changes k) [
        | inl same ↦ (let h = stands.under_held k (sym same ∙ e) in (h.0, there h.0 h.1, h.2))
        | inr m ↦ elim (under_line parents r k some.0 m.2 some.2) [
          | inl below ↦ (some.0, there some.0 some.1, below)
          | inr above ↦ absurd (stands.free k some.0 m.0 some.1 above)
        ]
      ];
}
  where
    back : (y : ℕ) → HeldIn new y → HeldIn old y
    back y = (under_held_same parents old new r marks y).0

    there : (y : ℕ) → HeldIn old y → HeldIn new y
    there y = (under_held_same parents old new r marks y).1

-- ---- a region that is held from now on

pub over_held_more : (parents : List (Option ℕ)) (old mid : List HeldState) (r : ℕ) → r < length mid → MarksUp parents old mid r state.Over → (k : ℕ)
    → HeldIn (set mid r state.Held) k ↔ (HeldIn old k ⊎ (k ≡ r))
over_held_more parents old mid r within marks k = (
  λ held. elim (after_set mid r k state.Held within) [
    | inl h ↦ inr h.0
    | inr h ↦ elim (marks.changes k) [ inl same ↦ inl (sym same ∙ sym h.1 ∙ held) | inr m ↦ absurd (cc) ]
  ],
  λ held. elim (after_set mid r k state.Held within) [
    | inl h ↦ h.1
    | inr h ↦ elim held [
      | inl was ↦ elim (marks.changes k) [ inl same ↦ h.1 ∙ same ∙ was | inr m ↦ absurd (cc) ]
      | inr here ↦ absurd (h.0 here)
    ]
  ],
)

-- a region that was not free has a held one below it, unless one is above it
not_free : (parents : List (Option ℕ)) (old : List HeldState) (x : ℕ) → Stands parents old → state_at old x ≢ state.Free → (UnderHeld parents old x → ⊥)
    → (y : ℕ) × HeldIn old y × IsUnder parents y x
not_free parents old x stands begun none =
    let some = begun_overlaps parents old x stands begun in
    elim some.2 [ inl above ↦ absurd (none (some.0, some.1, above)) | inr below ↦ (some.0, some.1, below) ]

pub over_stands : (parents : List (Option ℕ)) (rank : ℕ → ℕ) (old mid : List HeldState) (r : ℕ) → Falls parents rank → Stands parents old → r < length mid
    → state_at old r ≡ state.Free → (UnderHeld parents old r → ⊥) → MarksUp parents old mid r state.Over → Stands parents (set mid r state.Held)
over_stands parents rank old mid r falls stands within free none marks = record {
  long = grind (arith, common_steps, marks.long, stands.long);
  free = λ k y e held u.
      elim (other k state.Free e (λ x. cc)) [
        | inl was ↦ elim (back y held) [ inl h ↦ stands.free k y was h u | inr same ↦ above_free k e was (subst (λ (z : ℕ). IsUnder parents z k) same u) ]
        | inr m ↦ absurd (cc (m.1))
      ];
  over = λ k y e held u.
      elim (other k state.Over e (λ x. cc)) [
        | inl was ↦ elim (back y held) [
          | inl h ↦ stands.over k y was h u
          | inr same ↦ (let h = stands.over_held k was in stands.free r h.0 free h.1 (under_trans parents h.0 k r h.2 (subst (λ (z : ℕ). IsUnder parents k z) same u)))
        ]
        | inr m ↦ elim (back y held) [
          | inl h ↦ none (y, h, under_trans parents r k y m.2 u)
          | inr same ↦ m.0 (under_both parents rank k r falls (subst (λ (z : ℕ). IsUnder parents k z) same u) m.2)
        ]
      ];
  over_held = λ k e.
      elim (other k state.Over e (λ x. cc)) [
        | inl was ↦ (let h = stands.over_held k was in (h.0, there h.0 (inl h.1), h.2))
        | inr m ↦ (r, there r (inr refl), m.2)
      ];
  under_held = λ k e.
      elim (other k state.Under e (λ x. cc)) [
        | inl was ↦ (let h = stands.under_held k was in (h.0, there h.0 (inl h.1), h.2))
        | inr m ↦ absurd (cc (m.1))
      ];
}
  where
    back : (y : ℕ) → HeldIn (set mid r state.Held) y → HeldIn old y ⊎ (y ≡ r)
    back y = (over_held_more parents old mid r within marks y).0

    there : (y : ℕ) → HeldIn old y ⊎ (y ≡ r) → HeldIn (set mid r state.Held) y
    there y = (over_held_more parents old mid r within marks y).1

    other : (k : ℕ) (s : HeldState) → state_at (set mid r state.Held) k ≡ s → s ≢ state.Held
        → (state_at old k ≡ s) ⊎ ((k ≢ r) × (state.Over ≡ s) × IsUnder parents r k)
    other k s e not_held =
        elim (after_set mid r k state.Held within) [
          | inl h ↦ absurd (not_held (sym e ∙ h.1))
          | inr h ↦ elim (marks.changes k) [
            | inl same ↦ inl (sym same ∙ sym h.1 ∙ e)
            | inr m ↦ inr (h.0, sym m.1 ∙ sym h.1 ∙ e, m.2)
          ]
        ]

    above_free : (k : ℕ) → state_at (set mid r state.Held) k ≡ state.Free → state_at old k ≡ state.Free → IsUnder parents r k → ⊥
    above_free k e was u =
        elim (marks.covers k u) [
          | inl given ↦ elim (after_set mid r k state.Held within) [ inl h ↦ absurd (cc) | inr h ↦ absurd (cc) ]
          | inr x ↦ (let low = not_free parents old x.0 stands x.1 (λ some. none (some.0, some.1, under_trans parents r x.0 some.0 x.2 some.2)) in
              stands.free k low.0 was low.1 (under_trans parents low.0 x.0 k low.2 x.3))
        ]
