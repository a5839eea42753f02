-- What settled marks say of chains.
use Rattle.std.proofs.Common.{◌≡◌, ◌≢◌, ℕ, zero, suc, ◌<◌, ◌≤◌, List, [], ◌∷◌, length, refl, sym, ◌∙◌, ap, subst, inl, inr, arith, ◌⊎◌, eqb-true, eq-eqb}
use Rattle.std.specs.Prelude.{Option, Some, None, IsTrue, ◌==◌}
use Rattle.region_tree.specs.declared.chain_state.ChainState.{ChainState}
use Rattle.region_tree.specs.declared.chain_state.ChainState.TheVariants as mark
use Rattle.region_tree.specs.Chains.{parent_at, Leads, IsUnder, IsRooted}
use Rattle.region_tree.specs.Marks.{mark_at, rank_of, IsRanked, Marked, LostClosed, Known}

pub under_same : (parents : List (Option ℕ)) (a : ℕ) → IsUnder parents a a
unfolding IsUnder
under_same parents a = ([], refl)

pub under_step : (parents : List (Option ℕ)) (a x b : ℕ) → parent_at parents a ≡ Some x → IsUnder parents x b → IsUnder parents a b
unfolding IsUnder
under_step parents a x b p u = (x ∷ u.0, (p, u.1))

rooted_within : (parents : List (Option ℕ)) (marks : List ChainState) (next : ℕ) → Marked parents marks next → (n k r : ℕ) → r < n
    → mark_at marks k ≡ mark.Ranked r → IsRooted parents k
unfolding IsRooted
rooted_within parents marks next m zero k r less e = absurd (omega arith)
rooted_within parents marks next m (suc n) k r less e =
    elim (m.ranked k r e) [
      | inl low ↦ (k, low, under_same parents k)
      | inr a ↦ (let up = rooted_within parents marks next m n a.0 a.1 (omega (arith, a.4)) a.3 in
          (up.0, up.1, under_step parents k a.0 up.0 a.2 up.2))
    ]

pub ranked_rooted : (parents : List (Option ℕ)) (marks : List ChainState) (next k r : ℕ) → Marked parents marks next
    → mark_at marks k ≡ mark.Ranked r → IsRooted parents k
ranked_rooted parents marks next k r m e = rooted_within parents marks next m (suc r) k r (omega arith) e

lost_chain : (parents : List (Option ℕ)) (marks : List ChainState) (next root : ℕ) → Marked parents marks next → LostClosed parents marks
    → root < 2 → (chain : List ℕ) (k : ℕ) → mark_at marks k ≡ mark.Lost → Leads parents k chain root → ⊥
lost_chain parents marks next root m closed low [] k e leads =
    let ranked = m.roots root low in
    let both : mark.Lost ≡ mark.Ranked ranked.0 = sym e ∙ ap (λ x. mark_at marks x) leads ∙ ranked.1 in cc
lost_chain parents marks next root m closed low (x ∷ chain) k e leads =
    lost_chain parents marks next root m closed low chain x (closed.lost k x e leads.0) leads.1

pub lost_unrooted : (parents : List (Option ℕ)) (marks : List ChainState) (next k : ℕ) → Marked parents marks next → LostClosed parents marks
    → mark_at marks k ≡ mark.Lost → ¬ (IsRooted parents k)
unfolding IsRooted IsUnder
lost_unrooted parents marks next k m closed e = λ r. lost_chain parents marks next r.0 m closed r.1 r.2.0 k e r.2.1

-- a settled region that is not ranked is lost
pub unranked_lost : (parents : List (Option ℕ)) (marks : List ChainState) (next k : ℕ) → Known parents marks next → k < length marks
    → ((r : ℕ) → mark_at marks k ≢ mark.Ranked r) → mark_at marks k ≡ mark.Lost
unranked_lost parents marks next k known within unranked = go (mark_at marks k) refl
  where
    go : (m : ChainState) → mark_at marks k ≡ m → mark_at marks k ≡ mark.Lost
    go mark.Fresh e = absurd (known.begun k within e)
    go mark.Passing e = absurd (known.settled.settled k e)
    go mark.Lost e = e
    go (mark.Ranked r) e = absurd (unranked r e)

pub under_inv : (parents : List (Option ℕ)) (a b : ℕ) → IsUnder parents a b
    → (a ≡ b) ⊎ ((x : ℕ) × (parent_at parents a ≡ Some x) × IsUnder parents x b)
unfolding IsUnder
under_inv parents a b u = go u.0 u.1
  where
    go : (chain : List ℕ) → Leads parents a chain b → (a ≡ b) ⊎ ((x : ℕ) × (parent_at parents a ≡ Some x) × ((chain' : List ℕ) × Leads parents x chain' b))
    go [] e = inl e
    go (x ∷ chain) l = inr (x, l.0, (chain, l.1))

falls_chain : (parents : List (Option ℕ)) (rank : ℕ → ℕ) (b : ℕ) → ((k x : ℕ) → parent_at parents k ≡ Some x → rank x < rank k)
    → (chain : List ℕ) (a : ℕ) → Leads parents a chain b → (a ≡ b) ⊎ (rank b < rank a)
falls_chain parents rank b falls [] a e = inl e
falls_chain parents rank b falls (x ∷ chain) a l =
    elim (falls_chain parents rank b falls chain x l.1) [
      | inl e ↦ inr (subst (λ (z : ℕ). rank z < rank a) e (falls a x l.0))
      | inr less ↦ inr (let down = falls a x l.0 in omega arith)
    ]

-- a region that is under another is that one, or of a higher rank
pub under_falls : (parents : List (Option ℕ)) (rank : ℕ → ℕ) (a b : ℕ) → ((k x : ℕ) → parent_at parents k ≡ Some x → rank x < rank k)
    → IsUnder parents a b → (a ≡ b) ⊎ (rank b < rank a)
unfolding IsUnder
under_falls parents rank a b falls u = falls_chain parents rank b falls u.0 a u.1

-- a step up from a region that is higher than b
pub step_back : (parents : List (Option ℕ)) (rank : ℕ → ℕ) (a x b : ℕ) → rank b < rank a → parent_at parents a ≡ Some x → IsUnder parents a b → IsUnder parents x b
step_back parents rank a x b higher p u =
    elim (under_inv parents a b u) [
      | inl same ↦ (let low : rank a < rank a = subst (λ (z : ℕ). rank z < rank a) (sym same) higher in absurd (omega arith))
      | inr up ↦ (let same : up.0 ≡ x = cc in subst (λ (z : ℕ). IsUnder parents z b) same up.2)
    ]

pub none_back : (parents : List (Option ℕ)) (rank : ℕ → ℕ) (a b : ℕ) → rank b < rank a → parent_at parents a ≡ None → IsUnder parents a b → ⊥
none_back parents rank a b higher none u =
    elim (under_inv parents a b u) [
      | inl same ↦ (let low : rank a < rank a = subst (λ (z : ℕ). rank z < rank a) (sym same) higher in omega arith)
      | inr up ↦ (let both = sym none ∙ up.1 in cc)
    ]

ranked_of : (parents : List (Option ℕ)) (marks : List ChainState) (next k : ℕ) → Known parents marks next → k < length marks → IsRooted parents k → IsRanked marks k
ranked_of parents marks next k known within rooted = go (mark_at marks k) refl
  where
    go : (m : ChainState) → mark_at marks k ≡ m → IsRanked marks k
    go mark.Fresh e = absurd (known.begun k within e)
    go mark.Passing e = absurd (known.settled.settled k e)
    go mark.Lost e = absurd (lost_unrooted parents marks next k known.marked known.lost e rooted)
    go (mark.Ranked r) e = (r, e)

-- where a region's chain reaches a root, its parent has a lower rank
pub rooted_falls : (parents : List (Option ℕ)) (marks : List ChainState) (next k x : ℕ) → Known parents marks next → k < length marks → 2 ≤ k → IsRooted parents k
    → parent_at parents k ≡ Some x → rank_of (mark_at marks x) < rank_of (mark_at marks k)
rooted_falls parents marks next k x known within low rooted p =
    let r = ranked_of parents marks next k known within rooted in
    elim (known.marked.ranked k r.0 r.1) [
      | inl root ↦ absurd (omega arith)
      | inr a ↦ (let same : a.0 ≡ x = cc in
          let up : rank_of (mark_at marks x) ≡ a.1 = ap (λ (z : ℕ). rank_of (mark_at marks z)) (sym same) ∙ ap rank_of a.3 in
          let here : rank_of (mark_at marks k) ≡ r.0 = ap rank_of r.1 in
          omega (arith, up, here, a.4))
    ]

-- at the end of a climb to the height of b
pub from_goal : (parents : List (Option ℕ)) (a b : ℕ) → IsTrue (a == b) → IsUnder parents a b
from_goal parents a b same = subst (λ (z : ℕ). IsUnder parents a z) (eqb-true a b same) (under_same parents a)

pub at_goal : (parents : List (Option ℕ)) (marks : List ChainState) (a b : ℕ)
    → ((k x : ℕ) → parent_at parents k ≡ Some x → rank_of (mark_at marks x) < rank_of (mark_at marks k))
    → rank_of (mark_at marks a) ≤ rank_of (mark_at marks b) → IsUnder parents a b → IsTrue (a == b)
at_goal parents marks a b falls low u =
    elim (under_falls parents (λ z. rank_of (mark_at marks z)) a b falls u) [
      | inl same ↦ eq-eqb a b same
      | inr less ↦ absurd (omega arith)
    ]
