-- What it does to the marks to forget regions below one.
use Rattle.std.proofs.Common.{◌≡◌, ◌≢◌, ℕ, zero, suc, ◌+◌, ◌-◌, ◌<◌, ◌≤◌, List, [], ◌∷◌, ◌++◌, length, get_or, refl, sym, ◌∙◌, ap, subst, inl, inr, arith, ◌⊎◌}
use Rattle.std.specs.Prelude.{Option, Some, None}
use Rattle.std.specs.List.{Contains}
use Rattle.std.specs.BTreeSet.{BTreeSet}
use Rattle.std.proofs.Math.ListN.{set}
use Rattle.std.proofs.lemmas.List.Elements.{Contains-push, Contains-push_cases, Contains-append_left}
use Rattle.std.proofs.lemmas.Grind.{common_steps}
use Rattle.region_tree.specs.Chains.{parent_at}
use Rattle.region_scrub.specs.declared.chain_state.ChainState.{ChainState}
use Rattle.region_scrub.specs.declared.chain_state.ChainState.TheVariants as mark
use Rattle.region_scrub.specs.Indexes.{IsIndexed, LeastFrom}
use Rattle.region_scrub.specs.Numbers.{key_at}
use Rattle.region_scrub.specs.Rooting.{mark_at, Fits, Forgets, IsAhead, IsForgetting, IsForgettingAt, IsForgettingFrom, KeepsTops, SharesKey}
use Rattle.region_scrub.proofs.Settling.{after_set, option_is}

-- whether a mark is fresh
fresh_or : (m : ChainState) → (m ≡ mark.Fresh) ⊎ (m ≢ mark.Fresh)
fresh_or mark.Fresh = inl refl
fresh_or mark.Passing = inr (λ e. cc)
fresh_or mark.Lost = inr (λ e. cc)
fresh_or mark.Rooted = inr (λ e. cc)

key_within : (keys : List (Option ℕ)) (k key : ℕ) → key_at keys k ≡ Some key → k < length keys
key_within [] k key e = absurd (cc)
key_within (x ∷ xs) zero key e = omega arith
key_within (x ∷ xs) (suc k) key e = omega (arith, key_within xs k key e)

-- the numbers that a cursor still has
abbrev pub left : ℕ → Option ℕ → ℕ
left count None = 0
left count (Some next) = count - next

ahead_least : (up : List (Option ℕ)) (key from : ℕ) (o : Option ℕ) → LeastFrom up key from o → (k : ℕ) → from ≤ k → key_at up k ≡ Some key → IsAhead o k
ahead_least up key from None least k low is = least k low is
ahead_least up key from (Some next) least k low is = least.2 k low is

shares_least : (up : List (Option ℕ)) (key from : ℕ) (o : Option ℕ) → LeastFrom up key from o → (next : ℕ) → o ≡ Some next → key_at up next ≡ Some key
shares_least up key from None least next e = absurd (cc)
shares_least up key from (Some k) least next e = let same : k ≡ next = cc in subst (λ (z : ℕ). key_at up z ≡ Some key) same least.0

left_least : (up : List (Option ℕ)) (key from : ℕ) (o : Option ℕ) → LeastFrom up key from o → from ≤ length up → left (length up) o ≤ length up - from
left_least up key from None least low = omega arith
left_least up key from (Some k) least low = let up_to = least.1 in omega arith

-- the cursor at its next number
module _ (own up first next : List (Option ℕ)) (at child : ℕ) (cursor : Option ℕ) (indexed : IsIndexed up first next) (shares : SharesKey own up at cursor)
    (is : cursor ≡ Some child) where
  child_within : child < length up
  child_within = let s = shares.shares child is in key_within up child s.0 s.2

  -- what the read of the next number gives
  pub next_is : (read : Option ℕ) → read ≡ get_or next child read → key_at next child ≡ read
  next_is read e = let within = child_within in option_is next child read (omega (arith, indexed.long_next)) e

  next_least : LeastFrom up (shares.shares child is).0 (child + 1) (key_at next child)
  next_least = indexed.next_is child (shares.shares child is).0 (shares.shares child is).2

  -- the next number has the key too
  pub next_shares : SharesKey own up at (key_at next child)
  next_shares = record {
    shares = λ n e. let s = shares.shares child is in (s.0, s.1, shares_least up s.0 (child + 1) (key_at next child) next_least n e);
  }

  -- fewer numbers are left
  pub next_left : left (length up) (key_at next child) < left (length up) cursor
  next_left = let within = child_within in
      let less = left_least up (shares.shares child is).0 (child + 1) (key_at next child) next_least (omega arith) in
      let here : left (length up) cursor ≡ length up - child = ap (λ (o : Option ℕ). left (length up) o) is in
      omega arith

  module _ (parents : List (Option ℕ)) (fits : Fits own up parents) where
    next_ahead : (k : ℕ) → parent_at parents k ≡ Some at → child + 1 ≤ k → IsAhead (key_at next child) k
    next_ahead k p low =
        let s = shares.shares child is in
        let f = fits.fits k at p in
        let both : Some f.0 ≡ Some s.0 = sym f.1 ∙ s.1 in
        let same : f.0 ≡ s.0 = cc in
        ahead_least up s.0 (child + 1) (key_at next child) next_least k low (f.2 ∙ ap (λ (z : ℕ). Some z) same)

    -- the regions from the next number on are still to come
    pub forgetting_next : (marks : List ChainState) (path : List ℕ) → IsForgettingFrom parents marks path at (Some (child + 1)) → IsForgettingFrom parents marks path at (key_at next child)
    forgetting_next marks path f = record {
      long = f.long;
      within = f.within;
      closed = λ k x begun p. elim (f.closed k x begun p) [
        | inl there ↦ inl there
        | inr below ↦ elim below [
          | inl on ↦ inr (inl on)
          | inr here ↦ inr (inr (here.0, next_ahead k (p ∙ ap (λ (z : ℕ). Some z) here.0) here.1))
        ]
      ];
    }

-- a region at the cursor that is forgotten
module _ (parents : List (Option ℕ)) (marks : List ChainState) (path : List ℕ) (at child : ℕ) (f : IsForgettingFrom parents marks path at (Some child)) (there : child < length marks) where
  forgotten_within : (k : ℕ) → Contains (path ++ child ∷ []) k → k < length (set marks child mark.Fresh)
  forgotten_within k c = elim (Contains-push_cases path child k c) [
    | inl on ↦ (let low = f.within k on in grind (arith, common_steps))
    | inr same ↦ grind (arith, common_steps)
  ]

  forgotten_parent : (x : ℕ) → mark_at marks x ≢ mark.Fresh → (mark_at (set marks child mark.Fresh) x ≢ mark.Fresh) ⊎ Contains (path ++ child ∷ []) x
  forgotten_parent x begun = elim (after_set marks child x mark.Fresh there) [
    | inl h ↦ inr (subst (λ (z : ℕ). Contains (path ++ child ∷ []) z) (sym h.0) (Contains-push path child))
    | inr h ↦ inl (λ e. begun (sym h.1 ∙ e))
  ]

  forgotten_closed : (k x : ℕ) → mark_at (set marks child mark.Fresh) k ≢ mark.Fresh → parent_at parents k ≡ Some x
      → (mark_at (set marks child mark.Fresh) x ≢ mark.Fresh) ⊎ (Contains (path ++ child ∷ []) x ⊎ ((x ≡ at) × IsAhead (Some (child + 1)) k))
  forgotten_closed k x begun p = elim (after_set marks child k mark.Fresh there) [
    | inl h ↦ absurd (begun h.1)
    | inr h ↦ elim (f.closed k x (λ e. begun (h.1 ∙ e)) p) [
      | inl up ↦ elim (forgotten_parent x up) [ inl a ↦ inl a | inr b ↦ inr (inl b) ]
      | inr below ↦ elim below [
        | inl on ↦ inr (inl (Contains-append_left path (child ∷ []) x on))
        | inr here ↦ inr (inr (here.0, let low = here.1 in let other = h.0 in omega arith))
      ]
    ]
  ]

  child_forgotten : IsForgettingFrom parents (set marks child mark.Fresh) (path ++ child ∷ []) at (Some (child + 1))
  child_forgotten = record {
    long = grind (arith, common_steps, f.long);
    within = forgotten_within;
    closed = forgotten_closed;
  }

  -- it is on the path, and the cursor is behind it
  pub child_forgotten_to : (pushed : List ℕ) → pushed ≡ path ++ child ∷ [] → IsForgettingFrom parents (set marks child mark.Fresh) pushed at (Some (child + 1))
  child_forgotten_to pushed is = subst (λ (p : List ℕ). IsForgettingFrom parents (set marks child mark.Fresh) p at (Some (child + 1))) (sym is) child_forgotten

-- regions are forgotten, and then others
pub forgets_then : (first second third : List ChainState) (one two three : BTreeSet ℕ) → Forgets first second one two → Forgets second third two three → Forgets first third one three
forgets_then first second third one two three f g = record {
  kept = λ k begun. g.kept k begun ∙ f.kept k (λ e. begun (g.kept k begun ∙ e));
  more = λ k has. g.more k (f.more k has);
  told = λ k begun fresh. elim (fresh_or (mark_at second k)) [
    | inl e ↦ g.more k (f.told k begun e)
    | inr there ↦ g.told k there fresh
  ];
}

-- the same of regions without parent
pub tops_then : (old new : List (Option ℕ)) (first second third : List ChainState) → new ≡ old → KeepsTops old first second → KeepsTops new second third → KeepsTops new first third
tops_then old new first second third is f g = record { kept = λ k none. g.kept k none ∙ f.kept k (ap (λ (p : List (Option ℕ)). parent_at p k) (sym is) ∙ none) }

-- the region that was taken from the path
module _ (parents : List (Option ℕ)) (marks : List ChainState) (path popped : List ℕ) (at : ℕ) (is : path ≡ popped ++ at ∷ []) (f : IsForgetting parents marks path) where
  top_on : Contains path at
  top_on = subst (λ (p : List ℕ). Contains p at) (sym is) (Contains-push popped at)

  -- the region is there
  pub top_there : at < length parents
  top_there = omega (arith, f.within at top_on, f.long)

  -- it need not be on the path
  pub top_forgetting : IsForgettingAt parents marks popped at
  top_forgetting = record {
    long = f.long;
    within = λ k c. f.within k (subst (λ (p : List ℕ). Contains p k) (sym is) (Contains-append_left popped (at ∷ []) k c));
    closed = λ k x begun p. elim (f.closed k x begun p) [
      | inl there ↦ inl there
      | inr on ↦ elim (Contains-push_cases popped at x (subst (λ (p : List ℕ). Contains p x) is on)) [
        | inl below ↦ inr (inl below)
        | inr same ↦ inr (inr (sym same))
      ]
    ];
  }
