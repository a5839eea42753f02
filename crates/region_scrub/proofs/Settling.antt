-- What a step of a climb does to the marks, and what the path's marks come to.
use Rattle.std.proofs.Common.{◌≡◌, ◌≢◌, ℕ, zero, suc, ◌<◌, ◌≤◌, List, [], ◌∷◌, ◌++◌, length, get_or, refl, sym, ◌∙◌, ap, subst, inl, inr, arith, ◌⊎◌}
use Rattle.std.specs.Prelude.{Option, Some, None, Bool, true, false}
use Rattle.std.specs.List.{Contains}
use Rattle.std.proofs.Math.ListN.{set}
use Rattle.std.proofs.lemmas.List.{get_or_default}
use Rattle.std.proofs.lemmas.List.Elements.{Contains-push, Contains-push_cases, Contains-append_left}
use Rattle.std.proofs.lemmas.Grind.{common_steps, elements}
use Rattle.region_tree.specs.Chains.{parent_at, Leads, IsUnder, IsRooted}
use Rattle.region_tree.proofs.Rooted.{under_same, under_step}
use Rattle.region_scrub.specs.declared.chain_state.ChainState.{ChainState}
use Rattle.region_scrub.specs.declared.chain_state.ChainState.TheVariants as mark
use Rattle.region_scrub.specs.Rooting.{mark_at, mark_of, is_fresh, IsClimb, IsClimbed, IsPassed, IsWithin, Reaches, Stays}

-- a read after a write
pub after_set : (marks : List ChainState) (at k : ℕ) (m : ChainState) → at < length marks
    → ((k ≡ at) × (mark_at (set marks at m) k ≡ m)) ⊎ ((k ≢ at) × (mark_at (set marks at m) k ≡ mark_at marks k))
after_set marks at k m within = grind (arith, common_steps, elements)

-- what an index in range reads
pub mark_is : (marks : List ChainState) (at : ℕ) (read : ChainState) → at < length marks → read ≡ get_or marks at read → mark_at marks at ≡ read
mark_is marks at read within e = grind (arith, get_or_default)

-- the same, of numbers
pub option_is : (options : List (Option ℕ)) (at : ℕ) (read : Option ℕ) → at < length options → read ≡ get_or options at read
    → parent_at options at ≡ read
option_is options at read within e = grind (arith, get_or_default)

-- a region that is begun is there
begun_within : (marks : List ChainState) (k : ℕ) → mark_at marks k ≢ mark.Fresh → k < length marks
begun_within [] k begun = absurd (begun refl)
begun_within (m ∷ marks) zero begun = omega arith
begun_within (m ∷ marks) (suc k) begun = omega (arith, begun_within marks k begun)

passing-not-fresh : mark.Passing ≢ mark.Fresh
passing-not-fresh = λ e. cc

mark_of-not-fresh : (reaches : Bool) → mark_of reaches ≢ mark.Fresh
mark_of-not-fresh true = λ e. cc
mark_of-not-fresh false = λ e. cc

mark_of-not-passing : (reaches : Bool) → mark_of reaches ≢ mark.Passing
mark_of-not-passing true = λ e. cc
mark_of-not-passing false = λ e. cc

under_chain : (parents : List (Option ℕ)) (b c : ℕ) → IsUnder parents b c → (chain : List ℕ) (a : ℕ) → Leads parents a chain b → IsUnder parents a c
under_chain parents b c up [] a leads = subst (λ (z : ℕ). IsUnder parents z c) (sym leads) up
under_chain parents b c up (x ∷ chain) a leads = under_step parents a x c leads.0 (under_chain parents b c up chain x leads.1)

-- a chain behind a chain
under_trans : (parents : List (Option ℕ)) (a b c : ℕ) → IsUnder parents a b → IsUnder parents b c → IsUnder parents a c
unfolding IsUnder
under_trans parents a b c u v = under_chain parents b c v u.0 a u.1

rooted_up : (parents : List (Option ℕ)) (a b : ℕ) → IsUnder parents a b → IsRooted parents b → IsRooted parents a
unfolding IsRooted
rooted_up parents a b u rooted = (rooted.0, rooted.1, under_trans parents a b rooted.0 u rooted.2)

-- regions of which none is a root and each one's parent is one of them or reaches no root
pub record IsShut (parents : List (Option ℕ)) (P : ℕ → Type 0) : Type 0 where
  pub low : (k : ℕ) → P k → 2 ≤ k
  pub steps : (k x : ℕ) → P k → parent_at parents k ≡ Some x → P x ⊎ (¬ (IsRooted parents x))

shut_chain : (parents : List (Option ℕ)) (P : ℕ → Type 0) (root : ℕ) → IsShut parents P → root < 2 → (chain : List ℕ) (k : ℕ) → P k → Leads parents k chain root → ⊥
unfolding IsRooted IsUnder
shut_chain parents P root shut low [] k in_it leads = let high = shut.low k in_it in omega arith
shut_chain parents P root shut low (x ∷ chain) k in_it leads =
    elim (shut.steps k x in_it leads.0) [
      | inl next ↦ shut_chain parents P root shut low chain x next leads.1
      | inr not ↦ not (root, low, (chain, leads.1))
    ]

-- none of them reaches a root
shut_unrooted : (parents : List (Option ℕ)) (P : ℕ → Type 0) → IsShut parents P → (k : ℕ) → P k → ¬ (IsRooted parents k)
unfolding IsRooted IsUnder
shut_unrooted parents P shut k in_it = λ rooted. shut_chain parents P rooted.0 shut rooted.1 rooted.2.0 k in_it rooted.2.1

-- a write of a mark that is begun keeps what is begun
set_begun : (marks : List ChainState) (at k : ℕ) (m : ChainState) → at < length marks → m ≢ mark.Fresh → mark_at marks k ≢ mark.Fresh → mark_at (set marks at m) k ≢ mark.Fresh
set_begun marks at k m within begun there =
    elim (after_set marks at k m within) [ inl h ↦ λ f. begun (sym h.1 ∙ f) | inr h ↦ λ f. there (sym h.1 ∙ f) ]

set_here_begun : (marks : List ChainState) (at k : ℕ) (m : ChainState) → at < length marks → m ≢ mark.Fresh → k ≡ at → mark_at (set marks at m) k ≢ mark.Fresh
set_here_begun marks at k m within begun same =
    elim (after_set marks at k m within) [ inl h ↦ λ f. begun (sym h.1 ∙ f) | inr h ↦ absurd (h.0 same) ]

module _ (parents : List (Option ℕ)) (marks : List ChainState) (path : List ℕ) (at : ℕ) (climb : IsClimb parents marks path at)
    (within : at < length marks) (fresh : mark_at marks at ≡ mark.Fresh) where
  passed_low : 2 ≤ at
  passed_low = elim (low_or at) [ inl low ↦ (let both : mark.Rooted ≡ mark.Fresh = sym (climb.roots at low) ∙ fresh in absurd (cc)) | inr high ↦ high ]
    where
      low_or : (k : ℕ) → (k < 2) ⊎ (2 ≤ k)
      low_or k = grind arith

  passed_roots : (k : ℕ) → k < 2 → mark_at (set marks at mark.Passing) k ≡ mark.Rooted
  passed_roots k low = grind (arith, after_set marks at k mark.Passing within, climb.roots k low)

  passed_rooted : (k : ℕ) → mark_at (set marks at mark.Passing) k ≡ mark.Rooted → IsRooted parents k
  passed_rooted k e = elim (after_set marks at k mark.Passing within) [ inl h ↦ absurd (cc) | inr h ↦ climb.rooted k (sym h.1 ∙ e) ]

  passed_lost : (k : ℕ) → mark_at (set marks at mark.Passing) k ≡ mark.Lost → ¬ (IsRooted parents k)
  passed_lost k e = elim (after_set marks at k mark.Passing within) [ inl h ↦ absurd (cc) | inr h ↦ climb.lost k (sym h.1 ∙ e) ]

  passed_passing : (k : ℕ) → mark_at (set marks at mark.Passing) k ≡ mark.Passing → Contains (path ++ at ∷ []) k
  passed_passing k e = elim (after_set marks at k mark.Passing within) [
    | inl h ↦ subst (λ (z : ℕ). Contains (path ++ at ∷ []) z) (sym h.0) (Contains-push path at)
    | inr h ↦ Contains-append_left path (at ∷ []) k (climb.passing k (sym h.1 ∙ e))
  ]

  passed_begun : (k : ℕ) → Contains (path ++ at ∷ []) k → mark_at (set marks at mark.Passing) k ≡ mark.Passing
  passed_begun k c = elim (after_set marks at k mark.Passing within) [
    | inl h ↦ h.1
    | inr h ↦ elim (Contains-push_cases path at k c) [ inl there ↦ h.1 ∙ climb.begun k there | inr same ↦ absurd (h.0 (sym same)) ]
  ]

  passed_high : (k : ℕ) → Contains (path ++ at ∷ []) k → 2 ≤ k
  passed_high k c = elim (Contains-push_cases path at k c) [ inl there ↦ climb.low k there | inr same ↦ subst (λ (z : ℕ). 2 ≤ z) same passed_low ]

  passed_closed : (k x : ℕ) → k ≢ at → mark_at (set marks at mark.Passing) k ≢ mark.Fresh → parent_at parents k ≡ Some x → mark_at (set marks at mark.Passing) x ≢ mark.Fresh
  passed_closed k x other begun p = elim (after_set marks at k mark.Passing within) [
    | inl h ↦ absurd (other h.0)
    | inr h ↦ elim (climb.closed k x (λ f. begun (h.1 ∙ f)) p) [
      | inl there ↦ set_begun marks at x mark.Passing within passing-not-fresh there
      | inr same ↦ set_here_begun marks at x mark.Passing within passing-not-fresh same
    ]
  ]

  passed_steps : (k x : ℕ) → Contains path k → parent_at parents k ≡ Some x → Contains (path ++ at ∷ []) x
  passed_steps k x c p = elim (climb.steps k x c p) [
    | inl there ↦ Contains-append_left path (at ∷ []) x there
    | inr same ↦ subst (λ (z : ℕ). Contains (path ++ at ∷ []) z) (sym same) (Contains-push path at)
  ]

  -- a step up to the parent
  climb_steps : (x : ℕ) → parent_at parents at ≡ Some x → IsClimb parents (set marks at mark.Passing) (path ++ at ∷ []) x
  climb_steps x parent = record {
    long = grind (arith, common_steps, climb.long);
    roots = passed_roots;
    rooted = passed_rooted;
    lost = passed_lost;
    passing = passed_passing;
    begun = passed_begun;
    low = passed_high;
    steps = λ k y c p. elim (Contains-push_cases path at k c) [ inl there ↦ inl (passed_steps k y there p) | inr same ↦ inr (to_parent k y (sym same) p) ];
    up = λ k c. elim (Contains-push_cases path at k c) [
      | inl there ↦ under_trans parents k at x (climb.up k there) step
      | inr same ↦ subst (λ (z : ℕ). IsUnder parents z x) same step
    ];
    closed = λ k y begun p. elim (same_or k at) [ inl same ↦ inr (to_parent k y same p) | inr other ↦ inl (passed_closed k y other begun p) ];
  }
    where
      step : IsUnder parents at x
      step = under_step parents at x x parent (under_same parents x)

      to_parent : (k y : ℕ) → k ≡ at → parent_at parents k ≡ Some y → y ≡ x
      to_parent k y same p = let both : Some y ≡ Some x = sym p ∙ ap (λ (z : ℕ). parent_at parents z) same ∙ parent in cc

      same_or : (i j : ℕ) → (i ≡ j) ⊎ (i ≢ j)
      same_or i j = grind arith

  -- the end of a climb at a region without parent
  climb_falls : parent_at parents at ≡ None → IsClimbed parents (set marks at mark.Passing) (path ++ at ∷ []) false
  climb_falls none = record {
    long = grind (arith, common_steps, climb.long);
    roots = passed_roots;
    rooted = passed_rooted;
    lost = passed_lost;
    passing = passed_passing;
    begun = begun_of;
    known = shut_unrooted parents (λ z. Contains (path ++ at ∷ []) z) shut;
    low = passed_high;
    within = λ k c. begun_within (set marks at mark.Passing) k (begun_of k c);
    closed = λ k x begun p. passed_closed k x (λ same. no_parent k x same p) begun p;
  }
    where
      begun_of : (k : ℕ) → Contains (path ++ at ∷ []) k → mark_at (set marks at mark.Passing) k ≢ mark.Fresh
      begun_of k c = λ f. passing-not-fresh (sym (passed_begun k c) ∙ f)

      no_parent : (k x : ℕ) → k ≡ at → parent_at parents k ≡ Some x → ⊥
      no_parent k x same p = let both : Some x ≡ None = sym p ∙ ap (λ (z : ℕ). parent_at parents z) same ∙ none in cc

      shut : IsShut parents (λ z. Contains (path ++ at ∷ []) z)
      shut = record {
        low = passed_high;
        steps = λ k x c p. elim (Contains-push_cases path at k c) [ inl there ↦ inl (passed_steps k x there p) | inr same ↦ absurd (no_parent k x (sym same) p) ];
      }

module _ (parents : List (Option ℕ)) (marks : List ChainState) (path : List ℕ) (at : ℕ) (climb : IsClimb parents marks path at)
    (begun : mark_at marks at ≢ mark.Fresh) where
  -- the end of a climb at a region that is begun
  climb_ends : (reaches : Bool) → ((k : ℕ) → Contains path k → Reaches reaches parents k) → IsClimbed parents marks path reaches
  climb_ends reaches known = record {
    long = climb.long;
    roots = climb.roots;
    rooted = climb.rooted;
    lost = climb.lost;
    passing = climb.passing;
    begun = begun_of;
    known = known;
    low = climb.low;
    within = λ k c. begun_within marks k (begun_of k c);
    closed = λ k x there p. elim (climb.closed k x there p) [ inl up ↦ up | inr same ↦ subst (λ (z : ℕ). mark_at marks z ≢ mark.Fresh) (sym same) begun ];
  }
    where
      begun_of : (k : ℕ) → Contains path k → mark_at marks k ≢ mark.Fresh
      begun_of k c = λ f. passing-not-fresh (sym (climb.begun k c) ∙ f)

  -- that region reaches a root
  pub climb_reaches : mark_at marks at ≡ mark.Rooted → IsClimbed parents marks path true
  climb_reaches rooted = climb_ends true (λ k c. rooted_up parents k at (climb.up k c) (climb.rooted at rooted))

  -- that region reaches no root, or is on the path
  pub climb_misses : mark_at marks at ≢ mark.Rooted → IsClimbed parents marks path false
  climb_misses other = climb_ends false (shut_unrooted parents (λ z. Contains path z) (record { low = climb.low; steps = steps }))
    where
      at_end : (m : ChainState) → mark_at marks at ≡ m → Contains path at ⊎ (¬ (IsRooted parents at))
      at_end mark.Fresh e = absurd (begun e)
      at_end mark.Passing e = inl (climb.passing at e)
      at_end mark.Lost e = inr (climb.lost at e)
      at_end mark.Rooted e = absurd (other e)

      steps : (k x : ℕ) → Contains path k → parent_at parents k ≡ Some x → Contains path x ⊎ (¬ (IsRooted parents x))
      steps k x c p = elim (climb.steps k x c p) [
        | inl there ↦ inl there
        | inr same ↦ subst (λ (z : ℕ). Contains path z ⊎ (¬ (IsRooted parents z))) (sym same) (at_end (mark_at marks at) refl)
      ]

-- what is known stays known where a region of which nothing is known is passed
pub pass_stays : (before marks : List ChainState) (at : ℕ) → Stays before marks → at < length marks → mark_at marks at ≡ mark.Fresh → Stays before (set marks at mark.Passing)
pass_stays before marks at s within fresh = record {
  stays = λ k begun. elim (after_set marks at k mark.Passing within) [
    | inl h ↦ absurd (begun (sym (s.stays k begun) ∙ ap (λ (z : ℕ). mark_at marks z) h.0 ∙ fresh))
    | inr h ↦ h.1 ∙ s.stays k begun
  ];
}

-- the start of the climb after a region is passed
pub pass_begun : (marks : List ChainState) (at start : ℕ) → at < length marks → (at ≡ start) ⊎ (mark_at marks start ≢ mark.Fresh)
    → mark_at (set marks at mark.Passing) start ≢ mark.Fresh
pass_begun marks at start within begun =
    elim begun [
      | inl same ↦ set_here_begun marks at start mark.Passing within passing-not-fresh (sym same)
      | inr there ↦ set_begun marks at start mark.Passing within passing-not-fresh there
    ]

-- the start of a climb that came to a region that is begun
pub start_begun : (marks : List ChainState) (at start : ℕ) → (at ≡ start) ⊎ (mark_at marks start ≢ mark.Fresh) → mark_at marks at ≢ mark.Fresh
    → mark_at marks start ≢ mark.Fresh
start_begun marks at start begun here = elim begun [ inl same ↦ subst (λ (k : ℕ). mark_at marks k ≢ mark.Fresh) same here | inr there ↦ there ]

-- what a read says where it is tested
pub fresh_read : (marks : List ChainState) (at : ℕ) (read : ChainState) (b : Bool) → at < length marks → read ≡ get_or marks at read → b ≡ is_fresh read → b ≡ true → mark_at marks at ≡ mark.Fresh
fresh_read marks at read b within is test holds = mark_is marks at read within is ∙ go read (sym test ∙ holds)
  where
    go : (m : ChainState) → is_fresh m ≡ true → m ≡ mark.Fresh
    go mark.Fresh e = refl
    go mark.Passing e = absurd (cc)
    go mark.Lost e = absurd (cc)
    go mark.Rooted e = absurd (cc)

-- the same where the test fails
pub begun_read : (marks : List ChainState) (at : ℕ) (read : ChainState) (b : Bool) → at < length marks → read ≡ get_or marks at read → b ≡ is_fresh read → b ≡ false → mark_at marks at ≢ mark.Fresh
begun_read marks at read b within is test fails = λ f. go read (sym (mark_is marks at read within is) ∙ f) (sym test ∙ fails)
  where
    go : (m : ChainState) → m ≡ mark.Fresh → is_fresh m ≡ false → ⊥
    go mark.Fresh e other = cc
    go mark.Passing e other = cc
    go mark.Lost e other = cc
    go mark.Rooted e other = cc

-- the path of a climb is passed
pub climb_passed : (parents : List (Option ℕ)) (marks : List ChainState) (path : List ℕ) (at : ℕ) → IsClimb parents marks path at → IsPassed marks path
climb_passed parents marks path at climb = record { passed = climb.begun }

-- the same facts of a path that is the old one with a region more
module _ (parents : List (Option ℕ)) (marks : List ChainState) (path pushed : List ℕ) (at : ℕ) (is : pushed ≡ path ++ at ∷ [])
    (climb : IsClimb parents marks path at) (within : at < length marks) (fresh : mark_at marks at ≡ mark.Fresh) where
  -- a step up to the parent
  pub climb_steps_to : (x : ℕ) → parent_at parents at ≡ Some x → IsClimb parents (set marks at mark.Passing) pushed x
  climb_steps_to x parent = subst (λ (p : List ℕ). IsClimb parents (set marks at mark.Passing) p x) (sym is) (climb_steps parents marks path at climb within fresh x parent)

  -- the end at a region without parent
  pub climb_falls_to : parent_at parents at ≡ None → IsClimbed parents (set marks at mark.Passing) pushed false
  climb_falls_to none = subst (λ (p : List ℕ). IsClimbed parents (set marks at mark.Passing) p false) (sym is) (climb_falls parents marks path at climb within fresh none)

  -- the path is passed
  pub passed_to : IsPassed (set marks at mark.Passing) pushed
  passed_to = subst (λ (p : List ℕ). IsPassed (set marks at mark.Passing) p) (sym is) (record { passed = passed_begun parents marks path at climb within fresh })

-- the last region of the path takes its mark
module _ (parents : List (Option ℕ)) (marks : List ChainState) (path : List ℕ) (at : ℕ) (reaches : Bool) (climbed : IsClimbed parents marks (path ++ at ∷ []) reaches) where
  top_within : at < length marks
  top_within = climbed.within at (Contains-push path at)

  finished_rooted : (k : ℕ) → mark_at (set marks at (mark_of reaches)) k ≡ mark.Rooted → IsRooted parents k
  finished_rooted k e = elim (after_set marks at k (mark_of reaches) top_within) [
    | inl h ↦ subst (λ (z : ℕ). IsRooted parents z) (sym h.0) (go reaches (sym h.1 ∙ e) (climbed.known at (Contains-push path at)))
    | inr h ↦ climbed.rooted k (sym h.1 ∙ e)
  ]
    where
      go : (b : Bool) → mark_of b ≡ mark.Rooted → Reaches b parents at → IsRooted parents at
      go true is known = known
      go false is known = absurd (cc)

  finished_lost : (k : ℕ) → mark_at (set marks at (mark_of reaches)) k ≡ mark.Lost → ¬ (IsRooted parents k)
  finished_lost k e = elim (after_set marks at k (mark_of reaches) top_within) [
    | inl h ↦ subst (λ (z : ℕ). ¬ (IsRooted parents z)) (sym h.0) (go reaches (sym h.1 ∙ e) (climbed.known at (Contains-push path at)))
    | inr h ↦ climbed.lost k (sym h.1 ∙ e)
  ]
    where
      go : (b : Bool) → mark_of b ≡ mark.Lost → Reaches b parents at → ¬ (IsRooted parents at)
      go true is known = absurd (cc)
      go false is known = known

  finished_passing : (k : ℕ) → mark_at (set marks at (mark_of reaches)) k ≡ mark.Passing → Contains path k
  finished_passing k e = elim (after_set marks at k (mark_of reaches) top_within) [
    | inl h ↦ absurd (mark_of-not-passing reaches (sym h.1 ∙ e))
    | inr h ↦ elim (Contains-push_cases path at k (climbed.passing k (sym h.1 ∙ e))) [ inl there ↦ there | inr same ↦ absurd (h.0 (sym same)) ]
  ]

  finished_roots : (k : ℕ) → k < 2 → mark_at (set marks at (mark_of reaches)) k ≡ mark.Rooted
  finished_roots k low = elim (after_set marks at k (mark_of reaches) top_within) [
    | inl h ↦ (let high = climbed.low at (Contains-push path at) in absurd (omega (arith, h.0)))
    | inr h ↦ h.1 ∙ climbed.roots k low
  ]

  finished_begun : (k : ℕ) → mark_at marks k ≢ mark.Fresh → mark_at (set marks at (mark_of reaches)) k ≢ mark.Fresh
  finished_begun k begun = set_begun marks at k (mark_of reaches) top_within (mark_of-not-fresh reaches) begun

  was_begun : (k : ℕ) → mark_at (set marks at (mark_of reaches)) k ≢ mark.Fresh → mark_at marks k ≢ mark.Fresh
  was_begun k begun = elim (after_set marks at k (mark_of reaches) top_within) [
    | inl h ↦ subst (λ (z : ℕ). mark_at marks z ≢ mark.Fresh) (sym h.0) (climbed.begun at (Contains-push path at))
    | inr h ↦ λ f. begun (h.1 ∙ f)
  ]

  finished : IsClimbed parents (set marks at (mark_of reaches)) path reaches
  finished = record {
    long = grind (arith, common_steps, climbed.long);
    roots = finished_roots;
    rooted = finished_rooted;
    lost = finished_lost;
    passing = finished_passing;
    begun = λ k c. finished_begun k (climbed.begun k (Contains-append_left path (at ∷ []) k c));
    known = λ k c. climbed.known k (Contains-append_left path (at ∷ []) k c);
    low = λ k c. climbed.low k (Contains-append_left path (at ∷ []) k c);
    within = λ k c. let old = climbed.within k (Contains-append_left path (at ∷ []) k c) in grind (arith, common_steps);
    closed = λ k x begun p. finished_begun x (climbed.closed k x (was_begun k begun) p);
  }

-- the same with the mark and the path by equations
module _ (parents : List (Option ℕ)) (marks : List ChainState) (path popped : List ℕ) (at : ℕ) (reaches : Bool) (m : ChainState) (is : path ≡ popped ++ at ∷ [])
    (climbed : IsClimbed parents marks path reaches) (mark_is : m ≡ mark_of reaches) where
  popped_climbed : IsClimbed parents marks (popped ++ at ∷ []) reaches
  popped_climbed = subst (λ (p : List ℕ). IsClimbed parents marks p reaches) is climbed

  -- the region is there
  pub popped_within : at < length marks
  popped_within = top_within parents marks popped at reaches popped_climbed

  -- it takes its mark
  pub popped_finished : IsClimbed parents (set marks at m) popped reaches
  popped_finished = subst (λ (z : ChainState). IsClimbed parents (set marks at z) popped reaches) (sym mark_is) (finished parents marks popped at reaches popped_climbed)

  -- what is begun stays begun
  pub popped_begun : (k : ℕ) → mark_at marks k ≢ mark.Fresh → mark_at (set marks at m) k ≢ mark.Fresh
  popped_begun k begun = set_begun marks at k m popped_within (λ f. mark_of-not-fresh reaches (sym mark_is ∙ f)) begun

  module _ (before : List ChainState) (passed : IsPassed before path) where
    -- the rest of the path was passed before
    pub popped_passed : IsPassed before popped
    popped_passed = record { passed = λ k c. passed.passed k (subst (λ (p : List ℕ). Contains p k) (sym is) (Contains-append_left popped (at ∷ []) k c)) }

    -- what was not passed before stays
    pub popped_stays : ((k : ℕ) → mark_at before k ≢ mark.Passing → mark_at marks k ≡ mark_at before k)
        → (k : ℕ) → mark_at before k ≢ mark.Passing → mark_at (set marks at m) k ≡ mark_at before k
    popped_stays stays k other = elim (after_set marks at k m popped_within) [
      | inl h ↦ absurd (other (ap (λ (z : ℕ). mark_at before z) h.0 ∙ passed.passed at (subst (λ (p : List ℕ). Contains p at) (sym is) (Contains-push popped at))))
      | inr h ↦ h.1 ∙ stays k other
    ]

-- a parent is there
pub parent_there : (parents : List (Option ℕ)) (marks : List ChainState) (at x : ℕ) (m : ChainState) → length marks ≡ length parents → IsWithin parents
    → parent_at parents at ≡ Some x → x < length (set marks at m)
parent_there parents marks at x m long within parent = let low = within.within at x parent in grind (arith, common_steps)
