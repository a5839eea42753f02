-- What a step of a climb, of a ranking or of a loss does to the marks.
use Rattle.std.proofs.Common.{◌≡◌, ◌≢◌, ℕ, ◌+◌, ◌<◌, List, [], ◌∷◌, ◌++◌, length, get_or, refl, sym, ◌∙◌, subst, inl, inr, arith, ◌⊎◌}
use Rattle.std.specs.Prelude.{Option, Some, None}
use Rattle.std.proofs.Math.ListN.{set}
use Rattle.std.proofs.lemmas.List.{get_or-set_same}
use Rattle.std.proofs.lemmas.List.Sums.{sum_by-set}
use Rattle.std.proofs.lemmas.Grind.{common_steps, elements}
use Rattle.std.proofs.lemmas.List.{get_or_default}
use Rattle.region_tree.specs.declared.chain_state.ChainState.{ChainState}
use Rattle.region_tree.specs.declared.chain_state.ChainState.TheVariants as mark
use Rattle.region_tree.specs.Chains.{parent_at}
use Rattle.region_tree.specs.Marks.{mark_at, open_weight, IsRanked, IsAbove, Marked, IsDown, LostClosed, LostFalls, OnPath, ClimbsTo, StaysBegun}

-- a read after a write
pub after_set : (marks : List ChainState) (at k : ℕ) (m : ChainState) → at < length marks
    → ((k ≡ at) × (mark_at (set marks at m) k ≡ m)) ⊎ ((k ≢ at) × (mark_at (set marks at m) k ≡ mark_at marks k))
after_set marks at k m within = grind (arith, common_steps, elements)

pub set_here : (marks : List ChainState) (at : ℕ) (m : ChainState) → at < length marks → mark_at (set marks at m) at ≡ m
set_here marks at m within = get_or-set_same marks at m mark.Fresh within

-- a fresh region that is passed
pub pass_marked : (parents : List (Option ℕ)) (marks : List ChainState) (next at : ℕ) → Marked parents marks next → at < length marks
    → mark_at marks at ≡ mark.Fresh → Marked parents (set marks at mark.Passing) next
pass_marked parents marks next at m within fresh = record {
  long = grind (arith, common_steps);
  within = m.within;
  roots = λ k low. grind (arith, after_set marks at k mark.Passing within, m.roots k low);
  below = λ k r e. grind (arith, after_set marks at k mark.Passing within, m.below k r);
  ranked = λ k r e. grind (arith, after_set marks at k mark.Passing within, m.ranked k r, after_set);
  room = grind (arith, common_steps, sum_by-set open_weight marks at mark.Passing mark.Fresh within, m.room);
}

pub pass_lost : (parents : List (Option ℕ)) (marks : List ChainState) (at : ℕ) → LostClosed parents marks → at < length marks
    → mark_at marks at ≡ mark.Fresh → LostClosed parents (set marks at mark.Passing)
pass_lost parents marks at m within fresh = record {
  lost = λ k x e p. grind (arith, after_set marks at k mark.Passing within, after_set marks at x mark.Passing within, m.lost k x);
}

-- a region is passed after the push where it is the pushed one or was passed before
pass_whole : (marks : List ChainState) (path : List ℕ) (at k : ℕ) → OnPath marks path → at < length marks
    → mark_at (set marks at mark.Passing) k ≡ mark.Passing
    → (i : ℕ) × (i < length (path ++ at ∷ [])) × (get_or (path ++ at ∷ []) i 0 ≡ k)
pass_whole marks path at k m within e =
    elim (after_set marks at k mark.Passing within) [
      | inl h ↦ (length path, grind (arith, common_steps), grind (arith, common_steps))
      | inr h ↦ (let w = m.whole k (sym h.1 ∙ e) in (w.0, grind (arith, common_steps), grind (arith, common_steps)))
    ]

pub pass_path : (marks : List ChainState) (path : List ℕ) (at : ℕ) → OnPath marks path → at < length marks
    → mark_at marks at ≡ mark.Fresh → OnPath (set marks at mark.Passing) (path ++ at ∷ [])
pass_path marks path at m within fresh = record {
  within = λ i low. grind (arith, common_steps, m.within i);
  passing = λ i low. grind (arith, common_steps, elements, m.passing i, after_set marks at (get_or (path ++ at ∷ []) i 0) mark.Passing within);
  distinct = λ i j less low. grind (arith, common_steps, m.distinct i j, m.passing i);
  whole = λ k e. pass_whole marks path at k m within e;
}

pub pass_climbs : (parents : List (Option ℕ)) (path : List ℕ) (at x : ℕ) → ClimbsTo parents path at
    → parent_at parents at ≡ Some x → ClimbsTo parents (path ++ at ∷ []) x
pass_climbs parents path at x m p = record {
  climbs = λ i low. grind (arith, common_steps, m.climbs i);
}

-- what was begun stays begun after a write
pub set_stays : (old marks : List ChainState) (at : ℕ) (m : ChainState) → StaysBegun old marks → at < length marks
    → m ≢ mark.Fresh → StaysBegun old (set marks at m)
set_stays old marks at m s within begun = record {
  stays = λ k b f. s.stays k b (elim (after_set marks at k m within) [ inl h ↦ absurd (begun (sym h.1 ∙ f)) | inr h ↦ sym h.1 ∙ f ]);
}

-- the last region of the path
pub top_within : (marks : List ChainState) (path : List ℕ) (at : ℕ) → OnPath marks (path ++ at ∷ []) → at < length marks
top_within marks path at m = grind (arith, common_steps, m.within (length path))

pub top_passing : (marks : List ChainState) (path : List ℕ) (at : ℕ) → OnPath marks (path ++ at ∷ []) → mark_at marks at ≡ mark.Passing
top_passing marks path at m = grind (arith, common_steps, m.passing (length path))

pop_whole : (marks : List ChainState) (path : List ℕ) (at k : ℕ) (m : ChainState) → OnPath marks (path ++ at ∷ []) → m ≢ mark.Passing
    → mark_at (set marks at m) k ≡ mark.Passing → (i : ℕ) × (i < length path) × (get_or path i 0 ≡ k)
pop_whole marks path at k m on other e =
    elim (after_set marks at k m (top_within marks path at on)) [
      | inl h ↦ absurd (other (sym h.1 ∙ e))
      | inr h ↦ (let w = on.whole k (sym h.1 ∙ e) in (w.0, grind (arith, common_steps), grind (arith, common_steps)))
    ]

-- the path without its last region, which is passed no more
pub pop_path : (marks : List ChainState) (path : List ℕ) (at : ℕ) (m : ChainState) → OnPath marks (path ++ at ∷ []) → m ≢ mark.Passing
    → OnPath (set marks at m) path
pop_path marks path at m on other = record {
  within = λ i low. grind (arith, common_steps, on.within i);
  passing = λ i low. grind (arith, common_steps, on.passing i, on.distinct i (length path), after_set marks at (get_or path i 0) m (top_within marks path at on));
  distinct = λ i j less low. grind (arith, common_steps, on.distinct i j);
  whole = λ k e. pop_whole marks path at k m on other e;
}

-- a passed region whose parent is ranked takes the next rank
pub rank_marked : (parents : List (Option ℕ)) (marks : List ChainState) (next at end : ℕ) → Marked parents marks next → at < length marks
    → mark_at marks at ≡ mark.Passing → IsRanked marks end → parent_at parents at ≡ Some end
    → Marked parents (set marks at (mark.Ranked next)) (next + 1)
rank_marked parents marks next at end m within passing ranked parent = record {
  long = grind (arith, common_steps, m.long);
  within = m.within;
  roots = λ k low. rank_roots k low;
  below = λ k r e. grind (arith, after_set marks at k (mark.Ranked next) within, m.below k r);
  ranked = λ k r e. rank_ranked k r e;
  room = grind (arith, common_steps, sum_by-set open_weight marks at (mark.Ranked next) mark.Fresh within, m.room);
}
  where
    new : List ChainState
    new = set marks at (mark.Ranked next)

    rank_roots : (k : ℕ) → k < 2 → IsRanked (set marks at (mark.Ranked next)) k
    rank_roots k low =
        elim (after_set marks at k (mark.Ranked next) within) [
          | inl h ↦ (next, h.1)
          | inr h ↦ ((m.roots k low).0, h.1 ∙ (m.roots k low).1)
        ]

    stays_ranked : (x q : ℕ) → mark_at marks x ≡ mark.Ranked q → mark_at (set marks at (mark.Ranked next)) x ≡ mark.Ranked q
    stays_ranked x q e =
        elim (after_set marks at x (mark.Ranked next) within) [ inl h ↦ absurd (cc) | inr h ↦ h.1 ∙ e ]

    rank_ranked : (k r : ℕ) → mark_at (set marks at (mark.Ranked next)) k ≡ mark.Ranked r
        → (k < 2) ⊎ IsAbove parents (set marks at (mark.Ranked next)) k r
    rank_ranked k r e =
        elim (after_set marks at k (mark.Ranked next) within) [
          | inl h ↦ inr (end, ranked.0, cc, stays_ranked end ranked.0 ranked.1, grind (arith, m.below end ranked.0 ranked.1))
          | inr h ↦ elim (m.ranked k r (sym h.1 ∙ e)) [
            | inl low ↦ inl low
            | inr a ↦ inr (a.0, a.1, a.2, stays_ranked a.0 a.1 a.3, a.4)
          ]
        ]

pub rank_lost : (parents : List (Option ℕ)) (marks : List ChainState) (next at : ℕ) → LostClosed parents marks → at < length marks
    → mark_at marks at ≡ mark.Passing → LostClosed parents (set marks at (mark.Ranked next))
rank_lost parents marks next at m within passing = record {
  lost = λ k x e p. grind (arith, after_set marks at k (mark.Ranked next) within, after_set marks at x (mark.Ranked next) within, m.lost k x);
}

pub rank_climbs : (parents : List (Option ℕ)) (path : List ℕ) (at end : ℕ) → ClimbsTo parents (path ++ at ∷ []) end
    → ClimbsTo parents path at
rank_climbs parents path at end m = record {
  climbs = λ i low. grind (arith, common_steps, m.climbs i);
}

-- the parent of the last region
pub top_parent : (parents : List (Option ℕ)) (path : List ℕ) (at end : ℕ) → ClimbsTo parents (path ++ at ∷ []) end
    → parent_at parents at ≡ Some end
top_parent parents path at end m = grind (arith, common_steps, m.climbs (length path))

-- a passed region is lost
pub lose_marked : (parents : List (Option ℕ)) (marks : List ChainState) (next at : ℕ) → Marked parents marks next → at < length marks
    → mark_at marks at ≡ mark.Passing → Marked parents (set marks at mark.Lost) next
lose_marked parents marks next at m within passing = record {
  long = grind (arith, common_steps, m.long);
  within = m.within;
  roots = λ k low. grind (arith, after_set marks at k mark.Lost within, m.roots k low);
  below = λ k r e. grind (arith, after_set marks at k mark.Lost within, m.below k r);
  ranked = λ k r e. grind (arith, after_set marks at k mark.Lost within, m.ranked k r, after_set);
  room = grind (arith, common_steps, sum_by-set open_weight marks at mark.Lost mark.Fresh within, m.room);
}

lose_down : (marks : List ChainState) (at x : ℕ) → at < length marks → IsDown marks x → IsDown (set marks at mark.Lost) x
lose_down marks at x within down =
    elim (after_set marks at x mark.Lost within) [
      | inl h ↦ inl h.1
      | inr h ↦ elim down [ inl e ↦ inl (h.1 ∙ e) | inr e ↦ inr (h.1 ∙ e) ]
    ]

pub lose_falls : (parents : List (Option ℕ)) (marks : List ChainState) (path : List ℕ) (at : ℕ)
    → LostFalls parents marks (path ++ at ∷ []) → at < length marks → LostFalls parents (set marks at mark.Lost) path
lose_falls parents marks path at m within = record {
  lost = λ k x e p. lose_down marks at x within (lost_parent k x e p);
  path_falls = λ i x low p. lose_down marks at x within (m.path_falls i x (grind (arith, common_steps)) (grind (arith, common_steps)));
}
  where
    lost_parent : (k x : ℕ) → mark_at (set marks at mark.Lost) k ≡ mark.Lost → parent_at parents k ≡ Some x → IsDown marks x
    lost_parent k x e p =
        elim (after_set marks at k mark.Lost within) [
          | inl h ↦ m.path_falls (length path) x (grind (arith, common_steps)) (grind (arith, common_steps))
          | inr h ↦ m.lost k x (sym h.1 ∙ e) p
        ]

-- where the path leads to a region that is down, all of it falls
pub climb_falls : (parents : List (Option ℕ)) (marks : List ChainState) (path : List ℕ) (end : ℕ) → LostClosed parents marks
    → OnPath marks path → ClimbsTo parents path end → IsDown marks end → LostFalls parents marks path
climb_falls parents marks path end closed on climbs down = record {
  lost = λ k x e p. inl (closed.lost k x e p);
  path_falls = λ i x low p. grind (arith, common_steps, climbs.climbs i low, on.passing (i + 1));
}

-- where the last region has no parent, all of the path falls
pub end_falls : (parents : List (Option ℕ)) (marks : List ChainState) (path : List ℕ) (at : ℕ) → LostClosed parents marks
    → OnPath marks (path ++ at ∷ []) → ClimbsTo parents path at → parent_at parents at ≡ None
    → LostFalls parents marks (path ++ at ∷ [])
end_falls parents marks path at closed on climbs none = record {
  lost = λ k x e p. inl (closed.lost k x e p);
  path_falls = λ i x low p. grind (arith, common_steps, climbs.climbs i, on.passing (i + 1));
}

pub lost-not-passing : mark.Lost ≢ mark.Passing
lost-not-passing = λ e. cc

pub lost-not-fresh : mark.Lost ≢ mark.Fresh
lost-not-fresh = λ e. cc

pub ranked-not-passing : (r : ℕ) → mark.Ranked r ≢ mark.Passing
ranked-not-passing r = λ e. cc

pub ranked-not-fresh : (r : ℕ) → mark.Ranked r ≢ mark.Fresh
ranked-not-fresh r = λ e. cc

pub passing-not-fresh : mark.Passing ≢ mark.Fresh
passing-not-fresh = λ e. cc

-- what an index in range reads
pub mark_read : (marks : List ChainState) (at : ℕ) (read m : ChainState) → at < length marks → read ≡ get_or marks at read → read ≡ m → mark_at marks at ≡ m
mark_read marks at read m within e is = grind (arith, get_or_default)

pub parent_read : (parents : List (Option ℕ)) (at : ℕ) (read p : Option ℕ) → at < length parents → read ≡ get_or parents at read → read ≡ p
    → parent_at parents at ≡ p
parent_read parents at read p within e is = grind (arith, get_or_default)

-- the region after a pass of `at` has been begun, if it had been begun before or is `at`
pub pass_begun : (marks : List ChainState) (at start : ℕ) → at < length marks → (at ≡ start) ⊎ (mark_at marks start ≢ mark.Fresh)
    → mark_at (set marks at mark.Passing) start ≢ mark.Fresh
pass_begun marks at start within begun =
    elim (after_set marks at start mark.Passing within) [
      | inl h ↦ λ f. passing-not-fresh (sym h.1 ∙ f)
      | inr h ↦ elim begun [ inl same ↦ λ f. h.0 (sym same) | inr b ↦ λ f. b (sym h.1 ∙ f) ]
    ]

-- a mark that is neither fresh nor ranked
pub down_of : (marks : List ChainState) (x : ℕ) → mark_at marks x ≢ mark.Fresh → ((r : ℕ) → mark_at marks x ≢ mark.Ranked r) → IsDown marks x
down_of marks x fresh ranked = go (mark_at marks x) refl
  where
    go : (m : ChainState) → mark_at marks x ≡ m → IsDown marks x
    go mark.Fresh e = absurd (fresh e)
    go mark.Passing e = inr e
    go mark.Lost e = inl e
    go (mark.Ranked r) e = absurd (ranked r e)

-- the same facts of a path that is the old one with a region more
pub pass_path_to : (marks : List ChainState) (path pushed : List ℕ) (at : ℕ) → pushed ≡ path ++ at ∷ [] → OnPath marks path → at < length marks
    → mark_at marks at ≡ mark.Fresh → OnPath (set marks at mark.Passing) pushed
pass_path_to marks path pushed at e on within fresh =
    subst (λ (p : List ℕ). OnPath (set marks at mark.Passing) p) (sym e) (pass_path marks path at on within fresh)

pub pass_climbs_to : (parents : List (Option ℕ)) (path pushed : List ℕ) (at x : ℕ) → pushed ≡ path ++ at ∷ [] → ClimbsTo parents path at
    → parent_at parents at ≡ Some x → ClimbsTo parents pushed x
pass_climbs_to parents path pushed at x e climbs parent =
    subst (λ (p : List ℕ). ClimbsTo parents p x) (sym e) (pass_climbs parents path at x climbs parent)

pub end_falls_to : (parents : List (Option ℕ)) (marks : List ChainState) (path pushed : List ℕ) (at : ℕ) → pushed ≡ path ++ at ∷ []
    → LostClosed parents marks → OnPath marks (path ++ at ∷ []) → ClimbsTo parents path at → parent_at parents at ≡ None
    → LostFalls parents marks pushed
end_falls_to parents marks path pushed at e closed on climbs none =
    subst (λ (p : List ℕ). LostFalls parents marks p) (sym e) (end_falls parents marks path at closed on climbs none)

pub parent_within : (parents : List (Option ℕ)) (marks : List ChainState) (next at x : ℕ) (m : ChainState) → Marked parents marks next
    → parent_at parents at ≡ Some x → x < length (set marks at m)
parent_within parents marks next at x m marked parent = grind (arith, common_steps, marked.within at x parent, marked.long)

pub mark_is : (marks : List ChainState) (at : ℕ) (read : ChainState) → at < length marks → read ≡ get_or marks at read → mark_at marks at ≡ read
mark_is marks at read within e = grind (arith, get_or_default)

pub start_begun : (marks : List ChainState) (at start : ℕ) → (at ≡ start) ⊎ (mark_at marks start ≢ mark.Fresh) → mark_at marks at ≢ mark.Fresh
    → mark_at marks start ≢ mark.Fresh
start_begun marks at start begun here = elim begun [ inl same ↦ subst (λ (k : ℕ). mark_at marks k ≢ mark.Fresh) same here | inr b ↦ b ]
