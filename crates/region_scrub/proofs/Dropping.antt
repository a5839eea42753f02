-- What a region that is set aside changes.
use Rattle.std.proofs.Common.{◌≡◌, ◌≢◌, ℕ, zero, suc, ◌+◌, ◌-◌, ◌<◌, ◌≤◌, List, [], ◌∷◌, length, refl, sym, ◌∙◌, ap, subst, inl, inr, arith, ◌⊎◌}
use Rattle.std.specs.Prelude.{Option, Some, None, Bool}
use Rattle.std.proofs.Math.ListN.{set}
use Rattle.std.proofs.lemmas.Grind.{common_steps, elements}
use Rattle.region_tree.specs.Chains.{parent_at, Leads, IsUnder, IsRooted}
use Rattle.region_scrub.specs.declared.fault.RegionFault.{RegionFault}
use Rattle.region_scrub.specs.declared.chain_state.ChainState.{ChainState}
use Rattle.region_scrub.specs.declared.chain_state.ChainState.TheVariants as mark
use Rattle.region_scrub.specs.Numbers.{Heads, Links, IsLeft, IsSound, key_at, fault_at, link_if, head_at}
use Rattle.region_scrub.specs.Rooting.{IsMarked, mark_at}
use Rattle.region_scrub.specs.Stages.{IsLater, faults_by}
use Rattle.region_scrub.proofs.Indexing.{key_after}
use Rattle.region_scrub.proofs.Standing.{headed}

-- the fault of each region after one has this fault
abbrev pub FaultsAfter : List (Option RegionFault) → List (Option RegionFault) → ℕ → RegionFault → Type 0
FaultsAfter before after region why =
    (k : ℕ) → ((k ≡ region) × (fault_at after k ≡ Some why)) ⊎ ((k ≢ region) × (fault_at after k ≡ fault_at before k))

fault_set : (aside : List (Option RegionFault)) (at k : ℕ) (v : Option RegionFault) → at < length aside
    → ((k ≡ at) × (fault_at (set aside at v) k ≡ v)) ⊎ ((k ≢ at) × (fault_at (set aside at v) k ≡ fault_at aside k))
fault_set aside at k v within = grind (arith, common_steps, elements)

pub faults_after : (aside : List (Option RegionFault)) (region : ℕ) (why : RegionFault) → 2 ≤ region → region < length aside + 2
    → FaultsAfter (faults_by aside) (faults_by (set aside (region - 2) (Some why))) region why
faults_after aside region why low within zero = inr (λ e. absurd (omega arith), refl)
faults_after aside region why low within (suc zero) = inr (λ e. absurd (omega arith), refl)
faults_after aside region why low within (suc (suc k)) = elim (fault_set aside (region - 2) k (Some why) (omega arith)) [
  | inl h ↦ inl (let e = h.0 in omega arith, h.1)
  | inr h ↦ inr (λ e. h.0 (omega arith), h.1)
]

-- a region that is left after it was left before, and is another one
pub left_other : (before after : List (Option RegionFault)) (region : ℕ) (why : RegionFault) → FaultsAfter before after region why → (k : ℕ) → IsLeft after k
    → (k ≢ region) × IsLeft before k
left_other before after region why f k left = elim (f k) [
  | inl h ↦ (let both : None ≡ Some why = sym left ∙ h.1 in absurd (cc))
  | inr h ↦ (h.0, sym h.1 ∙ left)
]

left_still : (before after : List (Option RegionFault)) (region : ℕ) (why : RegionFault) → FaultsAfter before after region why → (k : ℕ) → k ≢ region → IsLeft before k
    → IsLeft after k
left_still before after region why f k other left = elim (f k) [ inl h ↦ absurd (other h.0) | inr h ↦ h.1 ∙ left ]

-- where the region was no first one, the first ones stay
pub heads_stay : (own heads : List (Option ℕ)) (before after : List (Option RegionFault)) (region : ℕ) (why : RegionFault) → Heads own before heads
    → FaultsAfter before after region why → (head_at heads (key_at own region) ≢ Some region) → Heads own after heads
heads_stay own heads before after region why h f not_head = record {
  long = h.long;
  left = λ g k e. left_still before after region why f k
      (λ same. not_head (ap (head_at heads) (h.owns g region (e ∙ ap (λ (x : ℕ). Some x) same)) ∙ (e ∙ ap (λ (x : ℕ). Some x) same))) (h.left g k e);
  owns = h.owns;
  first = λ g k j e left is. h.first g k j e (left_other before after region why f j left).1 is;
  none = λ g j e left. h.none g j e (left_other before after region why f j left).1;
}

later_left : (own : List (Option ℕ)) (faults : List (Option RegionFault)) (key region : ℕ) (o : Option ℕ) (k : ℕ) → IsLater own faults key region o → o ≡ Some k
    → (key_at own k ≡ Some key) × IsLeft faults k × (region < k) × ((j : ℕ) → region < j → IsLeft faults j → key_at own j ≡ Some key → k ≤ j)
later_left own faults key region o k later e = subst (IsLater own faults key region) e later

later_none : (own : List (Option ℕ)) (faults : List (Option RegionFault)) (key region : ℕ) (o : Option ℕ) → IsLater own faults key region o → o ≡ None
    → (j : ℕ) → region < j → IsLeft faults j → key_at own j ≢ Some key
later_none own faults key region o later e = subst (IsLater own faults key region) e later

-- where it was the first one of its key, the next that is left is
pub heads_move : (own heads : List (Option ℕ)) (before after : List (Option RegionFault)) (region key : ℕ) (why : RegionFault) (o : Option ℕ) → Heads own before heads
    → FaultsAfter before after region why → key_at heads key ≡ Some region → key < length heads → IsLater own after key region o
    → Heads own after (set heads key o)
heads_move own heads before after region key why o h f is_head within later = record {
  long = grind (arith, common_steps, h.long);
  left = λ g k e. elim (key_after heads key g o within) [
    | inl x ↦ (later_left own after key region o k later (sym x.1 ∙ e)).1
    | inr x ↦ (let old : key_at heads g ≡ Some k = sym x.1 ∙ e in left_still before after region why f k
        (λ same. x.0 (let g_own : key_at own region ≡ Some g = h.owns g region (old ∙ ap (λ (z : ℕ). Some z) same) in let key_own : key_at own region ≡ Some key = h.owns key region is_head in cc))
        (h.left g k old))
  ];
  owns = λ g k e. elim (key_after heads key g o within) [
    | inl x ↦ (later_left own after key region o k later (sym x.1 ∙ e)).0 ∙ ap (λ (z : ℕ). Some z) (sym x.0)
    | inr x ↦ h.owns g k (sym x.1 ∙ e)
  ];
  first = λ g k j e left is. elim (key_after heads key g o within) [
    | inl x ↦ (let other = left_other before after region why f j left in
        let is_key : key_at own j ≡ Some key = is ∙ ap (λ (z : ℕ). Some z) x.0 in
        let up : region ≤ j = h.first key region j is_head other.1 is_key in
        (later_left own after key region o k later (sym x.1 ∙ e)).3 j (above region j up other.0) left is_key)
    | inr x ↦ h.first g k j (sym x.1 ∙ e) (left_other before after region why f j left).1 is
  ];
  none = λ g j e left is. elim (key_after heads key g o within) [
    | inl x ↦ (let other = left_other before after region why f j left in
        let is_key : key_at own j ≡ Some key = is ∙ ap (λ (z : ℕ). Some z) x.0 in
        let up : region ≤ j = h.first key region j is_head other.1 is_key in
        later_none own after key region o later (sym x.1 ∙ e) j (above region j up other.0) left is_key)
    | inr x ↦ h.none g j (sym x.1 ∙ e) (left_other before after region why f j left).1 is
  ];
}
  where
    above : (a b : ℕ) → a ≤ b → b ≢ a → a < b
    above a b up other = omega (arith, up, other)

-- ---- links

head_other : (heads : List (Option ℕ)) (key : ℕ) (o k : Option ℕ) → key < length heads → k ≢ Some key → head_at (set heads key o) k ≡ head_at heads k
head_other heads key o None within other = refl
head_other heads key o (Some g) within other =
    elim (key_after heads key g o within) [ inl x ↦ absurd (other (ap (λ (z : ℕ). Some z) x.0)) | inr x ↦ x.1 ]

-- where the first ones stay
pub links_stay : (up heads : List (Option ℕ)) (before after : List (Option RegionFault)) (parents : List (Option ℕ)) (region : ℕ) (why : RegionFault)
    → Links up heads before parents → FaultsAfter before after region why → region < length parents → Links up heads after (set parents region None)
links_stay up heads before after parents region why l f within = record {
  long = grind (arith, common_steps, l.long);
  links = λ k. elim (f k) [
    | inl h ↦ elim (key_after parents region k None within) [
      | inl x ↦ x.1 ∙ sym (ap (λ z. link_if z (head_at heads (key_at up k))) h.1)
      | inr x ↦ absurd (x.0 h.0)
    ]
    | inr h ↦ elim (key_after parents region k None within) [
      | inl x ↦ absurd (h.0 x.0)
      | inr x ↦ x.1 ∙ l.links k ∙ sym (ap (λ z. link_if z (head_at heads (key_at up k))) h.1)
    ]
  ];
}

link_same : (fault : Option RegionFault) (o p : Option ℕ) → (fault ≡ None → o ≡ p) → link_if fault o ≡ link_if fault p
link_same None o p e = e refl
link_same (Some why) o p e = refl

-- where one moves: all but the regions right below its key
pub links_move : (up heads : List (Option ℕ)) (before after : List (Option RegionFault)) (parents : List (Option ℕ)) (region key : ℕ) (why : RegionFault) (o : Option ℕ)
    → Links up heads before parents → FaultsAfter before after region why → region < length parents → key < length heads
    → (k : ℕ) → (key_at up k ≡ Some key → IsLeft after k → ⊥)
    → parent_at (set parents region None) k ≡ link_if (fault_at after k) (head_at (set heads key o) (key_at up k))
links_move up heads before after parents region key why o l f within key_within k other = elim (f k) [
  | inl h ↦ elim (key_after parents region k None within) [
    | inl x ↦ x.1 ∙ sym (ap (λ z. link_if z (head_at (set heads key o) (key_at up k))) h.1)
    | inr x ↦ absurd (x.0 h.0)
  ]
  | inr h ↦ elim (key_after parents region k None within) [
    | inl x ↦ absurd (h.0 x.0)
    | inr x ↦ x.1 ∙ l.links k ∙ link_same (fault_at before k) (head_at heads (key_at up k)) (head_at (set heads key o) (key_at up k))
        (λ left. sym (head_other heads key o (key_at up k) key_within (λ is. other is (h.1 ∙ left))))
        ∙ sym (ap (λ z. link_if z (head_at (set heads key o) (key_at up k))) h.1)
  ]
]

-- ---- marks

-- a region was set aside; before that nothing was known of it and of those below it
pub record Dropped (own up : List (Option ℕ)) (region : ℕ) (why : RegionFault) (heads : List (Option ℕ)) (before : List (Option RegionFault)) (parents : List (Option ℕ)) (marks : List ChainState)
    (new_heads : List (Option ℕ)) (after : List (Option RegionFault)) (new_parents : List (Option ℕ)) : Type 0 where
  pub low : 2 ≤ region
  pub there : region < length parents
  pub links : Links up heads before parents
  pub new_links : Links up new_heads after new_parents
  pub marked : IsMarked parents marks
  pub fresh : mark_at marks region ≡ mark.Fresh
  pub faults : FaultsAfter before after region why
  pub rehead : (g : ℕ) → (key_at new_heads g ≡ key_at heads g) ⊎ (key_at heads g ≡ Some region)

mark_set : (marks : List ChainState) (at k : ℕ) (m : ChainState) → at < length marks
    → ((k ≡ at) × (mark_at (set marks at m) k ≡ m)) ⊎ ((k ≢ at) × (mark_at (set marks at m) k ≡ mark_at marks k))
mark_set marks at k m within = grind (arith, common_steps, elements)

module _ (own up : List (Option ℕ)) (region : ℕ) (why : RegionFault) (heads : List (Option ℕ)) (before : List (Option RegionFault)) (parents : List (Option ℕ)) (marks : List ChainState)
    (new_heads : List (Option ℕ)) (after : List (Option RegionFault)) (new_parents : List (Option ℕ))
    (d : Dropped own up region why heads before parents marks new_heads after new_parents) where
  head_kept : (k : ℕ) (key : Option ℕ) → key_at up k ≡ key → fault_at before k ≡ None → mark_at marks k ≢ mark.Fresh → head_at new_heads key ≡ head_at heads key
  head_kept k None is left known = refl
  head_kept k (Some g) is left known = elim (d.rehead g) [
    | inl e ↦ e
    | inr e ↦ (let linked : parent_at parents k ≡ Some region = d.links.links k ∙ ap (λ z. link_if z (head_at heads (key_at up k))) left ∙ ap (head_at heads) is ∙ e in
        absurd (d.marked.closed k region known linked d.fresh))
  ]

  other_fault : (k : ℕ) → k ≢ region → fault_at after k ≡ fault_at before k
  other_fault k other = elim (d.faults k) [ inl h ↦ absurd (other h.0) | inr h ↦ h.1 ]

  -- a region of which something is known keeps its parent
  parent_kept : (k : ℕ) → k ≢ region → mark_at marks k ≢ mark.Fresh → parent_at new_parents k ≡ parent_at parents k
  parent_kept k other known =
      d.new_links.links k ∙ ap (λ z. link_if z (head_at new_heads (key_at up k))) (other_fault k other)
      ∙ link_same (fault_at before k) (head_at new_heads (key_at up k)) (head_at heads (key_at up k)) (λ left. head_kept k (key_at up k) refl left known)
      ∙ sym (d.links.links k)

  known_other : (x : ℕ) → mark_at marks x ≢ mark.Fresh → x ≢ region
  known_other x known same = known (ap (λ z. mark_at marks z) same ∙ d.fresh)

  leads_on : (root : ℕ) (chain : List ℕ) (k : ℕ) → mark_at marks k ≢ mark.Fresh → Leads parents k chain root → Leads new_parents k chain root
  leads_on root [] k known e = e
  leads_on root (x ∷ chain) k known l =
      (parent_kept k (known_other k known) known ∙ l.0, leads_on root chain x (d.marked.closed k x known l.0) l.1)

  leads_back : (root : ℕ) (chain : List ℕ) (k : ℕ) → mark_at marks k ≢ mark.Fresh → Leads new_parents k chain root → Leads parents k chain root
  leads_back root [] k known e = e
  leads_back root (x ∷ chain) k known l =
      let up_is : parent_at parents k ≡ Some x = sym (parent_kept k (known_other k known) known) ∙ l.0 in
      (up_is, leads_back root chain x (d.marked.closed k x known up_is) l.1)

  rooted_on : (k : ℕ) → mark_at marks k ≢ mark.Fresh → IsRooted parents k → IsRooted new_parents k
  unfolding IsRooted IsUnder
  rooted_on k known r = (r.0, r.1, (r.2.0, leads_on r.0 r.2.0 k known r.2.1))

  rooted_back : (k : ℕ) → mark_at marks k ≢ mark.Fresh → IsRooted new_parents k → IsRooted parents k
  unfolding IsRooted IsUnder
  rooted_back k known r = (r.0, r.1, (r.2.0, leads_back r.0 r.2.0 k known r.2.1))

  parentless : (k : ℕ) → k ≡ region → parent_at new_parents k ≡ None
  parentless k same = elim (d.faults k) [
    | inl h ↦ d.new_links.links k ∙ ap (λ z. link_if z (head_at new_heads (key_at up k))) h.1
    | inr h ↦ absurd (h.0 same)
  ]

  unrooted : (k : ℕ) → k ≡ region → IsRooted new_parents k → ⊥
  unfolding IsRooted IsUnder
  unrooted k same r = go r.2.0 r.2.1
    where
      go : (chain : List ℕ) → Leads new_parents k chain r.0 → ⊥
      go [] e = let low = d.low in let small = r.1 in absurd (omega (arith, low, small, e, same))
      go (x ∷ chain) l = let both : None ≡ Some x = sym (parentless k same) ∙ l.0 in cc

  within_marks : region < length marks
  within_marks = omega (arith, d.there, d.marked.long)

  -- the marks after it, it being lost itself
  pub dropped_marked : IsMarked new_parents (set marks region mark.Lost)
  dropped_marked = record {
    long = grind (arith, common_steps, d.marked.long, d.links.long, d.new_links.long);
    settled = λ k e. elim (mark_set marks region k mark.Lost within_marks) [
      | inl h ↦ (let both : mark.Lost ≡ mark.Passing = sym h.1 ∙ e in cc)
      | inr h ↦ d.marked.settled k (sym h.1 ∙ e)
    ];
    roots = λ k low. elim (mark_set marks region k mark.Lost within_marks) [
      | inl h ↦ absurd (let up_to = d.low in omega (arith, h.0))
      | inr h ↦ h.1 ∙ d.marked.roots k low
    ];
    rooted = λ k e. elim (mark_set marks region k mark.Lost within_marks) [
      | inl h ↦ (let both : mark.Lost ≡ mark.Rooted = sym h.1 ∙ e in absurd (cc))
      | inr h ↦ (let is : mark_at marks k ≡ mark.Rooted = sym h.1 ∙ e in rooted_on k (λ fresh. let both : mark.Fresh ≡ mark.Rooted = sym fresh ∙ is in cc) (d.marked.rooted k is))
    ];
    lost = λ k e r. elim (mark_set marks region k mark.Lost within_marks) [
      | inl h ↦ unrooted k h.0 r
      | inr h ↦ (let is : mark_at marks k ≡ mark.Lost = sym h.1 ∙ e in
          d.marked.lost k is (rooted_back k (λ fresh. let both : mark.Fresh ≡ mark.Lost = sym fresh ∙ is in cc) r))
    ];
    closed = λ k x known e fresh. elim (mark_set marks region k mark.Lost within_marks) [
      | inl h ↦ (let both : None ≡ Some x = sym (parentless k h.0) ∙ e in cc)
      | inr h ↦ (let known_k : mark_at marks k ≢ mark.Fresh = λ f. known (h.1 ∙ f) in
          let known_x : mark_at marks x ≢ mark.Fresh = d.marked.closed k x known_k (sym (parent_kept k h.0 known_k) ∙ e) in
          elim (mark_set marks region x mark.Lost within_marks) [
            | inl y ↦ known_other x known_x y.0
            | inr y ↦ known_x (sym y.1 ∙ fresh)
          ])
    ];
  }

  -- a region without fault has none after it
  pub dropped_sound : (kinds : List Bool) (k : ℕ) → k ≢ region → IsSound kinds own heads parents k → mark_at marks k ≡ mark.Rooted
      → IsSound kinds own new_heads new_parents k × (mark_at (set marks region mark.Lost) k ≡ mark.Rooted)
  dropped_sound kinds k other s rooted =
      let known : mark_at marks k ≢ mark.Fresh = λ fresh. let both : mark.Fresh ≡ mark.Rooted = sym fresh ∙ rooted in cc in
      let head = headed heads (key_at own k) k s.first in
      let new_head : key_at new_heads head.0 ≡ Some k = elim (d.rehead head.0) [
        | inl e ↦ e ∙ head.2
        | inr e ↦ (let both : Some k ≡ Some region = sym head.2 ∙ e in absurd (other (cc)))
      ] in (
        record {
          first = ap (head_at new_heads) head.1 ∙ new_head;
          parent = s.parent;
          linked = parent_kept k other known ∙ s.linked;
          kind = s.kind;
          rooted = rooted_on k known s.rooted;
        },
        elim (mark_set marks region k mark.Lost within_marks) [ inl h ↦ absurd (other h.0) | inr h ↦ h.1 ∙ rooted ],
      )
