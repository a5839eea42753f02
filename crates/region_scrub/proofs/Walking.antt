-- Walks over the regions of one key.
use Rattle.std.proofs.Common.{◌≡◌, ◌≢◌, ℕ, ◌+◌, ◌-◌, ◌<◌, ◌≤◌, List, length, sym, ◌∙◌, ap, subst, inl, inr, arith, ◌⊎◌}
use Rattle.std.specs.Prelude.{Option, Some, None, IsTrue, false}
use Rattle.region_tree.specs.Chains.{parent_at}
use Rattle.std.proofs.Math.ListN.{set}
use Rattle.std.proofs.lemmas.Grind.{common_steps}
use Rattle.region_scrub.specs.declared.fault.RegionFault.{RegionFault}
use Rattle.region_scrub.specs.Indexes.{LeastFrom}
use Rattle.region_scrub.specs.Numbers.{key_at, fault_at, link_if, head_at, IsLeft, Links}
use Rattle.region_scrub.specs.Stages.{IsLater, faults_by}
use Rattle.region_scrub.proofs.Indexing.{key_past, key_after}

pub untrue : IsTrue false → ⊥
untrue h = absurd (cc)

-- how far a walk still is from the end
abbrev pub rest : ℕ → Option ℕ → ℕ
rest count None = 0
rest count (Some k) = count - k

-- the walk came to `next`: what it passed behind the region isn't left
abbrev pub IsWalk : List (Option ℕ) → List (Option RegionFault) → ℕ → ℕ → Option ℕ → Type 0
IsWalk own faults key region None = (j : ℕ) → region < j → IsLeft faults j → key_at own j ≢ Some key
IsWalk own faults key region (Some k) =
    (key_at own k ≡ Some key) × (region < k) × ((j : ℕ) → region < j → j < k → IsLeft faults j → key_at own j ≢ Some key)

-- the walk's beginning
pub walk_begins : (own : List (Option ℕ)) (faults : List (Option RegionFault)) (key region : ℕ) (next : Option ℕ) → LeastFrom own key (region + 1) next
    → IsWalk own faults key region next
walk_begins own faults key region None least = λ j above left. least j (omega arith)
walk_begins own faults key region (Some k) least = (least.0, omega (arith, least.1), λ j above below left is. let up : k ≤ j = least.2 j (omega arith) is in omega arith)

-- a region that isn't left is passed
pub walk_on : (own : List (Option ℕ)) (faults : List (Option RegionFault)) (key region at : ℕ) (next : Option ℕ) → IsWalk own faults key region (Some at)
    → (IsLeft faults at → ⊥) → LeastFrom own key (at + 1) next → IsWalk own faults key region next
walk_on own faults key region at None walk gone least = λ j above left is. elim (cases at j) [
  | inl low ↦ least j (omega arith) is
  | inr more ↦ elim more [
    | inl same ↦ gone (subst (IsLeft faults) (sym same) left)
    | inr less ↦ walk.2 j above less left is
  ]
]
  where
    cases : (i j : ℕ) → (i < j) ⊎ ((i ≡ j) ⊎ (j < i))
    cases i j = grind arith
walk_on own faults key region at (Some k) walk gone least = (
  least.0,
  omega (arith, walk.1, least.1),
  λ j above below left is. elim (cases at j) [
    | inl low ↦ (let up : k ≤ j = least.2 j (omega arith) is in omega arith)
    | inr more ↦ elim more [
      | inl same ↦ gone (subst (IsLeft faults) (sym same) left)
      | inr less ↦ walk.2 j above less left is
    ]
  ],
)
  where
    cases : (i j : ℕ) → (i < j) ⊎ ((i ≡ j) ⊎ (j < i))
    cases i j = grind arith

-- a region that is left ends it
pub walk_ends : (own : List (Option ℕ)) (faults : List (Option RegionFault)) (key region at : ℕ) → IsWalk own faults key region (Some at)
    → IsLeft faults at → IsLater own faults key region (Some at)
walk_ends own faults key region at walk left =
    (walk.0, left, walk.1, λ j above is_left is. elim (cases j at) [ inl low ↦ absurd (walk.2 j above low is_left is) | inr up ↦ up ])
  where
    cases : (i j : ℕ) → (i < j) ⊎ (j ≤ i)
    cases i j = grind arith

-- a walk goes up
pub rest_less : (own : List (Option ℕ)) (key at : ℕ) (next : Option ℕ) → key_at own at ≡ Some key → LeastFrom own key (at + 1) next
    → rest (length own) next < rest (length own) (Some at)
rest_less own key at None is least = let low : at < length own = key_past own at key is in omega arith
rest_less own key at (Some k) is least = let low : k < length own = key_past own k key least.0 in omega (arith, least.1)

-- ---- the regions below those of a key

-- the walk passed the region
abbrev pub IsPassed : Option ℕ → ℕ → Type 0
IsPassed None k = Unit {0}
IsPassed (Some next) k = k < next

-- the cursor stands at a region of the key
abbrev pub IsAtKey : List (Option ℕ) → ℕ → Option ℕ → Type 0
IsAtKey up key None = Unit {0}
IsAtKey up key (Some next) = key_at up next ≡ Some key

-- the regions that were passed have their new parent
pub record Relinked (up heads : List (Option ℕ)) (aside : List (Option RegionFault)) (parents : List (Option ℕ)) (key : ℕ) (next : Option ℕ) : Type 0 where
  pub long : length parents ≡ length up
  pub at_key : IsAtKey up key next
  pub others : (k : ℕ) → (key_at up k ≡ Some key → IsLeft (faults_by aside) k → IsPassed next k)
      → parent_at parents k ≡ link_if (fault_at (faults_by aside) k) (head_at heads (key_at up k))

low_or : (i j : ℕ) → (i < j) ⊎ (j ≤ i)
low_or i j = grind arith

pub relink_begins : (up heads : List (Option ℕ)) (aside : List (Option RegionFault)) (parents : List (Option ℕ)) (key : ℕ) (next : Option ℕ)
    → length parents ≡ length up → LeastFrom up key 0 next
    → ((k : ℕ) → (key_at up k ≡ Some key → IsLeft (faults_by aside) k → ⊥) → parent_at parents k ≡ link_if (fault_at (faults_by aside) k) (head_at heads (key_at up k)))
    → Relinked up heads aside parents key next
relink_begins up heads aside parents key None long least others = record {
  long = long;
  at_key = tt;
  others = λ k passed. others k (λ is left. least k (omega arith) is);
}
relink_begins up heads aside parents key (Some c) long least others = record {
  long = long;
  at_key = least.0;
  others = λ k passed. others k (λ is left. let less : k < c = passed is left in let up_to : c ≤ k = least.2 k (omega arith) is in omega arith);
}

-- what was passed before the cursor went on
passed_before : (up : List (Option ℕ)) (key at k : ℕ) (next : Option ℕ) → LeastFrom up key (at + 1) next → key_at up k ≡ Some key → IsPassed next k → k ≢ at → k < at
passed_before up key at k None least is passed other =
    elim (low_or k at) [ inl low ↦ low | inr above ↦ absurd (least k (omega arith) is) ]
passed_before up key at k (Some d) least is passed other =
    elim (low_or k at) [ inl low ↦ low | inr above ↦ (let up_to : d ≤ k = least.2 k (omega arith) is in absurd (omega arith)) ]

at_key_of : (up : List (Option ℕ)) (key from : ℕ) (next : Option ℕ) → LeastFrom up key from next → IsAtKey up key next
at_key_of up key from None least = tt
at_key_of up key from (Some k) least = least.0

-- one region has its new parent
pub relink_on : (up heads : List (Option ℕ)) (aside : List (Option RegionFault)) (parents : List (Option ℕ)) (key at : ℕ) (head next : Option ℕ)
    → Relinked up heads aside parents key (Some at) → LeastFrom up key (at + 1) next → IsLeft (faults_by aside) at → head ≡ head_at heads (Some key)
    → Relinked up heads aside (set parents at head) key next
relink_on up heads aside parents key at head next r least left is_head = record {
  long = grind (arith, common_steps, r.long);
  at_key = at_key_of up key (at + 1) next least;
  others = λ k passed. elim (key_after parents at k head (let low : at < length up = key_past up at key r.at_key in omega (arith, r.long))) [
    | inl h ↦ h.1 ∙ is_head ∙ sym (ap (λ (f : Option RegionFault). link_if f (head_at heads (key_at up k))) (ap (λ (x : ℕ). fault_at (faults_by aside) x) h.0 ∙ left)
        ∙ ap (head_at heads) (ap (λ (x : ℕ). key_at up x) h.0 ∙ r.at_key))
    | inr h ↦ h.1 ∙ r.others k (λ is is_left. passed_before up key at k next least is (passed is is_left) h.0)
  ];
}

-- a region that isn't left is passed
pub relink_skip : (up heads : List (Option ℕ)) (aside : List (Option RegionFault)) (parents : List (Option ℕ)) (key at : ℕ) (next : Option ℕ)
    → Relinked up heads aside parents key (Some at) → LeastFrom up key (at + 1) next → (IsLeft (faults_by aside) at → ⊥)
    → Relinked up heads aside parents key next
relink_skip up heads aside parents key at next r least gone = record {
  long = r.long;
  at_key = at_key_of up key (at + 1) next least;
  others = λ k passed. r.others k (λ is is_left. passed_before up key at k next least is (passed is is_left) (λ same. gone (subst (IsLeft (faults_by aside)) same is_left)));
}

pub relink_ends : (up heads : List (Option ℕ)) (aside : List (Option RegionFault)) (parents : List (Option ℕ)) (key : ℕ)
    → Relinked up heads aside parents key None → Links up heads (faults_by aside) parents
relink_ends up heads aside parents key r = record { long = r.long; links = λ k. r.others k (λ is left. tt) }

-- a region with a key isn't a root
pub child_low : (up : List (Option ℕ)) (key child : ℕ) → ((k : ℕ) → k < 2 → key_at up k ≡ None) → key_at up child ≡ Some key → 2 ≤ child
child_low up key child roots is = elim (low_or child 2) [ inl low ↦ (let both = sym (roots child low) ∙ is in absurd (cc)) | inr up_to ↦ up_to ]
