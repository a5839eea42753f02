-- From one stage to the next.
use Rattle.std.proofs.Common.{◌≡◌, ◌≢◌, ℕ, ◌+◌, ◌-◌, ◌<◌, ◌≤◌, List, length, refl, sym, ◌∙◌, ap, subst, inl, inr, arith, ◌⊎◌}
use Rattle.std.specs.Prelude.{Option, Some, None, Bool, true, false, cond, IsTrue, MatchOption}
use Rattle.std.specs.Ordering.{nat_cmp, is_eq, is_gt}
use Rattle.std.specs.BTreeSet.{BTreeSet, contains, Updates, IsLowerBound}
use Rattle.std.proofs.Math.ListN.{set}
use Rattle.std.proofs.lemmas.Bool.Decides.{nat_tests}
use Rattle.std.proofs.lemmas.Grind.{common_steps}
use Rattle.region_tree.specs.Regions.{region_kinds}
use Rattle.region_scrub.specs.declared.fault.RegionFault.{RegionFault}
use Rattle.region_scrub.specs.declared.chain_state.ChainState.{ChainState}
use Rattle.region_scrub.specs.declared.chain_state.ChainState.TheVariants as mark
use Rattle.region_scrub.specs.declared.scrubber.Scrubber.{Scrubber}
use Rattle.region_scrub.specs.Numbers.{HasFault, Links, IsLeft, IsSound, key_at}
use Rattle.region_scrub.specs.Rooting.{IsMarked, ForgetsBut, Has, mark_at}
use Rattle.region_scrub.specs.Stages.{IsStage, Examined, IsNext, IsSettled, faults_by}
use Rattle.region_scrub.proofs.Standing.{left_below, length_parents}
use Rattle.region_scrub.proofs.Indexing.{key_after}
use Rattle.region_scrub.proofs.Dropping.{Dropped, FaultsAfter, faults_after, left_other, dropped_sound}

-- the faults after one more region is set aside
pub stage_faults : (s : Scrubber) (region : ℕ) (why : RegionFault) → IsStage s → 2 ≤ region → IsLeft (faults_by s.aside.items) region
    → FaultsAfter (faults_by s.aside.items) (faults_by (set s.aside.items (region - 2) (Some why))) region why
stage_faults s region why stage low left =
    let within : region < length s.declared.now + 2 = left_below s stage region left in
    faults_after s.aside.items region why low (omega (arith, stage.long))

pub stage_dropped : (s : Scrubber) (region : ℕ) (why : RegionFault) (heads parents : List (Option ℕ)) (marks : List ChainState) → IsStage s → 2 ≤ region
    → IsLeft (faults_by s.aside.items) region → IsMarked s.rooting.parents.items marks → mark_at marks region ≡ mark.Fresh
    → ((g : ℕ) → (key_at heads g ≡ key_at s.heads.items g) ⊎ (key_at s.heads.items g ≡ Some region))
    → Links s.below.keys.items heads (faults_by (set s.aside.items (region - 2) (Some why))) parents
    → Dropped s.same.keys.items s.below.keys.items region why s.heads.items (faults_by s.aside.items) s.rooting.parents.items marks heads
    (faults_by (set s.aside.items (region - 2) (Some why))) parents
stage_dropped s region why heads parents marks stage low left marked fresh rehead links = record {
  low = low;
  there = let within : region < length s.declared.now + 2 = left_below s stage region left in omega (arith, length_parents s stage);
  links = stage.links;
  new_links = links;
  marked = marked;
  fresh = fresh;
  faults = stage_faults s region why stage low left;
  rehead = rehead;
}

pub rehead_stay : (heads : List (Option ℕ)) (region g : ℕ) → (key_at heads g ≡ key_at heads g) ⊎ (key_at heads g ≡ Some region)
rehead_stay heads region g = inl refl

pub rehead_move : (heads : List (Option ℕ)) (region key : ℕ) (o : Option ℕ) → key < length heads → key_at heads key ≡ Some region → (g : ℕ)
    → (key_at (set heads key o) g ≡ key_at heads g) ⊎ (key_at heads g ≡ Some region)
rehead_move heads region key o within is g = elim (key_after heads key g o within) [
  | inl x ↦ inr (ap (key_at heads) x.0 ∙ is)
  | inr x ↦ inl x.1
]

-- what was looked at and isn't in the work has no fault then either
pub examined_dropped : (s : Scrubber) (region : ℕ) (why : RegionFault) (heads parents : List (Option ℕ)) (marks : List ChainState) (work : BTreeSet ℕ)
    → Dropped s.same.keys.items s.below.keys.items region why s.heads.items (faults_by s.aside.items) s.rooting.parents.items marks heads
    (faults_by (set s.aside.items (region - 2) (Some why))) parents
    → Examined s region → ForgetsBut region s.rooting.marks.items marks s.work work → (k : ℕ) → 2 ≤ k
    → IsLeft (faults_by (set s.aside.items (region - 2) (Some why))) k → (Has work k → ⊥)
    → IsSound (region_kinds s.declared.now) s.same.keys.items heads parents k × (mark_at (set marks region mark.Lost) k ≡ mark.Rooted)
examined_dropped s region why heads parents marks work d x f k low left out =
    let other = left_other (faults_by s.aside.items) (faults_by (set s.aside.items (region - 2) (Some why))) region why d.faults k left in
    let settled = x.settled k low other.0 other.1 (λ has. out (f.more k has)) in
    let was : mark_at s.rooting.marks.items k ≢ mark.Fresh = λ e. let both : mark.Fresh ≡ mark.Rooted = sym e ∙ settled.1 in cc in
    let known : mark_at marks k ≢ mark.Fresh = λ e. out (f.told k other.0 was e) in
    let rooted : mark_at marks k ≡ mark.Rooted = f.kept k known ∙ settled.1 in
    dropped_sound s.same.keys.items s.below.keys.items region why s.heads.items (faults_by s.aside.items) s.rooting.parents.items marks heads
    (faults_by (set s.aside.items (region - 2) (Some why))) parents d (region_kinds s.declared.now) k other.0 settled.0 rooted

pub length_aside : (aside : List (Option RegionFault)) (at : ℕ) (v : Option RegionFault) (n : ℕ) → length aside ≡ n → length (set aside at v) ≡ n
length_aside aside at v n e = grind (arith, common_steps)

-- ---- the work

eq_other : (x y : ℕ) → y ≢ x → is_eq (nat_cmp x y) ≡ false
eq_other x y other = grind (arith, nat_tests)

-- what was in the work, but for the one taken out
pub has_other : (old new : BTreeSet ℕ) (region k : ℕ) → Updates nat_cmp old new region false → k ≢ region → Has old k → Has new k
has_other old new region k u other has =
    subst (λ (b : Bool). IsTrue b) (sym (u.0 k ∙ ap (λ (b : Bool). cond b false (contains nat_cmp old k)) (eq_other region k other))) has

pub has_old : (old new : BTreeSet ℕ) (region k : ℕ) → Updates nat_cmp old new region false → Has new k → Has old k
has_old old new region k u has = go (is_eq (nat_cmp region k)) (subst (λ (b : Bool). IsTrue b) (u.0 k) has)
  where
    go : (b : Bool) → IsTrue (cond b false (contains nat_cmp old k)) → Has old k
    go true h = absurd (untrue h)
      where
        untrue : IsTrue false → ⊥
        untrue h = absurd (cc)
    go false h = h

not_gt : (x y : ℕ) → is_gt (nat_cmp x y) ≡ false → x ≤ y
not_gt x y e = grind (arith, nat_tests)

-- nothing in the work comes before the first of it
pub none_before : (old : BTreeSet ℕ) (region k : ℕ) → IsLowerBound nat_cmp old region → k < region → Has old k → ⊥
none_before old region k least low has = let up : region ≤ k = not_gt region k (least k has) in absurd (omega arith)

-- ---- what was looked at

pub match_some : {X : Type 0} (o : Option X) (P : Type 0) (Q : X → Type 0) (x : X) → o ≡ Some x → MatchOption o P Q → Q x
match_some o P Q x e m = subst (λ z. MatchOption z P Q) e m

pub match_none : {X : Type 0} (o : Option X) (P : Type 0) (Q : X → Type 0) → o ≡ None → MatchOption o P Q → P
match_none o P Q e m = subst (λ z. MatchOption z P Q) e m

-- a region was taken out of the work and looked at
pub examined_next : (s t : Scrubber) (work : BTreeSet ℕ) (region : ℕ) → Examined s 0 → Updates nat_cmp s.work work region false
    → ((k : ℕ) → IsSettled s k → IsSettled t k) → t.aside.items ≡ s.aside.items → t.work ≡ work → Examined t region
examined_next s t work region x u kept aside same = record {
  settled = λ k low other left out. kept k
      (x.settled k low (λ zero. omega arith) (subst (λ z. IsLeft (faults_by z) k) aside left)
      (λ has. out (subst (λ z. Has z k) (sym same) (has_other s.work work region k u other has))));
}

pub examined_all : (t : Scrubber) (region : ℕ) → Examined t region → (2 ≤ region → IsLeft (faults_by t.aside.items) region → IsSettled t region) → Examined t 0
examined_all t region x settled = record {
  settled = λ k low other left out. elim (same_or k region) [
    | inl e ↦ subst (IsSettled t) (sym e) (settled (subst (λ z. 2 ≤ z) e low) (subst (IsLeft (faults_by t.aside.items)) e left))
    | inr ne ↦ x.settled k low ne left out
  ];
}
  where
    same_or : (i j : ℕ) → (i ≡ j) ⊎ (i ≢ j)
    same_or i j = grind arith

-- a faulty region is the first one
pub next_is : (s t : Scrubber) (work : BTreeSet ℕ) (region : ℕ) (why : RegionFault) → Examined t region → Updates nat_cmp s.work work region false
    → IsLowerBound nat_cmp s.work region → t.work ≡ work → 2 ≤ region → IsLeft (faults_by t.aside.items) region
    → HasFault (region_kinds t.declared.now) t.same.keys.items t.heads.items t.rooting.parents.items region why → IsNext t region why
next_is s t work region why x u least same low left fault = record {
  low = low;
  left = left;
  fault = fault;
  before = λ k two below is_left.
      (x.settled k two (λ e. omega arith) is_left
      (λ has. none_before s.work region k least below (has_old s.work work region k u (subst (λ z. Has z k) same has)))).0;
}
