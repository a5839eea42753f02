-- Declarations set aside one after another.
use Rattle.std.proofs.Common.{◌≡◌, ℕ, zero, suc, ◌+◌, ◌-◌, ◌<◌, ◌≤◌, List, [], ◌∷◌, length, get_or, refl, ◌∙◌, ap, subst, arith}
use Rattle.std.specs.Prelude.{Option, Some, None, sum_by}
use Rattle.std.specs.List.{slice_get}
use Rattle.std.proofs.Math.ListN.{set}
use Rattle.std.proofs.lemmas.List.Sums.{sum_by-set}
use Rattle.region_scrub.specs.declared.fault.RegionFault.{RegionFault}
use Rattle.region_scrub.specs.declared.fault.RegionFault.TheVariants as fault
use Rattle.region_scrub.specs.declared.scrubber.Scrubber.{Scrubber}
use Rattle.region_tree.specs.Regions.{region_kinds}
use Rattle.region_scrub.specs.Clearing.{ClearsIn, IsFirstFaulty}
use Rattle.region_scrub.specs.Numbers.{Heads, Links, IsLeft, IsSound, HasFault}
use Rattle.region_scrub.specs.Stages.{IsStage, IsNext, IsSettled, faults_by}
use Rattle.region_scrub.proofs.Compact.{first_faulty, all_sound}
use Rattle.region_scrub.proofs.Standing.{left_below}

-- 1 for a declaration that is left
abbrev pub left_weight : Option RegionFault → ℕ
left_weight None = 1
left_weight (Some why) = 0

there : {X : Type 0} (xs : List X) (i : ℕ) → i < length xs → (x : X) × (slice_get xs i ≡ Some x)
there [] i low = absurd (omega arith)
there (x ∷ xs) zero low = (x, refl)
there (x ∷ xs) (suc i) low = there xs i (omega arith)

-- the first faulty region is the first faulty declaration of those that are left
pub next_first : (s : Scrubber) (region : ℕ) (why : RegionFault) → IsStage s → IsNext s region why → IsFirstFaulty s.declared.now s.aside.items (region - 2) why
next_first s region why stage next =
    let low : region < length s.declared.now + 2 = left_below s stage region next.left in
    let same : region ≡ (region - 2) + 2 = let two = next.low in omega arith in
    let d = there s.declared.now (region - 2) (omega arith) in
    first_faulty s.declared.now s.aside.items s.heads.items s.rooting.parents.items stage.long
    (subst (λ z. Heads z (faults_by s.aside.items) s.heads.items) stage.own stage.heads)
    (subst (λ z. Links z s.heads.items (faults_by s.aside.items) s.rooting.parents.items) stage.up stage.links)
    (region - 2) d.0 why d.1 (subst (IsLeft (faults_by s.aside.items)) same next.left)
    (λ k two below left. subst (λ z. IsSound (region_kinds s.declared.now) z s.heads.items s.rooting.parents.items k) stage.own (next.before k two (omega arith) left))
    (subst (λ z. HasFault (region_kinds s.declared.now) z s.heads.items s.rooting.parents.items ((region - 2) + 2) why) stage.own
    (subst (λ z. HasFault (region_kinds s.declared.now) s.same.keys.items s.heads.items s.rooting.parents.items z why) same next.fault))

-- nothing is set aside where no region is faulty
pub clears_none : (s : Scrubber) → IsStage s → ((k : ℕ) → 2 ≤ k → IsLeft (faults_by s.aside.items) k → IsSettled s k)
    → ClearsIn 0 s.declared.now s.aside.items s.aside.items
clears_none s stage sound = (
  all_sound s.declared.now s.aside.items s.heads.items s.rooting.parents.items stage.long
      (subst (λ z. Heads z (faults_by s.aside.items) s.heads.items) stage.own stage.heads)
      (subst (λ z. Links z s.heads.items (faults_by s.aside.items) s.rooting.parents.items) stage.up stage.links)
      (λ k two left. subst (λ z. IsSound (region_kinds s.declared.now) z s.heads.items s.rooting.parents.items k) stage.own (sound k two left).0),
  refl,
)

left_one : (aside : List (Option RegionFault)) (i : ℕ) → get_or aside i (Some fault.Repeated) ≡ None → (i < length aside) × (left_weight (get_or aside i None) ≡ 1)
left_one [] i e = absurd (cc)
left_one (a ∷ more) zero e = (omega arith, ap left_weight e)
left_one (a ∷ more) (suc i) e = let r = left_one more i e in (omega (arith, r.0), r.1)

left_at : (aside : List (Option RegionFault)) (region : ℕ) → 2 ≤ region → IsLeft (faults_by aside) region → get_or aside (region - 2) (Some fault.Repeated) ≡ None
left_at aside zero low e = absurd (omega arith)
left_at aside (suc zero) low e = absurd (omega arith)
left_at aside (suc (suc k)) low e = (let same : suc (suc k) - 2 ≡ k = omega arith in ap (λ z. get_or aside z (Some fault.Repeated)) same) ∙ e

-- one fewer is left
pub weight_less : (aside : List (Option RegionFault)) (region : ℕ) (why : RegionFault) → 2 ≤ region → IsLeft (faults_by aside) region
    → sum_by left_weight (set aside (region - 2) (Some why)) < sum_by left_weight aside
weight_less aside region why low left =
    let one = left_one aside (region - 2) (left_at aside region low left) in
    omega (arith, sum_by-set left_weight aside (region - 2) (Some why) None one.0, one.1)
