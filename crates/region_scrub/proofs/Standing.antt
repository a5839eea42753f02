-- What a stage says of parents and lengths.
use Rattle.std.proofs.Common.{◌≡◌, ℕ, zero, suc, ◌+◌, ◌<◌, List, [], ◌∷◌, length, refl, sym, ◌∙◌, ap, arith}
use Rattle.std.specs.Prelude.{Option, Some, None}
use Rattle.std.proofs.lemmas.Grind.{common_steps}
use Rattle.region_tree.specs.declared.decl.RegionDecl.{RegionDecl}
use Rattle.region_tree.specs.Chains.{parent_at}
use Rattle.region_tree.specs.Regions.{parents_of}
use Rattle.region_scrub.specs.declared.fault.RegionFault.{RegionFault}
use Rattle.region_scrub.specs.declared.scrubber.Scrubber.{Scrubber}
use Rattle.region_scrub.specs.Numbers.{Links, IsLeft, key_at, fault_at, link_if, head_at, own_numbers}
use Rattle.region_scrub.specs.Rooting.{IsWithin, Fits}
use Rattle.region_scrub.specs.Stages.{IsStage, faults_by}

pub fault_past : (faults : List (Option RegionFault)) (k : ℕ) → IsLeft faults k → k < length faults
fault_past [] k e = absurd (cc)
fault_past (f ∷ fs) zero e = omega arith
fault_past (f ∷ fs) (suc k) e = omega (arith, fault_past fs k e)

pub linked : (fault : Option RegionFault) (head : Option ℕ) (x : ℕ) → link_if fault head ≡ Some x → (fault ≡ None) × (head ≡ Some x)
linked None head x e = (refl, e)
linked (Some why) head x e = absurd (cc)

pub headed : (heads : List (Option ℕ)) (key : Option ℕ) (x : ℕ) → head_at heads key ≡ Some x → (g : ℕ) × (key ≡ Some g) × (key_at heads g ≡ Some x)
headed heads None x e = absurd (cc)
headed heads (Some g) x e = (g, refl, e)

-- a parent is the first region left of its key
pub link_inv : (up heads : List (Option ℕ)) (faults : List (Option RegionFault)) (parents : List (Option ℕ)) → Links up heads faults parents → (k x : ℕ)
    → parent_at parents k ≡ Some x → IsLeft faults k × ((g : ℕ) × (key_at up k ≡ Some g) × (key_at heads g ≡ Some x))
link_inv up heads faults parents l k x e =
    let both = linked (fault_at faults k) (head_at heads (key_at up k)) x (sym (l.links k) ∙ e) in
    (both.0, headed heads (key_at up k) x both.1)

pub roots_free : (declared : List RegionDecl) (up : List (Option ℕ)) (k : ℕ) → up ≡ parents_of declared → k < 2 → key_at up k ≡ None
roots_free declared up zero is low = ap (λ (z : List (Option ℕ)). key_at z 0) is
roots_free declared up (suc zero) is low = ap (λ (z : List (Option ℕ)). key_at z 1) is
roots_free declared up (suc (suc k)) is low = absurd (omega arith)

pub long_up : (declared : List RegionDecl) → length (parents_of declared) ≡ length declared + 2
long_up declared = grind (arith, common_steps)

pub long_own : (declared : List RegionDecl) → length (own_numbers declared) ≡ length declared + 2
long_own declared = grind (arith, common_steps)

-- a region that is left is in range
pub left_below : (s : Scrubber) → IsStage s → (k : ℕ) → IsLeft (faults_by s.aside.items) k → k < length s.declared.now + 2
left_below s stage k left = let low : k < length (faults_by s.aside.items) = fault_past (faults_by s.aside.items) k left in omega (arith, stage.long)

pub length_parents : (s : Scrubber) → IsStage s → length s.rooting.parents.items ≡ length s.declared.now + 2
length_parents s stage = stage.links.long ∙ ap length stage.up ∙ long_up s.declared.now

pub length_keys : (s : Scrubber) → IsStage s → length s.same.keys.items ≡ length s.declared.now + 2
length_keys s stage = ap length stage.own ∙ long_own s.declared.now

pub length_below : (s : Scrubber) → IsStage s → length s.below.keys.items ≡ length s.declared.now + 2
length_below s stage = ap length stage.up ∙ long_up s.declared.now

link_none : (f : Option RegionFault) (o : Option ℕ) → o ≡ None → link_if f o ≡ None
link_none None o e = e
link_none (Some why) o e = refl

pub stage_within : (s : Scrubber) → IsStage s → IsWithin s.rooting.parents.items
stage_within s stage = record {
  within = λ k x e.
      let inv = link_inv s.below.keys.items s.heads.items (faults_by s.aside.items) s.rooting.parents.items stage.links k x e in
      let left : IsLeft (faults_by s.aside.items) x = stage.heads.left inv.1.0 x inv.1.2 in
      omega (arith, left_below s stage x left, length_parents s stage);
  roots = λ k low. stage.links.links k
      ∙ link_none (fault_at (faults_by s.aside.items) k) (head_at s.heads.items (key_at s.below.keys.items k))
      (ap (head_at s.heads.items) (roots_free s.declared.now s.below.keys.items k stage.up low));
}

pub stage_fits : (s : Scrubber) → IsStage s → Fits s.same.keys.items s.below.keys.items s.rooting.parents.items
stage_fits s stage = record {
  fits = λ k x e.
      let inv = link_inv s.below.keys.items s.heads.items (faults_by s.aside.items) s.rooting.parents.items stage.links k x e in
      (inv.1.0, stage.heads.owns inv.1.0 x inv.1.2, inv.1.1);
}
