use Rattle.std.proofs.Common.{◌≡◌, ℕ, ◌-◌, ◌<◌, ◌≤◌, suc, List, refl, sym, ◌∙◌, subst}
use Rattle.std.specs.Prelude.{Option, Some, sum_by}
use Rattle.std.proofs.Math.ListN.{set}
use Rattle.region_tree.specs.declared.decl.RegionDecl.{RegionDecl}
use Rattle.region_scrub.specs.declared.fault.RegionFault.{RegionFault}
use Rattle.region_scrub.specs.Clearing.{ClearsIn, IsFirstFaulty}
use Rattle.region_scrub.specs.Numbers.{IsLeft}
use Rattle.region_scrub.specs.Stages.{IsNext, IsSettled, faults_by}
use Rattle.region_scrub.proofs.Clearings.{next_first, clears_none, weight_less, left_weight}
use Rattle.region_scrub.proofs.Staging.{match_some, match_none}
use Rattle.region_scrub.proofs.scrubber.Scrubber.run.Goals as goal

pub loop-self-init : goal.loop-self-init
loop-self-init c = record {
  stage = c.requires.stage;
  examined = c.requires.examined;
  declared = refl;
  clears = λ n after clears. (n, subst (λ (z : List (Option RegionFault)). ClearsIn n c.args.self.declared.now z after) c.requires.fresh clears);
}

pub loop-self-smaller : goal.loop-self-smaller
loop-self-smaller c =
    let t = c.next_faulty.new.self in
    let next : IsNext t c.in-Some.region c.in-Some.why =
    match_some c.in_ok-region.field-0 ((k : ℕ) → 2 ≤ k → IsLeft (faults_by t.aside.items) k → IsSettled t k) (λ found. IsNext t found.0 found.1) (c.in-Some.region, c.in-Some.why) c.in-Some.is c.in_ok-region.ensures.next in
    subst (λ (z : List (Option RegionFault)). sum_by left_weight z < sum_by left_weight c.loop-self.self.aside.items) (sym c.in_ok-set_aside.ensures.aside)
    (subst (λ (z : List (Option RegionFault)). sum_by left_weight (set t.aside.items (c.in-Some.region - 2) (Some c.in-Some.why)) < sum_by left_weight z) c.in_ok-region.ensures.aside
    (weight_less t.aside.items c.in-Some.region c.in-Some.why next.low next.left))

pub loop-self-preserved : goal.loop-self-preserved
loop-self-preserved c =
    let t = c.next_faulty.new.self in
    let declared : t.declared.now ≡ c.args.self.declared.now = c.in_ok-region.ensures.declared ∙ c.loop-self.invariant.declared in
    let next : IsNext t c.in-Some.region c.in-Some.why =
    match_some c.in_ok-region.field-0 ((k : ℕ) → 2 ≤ k → IsLeft (faults_by t.aside.items) k → IsSettled t k) (λ found. IsNext t found.0 found.1) (c.in-Some.region, c.in-Some.why) c.in-Some.is c.in_ok-region.ensures.next in
    let first : IsFirstFaulty c.args.self.declared.now t.aside.items (c.in-Some.region - 2) c.in-Some.why =
    subst (λ (z : List RegionDecl). IsFirstFaulty z t.aside.items (c.in-Some.region - 2) c.in-Some.why) declared (next_first t c.in-Some.region c.in-Some.why c.in_ok-region.ensures.stage next) in
    record {
      stage = c.in_ok-set_aside.ensures.stage;
      examined = c.in_ok-set_aside.ensures.examined;
      declared = c.in_ok-set_aside.ensures.declared ∙ declared;
      clears = λ n after clears. c.loop-self.invariant.clears (suc n) after
          (subst (λ (z : List (Option RegionFault)). ClearsIn (suc n) c.args.self.declared.now z after) c.in_ok-region.ensures.aside
          (c.in-Some.region - 2, c.in-Some.why, first, subst (λ (z : List (Option RegionFault)). ClearsIn n c.args.self.declared.now z after) c.in_ok-set_aside.ensures.aside clears));
    }

pub returns : goal.returns
returns c =
    let t = c.next_faulty.new.self in
    let declared : t.declared.now ≡ c.args.self.declared.now = c.in_ok-region.ensures.declared ∙ c.loop-self.invariant.declared in
    let sound = match_none c.in_ok-region.field-0 ((k : ℕ) → 2 ≤ k → IsLeft (faults_by t.aside.items) k → IsSettled t k) (λ found. IsNext t found.0 found.1) c.in_default.is c.in_ok-region.ensures.next in
    let done = subst (λ (z : List RegionDecl). ClearsIn 0 z t.aside.items t.aside.items) declared (clears_none t c.in_ok-region.ensures.stage sound) in
    c.loop-self.invariant.clears 0 t.aside.items
    (subst (λ (z : List (Option RegionFault)). ClearsIn 0 c.args.self.declared.now z t.aside.items) c.in_ok-region.ensures.aside done)
