use Rattle.std.proofs.Common.{List, refl, sym, ◌∙◌, subst}
use Rattle.std.specs.Prelude.{Option}
use Rattle.region_tree.specs.Regions.{region_kinds}
use Rattle.region_scrub.specs.declared.fault.RegionFault.{RegionFault}
use Rattle.region_scrub.specs.Numbers.{HasFault, IsLeft}
use Rattle.region_scrub.specs.Stages.{IsSettled, faults_by}
use Rattle.region_scrub.proofs.Walking.{untrue}
use Rattle.region_scrub.proofs.Staging.{examined_next, examined_all, next_is, match_some, match_none}
use Rattle.region_scrub.proofs.scrubber.Scrubber.next_faulty.Goals as goal

pub returns-in-Some-2-clause-examined : goal.returns-in-Some-2-clause-examined
returns-in-Some-2-clause-examined c =
    examined_next c.loop-region.self c.fault_of.new.self c.pop_first.new.self c.in-Some.region c.loop-region.invariant.examined c.in-Some.ensures.updates
    c.in_ok-fault.ensures.kept c.in_ok-fault.ensures.aside c.in_ok-fault.ensures.work

pub returns-in-Some-2-clause-next : goal.returns-in-Some-2-clause-next
returns-in-Some-2-clause-next c =
    let t = c.fault_of.new.self in
    let stands = c.if-stands.ensures.stands refl in
    let left : IsLeft (faults_by t.aside.items) c.in-Some.region =
    subst (λ (z : List (Option RegionFault)). IsLeft (faults_by z) c.in-Some.region) (c.deref.ensures.value ∙ sym c.in_ok-fault.ensures.aside) stands.1 in
    let fault : HasFault (region_kinds t.declared.now) t.same.keys.items t.heads.items t.rooting.parents.items c.in-Some.region c.in-Some-2.fault =
    match_some c.in_ok-fault.field-0 (IsSettled t c.in-Some.region) (HasFault (region_kinds t.declared.now) t.same.keys.items t.heads.items t.rooting.parents.items c.in-Some.region) c.in-Some-2.fault c.in-Some-2.is
    c.in_ok-fault.ensures.fault in
    next_is c.loop-region.self t c.pop_first.new.self c.in-Some.region c.in-Some-2.fault
    (examined_next c.loop-region.self t c.pop_first.new.self c.in-Some.region c.loop-region.invariant.examined c.in-Some.ensures.updates
    c.in_ok-fault.ensures.kept c.in_ok-fault.ensures.aside c.in_ok-fault.ensures.work)
    c.in-Some.ensures.updates c.in-Some.ensures.least c.in_ok-fault.ensures.work stands.0 left fault

pub loop-region-preserved-in_default-2 : goal.loop-region-preserved-in_default-2
loop-region-preserved-in_default-2 c =
    let t = c.fault_of.new.self in
    record {
      stage = c.in_ok-fault.ensures.stage;
      examined = examined_all t c.in-Some.region
          (examined_next c.loop-region.self t c.pop_first.new.self c.in-Some.region c.loop-region.invariant.examined c.in-Some.ensures.updates
          c.in_ok-fault.ensures.kept c.in_ok-fault.ensures.aside c.in_ok-fault.ensures.work)
          (λ low left. match_none c.in_ok-fault.field-0 (IsSettled t c.in-Some.region)
          (HasFault (region_kinds t.declared.now) t.same.keys.items t.heads.items t.rooting.parents.items c.in-Some.region) c.in_default-2.is c.in_ok-fault.ensures.fault);
      declared = c.in_ok-fault.ensures.declared ∙ c.loop-region.invariant.declared;
      aside = c.in_ok-fault.ensures.aside ∙ c.loop-region.invariant.aside;
    }

pub loop-region-preserved : goal.loop-region-preserved
loop-region-preserved c =
    let s = c.loop-region.self in
    let t = record s { work = c.pop_first.new.self } in
    record {
      stage = record {
        own = c.loop-region.invariant.stage.own;
        up = c.loop-region.invariant.stage.up;
        same = c.loop-region.invariant.stage.same;
        below = c.loop-region.invariant.stage.below;
        long = c.loop-region.invariant.stage.long;
        heads = c.loop-region.invariant.stage.heads;
        links = c.loop-region.invariant.stage.links;
        marked = c.loop-region.invariant.stage.marked;
        empty = c.loop-region.invariant.stage.empty;
      };
      examined = examined_all t c.in-Some.region
          (examined_next s t c.pop_first.new.self c.in-Some.region c.loop-region.invariant.examined c.in-Some.ensures.updates (λ k settled. settled) refl refl)
          (λ low left. absurd (untrue (c.if-stands.ensures.only low (subst (λ (z : List (Option RegionFault)). IsLeft (faults_by z) c.in-Some.region) (sym c.deref.ensures.value) left))));
      declared = c.loop-region.invariant.declared;
      aside = c.loop-region.invariant.aside;
    }
