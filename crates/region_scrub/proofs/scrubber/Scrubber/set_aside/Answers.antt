use Rattle.std.proofs.Common.{◌≡◌, ℕ, ◌+◌, ◌-◌, ◌<◌, List, length, arith, refl, sym, ◌∙◌, subst}
use Rattle.std.specs.Prelude.{Option, Some, None}
use Rattle.std.proofs.Math.ListN.{set}
use Rattle.region_tree.specs.Chains.{parent_at}
use Rattle.region_scrub.specs.declared.fault.RegionFault.{RegionFault}
use Rattle.region_scrub.specs.Numbers.{key_at, head_at, IsLeft, Links, link_if, fault_at}
use Rattle.region_scrub.specs.Rooting.{IsMarked}
use Rattle.region_scrub.specs.Stages.{faults_by, IsLater}
use Rattle.region_scrub.proofs.Indexing.{key_read}
use Rattle.region_scrub.proofs.Walking.{untrue}
use Rattle.region_scrub.proofs.Standing.{stage_within, length_parents, left_below, length_keys}
use Rattle.region_scrub.proofs.Staging.{stage_faults, stage_dropped, rehead_stay, rehead_move, examined_dropped, length_aside}
use Rattle.region_scrub.proofs.Dropping.{heads_stay, heads_move, links_stay, links_move, dropped_marked}
use Rattle.region_scrub.proofs.scrubber.Scrubber.set_aside.Goals as goal

pub forget-requires-clause-roots : goal.forget-requires-clause-roots
forget-requires-clause-roots c = stage_within c.args.self.now c.requires.stage

pub relink-requires-clause-others : goal.relink-requires-clause-others
relink-requires-clause-others c = λ k other.
    let s = c.args.self.now in
    let before = s.aside.items in
    let within : c.args.region < length s.declared.now + 2 = left_below s c.requires.stage c.args.region c.requires.left in
    let in_parents : c.args.region < length s.rooting.parents.items = omega (arith, length_parents s c.requires.stage) in
    let faults = stage_faults s c.args.region c.args.why c.requires.stage c.requires.low c.requires.left in
    let in_keys : c.args.region < length s.same.keys.items = omega (arith, length_keys s c.requires.stage) in
    let own_is : key_at s.same.keys.items c.args.region ≡ Some c.in-Some.key = key_read s.same.keys.items c.args.region c.index-key.result.now in_keys c.index-key.ensures ∙ c.in-Some.is in
    let key_within : c.in-Some.key < length s.heads.items = omega (arith, c.requires.stage.same.within c.args.region c.in-Some.key own_is, c.requires.stage.heads.long) in
    let led : head_at s.heads.items c.index-key.result.now ≡ Some c.args.region = subst (λ (z : List (Option ℕ)). head_at z c.index-key.result.now ≡ Some c.args.region) c.deref.ensures.value (c.if-is_head.ensures.0 refl) in
    let is_head : key_at s.heads.items c.in-Some.key ≡ Some c.args.region = subst (λ (z : Option ℕ). head_at s.heads.items z ≡ Some c.args.region) c.in-Some.is led in
    let aside_is = c.deref-in-Some-2.ensures.value in
    let heads_is = c.deref-in-Some-3.ensures.value in
    subst (λ (z : List (Option ℕ)). parent_at (set z c.args.region None) k
    ≡ link_if (fault_at (faults_by c.deref-in-Some-2.result.now) k) (head_at c.deref-in-Some-3.result.now (key_at s.below.keys.items k))) (sym c.in_ok-forget.ensures.parents)
    (subst (λ (z : List (Option RegionFault)). parent_at (set s.rooting.parents.items c.args.region None) k
    ≡ link_if (fault_at (faults_by z) k) (head_at c.deref-in-Some-3.result.now (key_at s.below.keys.items k))) (sym aside_is)
    (subst (λ (z : List (Option ℕ)). parent_at (set s.rooting.parents.items c.args.region None) k
    ≡ link_if (fault_at (faults_by (set before (c.args.region - 2) (Some c.args.why))) k) (head_at z (key_at s.below.keys.items k))) (sym heads_is)
    (links_move s.below.keys.items s.heads.items (faults_by before) (faults_by (set before (c.args.region - 2) (Some c.args.why))) s.rooting.parents.items c.args.region c.in-Some.key c.args.why c.later.result
    c.requires.stage.links faults in_parents key_within k (λ is left. other is (subst (λ (z : List (Option RegionFault)). IsLeft (faults_by z) k) (sym aside_is) left)))))

pub returns-in-Some-clause-stage : goal.returns-in-Some-clause-stage
returns-in-Some-clause-stage c =
    let s = c.args.self.now in
    let before = s.aside.items in
    let within : c.args.region < length s.declared.now + 2 = left_below s c.requires.stage c.args.region c.requires.left in
    let in_parents : c.args.region < length s.rooting.parents.items = omega (arith, length_parents s c.requires.stage) in
    let faults = stage_faults s c.args.region c.args.why c.requires.stage c.requires.low c.requires.left in
    let in_keys : c.args.region < length s.same.keys.items = omega (arith, length_keys s c.requires.stage) in
    let own_is : key_at s.same.keys.items c.args.region ≡ Some c.in-Some.key = key_read s.same.keys.items c.args.region c.index-key.result.now in_keys c.index-key.ensures ∙ c.in-Some.is in
    let key_within : c.in-Some.key < length s.heads.items = omega (arith, c.requires.stage.same.within c.args.region c.in-Some.key own_is, c.requires.stage.heads.long) in
    let led : head_at s.heads.items c.index-key.result.now ≡ Some c.args.region = subst (λ (z : List (Option ℕ)). head_at z c.index-key.result.now ≡ Some c.args.region) c.deref.ensures.value (c.if-is_head.ensures.0 refl) in
    let is_head : key_at s.heads.items c.in-Some.key ≡ Some c.args.region = subst (λ (z : Option ℕ). head_at s.heads.items z ≡ Some c.args.region) c.in-Some.is led in
    let aside_is = c.deref-in-Some-2.ensures.value in
    let heads_is = c.deref-in-Some-3.ensures.value in
    let links = subst (λ (z : List (Option ℕ)). Links s.below.keys.items z (faults_by (set before (c.args.region - 2) (Some c.args.why))) c.relink.new.parents.items) heads_is
    (subst (λ (z : List (Option RegionFault)). Links s.below.keys.items c.deref-in-Some-3.result.now (faults_by z) c.relink.new.parents.items) aside_is c.relink.ensures) in
    let marked = subst (λ (z : List (Option ℕ)). IsMarked z c.forget.new.self.marks.items) c.in_ok-forget.ensures.parents c.in_ok-forget.ensures.marked in
    let d = stage_dropped s c.args.region c.args.why (set s.heads.items c.in-Some.key c.later.result) c.relink.new.parents.items c.forget.new.self.marks.items c.requires.stage c.requires.low c.requires.left marked
    c.in_ok-forget.ensures.fresh (rehead_move s.heads.items c.args.region c.in-Some.key c.later.result key_within is_head) links in
    record {
      own = c.requires.stage.own;
      up = c.requires.stage.up;
      same = c.requires.stage.same;
      below = c.requires.stage.below;
      long = length_aside before (c.args.region - 2) (Some c.args.why) (length s.declared.now) c.requires.stage.long;
      heads = heads_move s.same.keys.items s.heads.items (faults_by before) (faults_by (set before (c.args.region - 2) (Some c.args.why))) c.args.region c.in-Some.key c.args.why c.later.result c.requires.stage.heads faults is_head key_within
          (subst (λ (z : List (Option RegionFault)). IsLater s.same.keys.items (faults_by z) c.in-Some.key c.args.region c.later.result) c.deref-in-Some.ensures.value (c.later.ensures c.in-Some.key own_is));
      links = links;
      marked = dropped_marked s.same.keys.items s.below.keys.items c.args.region c.args.why s.heads.items (faults_by before) s.rooting.parents.items c.forget.new.self.marks.items (set s.heads.items c.in-Some.key c.later.result)
          (faults_by (set before (c.args.region - 2) (Some c.args.why))) c.relink.new.parents.items d;
      empty = c.in_ok-forget.ensures.empty;
    }

pub returns-in-Some-clause-examined : goal.returns-in-Some-clause-examined
returns-in-Some-clause-examined c =
    let s = c.args.self.now in
    let before = s.aside.items in
    let within : c.args.region < length s.declared.now + 2 = left_below s c.requires.stage c.args.region c.requires.left in
    let in_parents : c.args.region < length s.rooting.parents.items = omega (arith, length_parents s c.requires.stage) in
    let faults = stage_faults s c.args.region c.args.why c.requires.stage c.requires.low c.requires.left in
    let in_keys : c.args.region < length s.same.keys.items = omega (arith, length_keys s c.requires.stage) in
    let own_is : key_at s.same.keys.items c.args.region ≡ Some c.in-Some.key = key_read s.same.keys.items c.args.region c.index-key.result.now in_keys c.index-key.ensures ∙ c.in-Some.is in
    let key_within : c.in-Some.key < length s.heads.items = omega (arith, c.requires.stage.same.within c.args.region c.in-Some.key own_is, c.requires.stage.heads.long) in
    let led : head_at s.heads.items c.index-key.result.now ≡ Some c.args.region = subst (λ (z : List (Option ℕ)). head_at z c.index-key.result.now ≡ Some c.args.region) c.deref.ensures.value (c.if-is_head.ensures.0 refl) in
    let is_head : key_at s.heads.items c.in-Some.key ≡ Some c.args.region = subst (λ (z : Option ℕ). head_at s.heads.items z ≡ Some c.args.region) c.in-Some.is led in
    let aside_is = c.deref-in-Some-2.ensures.value in
    let heads_is = c.deref-in-Some-3.ensures.value in
    let links = subst (λ (z : List (Option ℕ)). Links s.below.keys.items z (faults_by (set before (c.args.region - 2) (Some c.args.why))) c.relink.new.parents.items) heads_is
    (subst (λ (z : List (Option RegionFault)). Links s.below.keys.items c.deref-in-Some-3.result.now (faults_by z) c.relink.new.parents.items) aside_is c.relink.ensures) in
    let marked = subst (λ (z : List (Option ℕ)). IsMarked z c.forget.new.self.marks.items) c.in_ok-forget.ensures.parents c.in_ok-forget.ensures.marked in
    let d = stage_dropped s c.args.region c.args.why (set s.heads.items c.in-Some.key c.later.result) c.relink.new.parents.items c.forget.new.self.marks.items c.requires.stage c.requires.low c.requires.left marked
    c.in_ok-forget.ensures.fresh (rehead_move s.heads.items c.args.region c.in-Some.key c.later.result key_within is_head) links in
    record {
      settled = λ k low other left out. examined_dropped s c.args.region c.args.why (set s.heads.items c.in-Some.key c.later.result) c.relink.new.parents.items c.forget.new.self.marks.items c.forget.new.work d c.requires.examined c.in_ok-forget.ensures.forgets k low left out;
    }

pub returns-else-is_head-clause-stage : goal.returns-else-is_head-clause-stage
returns-else-is_head-clause-stage c =
    let s = c.args.self.now in
    let before = s.aside.items in
    let within : c.args.region < length s.declared.now + 2 = left_below s c.requires.stage c.args.region c.requires.left in
    let in_parents : c.args.region < length s.rooting.parents.items = omega (arith, length_parents s c.requires.stage) in
    let faults = stage_faults s c.args.region c.args.why c.requires.stage c.requires.low c.requires.left in
    let in_keys : c.args.region < length s.same.keys.items = omega (arith, length_keys s c.requires.stage) in
    let links = subst (λ (z : List (Option ℕ)). Links s.below.keys.items s.heads.items (faults_by (set before (c.args.region - 2) (Some c.args.why))) (set z c.args.region None)) (sym c.in_ok-forget.ensures.parents)
    (links_stay s.below.keys.items s.heads.items (faults_by before) (faults_by (set before (c.args.region - 2) (Some c.args.why))) s.rooting.parents.items c.args.region c.args.why c.requires.stage.links faults in_parents) in
    let marked = subst (λ (z : List (Option ℕ)). IsMarked z c.forget.new.self.marks.items) c.in_ok-forget.ensures.parents c.in_ok-forget.ensures.marked in
    let d = stage_dropped s c.args.region c.args.why s.heads.items (set c.forget.new.self.parents.items c.args.region None) c.forget.new.self.marks.items c.requires.stage c.requires.low c.requires.left marked
    c.in_ok-forget.ensures.fresh (rehead_stay s.heads.items c.args.region) links in
    record {
      own = c.requires.stage.own;
      up = c.requires.stage.up;
      same = c.requires.stage.same;
      below = c.requires.stage.below;
      long = length_aside before (c.args.region - 2) (Some c.args.why) (length s.declared.now) c.requires.stage.long;
      heads = heads_stay s.same.keys.items s.heads.items (faults_by before) (faults_by (set before (c.args.region - 2) (Some c.args.why))) c.args.region c.args.why c.requires.stage.heads faults
          (λ e. untrue (c.if-is_head.ensures.1 (subst (λ (z : List (Option ℕ)). head_at z c.index-key.result.now ≡ Some c.args.region) (sym c.deref.ensures.value)
          (subst (λ (z : Option ℕ). head_at s.heads.items z ≡ Some c.args.region) (key_read s.same.keys.items c.args.region c.index-key.result.now in_keys c.index-key.ensures) e))));
      links = links;
      marked = dropped_marked s.same.keys.items s.below.keys.items c.args.region c.args.why s.heads.items (faults_by before) s.rooting.parents.items c.forget.new.self.marks.items s.heads.items
          (faults_by (set before (c.args.region - 2) (Some c.args.why))) (set c.forget.new.self.parents.items c.args.region None) d;
      empty = c.in_ok-forget.ensures.empty;
    }

pub returns-else-is_head-clause-examined : goal.returns-else-is_head-clause-examined
returns-else-is_head-clause-examined c =
    let s = c.args.self.now in
    let before = s.aside.items in
    let within : c.args.region < length s.declared.now + 2 = left_below s c.requires.stage c.args.region c.requires.left in
    let in_parents : c.args.region < length s.rooting.parents.items = omega (arith, length_parents s c.requires.stage) in
    let faults = stage_faults s c.args.region c.args.why c.requires.stage c.requires.low c.requires.left in
    let links = subst (λ (z : List (Option ℕ)). Links s.below.keys.items s.heads.items (faults_by (set before (c.args.region - 2) (Some c.args.why))) (set z c.args.region None)) (sym c.in_ok-forget.ensures.parents)
    (links_stay s.below.keys.items s.heads.items (faults_by before) (faults_by (set before (c.args.region - 2) (Some c.args.why))) s.rooting.parents.items c.args.region c.args.why c.requires.stage.links faults in_parents) in
    let marked = subst (λ (z : List (Option ℕ)). IsMarked z c.forget.new.self.marks.items) c.in_ok-forget.ensures.parents c.in_ok-forget.ensures.marked in
    let d = stage_dropped s c.args.region c.args.why s.heads.items (set c.forget.new.self.parents.items c.args.region None) c.forget.new.self.marks.items c.requires.stage c.requires.low c.requires.left marked
    c.in_ok-forget.ensures.fresh (rehead_stay s.heads.items c.args.region) links in
    record {
      settled = λ k low other left out. examined_dropped s c.args.region c.args.why s.heads.items (set c.forget.new.self.parents.items c.args.region None) c.forget.new.self.marks.items c.forget.new.work d c.requires.examined c.in_ok-forget.ensures.forgets k low left out;
    }
