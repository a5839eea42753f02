use Rattle.std.proofs.Common.{◌≡◌, ℕ, ◌+◌, ◌<◌, List, length, map, arith, sym, ◌∙◌, ap, subst}
use Rattle.std.specs.Prelude.{Option, None, replicate}
use Rattle.region_tree.proofs.Built.{parents_within}
use Rattle.region_scrub.specs.declared.fault.RegionFault.{RegionFault}
use Rattle.region_scrub.specs.Numbers.{Heads, Links, head_at}
use Rattle.region_scrub.specs.Rooting.{IsMarked}
use Rattle.region_scrub.specs.Stages.{faults_by}
use Rattle.region_scrub.proofs.Beginning.{own_within, first_heads, first_links, begin_marked, length_replicate}
use Rattle.region_scrub.proofs.Standing.{long_own, long_up, fault_past}
use Rattle.region_scrub.proofs.make.begin.Goals as goal

pub new-requires : goal.new-requires
new-requires c = own_within c.args.declared.now c.in_ok-own_keys.field-0.items c.in_ok-own_keys.ensures

pub new-requires-2 : goal.new-requires-2
new-requires-2 c = λ k key e. parents_within c.args.declared.now c.in_ok-find_parents.field-0.items c.in_ok-find_parents.ensures k key e

pub returns-clause-stage : goal.returns-clause-stage
returns-clause-stage c =
    let n = length c.args.declared.now in
    let own = c.in_ok-same.ensures.keys ∙ c.in_ok-own_keys.ensures in
    let up = c.in_ok-below.ensures.keys ∙ c.in_ok-find_parents.ensures in
    let long : length c.in_ok-same.same.keys.items ≡ n + 2 = ap length own ∙ long_own c.args.declared.now in
    let as_long : length c.in_ok-below.below.keys.items ≡ n + 2 = ap length up ∙ long_up c.args.declared.now in
    let heads = c.in_ok-heads.ensures.items ∙ c.deref.ensures.value in
    let parents : c.in_ok-parents.parents.items ≡ map (head_at c.in_ok-heads.heads.items) c.in_ok-below.below.keys.items =
    c.in_ok-parents.ensures ∙ ap (λ (z : List (Option ℕ)). map (head_at z) c.deref-3.result.now) c.deref-2.ensures.value
    ∙ ap (map (head_at c.in_ok-heads.heads.items)) c.deref-3.ensures.value in
    let links = first_links c.in_ok-below.below.keys.items c.in_ok-heads.heads.items c.in_ok-parents.parents.items n as_long parents in
    record {
      own = own;
      up = up;
      same = c.in_ok-same.ensures.indexed;
      below = c.in_ok-below.ensures.indexed;
      long = ap length c.in_ok-none_aside.ensures ∙ length_replicate n;
      heads = subst (λ (z : List (Option RegionFault)). Heads c.in_ok-same.same.keys.items (faults_by z) c.in_ok-heads.heads.items) (sym c.in_ok-none_aside.ensures)
          (subst (Heads c.in_ok-same.same.keys.items (faults_by (replicate n None))) (sym heads)
          (first_heads c.in_ok-same.same.keys.items c.in_ok-same.same.first.items c.in_ok-same.same.next.items n long c.in_ok-same.ensures.indexed));
      links = subst (λ (z : List (Option RegionFault)). Links c.in_ok-below.below.keys.items c.in_ok-heads.heads.items (faults_by z) c.in_ok-parents.parents.items) (sym c.in_ok-none_aside.ensures) links;
      marked = subst (IsMarked c.in_ok-parents.parents.items) (sym c.in_ok-first_marks.ensures)
          (begin_marked c.args.declared.now c.in_ok-below.below.keys.items c.in_ok-heads.heads.items c.in_ok-parents.parents.items (faults_by (replicate n None)) n up
          (links.long ∙ as_long) links);
      empty = c.new-3.ensures.items;
    }

pub returns-clause-examined : goal.returns-clause-examined
returns-clause-examined c =
    let n = length c.args.declared.now in
    let up = c.in_ok-below.ensures.keys ∙ c.in_ok-find_parents.ensures in
    let as_long : length c.in_ok-below.below.keys.items ≡ n + 2 = ap length up ∙ long_up c.args.declared.now in
    let parents : c.in_ok-parents.parents.items ≡ map (head_at c.in_ok-heads.heads.items) c.in_ok-below.below.keys.items =
    c.in_ok-parents.ensures ∙ ap (λ (z : List (Option ℕ)). map (head_at z) c.deref-3.result.now) c.deref-2.ensures.value
    ∙ ap (map (head_at c.in_ok-heads.heads.items)) c.deref-3.ensures.value in
    let links = first_links c.in_ok-below.below.keys.items c.in_ok-heads.heads.items c.in_ok-parents.parents.items n as_long parents in
    let all : length c.in_ok-parents.parents.items ≡ n + 2 = links.long ∙ as_long in
    let aside : length c.in_ok-none_aside.field-0.items ≡ n = ap length c.in_ok-none_aside.ensures ∙ length_replicate n in
    record {
      settled = λ k low other left out.
          let below : k < length (faults_by c.in_ok-none_aside.field-0.items) = fault_past (faults_by c.in_ok-none_aside.field-0.items) k left in
          absurd (out (c.in_ok-work.ensures k low (omega (arith, c.len.ensures, all, aside, below))));
    }
