use Rattle.std.proofs.Common.{◌≡◌, ◌<◌, ℕ, List, length, arith, subst, sym, ◌∙◌}
use Rattle.std.specs.Prelude.{Option}
use Rattle.region_scrub.specs.Rooting.{Fits, IsForgettingFrom, SharesKey}
use Rattle.region_scrub.proofs.Forgetting.{left, next_is, next_shares, next_left, forgetting_next, forgets_then, tops_then}
use Rattle.region_scrub.proofs.rooting.Rooting.forget_below.Goals as goal

pub loop-next-smaller : goal.loop-next-smaller
loop-next-smaller c =
    let shares = c.loop-next.invariant.shares in
    let indexed = c.requires.indexed in
    let up : List (Option ℕ) = c.args.below.now.keys.items in
    let cursor : Option ℕ = c.loop-next.next in
    let read = next_is _ up _ _ _ _ cursor indexed shares c.in-Some.is _ c.index-next.ensures in
    subst (λ (o : Option ℕ). left (length up) o < left (length up) cursor) read (next_left _ up _ _ _ _ cursor indexed shares c.in-Some.is)

pub loop-next-preserved : goal.loop-next-preserved
loop-next-preserved c =
    let inv = c.loop-next.invariant in
    let indexed = c.requires.indexed in
    let child = c.in_ok-forget_child.ensures in
    let own : List (Option ℕ) = c.args.same.now.keys.items in
    let up : List (Option ℕ) = c.args.below.now.keys.items in
    let region : ℕ = c.args.region in
    let parents : List (Option ℕ) = c.forget_child.new.self.parents.items in
    let read = next_is own up _ _ region _ _ indexed inv.shares c.in-Some.is _ c.index-next.ensures in
    let same : parents ≡ c.args.self.now.parents.items = child.parents ∙ inv.parents in
    let fits : Fits own up parents = subst (λ (p : List (Option ℕ)). Fits own up p) (sym same) c.requires.fits in
    record {
      parents = same;
      shares = subst (λ (o : Option ℕ). SharesKey own up region o) read (next_shares own up _ _ region _ _ indexed inv.shares c.in-Some.is);
      forgetting = subst (λ (o : Option ℕ). IsForgettingFrom parents c.forget_child.new.self.marks.items c.forget_child.new.self.path.items region o) read
          (forgetting_next own up _ _ region _ _ indexed inv.shares c.in-Some.is parents fits _ _ child.forgetting);
      forgets = forgets_then _ _ _ _ _ _ inv.forgets child.forgets;
      tops = tops_then _ _ _ _ _ child.parents inv.tops child.tops;
      weight = omega (arith, inv.weight, child.weight);
    }
