use Rattle.std.proofs.Common.{◌≡◌, ◌≢◌, ◌<◌, ℕ, length, arith, refl, sym, ◌∙◌, inl, inr}
use Rattle.std.specs.Prelude.{List}
use Rattle.region_tree.specs.declared.disjoint.HeldState.{HeldState}
use Rattle.region_tree.specs.declared.disjoint.HeldState.TheVariants as state
use Rattle.region_tree.specs.Disjoint.{state_at}
use Rattle.region_tree.specs.Marks.{mark_at, rank_of}
use Rattle.region_tree.proofs.Apart.{state_read, begun_overlaps, under_stands, over_stands}
use Rattle.region_tree.proofs.disjoint.DisjointRegions.add.Goals as goal

pub returns-in_default : goal.returns-in_default
returns-in_default c =
    let states : List HeldState = c.args.self.now.states.items in
    let start : ℕ = c.args.region.number in
    let near : start < length states = omega (arith, c.requires.of.long, c.requires.within) in
    let begun : state_at states start ≢ state.Free = λ e. c.in_default.not-Free (sym (state_read states start _ _ near c.index.ensures refl) ∙ e) in
    record {
      apart = tt;
      overlaps = begun_overlaps c.args.tree.now.parents.items states start c.requires.of begun;
      held = λ k. (λ h. inl h, λ h. elim h [ inl was ↦ was | inr added ↦ absurd (cc (added.0)) ]);
      of = c.requires.of;
    }

pub returns-then-is_under_held-clause-of : goal.returns-then-is_under_held-clause-of
returns-then-is_under_held-clause-of c =
    under_stands c.args.tree.now.parents.items c.args.self.now.states.items c.mark_up.new.self.states.items c.args.region.number c.requires.of
    c.if-is_under_held.ensures.some c.mark_up.ensures

pub returns-clause-of : goal.returns-clause-of
returns-clause-of c =
    let tree = c.args.tree.now in
    let states : List HeldState = c.args.self.now.states.items in
    let start : ℕ = c.args.region.number in
    let near : start < length states = omega (arith, c.requires.of.long, c.requires.within) in
    let within : start < length c.mark_up-2.new.self.states.items = omega (arith, c.mark_up-2.ensures.long) in
    let free : state_at states start ≡ state.Free = state_read states start _ _ near c.index.ensures c.in-Free.is in
    over_stands tree.parents.items (λ z. rank_of (mark_at tree.marks.items z)) states c.mark_up-2.new.self.states.items start tree.falls c.requires.of within free
    c.if-is_under_held.ensures.none c.mark_up-2.ensures
