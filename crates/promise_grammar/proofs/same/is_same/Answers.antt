use Rattle.std.proofs.Common.{◌≡◌, sym, ◌∙◌, ap}
use Rattle.std.specs.Option.{option_copied}
use Rattle.promise_grammar.specs.declared.tree.PromiseTree.{out-PromiseTree}
use Rattle.promise_grammar.specs.declared.tree.PromiseTree.TheOpen.{PromiseTree-F}
use Rattle.promise_grammar.specs.declared.tree.PromiseTree.TheVariants as tree
use Rattle.promise_grammar.specs.SameTree as spec
use Rattle.promise_grammar.specs.SameTree.{same_next, same_tree}
use Rattle.promise_grammar.proofs.same.is_same.Goals as goal

pub returns-in-Region : goal.returns-in-Region
returns-in-Region c = c.is_region.ensures ∙ sym (same_next _ _ _ _ (PromiseTree-F.Region c.in-Region.content) c.loop-one.invariant (c.in-Region.is ∙ sym (tree.rolls-Region c.in-Region.content)))

pub returns-in-InRegion : goal.returns-in-InRegion
returns-in-InRegion c = c.is_in_region.ensures ∙ sym (same_next _ _ _ _ (PromiseTree-F.InRegion c.in-InRegion.name) c.loop-one.invariant (c.in-InRegion.is ∙ sym (tree.rolls-InRegion c.in-InRegion.name)))

pub returns-in-RegionLock : goal.returns-in-RegionLock
returns-in-RegionLock c = c.is_lock.ensures ∙ sym (same_next _ _ _ _ (PromiseTree-F.RegionLock c.in-RegionLock.content) c.loop-one.invariant (c.in-RegionLock.is ∙ sym (tree.rolls-RegionLock c.in-RegionLock.content)))

pub returns-in-RequiresLock : goal.returns-in-RequiresLock
returns-in-RequiresLock c = c.is_required.ensures ∙ ap (λ items. spec.is_required items (out-PromiseTree c.loop-one.other.now)) c.as_slice.ensures ∙ sym (same_next _ _ _ _ (PromiseTree-F.RequiresLock c.in-RequiresLock.items) c.loop-one.invariant (c.in-RequiresLock.is ∙ sym (tree.rolls-RequiresLock c.in-RequiresLock.items)))

pub returns-in-Unique : goal.returns-in-Unique
returns-in-Unique c = c.is_unique.ensures ∙ sym (same_next _ _ _ _ (PromiseTree-F.Unique c.in-Unique.content) c.loop-one.invariant (c.in-Unique.is ∙ sym (tree.rolls-Unique c.in-Unique.content)))

pub returns-in-Borrowed : goal.returns-in-Borrowed
returns-in-Borrowed c = c.is_borrowed.ensures ∙ sym (same_next _ _ _ _ (PromiseTree-F.Borrowed c.in-Borrowed.content) c.loop-one.invariant (c.in-Borrowed.is ∙ sym (tree.rolls-Borrowed c.in-Borrowed.content)))

pub returns-in-RegionEffects : goal.returns-in-RegionEffects
returns-in-RegionEffects c = c.is_effects.ensures ∙ sym (same_next _ _ _ _ (PromiseTree-F.RegionEffects c.in-RegionEffects.content) c.loop-one.invariant (c.in-RegionEffects.is ∙ sym (tree.rolls-RegionEffects c.in-RegionEffects.content)))

pub returns-in-Starts : goal.returns-in-Starts
returns-in-Starts c = c.is_starts.ensures ∙ sym (same_next _ _ _ _ PromiseTree-F.Starts c.loop-one.invariant (c.in-Starts.is ∙ sym tree.rolls-Starts))

pub returns-in-Vouch : goal.returns-in-Vouch
returns-in-Vouch c = c.is_vouch.ensures ∙ sym (same_next _ _ _ _ (PromiseTree-F.Vouch c.in-Vouch.text) c.loop-one.invariant (c.in-Vouch.is ∙ sym (tree.rolls-Vouch c.in-Vouch.text)))

pub returns-in_default : goal.returns-in_default
returns-in_default c =
    let next = same_next _ _ _ _ (PromiseTree-F.Promise c.in-Promise.inner c.in-Promise.scope) c.loop-one.invariant (c.in-Promise.is ∙ sym (tree.rolls-Promise c.in-Promise.inner c.in-Promise.scope)) in
    sym (next ∙ ap (spec.at_inner (same_tree c.in-Promise.inner)) (sym c.scoped.ensures ∙ ap option_copied c.in_default.is))

pub loop-one-preserved-in-Promise : goal.loop-one-preserved-in-Promise
loop-one-preserved-in-Promise c =
    let next = same_next _ _ _ _ (PromiseTree-F.Promise c.in-Promise.inner c.in-Promise.scope) c.loop-one.invariant (c.in-Promise.is ∙ sym (tree.rolls-Promise c.in-Promise.inner c.in-Promise.scope)) in
    next ∙ ap (spec.at_inner (same_tree c.in-Promise.inner)) (sym c.scoped.ensures ∙ ap option_copied c.in-Some.is) ∙ ap (λ t. same_tree t c.in-Some.next.now) (sym c.get-one.ensures)

pub returns-in_default-assumed : goal.returns-in_default-assumed
returns-in_default-assumed c =
    let next = same_next _ _ _ _ (PromiseTree-F.Assume c.in-Assume.inner c.in-Assume.member) c.loop-one.invariant (c.in-Assume.is ∙ sym (tree.rolls-Assume c.in-Assume.inner c.in-Assume.member)) in
    sym (next ∙ ap (spec.at_inner (same_tree c.in-Assume.inner)) (sym c.assumed.ensures ∙ ap option_copied c.in_default-assumed.is))

pub loop-one-preserved : goal.loop-one-preserved
loop-one-preserved c =
    let next = same_next _ _ _ _ (PromiseTree-F.Assume c.in-Assume.inner c.in-Assume.member) c.loop-one.invariant (c.in-Assume.is ∙ sym (tree.rolls-Assume c.in-Assume.inner c.in-Assume.member)) in
    next ∙ ap (spec.at_inner (same_tree c.in-Assume.inner)) (sym c.assumed.ensures ∙ ap option_copied c.in-Some-assumed.is) ∙ ap (λ t. same_tree t c.in-Some-assumed.next.now) (sym c.get-one-in-Assume.ensures)
