use Rattle.std.proofs.Common.{refl, ◌∙◌, sym, rules}
use Rattle.java_heads.specs.Reading.{also, starts_mod, one_modifier}
use Rattle.java_phrases.proofs.Loops.{begins, turn_goes, loop_fails, loop_ends}
use Rattle.java_heads.proofs.ModifierLaws.{also_modifier-shorter}
use Rattle.java_heads.proofs.modifiers.more_modifiers.Goals as goal

pub more-init : goal.more-init
more-init c = record { reads = begins starts_mod (also one_modifier) _ _; moved = refl }

pub returns-in_err-found : goal.returns-in_err-found
returns-in_err-found c =
    let fails = loop_fails starts_mod (also one_modifier) _ _ _ _ c.more.invariant.reads (sym c.starts_mod.ensures ∙ c.more-test.true) in
    search rules

pub more-smaller : goal.more-smaller
more-smaller c = also_modifier-shorter _ _ _ _ c.in_ok-found.ensures.0

pub more-preserved : goal.more-preserved
more-preserved c = record {
  reads = turn_goes starts_mod (also one_modifier) _ _ _ _ _ _ c.more.invariant.reads (sym c.starts_mod.ensures ∙ c.more-test.true) c.in_ok-found.ensures.0 (also_modifier-shorter _ _ _ _ c.in_ok-found.ensures.0);
  moved = c.in_ok-found.ensures.1 ∙ c.more.invariant.moved;
}

pub returns : goal.returns
returns c = (loop_ends starts_mod (also one_modifier) _ _ _ _ c.more.invariant.reads (sym c.starts_mod.ensures ∙ c.more-test.false), c.more.invariant.moved)
