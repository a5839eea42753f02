use Rattle.std.proofs.Common.{refl, ◌∙◌, sym, rules}
use Rattle.java_phrases.specs.Tree.{Kind as k}
use Rattle.java_phrases.specs.Common.{word, sees}
use Rattle.java_heads.specs.Reading.{after}
use Rattle.java_phrases.proofs.Loops.{begins, turn_goes, loop_fails, loop_ends}
use Rattle.java_heads.proofs.NameLaws.{name_after-shorter}
use Rattle.java_heads.proofs.header.more_interfaces.Goals as goal

pub more-init : goal.more-init
more-init c = record { reads = begins (sees k.Comma) (after k.Comma (word k.Name)) _ _; moved = refl }

pub returns-in_err-found : goal.returns-in_err-found
returns-in_err-found c =
    let fails = loop_fails (sees k.Comma) (after k.Comma (word k.Name)) _ _ _ _ c.more.invariant.reads (sym c.sees.ensures ∙ c.more-test.true) in
    search rules

pub more-smaller : goal.more-smaller
more-smaller c = name_after-shorter k.Comma _ _ _ _ c.in_ok-found.ensures.0

pub more-preserved : goal.more-preserved
more-preserved c = record {
  reads = turn_goes (sees k.Comma) (after k.Comma (word k.Name)) _ _ _ _ _ _ c.more.invariant.reads (sym c.sees.ensures ∙ c.more-test.true) c.in_ok-found.ensures.0 (name_after-shorter k.Comma _ _ _ _ c.in_ok-found.ensures.0);
  moved = c.in_ok-found.ensures.1 ∙ c.more.invariant.moved;
}

pub returns : goal.returns
returns c = (loop_ends (sees k.Comma) (after k.Comma (word k.Name)) _ _ _ _ c.more.invariant.reads (sym c.sees.ensures ∙ c.more-test.false), c.more.invariant.moved)
