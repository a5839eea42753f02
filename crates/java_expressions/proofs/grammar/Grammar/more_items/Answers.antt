use Rattle.std.proofs.Common.{refl, ◌∙◌, sym, rules}
use Rattle.java_phrases.specs.Tree.{Kind as k}
use Rattle.java_phrases.specs.Common.{sees}
use Rattle.java_expressions.specs.Reading.{one_more, expr}
use Rattle.java_phrases.proofs.Loops.{begins, turn_goes, loop_fails, loop_ends}
use Rattle.java_expressions.proofs.Heights.{one_more-shorter}
use Rattle.java_expressions.proofs.grammar.Grammar.more_items.Goals as goal

pub more-init : goal.more-init
more-init g c = record { reads = begins (sees k.Comma) (one_more (expr c.args.self.now.room)) _ _; moved = refl }

pub returns-in_err-found : goal.returns-in_err-found
returns-in_err-found g c =
    let fails = loop_fails (sees k.Comma) (one_more (expr c.args.self.now.room)) _ _ _ _ c.more.invariant.reads (sym c.sees.ensures ∙ c.more-test.true) in
    search rules

pub more-smaller : goal.more-smaller
more-smaller g c = one_more-shorter c.args.self.now.room _ _ _ _ c.in_ok-found.ensures.0

pub more-preserved : goal.more-preserved
more-preserved g c = record {
  reads = turn_goes (sees k.Comma) (one_more (expr c.args.self.now.room)) _ _ _ _ _ _ c.more.invariant.reads (sym c.sees.ensures ∙ c.more-test.true) c.in_ok-found.ensures.0 (one_more-shorter c.args.self.now.room _ _ _ _ c.in_ok-found.ensures.0);
  moved = c.in_ok-found.ensures.1 ∙ c.more.invariant.moved;
}

pub returns : goal.returns
returns g c = (loop_ends (sees k.Comma) (one_more (expr c.args.self.now.room)) _ _ _ _ c.more.invariant.reads (sym c.sees.ensures ∙ c.more-test.false), c.more.invariant.moved)
