use Rattle.std.proofs.Common.{refl, ◌∙◌, sym, rules}
use Rattle.java_phrases.specs.Tree.{Kind as k}
use Rattle.java_phrases.specs.Common.{sees}
use Rattle.java_expressions.specs.Reading.{selection, expr}
use Rattle.java_phrases.proofs.Loops.{begins, turn_goes, loop_fails, loop_ends}
use Rattle.java_expressions.proofs.Heights.{selection-shorter}
use Rattle.java_expressions.proofs.grammar.Grammar.selections.Goals as goal

pub more-init : goal.more-init
more-init g c = record { reads = begins (sees k.Dot) (selection (expr c.args.self.now.room) c.args.self.now.room) _ _; moved = refl }

pub returns-in_err-from : goal.returns-in_err-from
returns-in_err-from g c =
    let fails = loop_fails (sees k.Dot) (selection (expr c.args.self.now.room) c.args.self.now.room) _ _ _ _ c.more.invariant.reads (sym c.sees.ensures ∙ c.more-test.true) in
    search rules

pub more-smaller : goal.more-smaller
more-smaller g c = selection-shorter c.args.self.now.room _ _ _ _ c.in_ok-from.ensures.0

pub more-preserved : goal.more-preserved
more-preserved g c = record {
  reads = turn_goes (sees k.Dot) (selection (expr c.args.self.now.room) c.args.self.now.room) _ _ _ _ _ _ c.more.invariant.reads (sym c.sees.ensures ∙ c.more-test.true) c.in_ok-from.ensures.0 (selection-shorter c.args.self.now.room _ _ _ _ c.in_ok-from.ensures.0);
  moved = c.in_ok-from.ensures.1 ∙ c.more.invariant.moved;
}

pub returns : goal.returns
returns g c = (loop_ends (sees k.Dot) (selection (expr c.args.self.now.room) c.args.self.now.room) _ _ _ _ c.more.invariant.reads (sym c.sees.ensures ∙ c.more-test.false), c.more.invariant.moved)
