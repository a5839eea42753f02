use Rattle.std.proofs.Common.{◌≡◌, is_some, refl, ap, ◌∙◌, sym, rules}
use Rattle.java_expressions.specs.Reading.{climbs, climb, operation, expr}
use Rattle.java_phrases.specs.Common.{Lost, turns, ahead}
use Rattle.java_phrases.proofs.Loops.{begins, turn_goes, loop_fails, loop_ends}
use Rattle.java_expressions.proofs.Heights.{operation-shorter, climb_is, climb_lost}
use Rattle.java_expressions.proofs.grammar.Grammar.operations.Goals as goal

pub more-init : goal.more-init
more-init g c = record { reads = begins (climbs c.args.least) (climb (expr c.args.self.now.room) c.args.self.now.room c.args.least) _ _; moved = refl }

pub returns-in_err-left : goal.returns-in_err-left
returns-in_err-left g c =
    let next = sym c.next_operator.ensures ∙ c.in-Some.is in
    let room = c.args.self.now.room in
    let least = c.args.least in
    let lost : operation (expr room) room c.more.left c.in-Some.operator (ahead c.more.tokens) ≡ Lost → turns (climbs least) (climb (expr room) room least) c.args.left (ahead c.args.tokens.now) ≡ Lost =
    λ l. loop_fails (climbs least) (climb (expr room) room least) _ _ _ _ c.more.invariant.reads (ap is_some next) (climb_lost room least c.more.left c.in-Some.operator (ahead c.more.tokens) next l) in
    search rules

pub more-smaller : goal.more-smaller
more-smaller g c = operation-shorter c.args.self.now.room _ _ _ _ _ c.in_ok-left.ensures.0

pub more-preserved : goal.more-preserved
more-preserved g c =
    let next = sym c.next_operator.ensures ∙ c.in-Some.is in
    record {
      reads = turn_goes (climbs c.args.least) (climb (expr c.args.self.now.room) c.args.self.now.room c.args.least) _ _ _ _ _ _ c.more.invariant.reads (ap is_some next)
          (climb_is c.args.self.now.room c.args.least _ _ _ next ∙ c.in_ok-left.ensures.0) (operation-shorter c.args.self.now.room _ _ _ _ _ c.in_ok-left.ensures.0);
      moved = c.in_ok-left.ensures.1 ∙ c.more.invariant.moved;
    }

pub returns : goal.returns
returns g c =
    (loop_ends (climbs c.args.least) (climb (expr c.args.self.now.room) c.args.self.now.room c.args.least) _ _ _ _ c.more.invariant.reads (ap is_some (sym c.next_operator.ensures ∙ c.in_default.is)), c.more.invariant.moved)
