use Rattle.std.proofs.Common.{◌≡◌, [], sym, subst}
use Rattle.java_lexer.specs.Lumps.{IsRun}
use Rattle.java_lexer.proofs.KindLemmas.{word_spelled, spelled_fixed, word_unknown}
use Rattle.java_lexer.proofs.front.kind_of_run.Goals as goal

pub returns-in-Some : goal.returns-in-Some
returns-in-Some c =
    let run = c.args.run.now in
    let some : run ≡ [] → ⊥ = λ e. subst IsRun e c.requires.run in
    spelled_fixed c.in-Some.word run (word_spelled run c.in-Some.word (sym c.in-Some.ensures)) some

pub returns-in-None : goal.returns-in-None
returns-in-None c = (c.requires.run, c.requires.first, word_unknown c.args.run.now c.requires.run (sym c.in-None.ensures))
