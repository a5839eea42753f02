use Rattle.std.proofs.Common.{◌≡◌, take, slice_index, true, ℕ, sym, ◌∙◌, subst, refl}
use Rattle.std.specs.Char.{is_ascii_digit}
use Rattle.std.proofs.lemmas.Bool.{iff_false}
use Rattle.java_lexer.specs.Lumps.{IsRun}
use Rattle.java_lexer.specs.Lexing.{Longest}
use Rattle.java_lexer.specs.Lexing.IsFault.{no_token}
use Rattle.java_lexer.proofs.KindLemmas.{number_nothing}
use Rattle.java_lexer.proofs.Pieces.{run_is, longest_run}
use Rattle.java_lexer.proofs.front.run.Goals as goal

pub kind_of_run-requires-clause-run : goal.kind_of_run-requires-clause-run
kind_of_run-requires-clause-run c = subst (λ (n : ℕ). IsRun (take n c.args.text.now)) (sym c.run_len-len.ensures.value) (run_is c.args.text.now c.requires)

pub returns-then-not-is_ascii_digit : goal.returns-then-not-is_ascii_digit
returns-then-not-is_ascii_digit c =
    (subst (λ (n : ℕ). Longest c.args.text.now n) (sym c.run_len-len.ensures.value) (longest_run c.args.text.now c.requires), c.kind_of_run.ensures)

pub returns-then-is_int : goal.returns-then-is_int
returns-then-is_int c =
    (subst (λ (n : ℕ). Longest c.args.text.now n) (sym c.run_len-len.ensures.value) (longest_run c.args.text.now c.requires), c.is_int.ensures.0 c.if-is_int.true)

pub returns-else-is_int : goal.returns-else-is_int
returns-else-is_int c =
    let text = c.args.text.now in
    let longest : Longest text c.run_len-len.result = subst (λ (n : ℕ). Longest text n) (sym c.run_len-len.ensures.value) (longest_run text c.requires) in
    let digit : is_ascii_digit (slice_index (take c.run_len-len.result text) 0) ≡ true = rw (← c.byte.ensures.value) (sym c.is_ascii_digit.ensures.value ∙ c.if-not-is_ascii_digit.false) in
    no_token 0 c.run_len-len.result refl longest (number_nothing _ digit (iff_false c.is_int.ensures c.if-is_int.false))
