use Rattle.std.proofs.Common.{◌≡◌, ◌+◌, ◌≤◌, length, take, drop, None, Some, ℕ, List, sym, ◌∙◌, ap, subst, refl}
use Rattle.std.proofs.lemmas.List.{take_rest}
use Rattle.java_lexer.specs.Scan.{close_from}
use Rattle.java_lexer.specs.Lumps.{IsComment}
use Rattle.java_lexer.specs.Lexing.{Longest}
use Rattle.java_lexer.specs.Lexing.IsFault.{no_token}
use Rattle.java_lexer.proofs.KindLemmas.{unclosed_nothing}
use Rattle.java_lexer.proofs.Pieces.{longest_block, longest_unclosed}
use Rattle.java_lexer.proofs.front.block.Goals as goal
use Rattle.java_lexer.proofs.front.block.Goals.{In-Some}

piece : (c : In-Some) → Longest c.args.text.now (2 + c.in-Some.len) × IsComment (take (2 + c.in-Some.len) c.args.text.now)
piece c =
    let text = c.args.text.now in
    let is : close_from 0 (drop 2 text) ≡ Some c.in-Some.len = ap (close_from 0) (sym (take_rest text 2)) ∙ sym c.in-Some.ensures.value in
    let within : c.in-Some.len ≤ length (drop 2 text) = subst (λ (z : List ℕ). c.in-Some.len ≤ length z) (take_rest text 2) c.in-Some.ensures.within in
    longest_block text c.in-Some.len c.requires.slash c.requires.star is within

pub comment-requires-clause-longest : goal.comment-requires-clause-longest
comment-requires-clause-longest c = (piece c).0

pub comment-requires-clause-comment : goal.comment-requires-clause-comment
comment-requires-clause-comment c = (piece c).1

pub returns-in-None : goal.returns-in-None
returns-in-None c =
    let text = c.args.text.now in
    let is : close_from 0 (drop 2 text) ≡ None = ap (close_from 0) (sym (take_rest text 2)) ∙ sym c.in-None.ensures.value in
    let piece = longest_unclosed text c.requires.slash c.requires.star is in
    no_token 0 (length text) refl piece.0 (unclosed_nothing _ piece.1)
