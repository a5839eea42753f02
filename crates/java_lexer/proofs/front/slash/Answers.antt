use Rattle.std.proofs.Common.{arith, ◌≡◌, ◌+◌, take, drop, slice_index, ℕ, List, sym, ◌∙◌, ap, subst}
use Rattle.std.specs.List.{prefix_len}
use Rattle.std.proofs.lemmas.List.{take_rest}
use Rattle.java_lexer.specs.Lumps.{IsComment}
use Rattle.java_lexer.specs.Lexing.{Longest}
use Rattle.java_lexer.proofs.Pieces.{in_line, longest_divide, longest_line}
use Rattle.java_lexer.proofs.front.slash.Goals as goal
use Rattle.java_lexer.proofs.front.slash.Goals.{After-line_len}

piece : (c : After-line_len) → Longest c.args.text.now (2 + c.line_len.result) × IsComment (take (2 + c.line_len.result) c.args.text.now)
piece c =
    let text = c.args.text.now in
    let second : slice_index text 1 ≡ 47 = cc in
    let len : prefix_len in_line (drop 2 text) ≡ c.line_len.result = ap (λ (z : List ℕ). prefix_len in_line z) (sym (take_rest text 2)) ∙ sym c.line_len.ensures.value in
    subst (λ (n : ℕ). Longest text (2 + n) × IsComment (take (2 + n) text)) len (longest_line text c.requires.slash second)

pub comment-requires-clause-longest : goal.comment-requires-clause-longest
comment-requires-clause-longest c = (piece c).0

pub comment-requires-clause-comment : goal.comment-requires-clause-comment
comment-requires-clause-comment c = (piece c).1

pub returns-in_default : goal.returns-in_default
returns-in_default c = longest_divide c.args.text.now c.requires.slash (λ e. omega arith) (λ e. omega arith)
