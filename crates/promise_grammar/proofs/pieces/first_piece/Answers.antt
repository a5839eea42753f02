use Rattle.std.proofs.Common.{sym, ◌∙◌, arith}
use Rattle.promise_grammar.proofs.Cutting.{first_word, first_sign, nothing}
use Rattle.promise_grammar.proofs.pieces.first_piece.Goals as goal

pub returns-then-len-gt0 : goal.returns-then-len-gt0
returns-then-len-gt0 c = sym c.without_blanks-bytes.ensures.same ∙ first_word c.without_blanks-bytes.result.now c.word_len-len.result c.word_len-len.ensures.value c.if-len-gt0.true

pub returns-then-is_empty : goal.returns-then-is_empty
returns-then-is_empty c = sym c.without_blanks-bytes.ensures.same ∙ nothing c.without_blanks-bytes.result.now (grind arith)

pub returns-else-is_empty : goal.returns-else-is_empty
returns-else-is_empty c = sym c.without_blanks-bytes.ensures.same ∙ first_sign c.without_blanks-bytes.result.now (omega arith) c.without_blanks-bytes.ensures.first (grind arith)
