use Rattle.promise_grammar.proofs.Cutting.{cut-past_blanks, begins_blank-past_blanks, rest_whole}
use Rattle.promise_grammar.proofs.pieces.without_blanks.Goals as goal

pub returns-clause-same : goal.returns-clause-same
returns-clause-same c = rw (rest_whole c.blanks_len.result c.args.bytes.now, c.blanks_len.ensures.value) (cut-past_blanks c.args.bytes.now)

pub returns-clause-first : goal.returns-clause-first
returns-clause-first c = rw (rest_whole c.blanks_len.result c.args.bytes.now, c.blanks_len.ensures.value) (begins_blank-past_blanks c.args.bytes.now)
