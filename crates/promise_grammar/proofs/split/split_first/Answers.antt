use Rattle.promise_grammar.proofs.Splitting.{first_split_at, first_split_none}
use Rattle.promise_grammar.proofs.split.split_first.Goals as goal

pub returns-then-len-bytes : goal.returns-then-len-bytes
returns-then-len-bytes c = first_split_at c.args.byte c.args.bytes.now c.len_before-len.result c.len_before-len.ensures.value c.if-len-bytes.true

pub returns-else-len-bytes : goal.returns-else-len-bytes
returns-else-len-bytes c = first_split_none c.args.byte c.args.bytes.now c.len_before-len.result c.len_before-len.ensures.value c.if-len-bytes.false
