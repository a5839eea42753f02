use Rattle.std.proofs.Common.{rules}
use Rattle.promise_grammar.specs.Word.{is_reserved}
use Rattle.promise_grammar.proofs.word.is_reserved.Goals as goal

pub returns : goal.returns
unfolding is_reserved
returns c = search rules
