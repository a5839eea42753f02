use Rattle.promise_grammar.proofs.PlainLaws.{plain_answer}
use Rattle.promise_grammar.proofs.plain.plain_tree.Goals as goal

pub returns-in_default : goal.returns-in_default
returns-in_default c = plain_answer c.args.kind c.args.content.now c.words_tree.result c.in_default.not-Vouch c.words_tree.ensures
