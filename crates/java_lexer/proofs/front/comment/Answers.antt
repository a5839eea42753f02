use Rattle.java_lexer.specs.Lexing.IsFault.{unicode}
use Rattle.java_lexer.proofs.front.comment.Goals as goal

pub returns-in-Some : goal.returns-in-Some
returns-in-Some c = unicode c.in-Some.at c.args.len c.requires.longest c.requires.comment c.in-Some.ensures.found c.in-Some.ensures.first
