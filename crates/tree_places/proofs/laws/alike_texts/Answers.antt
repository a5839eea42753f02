use Rattle.tree_places.proofs.Files.{bare_files, alike_texts}
use Rattle.tree_places.proofs.laws.alike_texts.Goals as goal

pub returns : goal.returns
returns c = λ first second one other a b. (
  alike_texts one other a.tokens b.tokens a.spelled b.spelled (c.tokens_spelled.ensures first a.tokens a.lexed) (c.tokens_spelled.ensures second b.tokens b.lexed),
  bare_files one other a.tokens b.tokens a.spelled b.spelled,
)
