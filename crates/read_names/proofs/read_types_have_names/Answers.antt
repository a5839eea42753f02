use Rattle.read_names.proofs.Types.{file_named}
use Rattle.read_names.proofs.read_types_have_names.Goals as goal

pub returns : goal.returns
returns c = λ text file class reads among.
    file_named text file class reads (c.tokens_follow.ensures text reads.tokens reads.lexed) (c.tokens_spelled.ensures text reads.tokens reads.lexed) among
