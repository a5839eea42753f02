use Rattle.std.proofs.Common.{Some, None}
use Rattle.std.proofs.lemmas.List.{take_rest}
use Rattle.bundle.proofs.Parts.{cut_at_slash}
use Rattle.bundle.proofs.path.first_part.Goals as goal

pub returns-in-None-clause-parts : goal.returns-in-None-clause-parts
returns-in-None-clause-parts c = cut_at_slash c.args.path.now None c.in-None.ensures

pub returns-in-Some-clause-parts : goal.returns-in-Some-clause-parts
returns-in-Some-clause-parts c = rw take_rest (cut_at_slash c.args.path.now (Some c.in-Some.slash) c.in-Some.ensures).1
