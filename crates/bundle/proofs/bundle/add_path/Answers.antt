use Rattle.std.proofs.Common.{ap, ◌∙◌, not}
use Rattle.bundle.proofs.PathSet.{contains_is, inserted_is}
use Rattle.bundle.proofs.bundle.add_path.Goals as goal

pub returns-clause-added : goal.returns-clause-added
returns-clause-added c = c.in_ok-insert.ensures.added ∙ ap not (contains_is c.args.seen.now c.args.path)

pub returns-clause-kept : goal.returns-clause-kept
returns-clause-kept c = inserted_is c.args.seen.now c.insert.new.self c.args.path c.in_ok-insert.ensures.keys
