-- Lists that are put one behind the other.
use Rattle.std.proofs.Common.{append_assoc, append-nil}

pub ruleset appends = (append_assoc, append-nil)
