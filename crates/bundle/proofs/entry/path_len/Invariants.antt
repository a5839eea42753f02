use Rattle.std.proofs.Common.{◌≡◌, ℕ, ◌<◌, true, get_or}
use Rattle.bundle.specs.Path.{is_path_byte}
use Rattle.bundle.proofs.entry.path_len.Given as goal

-- the bytes so far pass
abbrev pub invariant-loop-i : goal.invariant-loop-i
invariant-loop-i l = (k : ℕ) → k < l.i → is_path_byte (get_or l.bytes k 0) ≡ true
