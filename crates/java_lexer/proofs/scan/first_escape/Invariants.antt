use Rattle.std.proofs.Common.{◌≡◌, ◌%◌, cond}
use Rattle.java_lexer.specs.Lumps.{backslashes_before, HasNoEscapeBefore}
use Rattle.java_lexer.proofs.scan.first_escape.Given as goal

abbrev pub invariant-loop-at : goal.invariant-loop-at
invariant-loop-at l = record { none : HasNoEscapeBefore l.comment l.at; parity : backslashes_before l.comment l.at % 2 ≡ cond l.even 0 1 }
