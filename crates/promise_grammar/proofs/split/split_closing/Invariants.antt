use Rattle.std.proofs.Common.{◌≡◌, ◌≤◌, length, drop, None}
use Rattle.std.specs.List.{list_all}
use Rattle.promise_grammar.specs.Word.{is_blank}
use Rattle.promise_grammar.specs.Split.{closing_split}
use Rattle.promise_grammar.proofs.split.split_closing.Given as goal

abbrev pub invariant-backwards : goal.invariant-backwards
invariant-backwards l =
    (l.at ≤ length l.bytes) × (closing_split (drop l.at l.bytes) ≡ None) × (l.ends ≡ list_all is_blank (drop l.at l.bytes))

abbrev pub decreases-backwards : goal.decreases-backwards
decreases-backwards l = l.at
