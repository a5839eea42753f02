use Rattle.std.proofs.Common.{◌≡◌, map, take}
use Rattle.tree_places.specs.Numbers.{number_of}
use Rattle.unit_rules.specs.Headers.{word_of}
use Rattle.unit_rules.proofs.headers.words.Given as goal

-- those so far
abbrev pub invariant-loop-name : goal.invariant-loop-name
invariant-loop-name l = l.words ≡ map (word_of (number_of l.places)) (take l.name-index l.names)
