use Rattle.std.proofs.Common.{◌≡◌, ◌≤◌, take, count_by}
use Rattle.java_heads.specs.Modifiers.{access_word}
use Rattle.java_heads.proofs.modifiers.access_words.Given as goal

-- those so far are counted
abbrev pub invariant-loop-modifier : goal.invariant-loop-modifier
invariant-loop-modifier l = (l.count ≡ count_by access_word (take l.modifier-index l.mods)) × (l.count ≤ l.modifier-index)
