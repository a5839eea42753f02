-- What holds of a phrase whose tokens say which tree they spell.
use Rattle.std.specs.Prelude.{◌≡◌, List}
use Rattle.java_phrases.specs.Tree.{Token}
use Rattle.java_phrases.specs.Common.{Phrase}

-- Tokens begin with one such phrase at most. So no such phrase is a front of another.
abbrev pub OneTree : {A : Type 0} → (A → Phrase) → Type 0
OneTree {A} P = (one other : A) (ts rest other_rest : List Token) → P one ts rest → P other ts other_rest → (one ≡ other) × (rest ≡ other_rest)
