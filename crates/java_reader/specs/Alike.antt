-- What it is that tokens are written alike.
use Rattle.std.specs.Prelude.{◌≡◌, List, [], ◌∷◌}
use Rattle.java_phrases.specs.Tree.{Token}

-- the same kinds and the same bytes, in order; the places may differ
abbrev pub Alike : List Token → List Token → Type 0
Alike [] [] = Unit {0}
Alike [] (u ∷ us) = ⊥
Alike (t ∷ ts) [] = ⊥
Alike (t ∷ ts) (u ∷ us) = (t.kind ≡ u.kind) × (t.bytes ≡ u.bytes) × Alike ts us
