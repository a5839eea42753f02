-- The reserved words, as the lexer looks them up.
use Rattle.std.specs.Prelude.{ℕ, List, [], ◌∷◌, Option, Some, None, map, if◌then◌else◌}
use Rattle.std.specs.Str.{bytes_eq}
use Rattle.java_tree.specs.declared.kind.Kind.{Kind}
use Rattle.java_lexer.specs.declared.words.TheConstants.{WORDS}

-- words and their kinds
abbrev pub Table : Type 0
Table = List (List ℕ × Kind)

-- the kind of the first entry with these bytes
abbrev pub lookup : Table → List ℕ → Option Kind
lookup [] word = None
lookup (e ∷ es) word = if bytes_eq e.0 word then Some e.1 else lookup es word

-- the reserved words
unfoldable pub words : Table
words = map (λ k. (k.0.now, k.1)) WORDS
