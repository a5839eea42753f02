-- Types as they are written.
use Rattle.std.specs.Prelude.{Option, Some}
use Rattle.java_phrases.specs.Tree.{Kind, Kind as k, Ty, Ty as tree}
use Rattle.java_phrases.specs.Phrase.{Phrase, Sign, Spelled}
use Rattle.java_phrases.specs.Parser.{Parser, ◌>>=◌, pure, peek, sign, word}

-- Ty = "int" | "boolean" | Name
abbrev pub TySpells : Ty → Phrase
TySpells (tree.Int at) = Sign k.IntType at
TySpells (tree.Boolean at) = Sign k.BooleanType at
TySpells (tree.Named name) = Spelled k.Name name

-- ---- the same as a reader

abbrev pub ty_by : Option Kind → Parser Ty
ty_by (Some k.IntType) = do at ← sign k.IntType; pure (tree.Int at)
ty_by (Some k.BooleanType) = do at ← sign k.BooleanType; pure (tree.Boolean at)
ty_by _ = do name ← word k.Name; pure (tree.Named name)

unfoldable pub ty : Parser Ty
ty = peek >>= ty_by
