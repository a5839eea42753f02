-- A name or a literal of a tree as plain data, where there is one.
use Rattle.std.specs.Prelude.{ℕ, Option, Some, None}
use Rattle.desk_base.specs.declared.span.Span.{Span}
use Rattle.java_tree.specs.declared.token.Lexeme.{Lexeme}
use Rattle.tree_places.specs.PlainExpr.{PlainLexeme}
use Rattle.tree_places.specs.Plain.{plain_lexeme}

abbrev pub word_as : (Span → ℕ) → Option Lexeme → Option PlainLexeme
word_as number None = None
word_as number (Some w) = Some (plain_lexeme number w)
