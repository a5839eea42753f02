-- Tokens, lexemes and types whose spans are put elsewhere, and nothing else.
use Rattle.std.specs.Prelude.{List, map}
use Rattle.desk_base.specs.declared.span.Span.{Span}
use Rattle.java_tree.specs.declared.token.Token.{Token}
use Rattle.java_tree.specs.declared.token.Lexeme.{Lexeme}
use Rattle.java_tree.specs.declared.member.Ty.{Ty}
use Rattle.java_tree.specs.declared.member.Ty.TheVariants as ty

abbrev pub moved_token : (Span → Span) → Token → Token
moved_token place t = record { kind = t.kind; bytes = t.bytes; span = place t.span }

abbrev pub moved_lexeme : (Span → Span) → Lexeme → Lexeme
moved_lexeme place w = record { text = w.text; span = place w.span }

abbrev pub moved_tokens : (Span → Span) → List Token → List Token
moved_tokens place = map (moved_token place)

abbrev pub moved_lexemes : (Span → Span) → List Lexeme → List Lexeme
moved_lexemes place = map (moved_lexeme place)

abbrev pub moved_ty : (Span → Span) → Ty → Ty
moved_ty place (ty.Int at) = ty.Int (place at)
moved_ty place (ty.Boolean at) = ty.Boolean (place at)
moved_ty place (ty.Named name) = ty.Named (moved_lexeme place name)
