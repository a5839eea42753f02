-- Parsers as functions on lists of tokens, and those of one token.
use Rattle.std.specs.Prelude.{ℕ, zero, suc, Bool, false, ◌&&◌, if◌then◌else◌, List, [], ◌∷◌, length, Option, Some, None}
use Rattle.std.specs.List.{slice_get}
use Rattle.std.specs.Option.{option_map, option_map_or}
use Rattle.std.specs.Str.{bytes_eq}
use denote.Enum.Bare.{sameb}
use Rattle.java_phrases.specs.Tree.{Span, Kind, Token, Lexeme}
use Rattle.java_tree.specs.contracts.kind.Kind.{the_type}
use Rattle.java_phrases.specs.Phrase.{word_of}

-- what was found and the tokens after it, or that nothing was
pub data Outcome (A : Type 0) : Type 0 where
  Found : A → List Token → Outcome A
  Lost : Outcome A

abbrev pub Parser : Type 0 → Type 0
Parser A = List Token → Outcome A

abbrev pub and_then : {A B : Type 0} → Outcome A → (A → Parser B) → Outcome B
and_then (Found x rest) f = f x rest
and_then Lost f = Lost

infixl 10 ◌>>=◌
abbrev pub ◌>>=◌ : {A B : Type 0} → Parser A → (A → Parser B) → Parser B
p >>= f = λ ts. and_then (p ts) f

infixl 10 ◌>>◌
abbrev pub ◌>>◌ : {A B : Type 0} → Parser A → Parser B → Parser B
p >> q = p >>= (λ _. q)

abbrev pub pure : {A : Type 0} → A → Parser A
pure x = λ ts. Found x ts

abbrev pub fail : {A : Type 0} → Parser A
fail = λ ts. Lost

-- ---- one token

abbrev pub same_kind : Kind → Kind → Bool
same_kind = sameb the_type

abbrev pub first : {A : Type 0} → List A → Option A
first [] = None
first (x ∷ xs) = Some x

unfoldable pub next_kind : List Token → Option Kind
next_kind ts = option_map (λ (t : Token). t.kind) (first ts)

-- where the next token begins, if there is one
unfoldable pub next_start : List Token → Option ℕ
next_start ts = option_map (λ (t : Token). t.span.start) (first ts)

abbrev pub peek : Parser (Option Kind)
peek = λ ts. Found (next_kind ts) ts

-- whether the next token is of this kind
unfoldable pub sees : Kind → List Token → Bool
sees kind ts = option_map_or (λ (t : Token). same_kind t.kind kind) (first ts) false

-- whether the next token is of this kind and written so
unfoldable pub sees_text : Kind → List ℕ → List Token → Bool
sees_text kind text ts = option_map_or (λ (t : Token). same_kind t.kind kind && bytes_eq t.bytes text) (first ts) false

-- the kind of the token behind so many others
unfoldable pub kind_at : ℕ → List Token → Option Kind
kind_at others ts = option_map (λ (t : Token). t.kind) (slice_get ts others)

-- whether the token behind so many others is of this kind and written so
unfoldable pub text_at : ℕ → Kind → List ℕ → List Token → Bool
text_at others kind text ts = option_map_or (λ (t : Token). same_kind t.kind kind && bytes_eq t.bytes text) (slice_get ts others) false

abbrev pub look : Kind → Parser Bool
look kind = λ ts. Found (sees kind ts) ts

unfoldable pub sign : Kind → Parser Span
sign kind [] = Lost
sign kind (t ∷ rest) = if same_kind t.kind kind then Found t.span rest else Lost

unfoldable pub word : Kind → Parser Lexeme
word kind [] = Lost
word kind (t ∷ rest) = if same_kind t.kind kind then Found (word_of t) rest else Lost

-- ---- a loop, as long as the next token goes on. Each turn takes a token, so their number bounds the turns.

unfoldable pub turns_from : {A : Type 0} → (List Token → Bool) → (A → Parser A) → ℕ → A → Parser A
turns_from goes turn zero x ts = Lost
turns_from goes turn (suc n) x ts = if goes ts then (turn x >>= turns_from goes turn n) ts else Found x ts

unfoldable pub turns : {A : Type 0} → (List Token → Bool) → (A → Parser A) → A → Parser A
turns goes turn x ts = turns_from goes turn (suc (length ts)) x ts
