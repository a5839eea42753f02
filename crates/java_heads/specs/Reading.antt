-- The reader as functions on lists of tokens: each says what the function of its name in the code
-- answers. That this is the spelling, both ways, is what the public clauses say.
use Rattle.std.specs.Prelude.{ℕ, zero, suc, ◌==◌, nat_le, ◌&&◌, ◌||◌, Bool, true, false, not, if◌then◌else◌, List, [], ◌∷◌, ◌++◌, length, reverse, Option, Some, None, is_some}
use Rattle.std.specs.Str.{bytes_eq}
use Rattle.java_phrases.specs.Tree.{Span, Kind, Kind as k, Token, Lexeme, Annot, AnnotLayer, InnerAnnot, Elements, Elements as elements, Elem, Elem as element, Mod, Mod as modifier, ModWord, ModWord as w, Ty, Param, Init, Init as init, Field, Sig, Package, Import, TypeKind, TypeKind as sort}
use Rattle.java_phrases.specs.Common.{Found, Lost, Parser, ◌>>=◌, ◌>>◌, pure, fail, next_kind, kind_at, peek, look, sees, sign, word, turns, ty, smallest_digits, thread_name}
use Rattle.java_heads.specs.declared.declaration.Declaration.{Declaration}
use Rattle.java_heads.specs.declared.declaration.Declaration.TheVariants as of
use Rattle.java_heads.specs.declared.header.Header.{Header}
use Rattle.java_heads.specs.declared.nest.Frame.{Frame}
use Rattle.java_heads.specs.declared.nest.Opened.{Opened}
use Rattle.java_heads.specs.declared.nest.Opened.TheVariants as opened
use Rattle.java_heads.specs.declared.nest.Nest.{Nest}
use Rattle.java_heads.specs.Modifiers.{may_have, must_have, same_word, is_access, words_that, kind_of}
use Rattle.java_heads.specs.Annotation.{value_name, inner_annot}
use Rattle.java_heads.specs.Spelling.{object_name, string_name, runnable_name, declared_as}

-- ---- lists

-- one more item of a list
unfoldable pub also : {A : Type 0} → Parser A → List A → Parser (List A)
also item found = do
  x ← item
  pure (found ++ x ∷ [])

-- one more, behind a sign
unfoldable pub after : {A : Type 0} → Kind → Parser A → List A → Parser (List A)
after before item found = do
  sign before
  x ← item
  pure (found ++ x ∷ [])

-- ---- qualified names

abbrev pub is_name : Option Kind → Bool
is_name (Some k.Name) = true
is_name _ = false

-- whether a dot and a name stand next
unfoldable pub goes_on : List Token → Bool
goes_on ts = sees k.Dot ts && is_name (kind_at 1 ts)

unfoldable pub qualified : Parser (List Lexeme)
qualified = do
  first ← word k.Name
  turns goes_on (after k.Dot (word k.Name)) (first ∷ [])

-- ---- annotations

abbrev pub value_by : Bool → Parser (Option Lexeme)
value_by false = pure None
value_by true = do
  name ← word k.Name
  if bytes_eq name.text value_name then (do sign k.Assign; pure (Some name)) else fail

unfoldable pub value_word : Parser (Option Lexeme)
value_word = do
  named ← look k.Name
  value_by named

abbrev pub frame : Span → List Lexeme → Span → Option Lexeme → Bool → Frame
frame at name opening value in_braces =
    record { at = at; name = name; opening = opening; value = value; in_braces = in_braces; elems = [] }

abbrev pub with_elem : Frame → Elem → Frame
with_elem f elem =
    record { at = f.at; name = f.name; opening = f.opening; value = f.value; in_braces = f.in_braces; elems = f.elems ++ elem ∷ [] }

abbrev pub layer : Span → List Lexeme → Elements → AnnotLayer
layer at name elements = record { at = at; name = name; elements = elements }

abbrev pub one_tree : Frame → Elem → Span → AnnotLayer
one_tree f elem closing = layer f.at f.name (elements.One f.opening f.value elem closing)

abbrev pub many_tree : Frame → Span → AnnotLayer
many_tree f closing = layer f.at f.name (elements.Many f.opening f.value f.elems closing)

-- the end of a list in braces
unfoldable pub closed : Frame → Parser Opened
closed f = do
  sign k.RBrace
  closing ← sign k.RParen
  pure (opened.Whole (many_tree f closing))

abbrev pub listed_by : Frame → Bool → Parser Opened
listed_by f true = closed f
listed_by f false = pure (opened.Open f)

abbrev pub inside_by : Span → List Lexeme → Span → Option Lexeme → Bool → Parser Opened
inside_by at name opening value false = pure (opened.Open (frame at name opening value false))
inside_by at name opening value true = do
  sign k.LBrace
  ended ← look k.RBrace
  listed_by (frame at name opening value true) ended

-- what stands behind the parenthesis of an annotation with elements, up to its first element
unfoldable pub inside : Span → List Lexeme → Span → Parser Opened
inside at name opening = do
  value ← value_word
  in_braces ← look k.LBrace
  inside_by at name opening value in_braces

abbrev pub filled_by : Span → List Lexeme → Span → Bool → Parser Opened
filled_by at name opening true = do
  closing ← sign k.RParen
  pure (opened.Whole (layer at name (elements.Empty opening closing)))
filled_by at name opening false = inside at name opening

unfoldable pub parenthesized : Span → List Lexeme → Parser Opened
parenthesized at name = do
  opening ← sign k.LParen
  ended ← look k.RParen
  filled_by at name opening ended

abbrev pub head_by : Span → List Lexeme → Bool → Parser Opened
head_by at name true = parenthesized at name
head_by at name false = pure (opened.Whole (layer at name elements.Bare))

-- an annotation up to its first element
unfoldable pub head : Parser Opened
head = do
  at ← sign k.At
  name ← qualified
  has_elements ← look k.LParen
  head_by at name has_elements

abbrev pub more_by : Frame → Bool → Parser Opened
more_by f true = do sign k.Comma; pure (opened.Open f)
more_by f false = closed f

abbrev pub placed_by : Frame → Elem → Bool → Parser Opened
placed_by f elem true = do
  more ← look k.Comma
  more_by (with_elem f elem) more
placed_by f elem false = do
  closing ← sign k.RParen
  pure (opened.Whole (one_tree f elem closing))

-- what stands behind an element
unfoldable pub placed : Frame → Elem → Parser Opened
placed f elem = placed_by f elem f.in_braces

-- a string that is placed as an element
unfoldable pub text_placed : Frame → Parser Opened
text_placed f = do
  text ← word k.StrLiteral
  placed f (element.Str text)

abbrev pub nest : List Frame → List InnerAnnot → Opened → Nest
nest outer ended last = record { outer = outer; ended = ended; last = last }

-- a whole annotation, which stands in so many, is an element of the one round it
abbrev pub surrounded_by : ℕ → List Frame → List InnerAnnot → AnnotLayer → Parser Nest
surrounded_by depth [] ended a = fail
surrounded_by depth (f ∷ outer) ended a = do
  last ← placed f element.Annot
  pure (nest (reverse outer) (ended ++ inner_annot depth a ∷ []) last)

unfoldable pub surrounded : List Frame → List InnerAnnot → AnnotLayer → Parser Nest
surrounded outer ended a = surrounded_by (length outer) (reverse outer) ended a

abbrev pub entered_by : List Frame → List InnerAnnot → Frame → Bool → Parser Nest
entered_by outer ended f true = do
  last ← text_placed f
  pure (nest outer ended last)
entered_by outer ended f false = do
  last ← head
  pure (nest (outer ++ f ∷ []) ended last)

-- the next element of an open annotation
unfoldable pub entered : List Frame → List InnerAnnot → Frame → Parser Nest
entered outer ended f = do
  text ← look k.StrLiteral
  entered_by outer ended f text

abbrev pub turn_by : List Frame → List InnerAnnot → Opened → Parser Nest
turn_by outer ended (opened.Whole a) = surrounded outer ended a
turn_by outer ended (opened.Open f) = entered outer ended f

unfoldable pub turn : Nest → Parser Nest
turn n = turn_by n.outer n.ended n.last

abbrev pub none_outside : List Frame → Bool
none_outside [] = true
none_outside (f ∷ outer) = false

abbrev pub whole_by : List Frame → Opened → Bool
whole_by outer (opened.Whole a) = none_outside outer
whole_by outer (opened.Open f) = false

unfoldable pub is_whole : Nest → Bool
is_whole n = whole_by n.outer n.last

unfoldable pub nested_from : ℕ → Nest → Parser Nest
nested_from zero n ts = Lost
nested_from (suc left) n ts = if is_whole n then Found n ts else (turn n >>= nested_from left) ts

-- Turns up to a whole annotation. Each takes a token, so their number bounds the turns.
unfoldable pub nested : Nest → Parser Nest
nested n ts = nested_from (suc (length ts)) n ts

abbrev pub annot_of : List InnerAnnot → Opened → Parser Annot
annot_of ended (opened.Whole a) = pure (record { layer = a; inner = ended })
annot_of ended (opened.Open f) = fail

unfoldable pub annotation : Parser Annot
annotation = do
  first ← head
  n ← nested (nest [] [] first)
  annot_of n.ended n.last

-- ---- modifiers

abbrev pub word_of_kind : Option Kind → Option ModWord
word_of_kind (Some k.Public) = Some w.Public
word_of_kind (Some k.Protected) = Some w.Protected
word_of_kind (Some k.Private) = Some w.Private
word_of_kind (Some k.Static) = Some w.Static
word_of_kind (Some k.Final) = Some w.Final
word_of_kind (Some k.Abstract) = Some w.Abstract
word_of_kind (Some k.Synchronized) = Some w.Synchronized
word_of_kind _ = None

unfoldable pub next_word : List Token → Option ModWord
next_word ts = word_of_kind (next_kind ts)

unfoldable pub starts_mod : List Token → Bool
starts_mod ts = sees k.At ts || is_some (next_word ts)

abbrev pub mod_word_by : Option ModWord → Parser Mod
mod_word_by None = fail
mod_word_by (Some found) = do
  at ← sign (kind_of found)
  pure (modifier.Word found at)

abbrev pub modifier_by : Bool → Parser Mod
modifier_by true = do
  a ← annotation
  pure (modifier.Annot a)
modifier_by false = λ ts. mod_word_by (next_word ts) ts

unfoldable pub one_modifier : Parser Mod
one_modifier = do
  annotated ← look k.At
  modifier_by annotated

unfoldable pub all_modifiers : Parser (List Mod)
all_modifiers = turns starts_mod (also one_modifier) []

-- a word that stands there so many times fits
abbrev pub times_fit : Declaration → ModWord → ℕ → Bool
times_fit declaration which times = if times == 0 then not (must_have declaration which) else (times == 1 && may_have declaration which)

unfoldable pub word_fits : Declaration → List Mod → ModWord → Bool
word_fits declaration mods which = times_fit declaration which (words_that (same_word which) mods)

unfoldable pub fits : Declaration → List Mod → Bool
fits declaration mods =
    word_fits declaration mods w.Public && (word_fits declaration mods w.Protected && (word_fits declaration mods w.Private && (word_fits declaration mods w.Static
    && (word_fits declaration mods w.Final && (word_fits declaration mods w.Abstract && (word_fits declaration mods w.Synchronized && nat_le (words_that is_access mods) 1))))))

-- the modifiers, if they fit
unfoldable pub modifiers : Declaration → Parser (List Mod)
modifiers declaration = do
  mods ← all_modifiers
  if fits declaration mods then pure mods else fail

-- ---- parameters

unfoldable pub parameter : Parser Param
parameter = do
  mods ← modifiers of.Param
  of_type ← ty
  name ← word k.Name
  pure (record { mods = mods; ty = of_type; name = name })

unfoldable pub some_parameters : Parser (List Param)
some_parameters = do
  first ← parameter
  turns (sees k.Comma) (after k.Comma parameter) (first ∷ [])

abbrev pub parameters_by : Bool → Parser (List Param)
parameters_by true = pure []
parameters_by false = some_parameters

unfoldable pub parameters : Parser (List Param)
parameters = do
  sign k.LParen
  is_empty ← look k.RParen
  found ← parameters_by is_empty
  sign k.RParen
  if nat_le (length found) 255 then pure found else fail

unfoldable pub some_throws : Parser (List (List Lexeme))
some_throws = do
  sign k.Throws
  first ← qualified
  turns (sees k.Comma) (after k.Comma qualified) (first ∷ [])

abbrev pub throws_by : Bool → Parser (List (List Lexeme))
throws_by true = some_throws
throws_by false = pure []

unfoldable pub throws : Parser (List (List Lexeme))
throws = do
  has_some ← look k.Throws
  throws_by has_some

abbrev pub result_by : Bool → Parser (Option Ty)
result_by true = do sign k.Void; pure None
result_by false = do found ← ty; pure (Some found)

unfoldable pub result_type : Parser (Option Ty)
result_type = do
  nothing ← look k.Void
  result_by nothing

-- ---- members without a body

unfoldable pub small : Parser Init
small = do
  number ← word k.IntLiteral
  if bytes_eq number.text smallest_digits then fail else pure (init.Int number)

unfoldable pub negative : Parser Init
negative = do
  at ← sign k.Minus
  number ← word k.IntLiteral
  pure (init.MinusInt at number)

unfoldable pub named : List ℕ → Parser Lexeme
named text = do
  name ← word k.Name
  if bytes_eq name.text text then pure name else fail

unfoldable pub new_object : Parser Init
new_object = do
  at ← sign k.New
  named object_name
  sign k.LParen
  sign k.RParen
  pure (init.NewObject at)

abbrev pub initializer_by : Option Kind → Parser Init
initializer_by (Some k.IntLiteral) = small
initializer_by (Some k.Minus) = negative
initializer_by (Some k.New) = new_object
initializer_by (Some k.True) = do at ← sign k.True; pure (init.True at)
initializer_by (Some k.False) = do at ← sign k.False; pure (init.False at)
initializer_by (Some k.Null) = do at ← sign k.Null; pure (init.Null at)
initializer_by (Some k.StrLiteral) = do text ← word k.StrLiteral; pure (init.Str text)
initializer_by _ = fail

unfoldable pub initializer : Parser Init
initializer = peek >>= initializer_by

abbrev pub init_by : Bool → Parser (Option Init)
init_by true = do sign k.Assign; found ← initializer; pure (Some found)
init_by false = pure None

unfoldable pub init_part : Parser (Option Init)
init_part = do
  has_one ← look k.Assign
  init_by has_one

-- a field behind its name; its tokens are kept afterwards
unfoldable pub field_end : List Mod → Ty → Lexeme → Parser Field
field_end mods of_type name = do
  value ← init_part
  sign k.Semicolon
  pure (record { mods = mods; ty = of_type; name = name; init = value; tokens = [] })

unfoldable pub field : Parser Field
field = do
  mods ← modifiers of.Field
  of_type ← ty
  name ← word k.Name
  field_end mods of_type name

unfoldable pub signature : Parser Sig
signature = do
  mods ← modifiers of.Sig
  result ← result_type
  name ← word k.Name
  params ← parameters
  thrown ← throws
  sign k.Semicolon
  pure (record { mods = mods; result = result; name = name; params = params; throws = thrown; tokens = [] })

-- ---- lines and headers

unfoldable pub package_line : Parser Package
package_line = do
  sign k.Package
  name ← qualified
  sign k.Semicolon
  pure (record { name = name })

abbrev pub perhaps_by : Kind → Bool → Parser (Option Span)
perhaps_by kind true = do at ← sign kind; pure (Some at)
perhaps_by kind false = pure None

unfoldable pub perhaps : Kind → Parser (Option Span)
perhaps kind = do
  there ← look kind
  perhaps_by kind there

abbrev pub star_by : Bool → Parser (Option Span)
star_by true = do sign k.Dot; at ← sign k.Times; pure (Some at)
star_by false = pure None

unfoldable pub star : Parser (Option Span)
star = do
  there ← look k.Dot
  star_by there

unfoldable pub import_line : Parser Import
import_line = do
  sign k.Import
  static_word ← perhaps k.Static
  name ← qualified
  all ← star
  sign k.Semicolon
  pure (record { static_word = static_word; name = name; star = all })

abbrev pub type_kind_by : Option Kind → Parser TypeKind
type_kind_by (Some k.Class) = do sign k.Class; pure sort.Class
type_kind_by (Some k.Interface) = do sign k.Interface; pure sort.Interface
type_kind_by _ = fail

unfoldable pub type_kind : Parser TypeKind
type_kind = peek >>= type_kind_by

unfoldable pub is_free : List ℕ → Bool
is_free name = not (bytes_eq name object_name) && (not (bytes_eq name string_name) && (not (bytes_eq name runnable_name) && not (bytes_eq name thread_name)))

-- the name of a declared type
unfoldable pub type_name : Parser Lexeme
type_name = do
  name ← word k.Name
  if is_free name.text then pure name else fail

unfoldable pub some_interfaces : Parser (List Lexeme)
some_interfaces = do
  sign k.Implements
  first ← word k.Name
  turns (sees k.Comma) (after k.Comma (word k.Name)) (first ∷ [])

abbrev pub interfaces_by : Bool → Parser (List Lexeme)
interfaces_by true = some_interfaces
interfaces_by false = pure []

unfoldable pub class_interfaces : Parser (List Lexeme)
class_interfaces = do
  has_some ← look k.Implements
  interfaces_by has_some

abbrev pub interfaces : TypeKind → Parser (List Lexeme)
interfaces sort.Class = class_interfaces
interfaces sort.Interface = pure []

abbrev pub header_of : List Mod → TypeKind → Lexeme → List Lexeme → Header
header_of mods kind name implements = record { mods = mods; kind = kind; name = name; implements = implements; tokens = [] }

-- the header without its brace
unfoldable pub type_header : Parser Header
type_header = do
  mods ← all_modifiers
  kind ← type_kind
  if fits (declared_as kind) mods then (do
    name ← type_name
    implemented ← interfaces kind
    pure (header_of mods kind name implemented)) else fail

-- the brace behind a header
unfoldable pub brace : Parser (Unit {0})
brace = do
  sign k.LBrace
  pure tt
