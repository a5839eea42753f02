-- The reader of members up to their bodies, as functions on lists of tokens: each says what the function
-- of its name in the code answers.
use Rattle.std.specs.Prelude.{ℕ, Bool, true, false, ◌&&◌, if◌then◌else◌, List, Option, Some, None}
use Rattle.std.specs.Option.{option_map_or}
use Rattle.std.specs.Str.{bytes_eq}
use Rattle.java_phrases.specs.Tree.{Kind, Kind as k, Token, Lexeme, Mod, Ty}
use Rattle.java_phrases.specs.Common.{Found, Parser, ◌>>=◌, ◌>>◌, pure, fail, same_kind, kind_at, look, sign, word, ty}
use Rattle.java_heads.specs.declared.declaration.Declaration.TheVariants as of
use Rattle.java_heads.specs.Spelling.{string_name}
use Rattle.java_heads.specs.Reading.{all_modifiers, fits, parameters, throws, perhaps, named, field_end}
use Rattle.java_heads.specs.declared.heading.Heading.{Heading}
use Rattle.java_heads.specs.declared.heading.Heading.TheVariants as heading
use Rattle.java_heads.specs.Headings.{main_name}

-- whether the token behind so many others is of this kind
unfoldable pub stands : Kind → ℕ → List Token → Bool
stands kind others ts = option_map_or (λ found. same_kind found kind) (kind_at others ts) false

-- whether "(" and an array of a named type stand next, as before a main's parameter
unfoldable pub takes_array : List Token → Bool
takes_array ts = if stands k.Final 1 ts then (stands k.Name 2 ts && stands k.LBracket 3 ts) else (stands k.Name 1 ts && stands k.LBracket 2 ts)

-- whether a name and "(" stand next, as before a constructor's parameters
unfoldable pub calls_name : List Token → Bool
calls_name ts = stands k.Name 0 ts && stands k.LParen 1 ts

unfoldable pub method_end : List Mod → Option Ty → Lexeme → Parser Heading
method_end mods result name = if fits of.Method mods then (do
  params ← parameters
  thrown ← throws
  pure (heading.Method (record { mods = mods; result = result; name = name; params = params; throws = thrown }))) else fail

unfoldable pub main_end : List Mod → Lexeme → Parser Heading
main_end mods name = if fits of.Main mods then (if bytes_eq name.text main_name then (do
  sign k.LParen
  final_word ← perhaps k.Final
  named string_name
  sign k.LBracket
  sign k.RBracket
  param ← word k.Name
  sign k.RParen
  thrown ← throws
  pure (heading.Main (record { mods = mods; name = name; final_word = final_word; param = param; throws = thrown }))) else fail) else fail

abbrev pub void_by : List Mod → Lexeme → Bool → Parser Heading
void_by mods name true = main_end mods name
void_by mods name false = method_end mods None name

unfoldable pub void_member : List Mod → Parser Heading
void_member mods = do
  sign k.Void
  name ← word k.Name
  array ← (λ ts. Found (takes_array ts) ts)
  void_by mods name array

unfoldable pub constructor : List ℕ → List Mod → Parser Heading
constructor class mods = if fits of.Ctor mods then (do
  name ← named class
  params ← parameters
  thrown ← throws
  pure (heading.Ctor (record { mods = mods; name = name; params = params; throws = thrown }))) else fail

unfoldable pub field_member : List Mod → Ty → Lexeme → Parser Heading
field_member mods of_type name = if fits of.Field mods then (do
  found ← field_end mods of_type name
  pure (heading.Field found)) else fail

abbrev pub typed_by : List Mod → Ty → Lexeme → Bool → Parser Heading
typed_by mods of_type name true = method_end mods (Some of_type) name
typed_by mods of_type name false = field_member mods of_type name

unfoldable pub typed_member : List Mod → Parser Heading
typed_member mods = do
  of_type ← ty
  name ← word k.Name
  called ← look k.LParen
  typed_by mods of_type name called

abbrev pub unvoid_by : List ℕ → List Mod → Bool → Parser Heading
unvoid_by class mods true = constructor class mods
unvoid_by class mods false = typed_member mods

abbrev pub heading_by : List ℕ → List Mod → Bool → Parser Heading
heading_by class mods true = void_member mods
heading_by class mods false = λ ts. unvoid_by class mods (calls_name ts) ts

unfoldable pub member_heading : List ℕ → Parser Heading
member_heading class = do
  mods ← all_modifiers
  void ← look k.Void
  heading_by class mods void
