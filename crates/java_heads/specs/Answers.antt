-- What the calls that read a part of a file answer.
use Rattle.std.specs.Prelude.{◌≡◌, ◌≢◌, List, ◌++◌, Result, Ok, Err}
use Rattle.java_phrases.specs.Tree.{Token, Field, Sig}
use Rattle.java_phrases.specs.Common.{Found, Lost, Parser, ◌>>◌}
use Rattle.java_phrases.specs.declared.error.SyntaxError.{SyntaxError, SyntaxError as error}
use Rattle.java_heads.specs.declared.header.Header.{Header}
use Rattle.java_heads.specs.Reading.{type_header, brace}

-- ---- where a tree keeps its tokens

abbrev pub field_with : List Token → Field → Field
field_with tokens f = record { mods = f.mods; ty = f.ty; name = f.name; init = f.init; tokens = tokens }

abbrev pub sig_with : List Token → Sig → Sig
sig_with tokens s = record { mods = s.mods; result = s.result; name = s.name; params = s.params; throws = s.throws; tokens = tokens }

abbrev pub header_with : List Token → Header → Header
header_with tokens h = record { mods = h.mods; kind = h.kind; name = h.name; implements = h.implements; tokens = tokens }

-- what the parser finds, unless memory fails
abbrev pub Reads : {A : Type 0} → Parser A → List Token → Result A SyntaxError → List Token → Type 0
Reads p ts (Ok x) rest = p ts ≡ Found x rest
Reads p ts (Err e) rest = e ≢ error.OutOfMemory → p ts ≡ Lost

-- the same, with the tokens that the parser took put into the tree
abbrev pub ReadsKept : {A : Type 0} → Parser A → (List Token → A → A) → List Token → Result A SyntaxError → List Token → Type 0
ReadsKept {A} p with_tokens ts (Ok x) rest = (bare : A) × (tokens : List Token) × (p ts ≡ Found bare rest) × (x ≡ with_tokens tokens bare) × (tokens ++ rest ≡ ts)
ReadsKept {A} p with_tokens ts (Err e) rest = e ≢ error.OutOfMemory → p ts ≡ Lost

-- a header, whose brace isn't among its tokens
abbrev pub ReadsHeader : List Token → Result Header SyntaxError → List Token → Type 0
ReadsHeader ts (Ok h) rest = (mid : List Token) × ReadsKept type_header header_with ts (Ok h) mid × (brace mid ≡ Found tt rest)
ReadsHeader ts (Err e) rest = e ≢ error.OutOfMemory → (type_header >> brace) ts ≡ Lost
