-- Which tokens spell which part of a file, as far as no statement stands in it: one definition for
-- each production (JLS 8, 7.3 to 7.5, 8.1, 8.3, 8.4, 9.1, 9.4, as far as the subset goes).
use Rattle.std.specs.Prelude.{◌≡◌, ◌≢◌, ◌≤◌, ℕ, List, [], ◌∷◌, ◌++◌, length, Option, Some, None, codes}
use Rattle.java_phrases.specs.Tree.{Span, Kind, Kind as k, Token, Lexeme, Mod, Mod as modifier, Ty, Param, Init, Init as init, Field, Sig, Package, Import, TypeKind, TypeKind as sort}
use Rattle.java_phrases.specs.Common.{Phrase, Nothing, ◌⨾◌, ◌⊢◌, Never, Mark, Sign, Spelled, Named, Optional, Separated, Each, smallest_digits, thread_name, TySpells}
use Rattle.java_heads.specs.declared.declaration.Declaration.{Declaration}
use Rattle.java_heads.specs.declared.declaration.Declaration.TheVariants as of
use Rattle.java_heads.specs.declared.header.Header.{Header}
use Rattle.java_heads.specs.Modifiers.{FitsAs, kind_of}
use Rattle.java_heads.specs.Annotation.{Joined, Qualified, AnnotSpells}

-- a phrase whose tokens are these
abbrev pub Kept : List Token → Phrase → Phrase
Kept tokens P ts rest = P ts rest × (ts ≡ tokens ++ rest)

-- ---- modifiers

-- Annot | word
abbrev pub ModSpells : Mod → Phrase
ModSpells (modifier.Annot annot) = AnnotSpells annot
ModSpells (modifier.Word word at) = Sign (kind_of word) at

-- Mods, with the words that may stand there
abbrev pub Mods : Declaration → List Mod → Phrase
Mods declaration mods = FitsAs declaration mods ⊢ Each ModSpells mods

-- ---- parameters

-- Param = Mods Ty Name
abbrev pub ParamSpells : Param → Phrase
ParamSpells p = Mods of.Param p.mods ⨾ TySpells p.ty ⨾ Spelled k.Name p.name

-- Params = "(" [Param {"," Param}] ")", at most 255 of them
abbrev pub Params : List Param → Phrase
Params params = (length params ≤ 255) ⊢ Mark k.LParen ⨾ Separated ParamSpells params ⨾ Mark k.RParen

-- [Throws], Throws = "throws" Qname {"," Qname}
abbrev pub Throws : List (List Lexeme) → Phrase
Throws [] = Nothing
Throws (name ∷ names) = Mark k.Throws ⨾ Joined k.Comma Qualified (name ∷ names)

-- Ty | "void"
abbrev pub ResultSpells : Option Ty → Phrase
ResultSpells None = Mark k.Void
ResultSpells (Some ty) = TySpells ty

-- ---- members without a body

abbrev pub object_name : List ℕ
object_name = codes "Object"

-- Init = ["-"] Int | "true" | "false" | "null" | Str | "new" "Object" "(" ")"
abbrev pub InitSpells : Init → Phrase
InitSpells (init.Int word) = (word.text ≢ smallest_digits) ⊢ Spelled k.IntLiteral word
InitSpells (init.MinusInt at word) = Sign k.Minus at ⨾ Spelled k.IntLiteral word
InitSpells (init.True at) = Sign k.True at
InitSpells (init.False at) = Sign k.False at
InitSpells (init.Null at) = Sign k.Null at
InitSpells (init.Str word) = Spelled k.StrLiteral word
InitSpells (init.NewObject at) = Sign k.New at ⨾ Named object_name ⨾ Mark k.LParen ⨾ Mark k.RParen

-- ["=" Init]
abbrev pub InitPart : Option Init → Phrase
InitPart None = Nothing
InitPart (Some init) = Mark k.Assign ⨾ InitSpells init

-- Field = Mods Ty Name ["=" Init] ";"
abbrev pub FieldParts : Field → Phrase
FieldParts f = Mods of.Field f.mods ⨾ TySpells f.ty ⨾ Spelled k.Name f.name ⨾ InitPart f.init ⨾ Mark k.Semicolon

abbrev pub FieldSpells : Field → Phrase
FieldSpells f = Kept f.tokens (FieldParts f)

-- Sig = Mods (Ty | "void") Name Params [Throws] ";"
abbrev pub SigParts : Sig → Phrase
SigParts s = Mods of.Sig s.mods ⨾ ResultSpells s.result ⨾ Spelled k.Name s.name ⨾ Params s.params ⨾ Throws s.throws ⨾ Mark k.Semicolon

abbrev pub SigSpells : Sig → Phrase
SigSpells s = Kept s.tokens (SigParts s)

-- ---- lines and headers

-- Package = "package" Qname ";"
abbrev pub PackageSpells : Package → Phrase
PackageSpells p = Mark k.Package ⨾ Qualified p.name ⨾ Mark k.Semicolon

-- ["." "*"]
abbrev pub Star : Option Span → Phrase
Star None = Nothing
Star (Some at) = Mark k.Dot ⨾ Sign k.Times at

-- Import = "import" ["static"] Qname ["." "*"] ";"
abbrev pub ImportSpells : Import → Phrase
ImportSpells i = Mark k.Import ⨾ Optional (Sign k.Static) i.static_word ⨾ Qualified i.name ⨾ Star i.star ⨾ Mark k.Semicolon

abbrev pub declared_as : TypeKind → Declaration
declared_as sort.Class = of.Class
declared_as sort.Interface = of.Interface

abbrev pub type_word : TypeKind → Kind
type_word sort.Class = k.Class
type_word sort.Interface = k.Interface

-- ["implements" Name {"," Name}], of a class alone
abbrev pub Implements : TypeKind → List Lexeme → Phrase
Implements kind [] = Nothing
Implements sort.Class (name ∷ names) = Mark k.Implements ⨾ Joined k.Comma (Spelled k.Name) (name ∷ names)
Implements sort.Interface (name ∷ names) = Never

abbrev pub string_name : List ℕ
string_name = codes "String"

abbrev pub runnable_name : List ℕ
runnable_name = codes "Runnable"

-- A declared type isn't named like one of the library.
pub record IsFreeName (name : List ℕ) : Type 0 where
  pub no_object : name ≢ object_name
  pub no_string : name ≢ string_name
  pub no_runnable : name ≢ runnable_name
  pub no_thread : name ≢ thread_name

-- Mods "class" Name ["implements" Name {"," Name}] | Mods "interface" Name
abbrev pub HeaderParts : Header → Phrase
HeaderParts h =
    Mods (declared_as h.kind) h.mods ⨾ Mark (type_word h.kind) ⨾ IsFreeName h.name.text ⊢ Spelled k.Name h.name ⨾ Implements h.kind h.implements

-- a header and "{", which isn't among its tokens
abbrev pub HeaderSpells : Header → Phrase
HeaderSpells h = Kept h.tokens (HeaderParts h) ⨾ Mark k.LBrace
