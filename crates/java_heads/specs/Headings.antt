-- Which tokens spell which heading of a member, which is the member up to its body (JLS 8, 8.4, 8.8,
-- 12.1.4, as far as the subset goes).
use Rattle.std.specs.Prelude.{◌≡◌, ℕ, List, [], Some, codes}
use Rattle.java_phrases.specs.Tree.{Kind as k, Token}
use Rattle.java_phrases.specs.Common.{Phrase, ◌⨾◌, ◌⊢◌, Mark, Sign, Spelled, Named, Optional, next_kind}
use Rattle.java_heads.specs.declared.declaration.Declaration.TheVariants as of
use Rattle.java_heads.specs.declared.heading.Heading.{Heading}
use Rattle.java_heads.specs.declared.heading.Heading.TheVariants as heading
use Rattle.java_heads.specs.declared.heading.MethodHeading.{MethodHeading}
use Rattle.java_heads.specs.declared.heading.CtorHeading.{CtorHeading}
use Rattle.java_heads.specs.declared.heading.MainHeading.{MainHeading}
use Rattle.java_heads.specs.Spelling.{Mods, Params, Throws, ResultSpells, FieldParts, string_name}

abbrev pub main_name : List ℕ
main_name = codes "main"

-- Mods (Ty | "void") Name Params [Throws]
abbrev pub MethodHead : MethodHeading → Phrase
MethodHead h = Mods of.Method h.mods ⨾ ResultSpells h.result ⨾ Spelled k.Name h.name ⨾ Params h.params ⨾ Throws h.throws

-- Mods Name Params [Throws], where the name is the class's
abbrev pub CtorHead : List ℕ → CtorHeading → Phrase
CtorHead class h = Mods of.Ctor h.mods ⨾ (h.name.text ≡ class) ⊢ Spelled k.Name h.name ⨾ Params h.params ⨾ Throws h.throws

-- Mods "void" "main" "(" ["final"] "String" "[" "]" Name ")" [Throws]
abbrev pub MainHead : MainHeading → Phrase
MainHead h =
    Mods of.Main h.mods ⨾ Mark k.Void ⨾ (h.name.text ≡ main_name) ⊢ Spelled k.Name h.name
    ⨾ Mark k.LParen ⨾ Optional (Sign k.Final) h.final_word ⨾ Named string_name ⨾ Mark k.LBracket ⨾ Mark k.RBracket ⨾ Spelled k.Name h.param ⨾ Mark k.RParen
    ⨾ Throws h.throws

-- a heading in the class of this name, or a field whose tokens aren't kept yet
abbrev pub HeadingSpells : List ℕ → Heading → Phrase
HeadingSpells class (heading.Field f) = (f.tokens ≡ []) ⊢ FieldParts f
HeadingSpells class (heading.Method h) = MethodHead h
HeadingSpells class (heading.Ctor h) = CtorHead class h
HeadingSpells class (heading.Main h) = MainHead h

-- the tokens behind a heading begin with a body, if its member has one
abbrev pub BodyFollows : Heading → List Token → Type 0
BodyFollows (heading.Field f) rest = Unit {0}
BodyFollows (heading.Method h) rest = next_kind rest ≡ Some k.LBrace
BodyFollows (heading.Ctor h) rest = next_kind rest ≡ Some k.LBrace
BodyFollows (heading.Main h) rest = next_kind rest ≡ Some k.LBrace

-- Tokens begin with one heading at most that a body follows.
abbrev pub OneHeading : Type 0
OneHeading = (class : List ℕ) (one other : Heading) (ts rest other_rest : List Token) → HeadingSpells class one ts rest → BodyFollows one rest → HeadingSpells class other ts other_rest → BodyFollows other other_rest
    → (one ≡ other) × (rest ≡ other_rest)
