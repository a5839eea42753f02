-- Which tokens spell which member of a class: one definition for each production (JLS 8, 8.4, 8.8,
-- 12.1.4, as far as the subset goes).
use Rattle.std.specs.Prelude.{◌≡◌, ℕ, List}
use Rattle.java_phrases.specs.Tree.{Kind as k, Token, Method, Ctor, Main, MemberTree, MemberTree as member}
use Rattle.java_phrases.specs.Common.{Phrase, ◌⨾◌, ◌⊢◌, Never, Mark, Sign, Spelled, Named, Optional}
use Rattle.java_heads.specs.declared.declaration.Declaration.TheVariants as of
use Rattle.java_heads.specs.Spelling.{Kept, Mods, Params, Throws, ResultSpells, FieldParts, string_name}
use Rattle.java_heads.specs.Headings.{main_name}
use Rattle.java_statements.specs.Spelling.{BlockSpells}

-- Method = Mods (Ty | "void") Name Params [Throws] Block
abbrev pub MethodParts : Method → Phrase
MethodParts m = Mods of.Method m.mods ⨾ ResultSpells m.result ⨾ Spelled k.Name m.name ⨾ Params m.params ⨾ Throws m.throws ⨾ BlockSpells 64 m.body

-- Ctor = Mods Name Params [Throws] Block, where the name is the class's
abbrev pub CtorParts : List ℕ → Ctor → Phrase
CtorParts class c = Mods of.Ctor c.mods ⨾ (c.name.text ≡ class) ⊢ Spelled k.Name c.name ⨾ Params c.params ⨾ Throws c.throws ⨾ BlockSpells 64 c.body

-- Main = Mods "void" "main" "(" ["final"] "String" "[" "]" Name ")" [Throws] Block
abbrev pub MainParts : Main → Phrase
MainParts m =
    Mods of.Main m.mods ⨾ Mark k.Void ⨾ (m.name.text ≡ main_name) ⊢ Spelled k.Name m.name
    ⨾ Mark k.LParen ⨾ Optional (Sign k.Final) m.final_word ⨾ Named string_name ⨾ Mark k.LBracket ⨾ Mark k.RBracket ⨾ Spelled k.Name m.param ⨾ Mark k.RParen
    ⨾ Throws m.throws ⨾ BlockSpells 64 m.body

-- Field | Method | Ctor | Main
abbrev pub MemberParts : List ℕ → MemberTree → Phrase
MemberParts class (member.Field f) = FieldParts f
MemberParts class (member.Method m) = MethodParts m
MemberParts class (member.Ctor c) = CtorParts class c
MemberParts class (member.Main m) = MainParts m
MemberParts class (member.Sig s) = Never

abbrev pub tokens_of : MemberTree → List Token
tokens_of (member.Field f) = f.tokens
tokens_of (member.Method m) = m.tokens
tokens_of (member.Ctor c) = c.tokens
tokens_of (member.Main m) = m.tokens
tokens_of (member.Sig s) = s.tokens

-- A member of the class of this name, with its tokens. At most 64 nodes of its body are on a path.
abbrev pub MemberSpells : List ℕ → MemberTree → Phrase
MemberSpells class m = Kept (tokens_of m) (MemberParts class m)
