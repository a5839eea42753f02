-- Which tokens spell which file: one definition for each production (JLS 8, 7.3, 8.1.6, 9.1.4, as far as
-- the subset goes).
use Rattle.std.specs.Prelude.{ℕ, List, [], Option, Some, None}
use Rattle.java_phrases.specs.Tree.{Kind as k, Token, MemberTree, MemberTree as member, TypeKind, TypeKind as sort, Package, ClassTree, FileTree}
use Rattle.java_phrases.specs.Common.{Phrase, Nothing, ◌⨾◌, Never, Mark, Each}
use Rattle.java_heads.specs.declared.header.Header.{Header}
use Rattle.java_heads.specs.Spelling.{PackageSpells, ImportSpells, HeaderSpells, SigSpells}
use Rattle.java_members.specs.Spelling.{MemberSpells}

-- Sig, a member of an interface
abbrev pub SigMember : MemberTree → Phrase
SigMember (member.Sig s) = SigSpells s
SigMember (member.Field f) = Never
SigMember (member.Method m) = Never
SigMember (member.Ctor c) = Never
SigMember (member.Main m) = Never

-- a member of the class or interface of this name: Field | Method | Ctor | Main, or Sig
abbrev pub TypeMember : TypeKind → List ℕ → MemberTree → Phrase
TypeMember sort.Class name m = MemberSpells name m
TypeMember sort.Interface name m = SigMember m

-- what stands before the members of a type
abbrev pub header_of : ClassTree → Header
header_of c = record { mods = c.mods; kind = c.kind; name = c.name; implements = c.implements; tokens = c.tokens }

-- Class = header "{" {Field | Method | Ctor | Main} "}", Interface = header "{" {Sig} "}"
abbrev pub TypeSpells : ClassTree → Phrase
TypeSpells c = HeaderSpells (header_of c) ⨾ Each (TypeMember c.kind c.name.text) c.members ⨾ Mark k.RBrace

-- [Package]
abbrev pub PackagePart : Option Package → Phrase
PackagePart None = Nothing
PackagePart (Some p) = PackageSpells p

-- File = [Package] {Import} {Class | Interface}
abbrev pub FileSpells : FileTree → Phrase
FileSpells file = PackagePart file.«package» ⨾ Each ImportSpells file.imports ⨾ Each TypeSpells file.types

-- the tokens are those of the file, and no more
abbrev pub Spells : List Token → FileTree → Type 0
Spells tokens file = FileSpells file tokens []
