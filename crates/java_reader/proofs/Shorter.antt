-- Each part of a file takes a token at least.
use Rattle.std.proofs.Common.{◌≡◌, ℕ, ◌<◌, ◌≤◌, List, [], ◌∷◌, suc, length, Option, Some, None, arith}
use Rattle.java_phrases.specs.Tree.{Span, Kind, Kind as k, Token, Lexeme, Block, Mod, Ty, Ty as type, Init, Init as init, Param, Sig, MemberTree, MemberTree as member, TypeKind, TypeKind as sort, Package, Import}
use Rattle.java_phrases.specs.Common.{Phrase, ◌⨾◌, Mark, Sign, Spelled, Each, Separated, Named, Optional, TySpells}
use Rattle.java_phrases.proofs.Phrases.{Spent, spent-nothing, spent-one, not_longer}
use Rattle.java_heads.specs.declared.declaration.Declaration.{Declaration}
use Rattle.java_heads.specs.declared.declaration.Declaration.TheVariants as of
use Rattle.java_heads.specs.declared.header.Header.{Header}
use Rattle.java_heads.specs.Annotation.{Qualified}
use Rattle.java_heads.specs.Spelling.{Mods, ModSpells, ParamSpells, Params, Throws, ResultSpells, InitSpells, InitPart, SigParts, Star, PackageSpells, ImportSpells, HeaderSpells, object_name, string_name}
use Rattle.java_heads.proofs.Lists.{Spends, spends-mark, spends-sign, spends-spelled, spends-then, spends-each, spends-joined, mark-shorter}
use Rattle.java_heads.proofs.NameLaws.{spends-qualified}
use Rattle.java_heads.proofs.ModifierLaws.{spends-mod}
use Rattle.java_statements.specs.Spelling.{BlockSpells}
use Rattle.java_statements.proofs.Sound.{sound}
use Rattle.java_statements.proofs.Complete.{complete}
use Rattle.java_members.specs.Spelling.{MemberParts}
use Rattle.java_reader.specs.Spelling.{TypeMember}
use Rattle.java_reader.specs.Parts.{Part, PackageLine, ImportLine, Opening, Inner, Closing, Stage, Start, Lines, Types, Body, MemberAt, PartSpells}

-- ---- phrases that take no token twice

spends-mods : (of_what : Declaration) (mods : List Mod) → Spends (Mods of_what mods)
spends-mods of_what mods ts rest (fit, s) = spends-each ModSpells spends-mod mods ts rest s

spends-ty : (y : Ty) → Spends (TySpells y)
spends-ty (type.Int at) = spends-sign k.IntType at
spends-ty (type.Boolean at) = spends-sign k.BooleanType at
spends-ty (type.Named name) = spends-spelled k.Name name

spends-result : (y : Option Ty) → Spends (ResultSpells y)
spends-result None = spends-mark k.Void
spends-result (Some y) = spends-ty y

spends-param : (p : Param) → Spends (ParamSpells p)
spends-param p =
    spends-then (Mods of.Param p.mods) (TySpells p.ty ⨾ Spelled k.Name p.name) (spends-mods of.Param p.mods)
    (spends-then (TySpells p.ty) (Spelled k.Name p.name) (spends-ty p.ty) (spends-spelled k.Name p.name))

spends-separated : (params : List Param) → Spends (Separated ParamSpells params)
spends-separated [] ts rest s = spent-nothing ts rest s
spends-separated (p ∷ params) ts rest s =
    spends-then (ParamSpells p) (Each (λ y. Mark k.Comma ⨾ ParamSpells y) params) (spends-param p)
    (spends-each (λ y. Mark k.Comma ⨾ ParamSpells y) (λ y. spends-then (Mark k.Comma) (ParamSpells y) (spends-mark k.Comma) (spends-param y)) params) ts rest s

spends-params : (params : List Param) → Spends (Params params)
spends-params params ts rest (few, s) =
    spends-then (Mark k.LParen) (Separated ParamSpells params ⨾ Mark k.RParen) (spends-mark k.LParen)
    (spends-then (Separated ParamSpells params) (Mark k.RParen) (spends-separated params) (spends-mark k.RParen)) ts rest s

spends-throws : (names : List (List Lexeme)) → Spends (Throws names)
spends-throws [] ts rest s = spent-nothing ts rest s
spends-throws (name ∷ names) ts rest (mid, s, s1) =
    spends-then (Mark k.Throws) (λ a b. Spent a b) (spends-mark k.Throws) (λ a b taken. taken) ts rest (mid, s, spends-joined k.Comma Qualified spends-qualified (name ∷ names) mid rest s1)

spends-name_is : (name : List ℕ) → Spends (Named name)
spends-name_is name ts rest (t, e, kind, is) = spent-one t ts rest e

spends-perhaps : (kind : Kind) (at : Option Span) → Spends (Optional (Sign kind) at)
spends-perhaps kind None ts rest s = spent-nothing ts rest s
spends-perhaps kind (Some at) ts rest s = spends-sign kind at ts rest s

spends-init : (v : Init) → Spends (InitSpells v)
spends-init (init.Int word) ts rest (other, s) = spends-spelled k.IntLiteral word ts rest s
spends-init (init.MinusInt at word) ts rest s = spends-then (Sign k.Minus at) (Spelled k.IntLiteral word) (spends-sign k.Minus at) (spends-spelled k.IntLiteral word) ts rest s
spends-init (init.True at) ts rest s = spends-sign k.True at ts rest s
spends-init (init.False at) ts rest s = spends-sign k.False at ts rest s
spends-init (init.Null at) ts rest s = spends-sign k.Null at ts rest s
spends-init (init.Str word) ts rest s = spends-spelled k.StrLiteral word ts rest s
spends-init (init.NewObject at) ts rest s =
    spends-then (Sign k.New at) (Named object_name ⨾ Mark k.LParen ⨾ Mark k.RParen) (spends-sign k.New at)
    (spends-then (Named object_name) (Mark k.LParen ⨾ Mark k.RParen) (spends-name_is object_name)
    (spends-then (Mark k.LParen) (Mark k.RParen) (spends-mark k.LParen) (spends-mark k.RParen))) ts rest s

spends-value : (v : Option Init) → Spends (InitPart v)
spends-value None ts rest s = spent-nothing ts rest s
spends-value (Some v) ts rest s = spends-then (Mark k.Assign) (InitSpells v) (spends-mark k.Assign) (spends-init v) ts rest s

spends-star : (star : Option Span) → Spends (Star star)
spends-star None ts rest s = spent-nothing ts rest s
spends-star (Some at) ts rest s = spends-then (Mark k.Dot) (Sign k.Times at) (spends-mark k.Dot) (spends-sign k.Times at) ts rest s

-- ---- phrases that take a token

abbrev Shortens : Phrase → Type 0
Shortens P = (ts rest : List Token) → P ts rest → length rest < length ts

by-last : (P Q : Phrase) → Spends P → Shortens Q → Shortens (P ⨾ Q)
by-last P Q p q ts rest (mid, s, s1) =
    let a : length mid ≤ length ts = not_longer ts mid (p ts mid s) in
    let b : length rest < length mid = q mid rest s1 in
    omega arith

by-first : (P Q : Phrase) → Shortens P → Spends Q → Shortens (P ⨾ Q)
by-first P Q p q ts rest (mid, s, s1) =
    let a : length mid < length ts = p ts mid s in
    let b : length rest ≤ length mid = not_longer mid rest (q mid rest s1) in
    omega arith

by-mark : (kind : Kind) → Shortens (Mark kind)
by-mark kind ts rest s = let a : length ts ≡ suc (length rest) = mark-shorter kind ts rest s in omega arith

by-block : (b : Block) → Shortens (BlockSpells 64 b)
by-block b ts rest s = ((sound 64).1 ts rest b ((complete 64).1 b ts rest s)).1

by-body : (throws : List (List Lexeme)) (b : Block) → Shortens (Throws throws ⨾ BlockSpells 64 b)
by-body throws b = by-last (Throws throws) (BlockSpells 64 b) (spends-throws throws) (by-block b)

by-call : (params : List Param) (throws : List (List Lexeme)) (b : Block) → Shortens (Params params ⨾ Throws throws ⨾ BlockSpells 64 b)
by-call params throws b = by-last (Params params) (Throws throws ⨾ BlockSpells 64 b) (spends-params params) (by-body throws b)

by-class : (class : List ℕ) (m : MemberTree) → Shortens (MemberParts class m)
by-class class (member.Field f) ts rest s =
    by-last (Mods of.Field f.mods) (TySpells f.ty ⨾ Spelled k.Name f.name ⨾ InitPart f.init ⨾ Mark k.Semicolon) (spends-mods of.Field f.mods)
    (by-last (TySpells f.ty) (Spelled k.Name f.name ⨾ InitPart f.init ⨾ Mark k.Semicolon) (spends-ty f.ty)
    (by-last (Spelled k.Name f.name) (InitPart f.init ⨾ Mark k.Semicolon) (spends-spelled k.Name f.name)
    (by-last (InitPart f.init) (Mark k.Semicolon) (spends-value f.init) (by-mark k.Semicolon)))) ts rest s
by-class class (member.Method m) ts rest s =
    by-last (Mods of.Method m.mods) (ResultSpells m.result ⨾ Spelled k.Name m.name ⨾ Params m.params ⨾ Throws m.throws ⨾ BlockSpells 64 m.body) (spends-mods of.Method m.mods)
    (by-last (ResultSpells m.result) (Spelled k.Name m.name ⨾ Params m.params ⨾ Throws m.throws ⨾ BlockSpells 64 m.body) (spends-result m.result)
    (by-last (Spelled k.Name m.name) (Params m.params ⨾ Throws m.throws ⨾ BlockSpells 64 m.body) (spends-spelled k.Name m.name) (by-call m.params m.throws m.body))) ts rest s
by-class class (member.Ctor c) ts rest (t1, mods, (same, s)) =
    by-last (Mods of.Ctor c.mods) (Spelled k.Name c.name ⨾ Params c.params ⨾ Throws c.throws ⨾ BlockSpells 64 c.body) (spends-mods of.Ctor c.mods)
    (by-last (Spelled k.Name c.name) (Params c.params ⨾ Throws c.throws ⨾ BlockSpells 64 c.body) (spends-spelled k.Name c.name) (by-call c.params c.throws c.body)) ts rest (t1, mods, s)
by-class class (member.Main m) ts rest (t1, mods, (t2, void, (same, s))) =
    by-last (Mods of.Main m.mods) (Mark k.Void ⨾ Spelled k.Name m.name ⨾ Mark k.LParen ⨾ Optional (Sign k.Final) m.final_word ⨾ Named string_name ⨾ Mark k.LBracket ⨾ Mark k.RBracket ⨾ Spelled k.Name m.param ⨾ Mark k.RParen ⨾ Throws m.throws ⨾ BlockSpells 64 m.body) (spends-mods of.Main m.mods)
    (by-last (Mark k.Void) (Spelled k.Name m.name ⨾ Mark k.LParen ⨾ Optional (Sign k.Final) m.final_word ⨾ Named string_name ⨾ Mark k.LBracket ⨾ Mark k.RBracket ⨾ Spelled k.Name m.param ⨾ Mark k.RParen ⨾ Throws m.throws ⨾ BlockSpells 64 m.body) (spends-mark k.Void)
    (by-last (Spelled k.Name m.name) (Mark k.LParen ⨾ Optional (Sign k.Final) m.final_word ⨾ Named string_name ⨾ Mark k.LBracket ⨾ Mark k.RBracket ⨾ Spelled k.Name m.param ⨾ Mark k.RParen ⨾ Throws m.throws ⨾ BlockSpells 64 m.body) (spends-spelled k.Name m.name)
    (by-last (Mark k.LParen) (Optional (Sign k.Final) m.final_word ⨾ Named string_name ⨾ Mark k.LBracket ⨾ Mark k.RBracket ⨾ Spelled k.Name m.param ⨾ Mark k.RParen ⨾ Throws m.throws ⨾ BlockSpells 64 m.body) (spends-mark k.LParen)
    (by-last (Optional (Sign k.Final) m.final_word) (Named string_name ⨾ Mark k.LBracket ⨾ Mark k.RBracket ⨾ Spelled k.Name m.param ⨾ Mark k.RParen ⨾ Throws m.throws ⨾ BlockSpells 64 m.body) (spends-perhaps k.Final m.final_word)
    (by-last (Named string_name) (Mark k.LBracket ⨾ Mark k.RBracket ⨾ Spelled k.Name m.param ⨾ Mark k.RParen ⨾ Throws m.throws ⨾ BlockSpells 64 m.body) (spends-name_is string_name)
    (by-last (Mark k.LBracket) (Mark k.RBracket ⨾ Spelled k.Name m.param ⨾ Mark k.RParen ⨾ Throws m.throws ⨾ BlockSpells 64 m.body) (spends-mark k.LBracket)
    (by-last (Mark k.RBracket) (Spelled k.Name m.param ⨾ Mark k.RParen ⨾ Throws m.throws ⨾ BlockSpells 64 m.body) (spends-mark k.RBracket)
    (by-last (Spelled k.Name m.param) (Mark k.RParen ⨾ Throws m.throws ⨾ BlockSpells 64 m.body) (spends-spelled k.Name m.param)
    (by-last (Mark k.RParen) (Throws m.throws ⨾ BlockSpells 64 m.body) (spends-mark k.RParen) (by-body m.throws m.body)))))))))) ts rest (t1, mods, (t2, void, s))
by-class class (member.Sig s) ts rest none = absurd none

by-sig : (s : Sig) → Shortens (SigParts s)
by-sig s =
    by-last (Mods of.Sig s.mods) (ResultSpells s.result ⨾ Spelled k.Name s.name ⨾ Params s.params ⨾ Throws s.throws ⨾ Mark k.Semicolon) (spends-mods of.Sig s.mods)
    (by-last (ResultSpells s.result) (Spelled k.Name s.name ⨾ Params s.params ⨾ Throws s.throws ⨾ Mark k.Semicolon) (spends-result s.result)
    (by-last (Spelled k.Name s.name) (Params s.params ⨾ Throws s.throws ⨾ Mark k.Semicolon) (spends-spelled k.Name s.name)
    (by-last (Params s.params) (Throws s.throws ⨾ Mark k.Semicolon) (spends-params s.params)
    (by-last (Throws s.throws) (Mark k.Semicolon) (spends-throws s.throws) (by-mark k.Semicolon)))))

by-member : (kind : TypeKind) (name : List ℕ) (m : MemberTree) → Shortens (TypeMember kind name m)
by-member sort.Class name m ts rest (s, is) = by-class name m ts rest s
by-member sort.Interface name (member.Sig s) ts rest (p, is) = by-sig s ts rest p
by-member sort.Interface name _ ts rest none = absurd none

spends-name-end : (name : List Lexeme) → Spends (Qualified name ⨾ Mark k.Semicolon)
spends-name-end name = spends-then (Qualified name) (Mark k.Semicolon) (spends-qualified name) (spends-mark k.Semicolon)

spends-import-end : (i : Import) → Spends (Optional (Sign k.Static) i.static_word ⨾ Qualified i.name ⨾ Star i.star ⨾ Mark k.Semicolon)
spends-import-end i =
    spends-then (Optional (Sign k.Static) i.static_word) (Qualified i.name ⨾ Star i.star ⨾ Mark k.Semicolon) (spends-perhaps k.Static i.static_word)
    (spends-then (Qualified i.name) (Star i.star ⨾ Mark k.Semicolon) (spends-qualified i.name)
    (spends-then (Star i.star) (Mark k.Semicolon) (spends-star i.star) (spends-mark k.Semicolon)))

pub spends-package : (p : Package) → Spends (PackageSpells p)
spends-package p = spends-then (Mark k.Package) (Qualified p.name ⨾ Mark k.Semicolon) (spends-mark k.Package) (spends-name-end p.name)

pub spends-import : (i : Import) → Spends (ImportSpells i)
spends-import i = spends-then (Mark k.Import) (Optional (Sign k.Static) i.static_word ⨾ Qualified i.name ⨾ Star i.star ⨾ Mark k.Semicolon) (spends-mark k.Import) (spends-import-end i)

by-package : (p : Package) → Shortens (PackageSpells p)
by-package p = by-first (Mark k.Package) (Qualified p.name ⨾ Mark k.Semicolon) (by-mark k.Package) (spends-name-end p.name)

by-import : (i : Import) → Shortens (ImportSpells i)
by-import i = by-first (Mark k.Import) (Optional (Sign k.Static) i.static_word ⨾ Qualified i.name ⨾ Star i.star ⨾ Mark k.Semicolon) (by-mark k.Import) (spends-import-end i)

by-header : (h : Header) → Shortens (HeaderSpells h)
by-header h ts rest (mid, (s, is), brace) =
    let a : length mid ≤ length ts = not_longer ts mid (h.tokens, is) in
    let b : length mid ≡ suc (length rest) = mark-shorter k.LBrace mid rest brace in
    omega arith

by-inner : (stage : Stage) (m : MemberTree) → Shortens (MemberAt stage m)
by-inner Start m ts rest none = absurd none
by-inner Lines m ts rest none = absurd none
by-inner Types m ts rest none = absurd none
by-inner (Body kind name) m ts rest s = by-member kind name m ts rest s

pub part-shorter : (stage : Stage) (part : Part) (ts rest : List Token) → PartSpells stage part ts rest → length rest < length ts
part-shorter stage (PackageLine p) ts rest (ok, s) = by-package p ts rest s
part-shorter stage (ImportLine i) ts rest (ok, s) = by-import i ts rest s
part-shorter stage (Opening h) ts rest (ok, s) = by-header h ts rest s
part-shorter stage (Inner m) ts rest s = by-inner stage m ts rest s
part-shorter stage Closing ts rest (ok, s) = by-mark k.RBrace ts rest s
