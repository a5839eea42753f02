-- The names of members whose tokens are spelled.
use Rattle.std.proofs.Common.{◌≡◌, ℕ, ◌+◌, ◌<◌, ◌≤◌, ◌^◌, List, [], ◌∷◌, ◌++◌, length, Option, Some, None, ap, subst, arith}
use Rattle.std.specs.List.{AllByRecursion}
use Rattle.java_phrases.specs.Tree.{Kind, Kind as k, Token, Lexeme, Mod, Ty, Ty as type, Param, MemberTree, MemberTree as member, TypeKind, TypeKind as sort}
use Rattle.java_phrases.specs.Common.{Each, Spelled, TySpells}
use Rattle.java_phrases.proofs.Phrases.{Spent}
use Rattle.java_lexer.specs.Lexing.{Spells as TokenSpells, AreSpelled}
use Rattle.java_heads.specs.declared.declaration.Declaration.{Declaration}
use Rattle.java_heads.specs.declared.declaration.Declaration.TheVariants as of
use Rattle.java_heads.specs.Spelling.{Mods, ModSpells, Params, ResultSpells}
use Rattle.java_heads.proofs.Lists.{Spends, spends-mark, spends-sign, spends-spelled, spends-each}
use Rattle.java_heads.proofs.ModifierLaws.{spends-mod}
use Rattle.java_members.specs.Spelling.{tokens_of}
use Rattle.java_reader.specs.Spelling.{TypeMember}
use Rattle.java_reader.specs.Parts.{Inner, Body}
use Rattle.java_reader.proofs.Order.{kept}
use Rattle.java_reader.proofs.Shorter.{part-shorter}
use Rattle.class_faces.specs.Keys.{IsCallable, IsNamed}
use Rattle.read_names.proofs.Bytes.{plain_name, not_new}

-- ---- tokens behind a phrase

behind : (taken rest : List Token) → AreSpelled (taken ++ rest) → AreSpelled rest
behind [] rest s = s
behind (t ∷ taken) rest s = behind taken rest s.1

pub after : (ts rest : List Token) → Spent ts rest → AreSpelled ts → AreSpelled rest
after ts rest (taken, is) s = behind taken rest (subst AreSpelled is s)

pub spends-mods : (of_what : Declaration) (mods : List Mod) → Spends (Mods of_what mods)
spends-mods of_what mods ts rest (fit, s) = spends-each ModSpells spends-mod mods ts rest s

spends-ty : (y : Ty) → Spends (TySpells y)
spends-ty (type.Int at) = spends-sign k.IntType at
spends-ty (type.Boolean at) = spends-sign k.BooleanType at
spends-ty (type.Named name) = spends-spelled k.Name name

spends-result : (y : Option Ty) → Spends (ResultSpells y)
spends-result None = spends-mark k.Void
spends-result (Some y) = spends-ty y

-- ---- names

pub is_name : (w : Lexeme) (ts rest : List Token) → Spelled k.Name w ts rest → AreSpelled ts → TokenSpells k.Name w.text
is_name w ts rest (t, e, kind, is) s =
    let P : Kind → Type 0 = λ x. TokenSpells x t.bytes in
    let Q : List ℕ → Type 0 = λ bytes. TokenSpells k.Name bytes in
    subst Q (ap (λ (v : Lexeme). v.text) is) (subst P kind (subst AreSpelled e s).0)

-- a machine counts so many parameters
few_params : (params : List Param) (ts rest : List Token) → Params params ts rest → length params < 2 ^ 64
few_params params ts rest (few, s) = omega arith

callable : (w : Lexeme) (params : List Param) (ts mid rest : List Token) → Spelled k.Name w ts mid → Params params mid rest → AreSpelled ts → IsCallable w.text (length params)
callable w params ts mid rest word list s =
    let name : TokenSpells k.Name w.text = is_name w ts mid word s in
    record { plain = plain_name w.text name; no_constructor = not_new w.text name; few = few_params params mid rest list }

member_named : (kind : TypeKind) (class : List ℕ) (m : MemberTree) (ts rest : List Token) → TypeMember kind class m ts rest → AreSpelled ts → IsNamed m
member_named sort.Class class (member.Field f) ts rest ((t1, mods, (t2, ty, (t3, word, more))), is) s =
    plain_name f.name.text (is_name f.name t2 t3 word (after t1 t2 (spends-ty f.ty t1 t2 ty) (after ts t1 (spends-mods of.Field f.mods ts t1 mods) s)))
member_named sort.Class class (member.Method m) ts rest ((t1, mods, (t2, given, (t3, word, (t4, params, more)))), is) s =
    callable m.name m.params t2 t3 t4 word params (after t1 t2 (spends-result m.result t1 t2 given) (after ts t1 (spends-mods of.Method m.mods ts t1 mods) s))
member_named sort.Class class (member.Ctor c) ts rest ((t1, mods, (same, (t2, word, (t3, params, more)))), is) s = few_params c.params t2 t3 params
member_named sort.Class class (member.Main m) ts rest p s = tt
member_named sort.Class class (member.Sig m) ts rest (none, is) s = absurd none
member_named sort.Interface class (member.Sig m) ts rest ((t1, mods, (t2, given, (t3, word, (t4, params, more)))), is) s =
    callable m.name m.params t2 t3 t4 word params (after t1 t2 (spends-result m.result t1 t2 given) (after ts t1 (spends-mods of.Sig m.mods ts t1 mods) s))
member_named sort.Interface class _ ts rest none s = absurd none

pub members_named : (kind : TypeKind) (class : List ℕ) (ms : List MemberTree) (ts rest : List Token) → Each (TypeMember kind class) ms ts rest → AreSpelled ts → AllByRecursion IsNamed ms
members_named kind class [] ts rest e s = tt
members_named kind class (m ∷ ms) ts rest (mid, p, each) s =
    (member_named kind class m ts mid p s, members_named kind class ms mid rest each (after ts mid (tokens_of m, kept kind class m ts mid p) s))

-- each member takes a token
pub members_few : (kind : TypeKind) (class : List ℕ) (ms : List MemberTree) (ts rest : List Token) → Each (TypeMember kind class) ms ts rest → length ms + length rest ≤ length ts
members_few kind class [] ts rest e = let same : length ts ≡ length rest = ap length e in omega arith
members_few kind class (m ∷ ms) ts rest (mid, p, each) =
    let one : length mid < length ts = part-shorter (Body kind class) (Inner m) ts mid p in
    let others : length ms + length rest ≤ length mid = members_few kind class ms mid rest each in
    omega arith

pub spends-members : (kind : TypeKind) (class : List ℕ) (ms : List MemberTree) → Spends (Each (TypeMember kind class) ms)
spends-members kind class = spends-each (TypeMember kind class) (λ m ts rest p. (tokens_of m, kept kind class m ts rest p))
