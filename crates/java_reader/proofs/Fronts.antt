-- Which token a part begins with.
use Rattle.std.proofs.Common.{◌≡◌, ℕ, true, false, List, [], ◌∷◌, Option, Some, None, refl, ap, ◌∙◌}
use Rattle.java_phrases.specs.Tree.{Kind, Kind as k, Token, Mod, Mod as modifier, ModWord, ModWord as w, Ty, Ty as type, Sig, MemberTree, MemberTree as member, TypeKind, TypeKind as sort, Package, Import}
use Rattle.java_phrases.specs.Common.{Each, Mark, same_kind, sees, TySpells}
use Rattle.java_phrases.proofs.Phrases.{next-sign, next-mark, next-word}
use Rattle.java_heads.specs.declared.header.Header.{Header}
use Rattle.java_heads.specs.Modifiers.{kind_of}
use Rattle.java_heads.specs.Spelling.{ModSpells, ResultSpells, SigParts, PackageSpells, ImportSpells, HeaderSpells, type_word}
use Rattle.java_heads.proofs.Lists.{sees-kind}
use Rattle.java_members.specs.Spelling.{MemberParts}
use Rattle.java_reader.specs.Spelling.{TypeMember}

-- a kind that no modifier begins with
pub record NoModifier (asked : Kind) : Type 0 where
  pub at : same_kind k.At asked ≡ false
  pub word : (m : ModWord) → same_kind (kind_of m) asked ≡ false

package-word : (m : ModWord) → same_kind (kind_of m) k.Package ≡ false
package-word w.Public = refl
package-word _ = refl

import-word : (m : ModWord) → same_kind (kind_of m) k.Import ≡ false
import-word w.Public = refl
import-word _ = refl

brace-word : (m : ModWord) → same_kind (kind_of m) k.RBrace ≡ false
brace-word w.Public = refl
brace-word _ = refl

package-free : NoModifier k.Package
package-free = record { at = refl; word = package-word }

import-free : NoModifier k.Import
import-free = record { at = refl; word = import-word }

brace-free : NoModifier k.RBrace
brace-free = record { at = refl; word = brace-word }

mod-front : (asked : Kind) → NoModifier asked → (m : Mod) (ts rest : List Token) → ModSpells m ts rest → sees asked ts ≡ false
mod-front asked free (modifier.Annot a) ts rest (depth, (mid, s, tail)) = sees-kind asked k.At ts (next-sign k.At a.layer.at ts mid s) ∙ free.at
mod-front asked free (modifier.Word m p) ts rest s = sees-kind asked (kind_of m) ts (next-sign (kind_of m) p ts rest s) ∙ free.word m

mods-front : (asked : Kind) → NoModifier asked → (mods : List Mod) (ts rest : List Token) → Each ModSpells mods ts rest → sees asked rest ≡ false → sees asked ts ≡ false
mods-front asked free [] ts rest e after = ap (sees asked) e ∙ after
mods-front asked free (m ∷ mods) ts rest (mid, s, each) after = mod-front asked free m ts mid s

-- ---- lines and headers

pub package-front : (p : Package) (ts rest : List Token) → PackageSpells p ts rest → sees k.Package ts ≡ true
package-front p ts rest (mid, s, tail) = sees-kind k.Package k.Package ts (next-mark k.Package ts mid s)

pub import-front : (i : Import) (ts rest : List Token) → ImportSpells i ts rest → (sees k.Package ts ≡ false) × (sees k.Import ts ≡ true)
import-front i ts rest (mid, s, tail) =
    (sees-kind k.Package k.Import ts (next-mark k.Import ts mid s), sees-kind k.Import k.Import ts (next-mark k.Import ts mid s))

type-front : (kind : TypeKind) (ts rest : List Token) → Mark (type_word kind) ts rest → (sees k.Package ts ≡ false) × (sees k.Import ts ≡ false)
type-front sort.Class ts rest s = (sees-kind k.Package k.Class ts (next-mark k.Class ts rest s), sees-kind k.Import k.Class ts (next-mark k.Class ts rest s))
type-front sort.Interface ts rest s = (sees-kind k.Package k.Interface ts (next-mark k.Interface ts rest s), sees-kind k.Import k.Interface ts (next-mark k.Interface ts rest s))

pub header-front : (h : Header) (ts rest : List Token) → HeaderSpells h ts rest → (sees k.Package ts ≡ false) × (sees k.Import ts ≡ false)
header-front h ts rest (mid, ((t1, (fit, mods), (t2, kind, tail)), is), brace) =
    let (a, b) = type-front h.kind t1 t2 kind in
    (mods-front k.Package package-free h.mods ts t1 mods a, mods-front k.Import import-free h.mods ts t1 mods b)

-- ---- members

ty-front : (y : Ty) (ts rest : List Token) → TySpells y ts rest → sees k.RBrace ts ≡ false
ty-front (type.Int at) ts rest s = sees-kind k.RBrace k.IntType ts (next-sign k.IntType at ts rest s)
ty-front (type.Boolean at) ts rest s = sees-kind k.RBrace k.BooleanType ts (next-sign k.BooleanType at ts rest s)
ty-front (type.Named name) ts rest s = sees-kind k.RBrace k.Name ts (next-word k.Name name ts rest s)

result-front : (y : Option Ty) (ts rest : List Token) → ResultSpells y ts rest → sees k.RBrace ts ≡ false
result-front None ts rest s = sees-kind k.RBrace k.Void ts (next-mark k.Void ts rest s)
result-front (Some y) ts rest s = ty-front y ts rest s

class-front : (class : List ℕ) (m : MemberTree) (ts rest : List Token) → MemberParts class m ts rest → sees k.RBrace ts ≡ false
class-front class (member.Field f) ts rest (t1, (fit, mods), (t2, ty, tail)) = mods-front k.RBrace brace-free f.mods ts t1 mods (ty-front f.ty t1 t2 ty)
class-front class (member.Method m) ts rest (t1, (fit, mods), (t2, of_type, tail)) = mods-front k.RBrace brace-free m.mods ts t1 mods (result-front m.result t1 t2 of_type)
class-front class (member.Ctor c) ts rest (t1, (fit, mods), (same, (t2, name, tail))) =
    mods-front k.RBrace brace-free c.mods ts t1 mods (sees-kind k.RBrace k.Name t1 (next-word k.Name c.name t1 t2 name))
class-front class (member.Main m) ts rest (t1, (fit, mods), (t2, void, tail)) =
    mods-front k.RBrace brace-free m.mods ts t1 mods (sees-kind k.RBrace k.Void t1 (next-mark k.Void t1 t2 void))
class-front class (member.Sig s) ts rest none = absurd none

sig-front : (s : Sig) (ts rest : List Token) → SigParts s ts rest → sees k.RBrace ts ≡ false
sig-front s ts rest (t1, (fit, mods), (t2, of_type, tail)) = mods-front k.RBrace brace-free s.mods ts t1 mods (result-front s.result t1 t2 of_type)

interface-front : (name : List ℕ) (m : MemberTree) (ts rest : List Token) → TypeMember sort.Interface name m ts rest → sees k.RBrace ts ≡ false
interface-front name (member.Sig s) ts rest (p, is) = sig-front s ts rest p
interface-front name _ ts rest none = absurd none

pub member-front : (kind : TypeKind) (name : List ℕ) (m : MemberTree) (ts rest : List Token) → TypeMember kind name m ts rest → sees k.RBrace ts ≡ false
member-front sort.Class name m ts rest (p, is) = class-front name m ts rest p
member-front sort.Interface name m ts rest s = interface-front name m ts rest s
