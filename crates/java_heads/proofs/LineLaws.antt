-- What reads as a line or a header is spelled as one, and the reverse.
use Rattle.std.proofs.Common.{◌≡◌, ℕ, Bool, true, false, cond, not, ◌&&◌, List, [], ◌∷◌, Option, Some, None, refl, ap, sym, subst}
use Rattle.std.specs.Str.{bytes_eq}
use Rattle.java_phrases.specs.Tree.{Span, Kind, Kind as k, Token, Lexeme, Mod, Package, Import, TypeKind, TypeKind as sort}
use Rattle.java_phrases.specs.Common.{Mark, Sign, Spelled, Each, Optional, Found, ◌>>=◌, pure, fail, next_kind, kind_at, sees, sign, word, thread_name}
use Rattle.java_phrases.proofs.Phrases.{and_then-some, pure-is, is_same, sign-sound, sign-complete, word-sound, word-complete, next-sign, next-mark}
use Rattle.java_heads.specs.declared.header.Header.{Header}
use Rattle.java_heads.specs.Annotation.{Joined}
use Rattle.java_heads.specs.Spelling.{ModSpells, PackageSpells, Star, ImportSpells, declared_as, type_word, Implements, IsFreeName, object_name, string_name, runnable_name, HeaderParts}
use Rattle.java_heads.specs.Reading.{goes_on, qualified, all_modifiers, fits, package_line, perhaps_by, perhaps, star_by, star, import_line, type_kind_by, type_kind, is_free, type_name, some_interfaces, interfaces_by, class_interfaces, interfaces, header_of, type_header}
use Rattle.java_heads.proofs.Lists.{spends-spelled, mark-sound, mark-complete, sees-kind, joined-sound, joined-complete}
use Rattle.java_heads.proofs.NameLaws.{qualified-sound, qualified-complete, qualified-first, goes_off}
use Rattle.java_heads.proofs.ModifierLaws.{after-mods, all_modifiers-sound, all_modifiers-complete, fits-sound, fits-complete, AfterMods}
use Rattle.java_heads.proofs.MemberLaws.{not_bytes, other_bytes}

-- ---- the package line

pub package-sound : (ts rest : List Token) (p : Package) → package_line ts ≡ Found p rest → PackageSpells p ts rest
unfolding package_line
package-sound ts rest p e =
    let (at, t1, is1, e1) = and_then-some (sign k.Package ts) _ p rest e in
    let (name, t2, is2, e2) = and_then-some (qualified t1) _ p rest e1 in
    let (end, t3, is3, e3) = and_then-some (sign k.Semicolon t2) _ p rest e2 in
    pure-is (λ p r. PackageSpells p ts r) (record { name = name }) p t3 rest e3 (t1, mark-sound k.Package ts t1 at is1, (t2, qualified-sound t1 t2 name is2, mark-sound k.Semicolon t2 t3 end is3))

pub package-complete : (p : Package) (ts rest : List Token) → PackageSpells p ts rest → package_line ts ≡ Found p rest
unfolding package_line
package-complete p ts rest (t1, s1, (t2, s2, s3)) =
    let (at, is1) = mark-complete k.Package ts t1 s1 in
    let (end, is3) = mark-complete k.Semicolon t2 rest s3 in
    rw (is1, qualified-complete p.name t1 t2 s2 (goes_off k.Semicolon t2 (next-mark k.Semicolon t2 rest s3) refl), is3) refl

-- ---- import lines

perhaps_by-sound : (b : Bool) (kind : Kind) (ts rest : List Token) (y : Option Span) → perhaps_by kind b ts ≡ Found y rest → Optional (Sign kind) y ts rest
perhaps_by-sound true kind ts rest y e =
    let (at, mid, is, e1) = and_then-some (sign kind ts) _ y rest e in
    pure-is (λ y r. Optional (Sign kind) y ts r) (Some at) y mid rest e1 (sign-sound kind ts mid at is)
perhaps_by-sound false kind ts rest y e = pure-is (λ y r. Optional (Sign kind) y ts r) None y ts rest e refl

pub perhaps-sound : (kind : Kind) (ts rest : List Token) (y : Option Span) → perhaps kind ts ≡ Found y rest → Optional (Sign kind) y ts rest
unfolding perhaps
perhaps-sound kind ts rest y e = perhaps_by-sound (sees kind ts) kind ts rest y e

pub perhaps-complete : (kind : Kind) (y : Option Span) (ts rest : List Token) → Optional (Sign kind) y ts rest → sees kind rest ≡ false → perhaps kind ts ≡ Found y rest
unfolding perhaps
perhaps-complete kind None ts rest s off = let P : List Token → Type 0 = λ l. perhaps kind l ≡ Found None rest in subst P (sym s) (rw off refl)
perhaps-complete kind (Some at) ts rest s off = rw (sees-kind kind kind ts (next-sign kind at ts rest s), is_same kind kind refl, sign-complete kind ts rest at s) refl

star_by-sound : (b : Bool) (ts rest : List Token) (y : Option Span) → star_by b ts ≡ Found y rest → Star y ts rest
star_by-sound true ts rest y e =
    let (dot, t1, is1, e1) = and_then-some (sign k.Dot ts) _ y rest e in
    let (at, t2, is2, e2) = and_then-some (sign k.Times t1) _ y rest e1 in
    pure-is (λ y r. Star y ts r) (Some at) y t2 rest e2 (t1, mark-sound k.Dot ts t1 dot is1, sign-sound k.Times t1 t2 at is2)
star_by-sound false ts rest y e = pure-is (λ y r. Star y ts r) None y ts rest e refl

star-sound : (ts rest : List Token) (y : Option Span) → star ts ≡ Found y rest → Star y ts rest
unfolding star
star-sound ts rest y e = star_by-sound (sees k.Dot ts) ts rest y e

star-complete : (y : Option Span) (ts rest : List Token) → Star y ts rest → sees k.Dot rest ≡ false → star ts ≡ Found y rest
unfolding star
star-complete None ts rest s off = let P : List Token → Type 0 = λ l. star l ≡ Found None rest in subst P (sym s) (rw off refl)
star-complete (Some at) ts rest (t1, s1, s2) off =
    let (dot, is) = mark-complete k.Dot ts t1 s1 in
    rw (sees-kind k.Dot k.Dot ts (next-mark k.Dot ts t1 s1), is, sign-complete k.Times t1 rest at s2) refl

-- a name doesn't go on before a star
star-ends : (y : Option Span) (ts mid rest : List Token) → Star y ts mid → Mark k.Semicolon mid rest → goes_on ts ≡ false
unfolding goes_on kind_at
star-ends None ts mid rest s s1 = let P : List Token → Type 0 = λ l. goes_on l ≡ false in subst P (sym s) (goes_off k.Semicolon mid (next-mark k.Semicolon mid rest s1) refl)
star-ends (Some at) ts mid rest (t1, (t, e, is), (u, f, was, stands)) s1 = rw (sees-kind k.Dot k.Dot ts (next-mark k.Dot ts t1 (t, e, is)), e, f, was) refl

pub import-sound : (ts rest : List Token) (i : Import) → import_line ts ≡ Found i rest → ImportSpells i ts rest
unfolding import_line
import-sound ts rest i e =
    let (at, t1, is1, e1) = and_then-some (sign k.Import ts) _ i rest e in
    let (static_word, t2, is2, e2) = and_then-some (perhaps k.Static t1) _ i rest e1 in
    let (name, t3, is3, e3) = and_then-some (qualified t2) _ i rest e2 in
    let (all, t4, is4, e4) = and_then-some (star t3) _ i rest e3 in
    let (end, t5, is5, e5) = and_then-some (sign k.Semicolon t4) _ i rest e4 in
    pure-is (λ i r. ImportSpells i ts r) (record { static_word = static_word; name = name; star = all }) i t5 rest e5
    (t1, mark-sound k.Import ts t1 at is1, (t2, perhaps-sound k.Static t1 t2 static_word is2, (t3, qualified-sound t2 t3 name is3, (t4, star-sound t3 t4 all is4, mark-sound k.Semicolon t4 t5 end is5))))

pub import-complete : (i : Import) (ts rest : List Token) → ImportSpells i ts rest → import_line ts ≡ Found i rest
unfolding import_line
import-complete i ts rest (t1, s1, (t2, s2, (t3, s3, (t4, s4, s5)))) =
    let (at, is1) = mark-complete k.Import ts t1 s1 in
    let (end, is5) = mark-complete k.Semicolon t4 rest s5 in
    rw (
      is1,
      perhaps-complete k.Static i.static_word t1 t2 s2 (sees-kind k.Static k.Name t2 (qualified-first i.name t2 t3 s3)),
      qualified-complete i.name t2 t3 s3 (star-ends i.star t3 t4 rest s4 s5),
      star-complete i.star t3 t4 s4 (sees-kind k.Dot k.Semicolon t4 (next-mark k.Semicolon t4 rest s5)),
      is5,
    ) refl

-- ---- headers

type_kind_by-sound : (next : Option Kind) (ts rest : List Token) (y : TypeKind) → type_kind_by next ts ≡ Found y rest → Mark (type_word y) ts rest
type_kind_by-sound (Some k.Class) ts rest y e =
    let (at, mid, is, e1) = and_then-some (sign k.Class ts) _ y rest e in
    pure-is (λ y r. Mark (type_word y) ts r) sort.Class y mid rest e1 (mark-sound k.Class ts mid at is)
type_kind_by-sound (Some k.Interface) ts rest y e =
    let (at, mid, is, e1) = and_then-some (sign k.Interface ts) _ y rest e in
    pure-is (λ y r. Mark (type_word y) ts r) sort.Interface y mid rest e1 (mark-sound k.Interface ts mid at is)
type_kind_by-sound _ ts rest y e = cc

type_kind-sound : (ts rest : List Token) (y : TypeKind) → type_kind ts ≡ Found y rest → Mark (type_word y) ts rest
unfolding type_kind
type_kind-sound ts rest y e = type_kind_by-sound (next_kind ts) ts rest y e

type_kind-complete : (y : TypeKind) (ts rest : List Token) → Mark (type_word y) ts rest → type_kind ts ≡ Found y rest
unfolding type_kind
type_kind-complete sort.Class ts rest s = let (at, is) = mark-complete k.Class ts rest s in rw (next-mark k.Class ts rest s, is) refl
type_kind-complete sort.Interface ts rest s = let (at, is) = mark-complete k.Interface ts rest s in rw (next-mark k.Interface ts rest s, is) refl

kind-follows : (y : TypeKind) (ts rest : List Token) → Mark (type_word y) ts rest → AfterMods ts
kind-follows sort.Class ts rest s = after-mods k.Class ts (next-mark k.Class ts rest s) refl refl refl refl refl
kind-follows sort.Interface ts rest s = after-mods k.Interface ts (next-mark k.Interface ts rest s) refl refl refl refl refl

not_on : (a b : Bool) → (not a && b) ≡ true → (a ≡ false) × (b ≡ true)
not_on true b e = cc
not_on false b e = (refl, e)

not_off : (a : Bool) → not a ≡ true → a ≡ false
not_off true e = cc
not_off false e = refl

free-sound : (name : List ℕ) → is_free name ≡ true → IsFreeName name
unfolding is_free
free-sound name e =
    let (a, e1) = not_on (bytes_eq name object_name) _ e in
    let (b, e2) = not_on (bytes_eq name string_name) _ e1 in
    let (d, e3) = not_on (bytes_eq name runnable_name) _ e2 in
    let f = not_off (bytes_eq name thread_name) e3 in
    record { no_object = not_bytes name object_name a; no_string = not_bytes name string_name b; no_runnable = not_bytes name runnable_name d; no_thread = not_bytes name thread_name f }

free-complete : (name : List ℕ) → IsFreeName name → is_free name ≡ true
unfolding is_free
free-complete name free =
    rw (other_bytes name object_name free.no_object, other_bytes name string_name free.no_string, other_bytes name runnable_name free.no_runnable, other_bytes name thread_name free.no_thread) refl

type_name_by : (w v : Lexeme) (ts mid rest : List Token) (b : Bool) → Spelled k.Name w ts mid → is_free w.text ≡ b → cond b (pure w) fail mid ≡ Found v rest → IsFreeName v.text × Spelled k.Name v ts rest
type_name_by w v ts mid rest true s is e = pure-is (λ v r. IsFreeName v.text × Spelled k.Name v ts r) w v mid rest e (free-sound w.text is, s)
type_name_by w v ts mid rest false s is e = cc

type_name-sound : (ts rest : List Token) (v : Lexeme) → type_name ts ≡ Found v rest → IsFreeName v.text × Spelled k.Name v ts rest
unfolding type_name
type_name-sound ts rest v e =
    let (w, mid, is, e1) = and_then-some (word k.Name ts) _ v rest e in
    type_name_by w v ts mid rest (is_free w.text) (word-sound k.Name ts mid w is) refl e1

type_name-complete : (v : Lexeme) (ts rest : List Token) → IsFreeName v.text → Spelled k.Name v ts rest → type_name ts ≡ Found v rest
unfolding type_name
type_name-complete v ts rest free s = rw (word-complete k.Name ts rest v s, free-complete v.text free) refl

as-implements : (y : List Lexeme) (ts mid rest : List Token) → Mark k.Implements ts mid → Joined k.Comma (Spelled k.Name) y mid rest → Implements sort.Class y ts rest
as-implements [] ts mid rest s1 s = absurd s
as-implements (name ∷ names) ts mid rest s1 s = (mid, s1, s)

interfaces_by-sound : (b : Bool) (ts rest : List Token) (y : List Lexeme) → interfaces_by b ts ≡ Found y rest → Implements sort.Class y ts rest
unfolding some_interfaces
interfaces_by-sound true ts rest y e =
    let (at, t1, is1, e1) = and_then-some (sign k.Implements ts) _ y rest e in
    let (name, t2, is2, e2) = and_then-some (word k.Name t1) _ y rest e1 in
    as-implements y ts t1 rest (mark-sound k.Implements ts t1 at is1) (joined-sound (Spelled k.Name) (word k.Name) (word-sound k.Name) (sees k.Comma) k.Comma name t1 t2 rest y (word-sound k.Name t1 t2 name is2) e2).0
interfaces_by-sound false ts rest y e = pure-is (λ y r. Implements sort.Class y ts r) [] y ts rest e refl

interfaces-sound : (kind : TypeKind) (ts rest : List Token) (y : List Lexeme) → interfaces kind ts ≡ Found y rest → Implements kind y ts rest
unfolding class_interfaces
interfaces-sound sort.Class ts rest y e = interfaces_by-sound (sees k.Implements ts) ts rest y e
interfaces-sound sort.Interface ts rest y e = pure-is (λ y r. Implements sort.Interface y ts r) [] y ts rest e refl

-- what stands behind a header
record Closes (ts : List Token) : Type 0 where
  none : sees k.Implements ts ≡ false
  comma : sees k.Comma ts ≡ false

class-complete : (y : List Lexeme) (ts rest : List Token) → Implements sort.Class y ts rest → Closes rest → class_interfaces ts ≡ Found y rest
unfolding class_interfaces some_interfaces
class-complete [] ts rest s closes = let P : List Token → Type 0 = λ l. class_interfaces l ≡ Found [] rest in subst P (sym s) (rw closes.none refl)
class-complete (name ∷ names) ts rest (t1, s1, (mid, s, each)) closes =
    let (at, is) = mark-complete k.Implements ts t1 s1 in
    rw (sees-kind k.Implements k.Implements ts (next-mark k.Implements ts t1 s1), is, word-complete k.Name t1 mid name s)
    (joined-complete (Spelled k.Name) (word k.Name) (λ _. Unit {0}) (λ w ts rest s _. word-complete k.Name ts rest w s) (sees k.Comma) k.Comma (spends-spelled k.Name)
    (λ w ts mid rest s p. sees-kind k.Comma k.Comma ts (next-mark k.Comma ts mid s)) (λ ts rest s. tt) name names mid rest each tt closes.comma)

interfaces-complete : (kind : TypeKind) (y : List Lexeme) (ts rest : List Token) → Implements kind y ts rest → Closes rest → interfaces kind ts ≡ Found y rest
interfaces-complete sort.Class y ts rest s closes = class-complete y ts rest s closes
interfaces-complete sort.Interface [] ts rest s closes = ap (λ l. Found [] l) s
interfaces-complete sort.Interface (name ∷ names) ts rest s closes = absurd s

header_by : (b : Bool) (mods : List Mod) (kind : TypeKind) (ts t1 t2 rest : List Token) (h : Header) → Each ModSpells mods ts t1 → Mark (type_word kind) t1 t2 → fits (declared_as kind) mods ≡ b
    → cond b (type_name >>= (λ name. interfaces kind >>= (λ implemented. pure (header_of mods kind name implemented)))) fail t2 ≡ Found h rest → HeaderParts h ts rest
header_by true mods kind ts t1 t2 rest h s1 s2 is e =
    let (name, t3, is3, e3) = and_then-some (type_name t2) _ h rest e in
    let (implemented, t4, is4, e4) = and_then-some (interfaces kind t3) _ h rest e3 in
    let (free, s3) = type_name-sound t2 t3 name is3 in
    pure-is (λ h r. HeaderParts h ts r) (header_of mods kind name implemented) h t4 rest e4
    (t1, (fits-sound (declared_as kind) mods is, s1), (t2, s2, (free, (t3, s3, interfaces-sound kind t3 t4 implemented is4))))
header_by false mods kind ts t1 t2 rest h s1 s2 is e = cc

pub header-sound : (ts rest : List Token) (h : Header) → type_header ts ≡ Found h rest → HeaderParts h ts rest
unfolding type_header
header-sound ts rest h e =
    let (mods, t1, is1, e1) = and_then-some (all_modifiers ts) _ h rest e in
    let (kind, t2, is2, e2) = and_then-some (type_kind t1) _ h rest e1 in
    header_by (fits (declared_as kind) mods) mods kind ts t1 t2 rest h (all_modifiers-sound ts t1 mods is1) (type_kind-sound t1 t2 kind is2) refl e2

pub header-complete : (h : Header) (ts mid rest : List Token) → HeaderParts h ts mid → Mark k.LBrace mid rest → type_header ts ≡ Found (header_of h.mods h.kind h.name h.implements) mid
unfolding type_header
header-complete h ts mid rest (t1, (fit, s1), (t2, s2, (free, (t3, s3, s4)))) end =
    let next = next-mark k.LBrace mid rest end in
    let closes : Closes mid = record { none = sees-kind k.Implements k.LBrace mid next; comma = sees-kind k.Comma k.LBrace mid next } in
    rw (all_modifiers-complete h.mods ts t1 s1 (kind-follows h.kind t1 t2 s2), type_kind-complete h.kind t1 t2 s2, fits-complete (declared_as h.kind) h.mods fit, type_name-complete h.name t2 t3 free s3, interfaces-complete h.kind h.implements t3 mid s4 closes) refl
