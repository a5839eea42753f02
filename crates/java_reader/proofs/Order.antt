-- The tokens of a file, cut into those that its parts keep.
use Rattle.std.proofs.Common.{◌≡◌, ℕ, ◌≤◌, List, [], ◌∷◌, ◌++◌, length, Option, Some, None, subst, arith}
use Rattle.std.proofs.Math.Nat.{le_refl}
use Rattle.java_phrases.specs.Tree.{Token, MemberTree, MemberTree as member, TypeKind, TypeKind as sort, Package, ClassTree, FileTree}
use Rattle.java_phrases.specs.Common.{Each}
use Rattle.java_lexer.specs.Lexing.{Follow}
use Rattle.java_phrases.proofs.Phrases.{Spent, spent-nothing}
use Rattle.java_heads.specs.Spelling.{ImportSpells}
use Rattle.java_heads.proofs.Lists.{spends-each}
use Rattle.java_members.specs.Spelling.{tokens_of}
use Rattle.java_reader.specs.Spelling.{TypeMember, TypeSpells, PackagePart, Spells}
use Rattle.java_reader.specs.Places.{MembersFollow, TypeFollows, TypesFollow}
use Rattle.java_reader.proofs.Shorter.{spends-package, spends-import}

follow-cut : (text : List ℕ) (from : ℕ) (a b : List Token) (end : ℕ) → Follow text from (a ++ b) end → (mid : ℕ) × Follow text from a mid × Follow text mid b end
follow-cut text from [] b end f = (from, le_refl from, f)
follow-cut text from (t ∷ a) b end (begins, some, bytes, rest) =
    let (mid, first, second) = follow-cut text t.span.end a b end rest in
    (mid, (begins, some, bytes, first), second)

follow-parts : (text : List ℕ) (from : ℕ) (tokens a b : List Token) (end : ℕ) → tokens ≡ a ++ b → Follow text from tokens end → (mid : ℕ) × Follow text from a mid × Follow text mid b end
follow-parts text from tokens a b end is f = let P : List Token → Type 0 = λ l. Follow text from l end in follow-cut text from a b end (subst P is f)

follow-down : (text : List ℕ) (low from : ℕ) (ts : List Token) (end : ℕ) → low ≤ from → Follow text from ts end → Follow text low ts end
follow-down text low from [] end less f = omega arith
follow-down text low from (t ∷ ts) end less (begins, some, bytes, rest) = (omega arith, some, bytes, rest)

pub follow-within : (text : List ℕ) (from : ℕ) (ts : List Token) (end : ℕ) → Follow text from ts end → from ≤ end
follow-within text from [] end f = f
follow-within text from (t ∷ ts) end (begins, some, bytes, rest) = let more : t.span.end ≤ end = follow-within text t.span.end ts end rest in omega arith

-- behind a phrase the tokens still follow
pub follow-behind : (text : List ℕ) (from : ℕ) (ts rest : List Token) (end : ℕ) → Spent ts rest → Follow text from ts end → Follow text from rest end
follow-behind text from ts rest end (taken, is) f =
    let (mid, first, second) = follow-parts text from ts taken rest end is f in
    follow-down text from mid rest end (follow-within text from taken mid first) second

pub kept : (kind : TypeKind) (name : List ℕ) (m : MemberTree) (ts rest : List Token) → TypeMember kind name m ts rest → ts ≡ tokens_of m ++ rest
kept sort.Class name m ts rest (s, is) = is
kept sort.Interface name (member.Sig s) ts rest (p, is) = is
kept sort.Interface name _ ts rest none = absurd none

members : (text : List ℕ) (from : ℕ) (kind : TypeKind) (name : List ℕ) (ms : List MemberTree) (ts rest : List Token) (end : ℕ) → Each (TypeMember kind name) ms ts rest → Follow text from ts end
    → (mid : ℕ) × MembersFollow text from ms mid × Follow text mid rest end
members text from kind name [] ts rest end e f = let P : List Token → Type 0 = λ l. Follow text from l end in (from, le_refl from, subst P e f)
members text from kind name (m ∷ ms) ts rest end (mid, p, each) f =
    let (place, own, later) = follow-parts text from ts (tokens_of m) mid end (kept kind name m ts mid p) f in
    let (last, others, after) = members text place kind name ms mid rest end each later in
    (last, (place, own, others), after)

type-follows : (text : List ℕ) (from : ℕ) (c : ClassTree) (ts rest : List Token) (end : ℕ) → TypeSpells c ts rest → Follow text from ts end → (mid : ℕ) × TypeFollows text from c mid × Follow text mid rest end
type-follows text from c ts rest end (t1, (t0, (p, is), (brace, left, opens)), (t2, each, (close, right, closes))) f =
    let (place, header, later) = follow-parts text from ts c.tokens t0 end is f in
    let P : List Token → Type 0 = λ l. Follow text place l end in
    let (begins, some, bytes, inner) = subst P left later in
    let (last, ms, after) = members text brace.span.end c.kind c.name.text c.members t1 t2 end each inner in
    let Q : List Token → Type 0 = λ l. Follow text last l end in
    let (starts, more, letters, behind) = subst Q right after in
    let apart : place ≤ brace.span.end = omega arith in
    let low : last ≤ close.span.end = omega arith in
    (last, (place, brace.span.end, header, apart, ms), follow-down text last close.span.end rest end low behind)

types-follow : (text : List ℕ) (from : ℕ) (types : List ClassTree) (ts : List Token) (end : ℕ) → Each TypeSpells types ts [] → Follow text from ts end → TypesFollow text from types end
types-follow text from [] ts end e f = follow-within text from ts end f
types-follow text from (c ∷ types) ts end (t1, s, each) f =
    let (mid, here, later) = type-follows text from c ts t1 end s f in
    (mid, here, types-follow text mid types t1 end each later)

package-spent : (line : Option Package) (ts rest : List Token) → PackagePart line ts rest → Spent ts rest
package-spent None ts rest e = spent-nothing ts rest e
package-spent (Some p) ts rest s = spends-package p ts rest s

pub file-follows : (text : List ℕ) (file : FileTree) (tokens : List Token) → Spells tokens file → Follow text 0 tokens (length text) → TypesFollow text 0 file.types (length text)
file-follows text file tokens (t1, a, (t2, b, each)) f =
    let behind : Follow text 0 t1 (length text) = follow-behind text 0 tokens t1 (length text) (package-spent file.«package» tokens t1 a) f in
    let later : Follow text 0 t2 (length text) = follow-behind text 0 t1 t2 (length text) (spends-each ImportSpells spends-import file.imports t1 t2 b) behind in
    types-follow text 0 file.types t2 (length text) each later
