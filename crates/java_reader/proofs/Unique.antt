-- At most one part begins the tokens at a stage. So a list of parts that can't go on is the longest one, and
-- there is one such list.
use Rattle.std.proofs.Common.{◌≡◌, ℕ, ◌+◌, ◌≤◌, ◌<◌, Bool, true, false, List, [], ◌∷◌, ◌++◌, length, refl, ap, ◌∙◌, sym, subst, arith, length-append}
use Rattle.java_phrases.specs.Tree.{Kind as k, Token, MemberTree, MemberTree as member, TypeKind, TypeKind as sort, Package, Import}
use Rattle.java_phrases.specs.Common.{Mark, sees}
use Rattle.java_phrases.proofs.Phrases.{next-mark}
use Rattle.java_heads.specs.Spelling.{PackageSpells, ImportSpells, SigParts}
use Rattle.java_heads.specs.Reading.{package_line, import_line, signature}
use Rattle.java_heads.specs.Answers.{sig_with}
use Rattle.java_heads.proofs.Lists.{sees-kind}
use Rattle.java_heads.proofs.LineLaws.{package-complete, import-complete}
use Rattle.java_phrases.proofs.Answered.{one-found}
use Rattle.java_heads.proofs.Parts.{one-kept}
use Rattle.java_heads.proofs.ReaderLemmas.{one_header, sig_tokens, sig-part}
use Rattle.java_heads.proofs.HeadingLaws.{one_heading}
use Rattle.java_statements.proofs.ReaderLemmas.{one_block}
use Rattle.java_members.proofs.Members.{one_member}
use Rattle.java_reader.specs.Spelling.{TypeMember}
use Rattle.java_reader.specs.Parts.{Part, PackageLine, ImportLine, Opening, Inner, Closing, Stage, Start, Lines, Types, Body, MemberAt, PartSpells, PartsSpell, stage_after, LeftByLongest}
use Rattle.java_reader.proofs.Fronts.{package-front, import-front, header-front, member-front}
use Rattle.java_reader.proofs.Shorter.{part-shorter}

-- ---- which sort of part the next token asks for

data Sort : Type 0 where
  Package_sort : Sort
  Import_sort : Sort
  Opening_sort : Sort
  Inner_sort : Sort
  Closing_sort : Sort

abbrev sort_of : Part → Sort
sort_of (PackageLine p) = Package_sort
sort_of (ImportLine i) = Import_sort
sort_of (Opening h) = Opening_sort
sort_of (Inner m) = Inner_sort
sort_of Closing = Closing_sort

abbrev line_sort : Bool → Bool → Sort
line_sort true imports = Package_sort
line_sort false true = Import_sort
line_sort false false = Opening_sort

abbrev body_sort : Bool → Sort
body_sort true = Closing_sort
body_sort false = Inner_sort

abbrev sort_at : Stage → List Token → Sort
sort_at Start ts = line_sort (sees k.Package ts) (sees k.Import ts)
sort_at Lines ts = line_sort (sees k.Package ts) (sees k.Import ts)
sort_at Types ts = line_sort (sees k.Package ts) (sees k.Import ts)
sort_at (Body kind name) ts = body_sort (sees k.RBrace ts)

package-sort : (p : Package) (ts rest : List Token) → PackageSpells p ts rest → Package_sort ≡ line_sort (sees k.Package ts) (sees k.Import ts)
package-sort p ts rest s = let e : sees k.Package ts ≡ true = package-front p ts rest s in rw e refl

import-sort : (i : Import) (ts rest : List Token) → ImportSpells i ts rest → Import_sort ≡ line_sort (sees k.Package ts) (sees k.Import ts)
import-sort i ts rest s = let (e, f) = import-front i ts rest s in rw (e, f) refl

part-sort : (stage : Stage) (part : Part) (ts rest : List Token) → PartSpells stage part ts rest → sort_of part ≡ sort_at stage ts
part-sort Start (PackageLine p) ts rest (ok, s) = package-sort p ts rest s
part-sort Start (ImportLine i) ts rest (ok, s) = import-sort i ts rest s
part-sort Start (Opening h) ts rest (ok, s) = let (e, f) = header-front h ts rest s in rw (e, f) refl
part-sort Start (Inner m) ts rest none = absurd none
part-sort Start Closing ts rest (none, s) = absurd none
part-sort Lines (PackageLine p) ts rest (none, s) = absurd none
part-sort Lines (ImportLine i) ts rest (ok, s) = import-sort i ts rest s
part-sort Lines (Opening h) ts rest (ok, s) = let (e, f) = header-front h ts rest s in rw (e, f) refl
part-sort Lines (Inner m) ts rest none = absurd none
part-sort Lines Closing ts rest (none, s) = absurd none
part-sort Types (PackageLine p) ts rest (none, s) = absurd none
part-sort Types (ImportLine i) ts rest (none, s) = absurd none
part-sort Types (Opening h) ts rest (ok, s) = let (e, f) = header-front h ts rest s in rw (e, f) refl
part-sort Types (Inner m) ts rest none = absurd none
part-sort Types Closing ts rest (none, s) = absurd none
part-sort (Body kind name) (PackageLine p) ts rest (none, s) = absurd none
part-sort (Body kind name) (ImportLine i) ts rest (none, s) = absurd none
part-sort (Body kind name) (Opening h) ts rest (none, s) = absurd none
part-sort (Body kind name) (Inner m) ts rest s = let e : sees k.RBrace ts ≡ false = member-front kind name m ts rest s in rw e refl
part-sort (Body kind name) Closing ts rest (ok, s) = let e : sees k.RBrace ts ≡ true = sees-kind k.RBrace k.RBrace ts (next-mark k.RBrace ts rest s) in rw e refl

-- ---- one part at most

one-sig : (one other : MemberTree) (name : List ℕ) (ts rest other_rest : List Token) → TypeMember sort.Interface name one ts rest → TypeMember sort.Interface name other ts other_rest → (one ≡ other) × (rest ≡ other_rest)
one-sig (member.Sig s) (member.Sig t) name ts rest other_rest a b =
    let (e, f) = one-kept SigParts signature sig_tokens sig_with sig-part s t ts rest other_rest a b in (ap (λ x. member.Sig x) e, f)
one-sig (member.Sig s) _ name ts rest other_rest a b = absurd b
one-sig _ other name ts rest other_rest a b = absurd a

pub one-inner : (kind : TypeKind) (name : List ℕ) (one other : MemberTree) (ts rest other_rest : List Token) → TypeMember kind name one ts rest → TypeMember kind name other ts other_rest → (one ≡ other) × (rest ≡ other_rest)
one-inner sort.Class name one other ts rest other_rest a b = one_member one_heading one_block name one other ts rest other_rest a b
one-inner sort.Interface name one other ts rest other_rest a b = one-sig one other name ts rest other_rest a b

one-at : (stage : Stage) (one other : MemberTree) (ts rest other_rest : List Token) → MemberAt stage one ts rest → MemberAt stage other ts other_rest → (one ≡ other) × (rest ≡ other_rest)
one-at Start one other ts rest other_rest a b = absurd a
one-at Lines one other ts rest other_rest a b = absurd a
one-at Types one other ts rest other_rest a b = absurd a
one-at (Body kind name) one other ts rest other_rest a b = one-inner kind name one other ts rest other_rest a b

pub one-mark : (ts rest other_rest : List Token) → Mark k.RBrace ts rest → Mark k.RBrace ts other_rest → rest ≡ other_rest
one-mark ts rest other_rest (t, e, is) (u, f, also) = let same : t ∷ rest ≡ u ∷ other_rest = sym e ∙ f in cc

pub same-part : (stage : Stage) (one other : Part) (ts rest other_rest : List Token) → PartSpells stage one ts rest → PartSpells stage other ts other_rest → (one ≡ other) × (rest ≡ other_rest)
same-part stage (PackageLine p) (PackageLine q) ts rest other_rest (ok, a) (fine, b) =
    let (e, f) = one-found PackageSpells package_line package-complete p q ts rest other_rest a b in (ap (λ x. PackageLine x) e, f)
same-part stage (ImportLine p) (ImportLine q) ts rest other_rest (ok, a) (fine, b) =
    let (e, f) = one-found ImportSpells import_line import-complete p q ts rest other_rest a b in (ap (λ x. ImportLine x) e, f)
same-part stage (Opening p) (Opening q) ts rest other_rest (ok, a) (fine, b) =
    let (e, f) = one_header p q ts rest other_rest a b in (ap (λ x. Opening x) e, f)
same-part stage (Inner p) (Inner q) ts rest other_rest a b =
    let (e, f) = one-at stage p q ts rest other_rest a b in (ap (λ x. Inner x) e, f)
same-part stage Closing Closing ts rest other_rest (ok, a) (fine, b) = (refl, one-mark ts rest other_rest a b)
same-part stage one other ts rest other_rest a b =
    let e : sort_of one ≡ sort_of other = part-sort stage one ts rest a ∙ sym (part-sort stage other ts other_rest b) in
    let none : ⊥ = cc in
    absurd none

-- ---- lists of parts

abbrev pub end_stage : Stage → List Part → Stage
end_stage stage [] = stage
end_stage stage (part ∷ parts) = end_stage (stage_after stage part) parts

-- no part begins the tokens
abbrev pub NoPart : Stage → List Token → Type 0
NoPart stage ts = (part : Part) (rest : List Token) → PartSpells stage part ts rest → ⊥

pub no_part-end : (stage : Stage) → NoPart stage []
no_part-end stage part rest s = let a : length rest < 0 = part-shorter stage part [] rest s in absurd (omega arith)

pub parts-snoc : (parts : List Part) (stage : Stage) (part : Part) (ts mid rest : List Token) → PartsSpell stage parts ts mid → PartSpells (end_stage stage parts) part mid rest → PartsSpell stage (parts ++ part ∷ []) ts rest
parts-snoc [] stage part ts mid rest e s = let P : List Token → Type 0 = λ l. PartSpells stage part l rest in (rest, subst P (sym e) s, refl)
parts-snoc (first ∷ parts) stage part ts mid rest (t1, a, b) s = (t1, a, parts-snoc parts (stage_after stage first) part t1 mid rest b s)

pub end-snoc : (parts : List Part) (stage : Stage) (part : Part) → end_stage stage (parts ++ part ∷ []) ≡ stage_after (end_stage stage parts) part
end-snoc [] stage part = refl
end-snoc (first ∷ parts) stage part = end-snoc parts (stage_after stage first) part

pub most : (parts others : List Part) (stage : Stage) (ts rest left : List Token) → PartsSpell stage parts ts rest → NoPart (end_stage stage parts) rest → PartsSpell stage others ts left → length others ≤ length parts
most [] [] stage ts rest left e none s = omega arith
most [] (q ∷ others) stage ts rest left e none (mid, a, b) = let P : List Token → Type 0 = λ l. PartSpells stage q l mid in absurd (none q mid (subst P e a))
most (p ∷ parts) [] stage ts rest left s none e = omega arith
most (p ∷ parts) (q ∷ others) stage ts rest left (t1, a, b) none (t2, c, d) =
    let (same, here) = same-part stage q p ts t2 t1 c a in
    let P : Part → Type 0 = λ x. PartsSpell (stage_after stage x) others t2 left in
    let Q : List Token → Type 0 = λ l. PartsSpell (stage_after stage p) others l left in
    let less : length others ≤ length parts = most parts others (stage_after stage p) t1 rest left b none (subst Q here (subst P same d)) in
    omega arith

pub same-end : (parts others : List Part) (stage : Stage) (ts rest left : List Token) → PartsSpell stage parts ts rest → NoPart (end_stage stage parts) rest → PartsSpell stage others ts left → NoPart (end_stage stage others) left
    → (end_stage stage parts ≡ end_stage stage others) × (rest ≡ left)
same-end [] [] stage ts rest left e none f nor = (refl, sym e ∙ f)
same-end [] (q ∷ others) stage ts rest left e none (mid, a, b) nor = let P : List Token → Type 0 = λ l. PartSpells stage q l mid in absurd (none q mid (subst P e a))
same-end (p ∷ parts) [] stage ts rest left (mid, a, b) none e nor = let P : List Token → Type 0 = λ l. PartSpells stage p l mid in absurd (nor p mid (subst P e a))
same-end (p ∷ parts) (q ∷ others) stage ts rest left (t1, a, b) none (t2, c, d) nor =
    let (same, here) = same-part stage q p ts t2 t1 c a in
    let P : Part → Type 0 = λ x. PartsSpell (stage_after stage x) others t2 left in
    let Q : List Token → Type 0 = λ l. PartsSpell (stage_after stage p) others l left in
    let N : Part → Type 0 = λ x. NoPart (end_stage (stage_after stage x) others) left in
    let (e, f) = same-end parts others (stage_after stage p) t1 rest left b none (subst Q here (subst P same d)) (subst N same nor) in
    let E : Part → Type 0 = λ x. end_stage (stage_after stage p) parts ≡ end_stage (stage_after stage x) others in
    (subst E (sym same) e, f)

-- ---- what is left by the longest list

pub longest : (parts : List Part) (ts rest : List Token) → PartsSpell Start parts ts rest → NoPart (end_stage Start parts) rest → LeftByLongest ts rest
longest parts ts rest s none = record { parts = parts; begins = s; longest = λ others left t. most parts others Start ts rest left s none t }

pub stops : (ts rest : List Token) (l : LeftByLongest ts rest) → NoPart (end_stage Start l.parts) rest
stops ts rest l part other s =
    let more : length (l.parts ++ part ∷ []) ≤ length l.parts = l.longest (l.parts ++ part ∷ []) other (parts-snoc l.parts Start part ts rest other l.begins s) in
    let sum : length (l.parts ++ part ∷ []) ≡ length l.parts + 1 = length-append l.parts (part ∷ []) in
    absurd (omega arith)

pub one-left : (ts rest left : List Token) → LeftByLongest ts rest → LeftByLongest ts left → rest ≡ left
one-left ts rest left a b = (same-end a.parts b.parts Start ts rest left a.begins (stops ts rest a) b.begins (stops ts left b)).1
