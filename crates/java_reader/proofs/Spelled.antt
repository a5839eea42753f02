-- A file that is spelled, as a list of parts; and that tokens spell one file at most.
use Rattle.std.proofs.Common.{◌≡◌, ℕ, true, false, List, [], ◌∷◌, ◌++◌, Option, Some, None, refl, ap, ◌∙◌, sym, subst}
use Rattle.java_phrases.specs.Tree.{Kind as k, Token, MemberTree, TypeKind, Package, Import, ClassTree, FileTree}
use Rattle.java_phrases.specs.Common.{Phrase, Each, Mark, sees}
use Rattle.java_phrases.proofs.Phrases.{next-mark}
use Rattle.java_heads.specs.declared.header.Header.{Header}
use Rattle.java_heads.specs.Laws.{OneTree}
use Rattle.java_heads.specs.Spelling.{PackageSpells, ImportSpells}
use Rattle.java_heads.specs.Reading.{package_line, import_line}
use Rattle.java_heads.proofs.Lists.{sees-kind}
use Rattle.java_heads.proofs.LineLaws.{package-complete, import-complete}
use Rattle.java_phrases.proofs.Answered.{one-found}
use Rattle.java_heads.proofs.ReaderLemmas.{one_header}
use Rattle.java_reader.specs.Spelling.{TypeMember, header_of, TypeSpells, PackagePart, FileSpells, Spells}
use Rattle.java_reader.specs.Parts.{Part, PackageLine, ImportLine, Opening, Inner, Closing, Stage, Start, Lines, Types, Body, IsBeforeTypes, IsOutside, PartSpells, PartsSpell, stage_after}
use Rattle.java_reader.proofs.Fronts.{package-front, import-front, header-front, member-front}
use Rattle.java_reader.proofs.Unique.{one-inner, one-mark, end_stage, NoPart, no_part-end, same-end}

-- ---- a list of parts that leads from one stage to another

pub record Leads (from : Stage) (ts : List Token) (to : Stage) (rest : List Token) : Type 0 where
  pub parts : List Part
  pub spelled : PartsSpell from parts ts rest
  pub ends : end_stage from parts ≡ to

leads-none : (from : Stage) (ts rest : List Token) → ts ≡ rest → Leads from ts from rest
leads-none from ts rest e = record { parts = []; spelled = e; ends = refl }

leads-first : (from to : Stage) (part : Part) (ts mid rest : List Token) → PartSpells from part ts mid → Leads (stage_after from part) mid to rest → Leads from ts to rest
leads-first from to part ts mid rest s l = record { parts = part ∷ l.parts; spelled = (mid, s, l.spelled); ends = l.ends }

parts-append : (parts more : List Part) (from : Stage) (ts mid rest : List Token) → PartsSpell from parts ts mid → PartsSpell (end_stage from parts) more mid rest → PartsSpell from (parts ++ more) ts rest
parts-append [] more from ts mid rest e s = let P : List Token → Type 0 = λ l. PartsSpell from more l rest in subst P (sym e) s
parts-append (part ∷ parts) more from ts mid rest (t1, a, b) s = (t1, a, parts-append parts more (stage_after from part) t1 mid rest b s)

end-append : (parts more : List Part) (from : Stage) → end_stage from (parts ++ more) ≡ end_stage (end_stage from parts) more
end-append [] more from = refl
end-append (part ∷ parts) more from = end-append parts more (stage_after from part)

leads-then : (from by to : Stage) (ts mid rest : List Token) → Leads from ts by mid → Leads by mid to rest → Leads from ts to rest
leads-then from by to ts mid rest a b =
    let P : Stage → Type 0 = λ x. PartsSpell x b.parts mid rest in
    record {
      parts = a.parts ++ b.parts;
      spelled = parts-append a.parts b.parts from ts mid rest a.spelled (subst P (sym a.ends) b.spelled);
      ends = end-append a.parts b.parts from ∙ ap (λ x. end_stage x b.parts) a.ends ∙ b.ends;
    }

leads-members : (kind : TypeKind) (name : List ℕ) (ms : List MemberTree) (ts rest : List Token) → Each (TypeMember kind name) ms ts rest → Leads (Body kind name) ts (Body kind name) rest
leads-members kind name [] ts rest e = leads-none (Body kind name) ts rest e
leads-members kind name (m ∷ ms) ts rest (mid, s, each) = leads-first (Body kind name) (Body kind name) (Inner m) ts mid rest s (leads-members kind name ms mid rest each)

leads-type : (from : Stage) (c : ClassTree) (ts rest : List Token) → IsOutside from → TypeSpells c ts rest → Leads from ts Types rest
leads-type from c ts rest out (t1, header, (t2, members, brace)) =
    leads-first from Types (Opening (header_of c)) ts t1 rest (out, header)
    (leads-then (Body c.kind c.name.text) (Body c.kind c.name.text) Types t1 t2 rest (leads-members c.kind c.name.text c.members t1 t2 members)
    (leads-first (Body c.kind c.name.text) Types Closing t2 rest rest (tt, brace) (leads-none Types rest rest refl)))

-- the same, where the stage that it leads to is one of some
pub record LeadsTo (Good : Stage → Type 0) (from : Stage) (ts rest : List Token) : Type 0 where
  pub to : Stage
  pub good : Good to
  pub leads : Leads from ts to rest

leads-types : (from : Stage) (types : List ClassTree) (ts rest : List Token) → IsOutside from → Each TypeSpells types ts rest → LeadsTo IsOutside from ts rest
leads-types from [] ts rest out e = record { to = from; good = out; leads = leads-none from ts rest e }
leads-types from (c ∷ types) ts rest out (mid, s, each) =
    let more = leads-types Types types mid rest tt each in
    record { to = more.to; good = more.good; leads = leads-then from Types more.to ts mid rest (leads-type from c ts mid out s) more.leads }

leads-imports : (from : Stage) (imports : List Import) (ts rest : List Token) → IsBeforeTypes from → Each ImportSpells imports ts rest → LeadsTo IsBeforeTypes from ts rest
leads-imports from [] ts rest early e = record { to = from; good = early; leads = leads-none from ts rest e }
leads-imports from (i ∷ imports) ts rest early (mid, s, each) =
    let more = leads-imports Lines imports mid rest tt each in
    record { to = more.to; good = more.good; leads = leads-first from more.to (ImportLine i) ts mid rest (early, s) more.leads }

leads-package : (line : Option Package) (ts rest : List Token) → PackagePart line ts rest → LeadsTo IsBeforeTypes Start ts rest
leads-package None ts rest e = record { to = Start; good = tt; leads = leads-none Start ts rest e }
leads-package (Some p) ts rest s = record { to = Lines; good = tt; leads = leads-first Start Lines (PackageLine p) ts rest rest (tt, s) (leads-none Lines rest rest refl) }

outside : (stage : Stage) → IsBeforeTypes stage → IsOutside stage
outside Start early = tt
outside Lines early = tt
outside Types none = absurd none
outside (Body kind name) none = absurd none

pub leads-file : (file : FileTree) (ts rest : List Token) → FileSpells file ts rest → LeadsTo IsOutside Start ts rest
leads-file file ts rest (t1, a, (t2, b, d)) =
    let line = leads-package file.«package» ts t1 a in
    let imports = leads-imports line.to file.imports t1 t2 line.good b in
    let types = leads-types imports.to file.types t2 rest (outside imports.to imports.good) d in
    record { to = types.to; good = types.good; leads = leads-then Start line.to types.to ts t1 rest line.leads (leads-then line.to imports.to types.to t1 t2 rest imports.leads types.leads) }

-- a list of parts that can't go on ends with the file, if there is one
pub stuck-file : (parts : List Part) (file : FileTree) (ts rest : List Token) → PartsSpell Start parts ts rest → NoPart (end_stage Start parts) rest → Spells ts file → (rest ≡ []) × IsOutside (end_stage Start parts)
stuck-file parts file ts rest s none spelled =
    let whole = leads-file file ts [] spelled in
    let (same, left) = same-end parts whole.leads.parts Start ts rest [] s none whole.leads.spelled (no_part-end (end_stage Start whole.leads.parts)) in
    (left, subst IsOutside (sym (same ∙ whole.leads.ends)) whole.good)

-- ---- one file at most

each-one : {A : Type 0} (P : A → Phrase) → OneTree P → (xs ys : List A) (ts rest left : List Token) → Each P xs ts rest → Each P ys ts left
    → ((x : A) (l : List Token) → P x rest l → ⊥) → ((x : A) (l : List Token) → P x left l → ⊥) → (xs ≡ ys) × (rest ≡ left)
each-one P one [] [] ts rest left e f none nor = (refl, sym e ∙ f)
each-one P one [] (y ∷ ys) ts rest left e (mid, s, each) none nor = let Q : List Token → Type 0 = λ l. P y l mid in absurd (none y mid (subst Q e s))
each-one P one (x ∷ xs) [] ts rest left (mid, s, each) e none nor = let Q : List Token → Type 0 = λ l. P x l mid in absurd (nor x mid (subst Q e s))
each-one P one (x ∷ xs) (y ∷ ys) ts rest left (t1, s, each) (t2, t, other) none nor =
    let (same, here) = one x y ts t1 t2 s t in
    let Q : List Token → Type 0 = λ l. Each P ys l left in
    let (alike, ends) = each-one P one xs ys t1 rest left each (subst Q (sym here) other) none nor in
    (ap (λ l. l ∷ xs) same ∙ ap (λ l. y ∷ l) alike, ends)

no-member : (kind : TypeKind) (name : List ℕ) (ts rest : List Token) → Mark k.RBrace ts rest → (m : MemberTree) (l : List Token) → TypeMember kind name m ts l → ⊥
no-member kind name ts rest s m l t =
    let e : true ≡ false = sym (sees-kind k.RBrace k.RBrace ts (next-mark k.RBrace ts rest s)) ∙ member-front kind name m ts l t in
    cc

build : Header → List MemberTree → ClassTree
build h ms = record { mods = h.mods; kind = h.kind; name = h.name; implements = h.implements; members = ms; tokens = h.tokens }

one-type : OneTree TypeSpells
unfolding build
one-type c d ts rest left (t1, header, (t2, members, brace)) (u1, other, (u2, others, end)) =
    let (same, here) = one_header (header_of c) (header_of d) ts t1 u1 header other in
    let P : Header → Type 0 = λ h. Each (TypeMember h.kind h.name.text) d.members u1 u2 in
    let Q : List Token → Type 0 = λ l. Each (TypeMember c.kind c.name.text) d.members l u2 in
    let moved : Each (TypeMember c.kind c.name.text) d.members t1 u2 = subst Q (sym here) (subst P (sym same) others) in
    let (alike, there) = each-one (TypeMember c.kind c.name.text) (one-inner c.kind c.name.text) c.members d.members t1 t2 u2 members moved
    (no-member c.kind c.name.text t2 rest brace) (no-member c.kind c.name.text u2 left end) in
    let R : List Token → Type 0 = λ l. Mark k.RBrace l left in
    let first : build (header_of c) c.members ≡ build (header_of d) d.members = ap (λ h. build h c.members) same ∙ ap (build (header_of d)) alike in
    (first, one-mark t2 rest left brace (subst R (sym there) end))

types-front : (types : List ClassTree) (ts : List Token) → Each TypeSpells types ts [] → (sees k.Package ts ≡ false) × (sees k.Import ts ≡ false)
unfolding sees
types-front [] ts e = (ap (sees k.Package) e, ap (sees k.Import) e)
types-front (c ∷ types) ts (mid, (t1, header, tail), each) = header-front (header_of c) ts t1 header

imports-front : (imports : List Import) (types : List ClassTree) (ts mid : List Token) → Each ImportSpells imports ts mid → Each TypeSpells types mid [] → sees k.Package ts ≡ false
imports-front [] types ts mid e each = ap (sees k.Package) e ∙ (types-front types mid each).0
imports-front (i ∷ imports) types ts mid (t1, s, tail) each = (import-front i ts t1 s).0

no-import : (types : List ClassTree) (ts : List Token) → Each TypeSpells types ts [] → (i : Import) (l : List Token) → ImportSpells i ts l → ⊥
no-import types ts each i l s = let e : true ≡ false = sym (import-front i ts l s).1 ∙ (types-front types ts each).1 in cc

no-package : (p : Package) (imports : List Import) (types : List ClassTree) (ts mid l : List Token) → Each ImportSpells imports ts mid → Each TypeSpells types mid [] → PackageSpells p ts l → ⊥
no-package p imports types ts mid l each tail s = let e : true ≡ false = sym (package-front p ts l s) ∙ imports-front imports types ts mid each tail in cc

one-package : (a b : FileTree) (line other : Option Package) (ts t1 t2 u1 u2 : List Token) → PackagePart line ts t1 → PackagePart other ts u1 → Each ImportSpells a.imports t1 t2 → Each TypeSpells a.types t2 []
    → Each ImportSpells b.imports u1 u2 → Each TypeSpells b.types u2 [] → (line ≡ other) × (t1 ≡ u1)
one-package a b None None ts t1 t2 u1 u2 e f i s j t = (refl, sym e ∙ f)
one-package a b None (Some q) ts t1 t2 u1 u2 e s i types j t = let P : List Token → Type 0 = λ l. PackageSpells q l u1 in absurd (no-package q a.imports a.types t1 t2 u1 i types (subst P e s))
one-package a b (Some p) None ts t1 t2 u1 u2 s e i types j t = let P : List Token → Type 0 = λ l. PackageSpells p l t1 in absurd (no-package p b.imports b.types u1 u2 t1 j t (subst P e s))
one-package a b (Some p) (Some q) ts t1 t2 u1 u2 s t i types j u =
    let (same, here) = one-found PackageSpells package_line package-complete p q ts t1 u1 s t in (ap (λ x. Some x) same, here)

one-import : OneTree ImportSpells
one-import = one-found ImportSpells import_line import-complete

no-type : (c : ClassTree) (l : List Token) → TypeSpells c [] l → ⊥
no-type c l (mid, header, tail) = no_part-end Start (Opening (header_of c)) mid (tt, header)

made : Option Package → List Import → List ClassTree → FileTree
made line imports types = record { «package» = line; imports = imports; types = types }

pub one-file : (a b : FileTree) (ts : List Token) → Spells ts a → Spells ts b → a ≡ b
unfolding made
one-file a b ts (t1, s, (t2, i, c)) (u1, t, (u2, j, d)) =
    let (line, here) = one-package a b a.«package» b.«package» ts t1 t2 u1 u2 s t i c j d in
    let P : List Token → Type 0 = λ l. Each ImportSpells b.imports l u2 in
    let (imports, there) = each-one ImportSpells one-import a.imports b.imports t1 t2 u2 i (subst P (sym here) j) (no-import a.types t2 c) (no-import b.types u2 d) in
    let Q : List Token → Type 0 = λ l. Each TypeSpells b.types l [] in
    let (types, end) = each-one TypeSpells one-type a.types b.types t2 [] [] c (subst Q (sym there) d) no-type no-type in
    let first : made a.«package» a.imports a.types ≡ made b.«package» b.imports b.types =
    ap (λ x. made x a.imports a.types) line ∙ ap (λ x. made b.«package» x a.types) imports ∙ ap (made b.«package» b.imports) types in
    first
