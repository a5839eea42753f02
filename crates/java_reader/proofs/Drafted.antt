-- What a draft says of the tokens that were read, and how each part keeps it.
use Rattle.std.proofs.Common.{◌≡◌, List, [], ◌∷◌, ◌++◌, Option, Some, None, refl, ap, ◌∙◌, sym, subst}
use Rattle.java_phrases.specs.Tree.{Token, MemberTree, Package, Import, ClassTree, FileTree, Kind as k}
use Rattle.java_phrases.specs.Common.{Phrase, Nothing, ◌⨾◌, Each, Mark}
use Rattle.java_heads.specs.declared.header.Header.{Header}
use Rattle.java_heads.specs.Spelling.{PackageSpells, ImportSpells, HeaderSpells}
use Rattle.java_heads.proofs.Lists.{each-snoc}
use Rattle.java_reader.specs.declared.draft.Draft.{Draft}
use Rattle.java_reader.specs.Spelling.{TypeMember, header_of, TypeSpells, PackagePart, Spells}
use Rattle.java_reader.specs.Parts.{Part, PackageLine, ImportLine, Opening, Inner, Closing, Stage, Start, Lines, Types, IsStart, IsBeforeTypes, IsOutside, IsBody, MemberAt, PartSpells, PartsSpell, stage_after}
use Rattle.java_reader.specs.Drafts.{file_of, class_of, blank, closed, filled, stage_by, stage_of, added}
use Rattle.java_reader.proofs.Unique.{end_stage, parts-snoc, end-snoc}

-- a type whose body is open
abbrev pub OpenSpells : Option ClassTree → Phrase
OpenSpells None = Nothing
OpenSpells (Some c) = HeaderSpells (header_of c) ⨾ Each (TypeMember c.kind c.name.text) c.members

abbrev pub FileDrafted : Option Package → List Import → List ClassTree → Option ClassTree → Phrase
FileDrafted line imports types open_type = PackagePart line ⨾ Each ImportSpells imports ⨾ Each TypeSpells types ⨾ OpenSpells open_type

abbrev pub Drafted : Draft → Phrase
Drafted d = FileDrafted d.file.«package» d.file.imports d.file.types d.current

package-step : (types : List ClassTree) (imports : List Import) (line : Option Package) (o : Option ClassTree) (p : Package) (ts mid rest : List Token)
    → FileDrafted line imports types o ts mid → IsStart (stage_by o (file_of line imports types)) → PackageSpells p mid rest → FileDrafted (Some p) imports types None ts rest
package-step [] [] None None p ts mid rest (t1, a, (t2, b, (t3, c, d))) ok s =
    let P : List Token → Type 0 = λ l. PackageSpells p l rest in (rest, subst P (sym (a ∙ b ∙ c ∙ d)) s, (rest, refl, (rest, refl, refl)))
package-step [] [] (Some q) None p ts mid rest drafted none s = absurd none
package-step [] (i ∷ imports) line None p ts mid rest drafted none s = absurd none
package-step (c ∷ types) imports line None p ts mid rest drafted none s = absurd none
package-step types imports line (Some c) p ts mid rest drafted none s = absurd none

import-step : (types : List ClassTree) (imports : List Import) (line : Option Package) (o : Option ClassTree) (i : Import) (ts mid rest : List Token)
    → FileDrafted line imports types o ts mid → IsBeforeTypes (stage_by o (file_of line imports types)) → ImportSpells i mid rest → FileDrafted line (imports ++ i ∷ []) types None ts rest
import-step [] imports line None i ts mid rest (t1, a, (t2, b, (t3, c, d))) ok s =
    let P : List Token → Type 0 = λ l. ImportSpells i l rest in (t1, a, (rest, each-snoc ImportSpells imports i t1 t2 rest b (subst P (sym (c ∙ d)) s), (rest, refl, refl)))
import-step (c ∷ types) imports line None i ts mid rest drafted none s = absurd none
import-step types imports line (Some c) i ts mid rest drafted none s = absurd none

opening-step : (types : List ClassTree) (imports : List Import) (line : Option Package) (o : Option ClassTree) (h : Header) (ts mid rest : List Token)
    → FileDrafted line imports types o ts mid → IsOutside (stage_by o (file_of line imports types)) → HeaderSpells h mid rest → FileDrafted line imports types (Some (class_of h)) ts rest
opening-step types imports line None h ts mid rest (t1, a, (t2, b, (t3, c, d))) ok s =
    let P : List Token → Type 0 = λ l. HeaderSpells h l rest in (t1, a, (t2, b, (t3, c, (rest, subst P (sym d) s, refl))))
opening-step types imports line (Some c) h ts mid rest drafted none s = absurd none

pub inner-none : (types : List ClassTree) (imports : List Import) (line : Option Package) (m : MemberTree) (ts rest : List Token) → MemberAt (stage_by None (file_of line imports types)) m ts rest → ⊥
inner-none (c ∷ types) imports line m ts rest none = none
inner-none [] (i ∷ imports) line m ts rest none = none
inner-none [] [] (Some p) m ts rest none = none
inner-none [] [] None m ts rest none = none

pub closing-none : (types : List ClassTree) (imports : List Import) (line : Option Package) → IsBody (stage_by None (file_of line imports types)) → ⊥
closing-none (c ∷ types) imports line none = none
closing-none [] (i ∷ imports) line none = none
closing-none [] [] (Some p) none = none
closing-none [] [] None none = none

inner-step : (file : FileTree) (o : Option ClassTree) (m : MemberTree) (ts mid rest : List Token)
    → FileDrafted file.«package» file.imports file.types o ts mid → MemberAt (stage_by o file) m mid rest → Drafted (filled o file m) ts rest
inner-step file None m ts mid rest drafted s = absurd (inner-none file.types file.imports file.«package» m mid rest s)
inner-step file (Some c) m ts mid rest (t1, a, (t2, b, (t3, d, (t4, e, f)))) s =
    (t1, a, (t2, b, (t3, d, (t4, e, each-snoc (TypeMember c.kind c.name.text) c.members m t4 mid rest f s))))

closing-step : (file : FileTree) (o : Option ClassTree) (ts mid rest : List Token)
    → FileDrafted file.«package» file.imports file.types o ts mid → IsBody (stage_by o file) → Mark k.RBrace mid rest → Drafted (closed o file) ts rest
closing-step file None ts mid rest drafted none s = absurd (closing-none file.types file.imports file.«package» none)
closing-step file (Some c) ts mid rest (t1, a, (t2, b, (t3, d, (t4, e, f)))) ok s =
    (t1, a, (t2, b, (rest, each-snoc TypeSpells file.types c t2 t3 rest d (t4, e, (mid, f, s)), refl)))

drafted-step : (d : Draft) (part : Part) (ts mid rest : List Token) → Drafted d ts mid → PartSpells (stage_of d) part mid rest → Drafted (added d part) ts rest
drafted-step d (PackageLine p) ts mid rest drafted (ok, s) = package-step d.file.types d.file.imports d.file.«package» d.current p ts mid rest drafted ok s
drafted-step d (ImportLine i) ts mid rest drafted (ok, s) = import-step d.file.types d.file.imports d.file.«package» d.current i ts mid rest drafted ok s
drafted-step d (Opening h) ts mid rest drafted (ok, s) = opening-step d.file.types d.file.imports d.file.«package» d.current h ts mid rest drafted ok s
drafted-step d (Inner m) ts mid rest drafted s = inner-step d.file d.current m ts mid rest drafted s
drafted-step d Closing ts mid rest drafted (ok, s) = closing-step d.file d.current ts mid rest drafted ok s

-- ---- the stage of a draft

package-stage : (types : List ClassTree) (imports : List Import) (line : Option Package) (o : Option ClassTree) (p : Package) → IsStart (stage_by o (file_of line imports types)) → stage_by None (file_of (Some p) imports types) ≡ Lines
package-stage [] [] None None p ok = refl
package-stage [] [] (Some q) None p none = absurd none
package-stage [] (i ∷ imports) line None p none = absurd none
package-stage (c ∷ types) imports line None p none = absurd none
package-stage types imports line (Some c) p none = absurd none

import-stage : (types : List ClassTree) (imports : List Import) (line : Option Package) (o : Option ClassTree) (i : Import) → IsBeforeTypes (stage_by o (file_of line imports types)) → stage_by None (file_of line (imports ++ i ∷ []) types) ≡ Lines
import-stage [] [] line None i ok = refl
import-stage [] (j ∷ imports) line None i ok = refl
import-stage (c ∷ types) imports line None i none = absurd none
import-stage types imports line (Some c) i none = absurd none

inner-stage : (file : FileTree) (o : Option ClassTree) (m : MemberTree) (ts rest : List Token) → MemberAt (stage_by o file) m ts rest → stage_of (filled o file m) ≡ stage_by o file
inner-stage file None m ts rest s = absurd (inner-none file.types file.imports file.«package» m ts rest s)
inner-stage file (Some c) m ts rest s = refl

closing-types : (types : List ClassTree) (imports : List Import) (line : Option Package) (c : ClassTree) → stage_by None (file_of line imports (types ++ c ∷ [])) ≡ Types
closing-types [] imports line c = refl
closing-types (d ∷ types) imports line c = refl

closing-stage : (file : FileTree) (o : Option ClassTree) → IsBody (stage_by o file) → stage_of (closed o file) ≡ Types
closing-stage file None none = absurd (closing-none file.types file.imports file.«package» none)
closing-stage file (Some c) ok = closing-types file.types file.imports file.«package» c

stage-step : (d : Draft) (part : Part) (ts rest : List Token) → PartSpells (stage_of d) part ts rest → stage_of (added d part) ≡ stage_after (stage_of d) part
stage-step d (PackageLine p) ts rest (ok, s) = package-stage d.file.types d.file.imports d.file.«package» d.current p ok
stage-step d (ImportLine i) ts rest (ok, s) = import-stage d.file.types d.file.imports d.file.«package» d.current i ok
stage-step d (Opening h) ts rest (ok, s) = refl
stage-step d (Inner m) ts rest s = inner-stage d.file d.current m ts rest s
stage-step d Closing ts rest (ok, s) = closing-stage d.file d.current ok

-- ---- the loop over the parts

pub record Begun (tokens : List Token) (d : Draft) (ahead : List Token) : Type 0 where
  pub parts : List Part
  pub begins : PartsSpell Start parts tokens ahead
  pub stage : end_stage Start parts ≡ stage_of d
  pub drafted : Drafted d tokens ahead

pub begun-blank : (tokens ahead : List Token) (d : Draft) → ahead ≡ tokens → d ≡ blank → Begun tokens d ahead
begun-blank tokens ahead d is none =
    let P : Draft → Type 0 = λ x. Begun tokens x ahead in
    subst P (sym none) (record { parts = []; begins = sym is; stage = refl; drafted = (tokens, refl, (tokens, refl, (tokens, refl, sym is))) })

pub begun-step : (tokens ahead rest : List Token) (d new : Draft) (part : Part) → Begun tokens d ahead → PartSpells (stage_of d) part ahead rest → new ≡ added d part → Begun tokens new rest
begun-step tokens ahead rest d new part b s is =
    let P : Draft → Type 0 = λ x. Begun tokens x rest in
    let Q : Stage → Type 0 = λ x. PartSpells x part ahead rest in
    subst P (sym is) (record {
      parts = b.parts ++ part ∷ [];
      begins = parts-snoc b.parts Start part tokens ahead rest b.begins (subst Q (sym b.stage) s);
      stage = end-snoc b.parts Start part ∙ ap (λ x. stage_after x part) b.stage ∙ sym (stage-step d part ahead rest s);
      drafted = drafted-step d part tokens ahead rest b.drafted s;
    })

-- a draft with no open type is a file
pub drafted-file : (file : FileTree) (o : Option ClassTree) (tokens rest : List Token) → o ≡ None → rest ≡ [] → FileDrafted file.«package» file.imports file.types o tokens rest → Spells tokens file
drafted-file file (Some c) tokens rest none is drafted = let no_type : ⊥ = cc in absurd no_type
drafted-file file None tokens rest none is (t1, a, (t2, b, (t3, c, d))) = let P : List Token → Type 0 = λ l. Each TypeSpells file.types t2 l in (t1, a, (t2, b, subst P (d ∙ is) c))
