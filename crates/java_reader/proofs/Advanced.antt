-- The next token says which sort of part may stand there.
use Rattle.std.proofs.Common.{◌≡◌, Bool, true, false, List, [], ◌∷◌, ◌++◌, Result, Ok, Err, ap, ◌∙◌, sym}
use Rattle.java_phrases.specs.Tree.{Kind as k, Token, MemberTree, Package, Import, ClassTree, FileTree}
use Rattle.java_phrases.specs.Common.{Mark, Found, Lost, sees, sign}
use Rattle.java_phrases.specs.declared.error.SyntaxError.{SyntaxError}
use Rattle.java_phrases.proofs.Phrases.{next-mark}
use Rattle.java_heads.specs.declared.header.Header.{Header}
use Rattle.java_heads.proofs.Lists.{sees-kind, mark-complete}
use Rattle.java_reader.specs.declared.draft.Draft.{Draft}
use Rattle.java_reader.specs.Parts.{Part, PackageLine, ImportLine, Opening, Inner, Closing, PartSpells}
use Rattle.java_reader.specs.Answers.{Adds, Advances}
use Rattle.java_reader.specs.Drafts.{file_of, between, within, stage_of}
use Rattle.java_reader.proofs.Fronts.{package-front, import-front, header-front, member-front}
use Rattle.java_reader.proofs.Drafted.{inner-none, closing-none}

differ : (b : Bool) → b ≡ true → b ≡ false → ⊥
differ b e f = let g : true ≡ false = sym e ∙ f in cc

-- ---- outside of a body

package-none : (file : FileTree) (ts l : List Token) (part : Part) → sees k.Package ts ≡ true → ((p : Package) (x : List Token) → PartSpells (stage_of (between file)) (PackageLine p) ts x → ⊥) → PartSpells (stage_of (between file)) part ts l → ⊥
package-none file ts l (PackageLine p) b none s = none p l s
package-none file ts l (ImportLine i) b none (ok, s) = differ (sees k.Package ts) b (import-front i ts l s).0
package-none file ts l (Opening h) b none (ok, s) = differ (sees k.Package ts) b (header-front h ts l s).0
package-none file ts l (Inner m) b none s = inner-none file.types file.imports file.«package» m ts l s
package-none file ts l Closing b none (ok, s) = closing-none file.types file.imports file.«package» ok

pub package-advances : (file : FileTree) (ts rest : List Token) (r : Result Draft SyntaxError) → sees k.Package ts ≡ true → Adds PackageLine (between file) ts r rest → Advances (between file) ts r rest
package-advances file ts rest (Ok new) b (p, s, is) = (PackageLine p, s, is)
package-advances file ts rest (Err e) b none = λ other part l s. package-none file ts l part b (none other) s

import-none : (file : FileTree) (ts l : List Token) (part : Part) → sees k.Package ts ≡ false → sees k.Import ts ≡ true → ((i : Import) (x : List Token) → PartSpells (stage_of (between file)) (ImportLine i) ts x → ⊥) → PartSpells (stage_of (between file)) part ts l → ⊥
import-none file ts l (PackageLine p) a b none (ok, s) = differ (sees k.Package ts) (package-front p ts l s) a
import-none file ts l (ImportLine i) a b none s = none i l s
import-none file ts l (Opening h) a b none (ok, s) = differ (sees k.Import ts) b (header-front h ts l s).1
import-none file ts l (Inner m) a b none s = inner-none file.types file.imports file.«package» m ts l s
import-none file ts l Closing a b none (ok, s) = closing-none file.types file.imports file.«package» ok

pub import-advances : (file : FileTree) (ts rest : List Token) (r : Result Draft SyntaxError) → sees k.Package ts ≡ false → sees k.Import ts ≡ true → Adds ImportLine (between file) ts r rest → Advances (between file) ts r rest
import-advances file ts rest (Ok new) a b (i, s, is) = (ImportLine i, s, is)
import-advances file ts rest (Err e) a b none = λ other part l s. import-none file ts l part a b (none other) s

header-none : (file : FileTree) (ts l : List Token) (part : Part) → sees k.Package ts ≡ false → sees k.Import ts ≡ false → ((h : Header) (x : List Token) → PartSpells (stage_of (between file)) (Opening h) ts x → ⊥) → PartSpells (stage_of (between file)) part ts l → ⊥
header-none file ts l (PackageLine p) a b none (ok, s) = differ (sees k.Package ts) (package-front p ts l s) a
header-none file ts l (ImportLine i) a b none (ok, s) = differ (sees k.Import ts) (import-front i ts l s).1 b
header-none file ts l (Opening h) a b none s = none h l s
header-none file ts l (Inner m) a b none s = inner-none file.types file.imports file.«package» m ts l s
header-none file ts l Closing a b none (ok, s) = closing-none file.types file.imports file.«package» ok

pub header-advances : (file : FileTree) (ts rest : List Token) (r : Result Draft SyntaxError) → sees k.Package ts ≡ false → sees k.Import ts ≡ false → Adds Opening (between file) ts r rest → Advances (between file) ts r rest
header-advances file ts rest (Ok new) a b (h, s, is) = (Opening h, s, is)
header-advances file ts rest (Err e) a b none = λ other part l s. header-none file ts l part a b (none other) s

-- ---- in a body

brace-seen : (ts rest : List Token) → Mark k.RBrace ts rest → sees k.RBrace ts ≡ true
brace-seen ts rest s = sees-kind k.RBrace k.RBrace ts (next-mark k.RBrace ts rest s)

pub no-brace : (ts rest : List Token) → sign k.RBrace ts ≡ Lost → Mark k.RBrace ts rest → ⊥
no-brace ts rest lost s = let (at, is) = mark-complete k.RBrace ts rest s in let e : Lost ≡ Found at rest = sym lost ∙ is in cc

closing-no : (file : FileTree) (c : ClassTree) (ts l : List Token) (part : Part) → sees k.RBrace ts ≡ true → ((u : Unit {0}) (x : List Token) → PartSpells (stage_of (within file c)) Closing ts x → ⊥) → PartSpells (stage_of (within file c)) part ts l → ⊥
closing-no file c ts l (PackageLine p) b none (ok, s) = ok
closing-no file c ts l (ImportLine i) b none (ok, s) = ok
closing-no file c ts l (Opening h) b none (ok, s) = ok
closing-no file c ts l (Inner m) b none s = differ (sees k.RBrace ts) b (member-front c.kind c.name.text m ts l s)
closing-no file c ts l Closing b none s = none tt l s

pub closing-advances : (file : FileTree) (c : ClassTree) (ts rest : List Token) (r : Result Draft SyntaxError) → sees k.RBrace ts ≡ true → Adds (λ (u : Unit {0}). Closing) (within file c) ts r rest → Advances (within file c) ts r rest
closing-advances file c ts rest (Ok new) b (u, s, is) = (Closing, s, is)
closing-advances file c ts rest (Err e) b none = λ other part l s. closing-no file c ts l part b (none other) s

inner-no : (file : FileTree) (c : ClassTree) (ts l : List Token) (part : Part) → sees k.RBrace ts ≡ false → ((m : MemberTree) (x : List Token) → PartSpells (stage_of (within file c)) (Inner m) ts x → ⊥) → PartSpells (stage_of (within file c)) part ts l → ⊥
inner-no file c ts l (PackageLine p) b none (ok, s) = ok
inner-no file c ts l (ImportLine i) b none (ok, s) = ok
inner-no file c ts l (Opening h) b none (ok, s) = ok
inner-no file c ts l (Inner m) b none s = none m l s
inner-no file c ts l Closing b none (ok, s) = differ (sees k.RBrace ts) (brace-seen ts l s) b

pub inner-advances : (file : FileTree) (c : ClassTree) (ts rest : List Token) (r : Result Draft SyntaxError) → sees k.RBrace ts ≡ false → Adds Inner (within file c) ts r rest → Advances (within file c) ts r rest
inner-advances file c ts rest (Ok new) b (m, s, is) = (Inner m, s, is)
inner-advances file c ts rest (Err e) b none = λ other part l s. inner-no file c ts l part b (none other) s

pub closed-draft : (file : FileTree) (c : ClassTree) (types : List ClassTree) → types ≡ file.types ++ c ∷ []
    → between (file_of file.«package» file.imports types) ≡ between (file_of file.«package» file.imports (file.types ++ c ∷ []))
closed-draft file c types e = ap (λ l. between (file_of file.«package» file.imports l)) e
