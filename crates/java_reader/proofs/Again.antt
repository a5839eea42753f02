-- A tree is written in one way, up to blanks and comments.
use Rattle.std.proofs.Common.{◌≡◌, ℕ, List, [], ◌∷◌, ◌++◌, Option, Some, None, refl, ap, ◌∙◌, sym, subst}
use Rattle.java_phrases.specs.Tree.{Span, Kind, Kind as k, Token, Lexeme, MemberTree, TypeKind, Package, Import, ClassTree, FileTree}
use Rattle.java_phrases.specs.Common.{Phrase, Nothing, ◌⨾◌, Mark, Sign, Spelled, Each, Optional}
use Rattle.java_lexer.specs.Spelling.{spelling}
use Rattle.java_lexer.specs.Lexing.{Spells as TokenSpells, AreSpelled}
use Rattle.java_phrases.proofs.Phrases.{mark-sign}
use Rattle.java_heads.specs.Annotation.{Qualified}
use Rattle.java_heads.specs.Spelling.{Star, PackageSpells, ImportSpells}
use Rattle.java_members.specs.Spelling.{tokens_of}
use Rattle.java_reader.specs.Spelling.{TypeMember, TypeSpells, PackagePart, Spells}
use Rattle.java_reader.specs.Alike.{Alike}
use Rattle.java_reader.proofs.Order.{kept}

-- what is behind the two phrases is written alike, where all of it is spelled
abbrev Behind : List Token → List Token → Type 0
Behind rest left = AreSpelled rest → AreSpelled left → Alike rest left

-- the phrase is written alike wherever it stands
abbrev OneWriting : Phrase → Type 0
OneWriting P = (ts rest us left : List Token) → P ts rest → P us left → Behind rest left → Behind ts us

-- the kind has one spelling
abbrev IsFixed : Kind → Type 0
IsFixed kind = (bytes : List ℕ) → TokenSpells kind bytes → bytes ≡ spelling kind

alike-first : (t u : Token) (ts rest us left : List Token) → ts ≡ t ∷ rest → us ≡ u ∷ left → t.kind ≡ u.kind → (AreSpelled (t ∷ rest) → AreSpelled (u ∷ left) → t.bytes ≡ u.bytes) → Behind rest left → Behind ts us
alike-first t u ts rest us left e f kind bytes later s r =
    let P : List Token → Type 0 = λ l. Alike l us in
    let Q : List Token → Type 0 = λ l. Alike (t ∷ rest) l in
    let (first, more) = subst AreSpelled e s in
    let (other, others) = subst AreSpelled f r in
    subst P (sym e) (subst Q (sym f) (kind, bytes (first, more) (other, others), later more others))

fixed-bytes : (kind : Kind) → IsFixed kind → (t : Token) → t.kind ≡ kind → TokenSpells t.kind t.bytes → t.bytes ≡ spelling kind
fixed-bytes kind fixed t is s = let P : Kind → Type 0 = λ x. TokenSpells x t.bytes in fixed t.bytes (subst P is s)

again-mark : (kind : Kind) → IsFixed kind → OneWriting (Mark kind)
again-mark kind fixed ts rest us left (t, e, is) (u, f, also) later =
    alike-first t u ts rest us left e f (is ∙ sym also) (λ s r. fixed-bytes kind fixed t is s.0 ∙ sym (fixed-bytes kind fixed u also r.0)) later

again-sign : (kind : Kind) (at : Span) → IsFixed kind → OneWriting (Sign kind at)
again-sign kind at fixed ts rest us left a b later = again-mark kind fixed ts rest us left (mark-sign kind at ts rest a) (mark-sign kind at us left b) later

again-word : (kind : Kind) (w : Lexeme) → OneWriting (Spelled kind w)
again-word kind w ts rest us left (t, e, is, same) (u, f, also, alike) later =
    alike-first t u ts rest us left e f (is ∙ sym also) (λ s r. ap (λ (v : Lexeme). v.text) (same ∙ sym alike)) later

again-nothing : OneWriting Nothing
again-nothing ts rest us left e f later s r =
    let P : List Token → Type 0 = λ l. Alike l us in
    let Q : List Token → Type 0 = λ l. Alike rest l in
    subst P (sym e) (subst Q (sym f) (later (subst AreSpelled e s) (subst AreSpelled f r)))

again-then : (P Q : Phrase) → OneWriting P → OneWriting Q → OneWriting (P ⨾ Q)
again-then P Q p q ts rest us left (t1, a, b) (u1, c, d) later = p ts t1 us u1 a c (q t1 rest u1 left b d later)

again-each : {A : Type 0} (P : A → Phrase) → ((x : A) → OneWriting (P x)) → (xs : List A) → OneWriting (Each P xs)
again-each P p [] = again-nothing
again-each P p (x ∷ xs) = again-then (P x) (Each P xs) (p x) (again-each P p xs)

-- tokens that the tree keeps
again-kept : (tokens ts rest us left : List Token) → ts ≡ tokens ++ rest → us ≡ tokens ++ left → Behind rest left → Behind ts us
again-kept [] ts rest us left e f later = again-nothing ts rest us left e f later
again-kept (t ∷ tokens) ts rest us left e f later = alike-first t t ts (tokens ++ rest) us (tokens ++ left) e f refl (λ s r. refl) (again-kept tokens (tokens ++ rest) rest (tokens ++ left) left refl refl later)

-- ---- lines

again-dotted : (w : Lexeme) → OneWriting (Mark k.Dot ⨾ Spelled k.Name w)
again-dotted w = again-then (Mark k.Dot) (Spelled k.Name w) (again-mark k.Dot (λ b s. s)) (again-word k.Name w)

again-qualified : (name : List Lexeme) → OneWriting (Qualified name)
again-qualified [] ts rest us left none b later = absurd none
again-qualified (w ∷ words) ts rest us left a b later =
    again-then (Spelled k.Name w) (Each (λ y. Mark k.Dot ⨾ Spelled k.Name y) words) (again-word k.Name w) (again-each (λ y. Mark k.Dot ⨾ Spelled k.Name y) again-dotted words) ts rest us left a b later

again-package : (p : Package) → OneWriting (PackageSpells p)
again-package p =
    again-then (Mark k.Package) (Qualified p.name ⨾ Mark k.Semicolon) (again-mark k.Package (λ b s. s))
    (again-then (Qualified p.name) (Mark k.Semicolon) (again-qualified p.name) (again-mark k.Semicolon (λ b s. s)))

again-line : (line : Option Package) → OneWriting (PackagePart line)
again-line None = again-nothing
again-line (Some p) = again-package p

again-static : (at : Option Span) → OneWriting (Optional (Sign k.Static) at)
again-static None = again-nothing
again-static (Some at) = again-sign k.Static at (λ b s. s)

again-star : (star : Option Span) → OneWriting (Star star)
again-star None = again-nothing
again-star (Some at) = again-then (Mark k.Dot) (Sign k.Times at) (again-mark k.Dot (λ b s. s)) (again-sign k.Times at (λ b s. s))

again-import : (i : Import) → OneWriting (ImportSpells i)
again-import i =
    again-then (Mark k.Import) (Optional (Sign k.Static) i.static_word ⨾ Qualified i.name ⨾ Star i.star ⨾ Mark k.Semicolon) (again-mark k.Import (λ b s. s))
    (again-then (Optional (Sign k.Static) i.static_word) (Qualified i.name ⨾ Star i.star ⨾ Mark k.Semicolon) (again-static i.static_word)
    (again-then (Qualified i.name) (Star i.star ⨾ Mark k.Semicolon) (again-qualified i.name)
    (again-then (Star i.star) (Mark k.Semicolon) (again-star i.star) (again-mark k.Semicolon (λ b s. s)))))

-- ---- types

again-member : (kind : TypeKind) (name : List ℕ) (m : MemberTree) → OneWriting (TypeMember kind name m)
again-member kind name m ts rest us left a b later = again-kept (tokens_of m) ts rest us left (kept kind name m ts rest a) (kept kind name m us left b) later

again-type : (c : ClassTree) → OneWriting (TypeSpells c)
again-type c ts rest us left (t1, (t0, (p, is), brace), (t2, members, end)) (u1, (u0, (q, also), other), (u2, others, last)) later =
    again-kept c.tokens ts t0 us u0 is also
    (again-mark k.LBrace (λ b s. s) t0 t1 u0 u1 brace other
    (again-each (TypeMember c.kind c.name.text) (again-member c.kind c.name.text) c.members t1 t2 u1 u2 members others
    (again-mark k.RBrace (λ b s. s) t2 rest u2 left end last later)))

pub again-file : (file : FileTree) (ts us : List Token) → Spells ts file → Spells us file → AreSpelled ts → AreSpelled us → Alike ts us
again-file file ts us (t1, a, (t2, b, c)) (u1, d, (u2, e, f)) =
    again-line file.«package» ts t1 us u1 a d
    (again-each ImportSpells again-import file.imports t1 t2 u1 u2 b e
    (again-each TypeSpells again-type file.types t2 [] u2 [] c f (λ s r. tt)))
