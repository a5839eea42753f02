-- What the public calls find, and that they find all that is spelled.
use Rattle.std.proofs.Common.{◌≡◌, ◌≢◌, List, [], ◌++◌, Result, Ok, Err, IfOk, refl, ap, ◌∙◌, sym, subst}
use Rattle.std.proofs.lemmas.List.{append_cancel_right}
use Rattle.java_phrases.specs.Tree.{Kind as k, Token, Field, Sig}
use Rattle.java_phrases.specs.Common.{Mark, Found, Lost, ◌>>◌, sign, Gives}
use Rattle.java_phrases.specs.declared.error.SyntaxError.{SyntaxError, SyntaxError as error}
use Rattle.java_phrases.proofs.Phrases.{and_then-some, pure-is}
use Rattle.java_heads.specs.declared.header.Header.{Header}
use Rattle.java_heads.specs.Spelling.{FieldParts, SigParts, HeaderParts, HeaderSpells}
use Rattle.java_heads.specs.Reading.{field, signature, type_header, brace}
use Rattle.java_heads.specs.Answers.{ReadsHeader, field_with, sig_with, header_with}
use Rattle.java_heads.proofs.Lists.{mark-sound, mark-complete}
use Rattle.java_heads.proofs.MemberLaws.{field-sound, field-complete, signature-sound, signature-complete}
use Rattle.java_heads.proofs.LineLaws.{header-sound, header-complete}
use Rattle.java_heads.proofs.Parts.{IsPart}

abbrev pub field_tokens : Field → List Token
field_tokens f = f.tokens

pub field-part : IsPart FieldParts field field_tokens field_with
field-part = record {
  sound = field-sound;
  complete = field-complete;
  keeps = λ l x ts rest s. s;
  has = λ l x. refl;
  again = λ l m x. refl;
  own = λ x. refl;
}

abbrev pub sig_tokens : Sig → List Token
sig_tokens s = s.tokens

pub sig-part : IsPart SigParts signature sig_tokens sig_with
sig-part = record {
  sound = signature-sound;
  complete = signature-complete;
  keeps = λ l x ts rest s. s;
  has = λ l x. refl;
  again = λ l m x. refl;
  own = λ x. refl;
}

brace-sound : (ts rest : List Token) (u : Unit {0}) → brace ts ≡ Found u rest → Mark k.LBrace ts rest
unfolding brace
brace-sound ts rest u e =
    let (at, mid, is, e1) = and_then-some (sign k.LBrace ts) _ u rest e in
    pure-is (λ u r. Mark k.LBrace ts r) tt u mid rest e1 (mark-sound k.LBrace ts mid at is)

brace-complete : (ts rest : List Token) → Mark k.LBrace ts rest → brace ts ≡ Found tt rest
unfolding brace
brace-complete ts rest s = let (at, is) = mark-complete k.LBrace ts rest s in rw is refl

braced : (h : Header) (ts mid rest : List Token) → type_header ts ≡ Found h mid → brace mid ≡ Found tt rest → (type_header >> brace) ts ≡ Found tt rest
braced h ts mid rest e f = rw (e, f) refl

header-is : (h : Header) (ts mid rest : List Token) → HeaderParts h ts mid → Mark k.LBrace mid rest → type_header ts ≡ Found (header_with [] h) mid
header-is h ts mid rest s end = header-complete h ts mid rest s end

pub found_header : (ts rest : List Token) (r : Result Header SyntaxError) → ReadsHeader ts r rest → IfOk r (λ h. HeaderSpells h ts rest)
found_header ts rest (Ok h) (mid, (bare, tokens, e, is, kept), f) =
    let P : Header → Type 0 = λ g. HeaderSpells g ts rest in
    subst P (sym is) (mid, (header-sound ts mid bare e, sym kept), brace-sound mid rest tt f)
found_header ts rest (Err e) reads = tt

same_header : (x y : Header) (ts mid other after rest tokens : List Token) → type_header ts ≡ Found x mid → tokens ++ mid ≡ ts → brace mid ≡ Found tt after → HeaderParts y ts other → ts ≡ y.tokens ++ other → Mark k.LBrace other rest
    → (header_with tokens x ≡ y) × (after ≡ rest)
same_header x y ts mid other after rest tokens e kept f s of_y end =
    let same : Found x mid ≡ Found (header_with [] y) other = sym e ∙ header-is y ts other rest s end in
    let tree : x ≡ header_with [] y = cc in
    let ends : mid ≡ other = cc in
    let taken : tokens ≡ y.tokens = append_cancel_right tokens y.tokens other (ap (λ l. tokens ++ l) (sym ends) ∙ kept ∙ of_y) in
    let last : Found tt after ≡ Found tt rest = sym f ∙ ap brace ends ∙ brace-complete other rest end in
    (ap (header_with tokens) tree ∙ ap (λ l. header_with l y) taken, cc)

pub only_header : (ts after : List Token) (r : Result Header SyntaxError) → ReadsHeader ts r after → (h : Header) (rest : List Token) → HeaderSpells h ts rest → Gives r after h rest
only_header ts after (Ok x) (mid, (bare, tokens, e, is, kept), f) h rest (other, (s, of_h), end) =
    let (same, ends) = same_header bare h ts mid other after rest tokens e kept f s of_h end in
    (is ∙ same, ends)
only_header ts after (Err error.NotSpelled) reads h rest (other, (s, of_h), end) =
    let differs : error.NotSpelled ≢ error.OutOfMemory = λ e. cc in
    let same : Lost ≡ Found tt rest = sym (reads differs) ∙ braced (header_with [] h) ts other rest (header-is h ts other rest s end) (brace-complete other rest end) in
    cc
only_header ts after (Err error.OutOfMemory) reads h rest s = refl

pub one_header : (one other : Header) (ts rest other_rest : List Token) → HeaderSpells one ts rest → HeaderSpells other ts other_rest → (one ≡ other) × (rest ≡ other_rest)
one_header one other ts rest other_rest (mid, (s, of_one), end) (mid1, (s1, of_other), end1) =
    same_header (header_with [] one) other ts mid mid1 rest other_rest one.tokens (header-is one ts mid rest s end) (sym of_one) (brace-complete mid rest end) s1 of_other end1
