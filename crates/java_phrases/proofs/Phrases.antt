-- Laws of phrases and parsers of one token, of their sequences, and of the tokens that they take.
use Rattle.std.proofs.Common.{◌≡◌, ◌≤◌, Bool, true, false, cond, List, [], ◌∷◌, ◌++◌, length, Option, Some, None, refl, ap, ◌∙◌, sym, subst, arith, rules, append_assoc, length-append}
use denote.Enum.Bare.{same_true, true_same}
use Rattle.java_phrases.specs.Tree.{Span, Kind, Token, Lexeme}
use Rattle.java_phrases.specs.Common.{Phrase, Nothing, Mark, Sign, Spelled, word_of, Outcome, Found, Lost, Parser, and_then, same_kind, next_kind, sees, sign, word}
use Rattle.java_tree.specs.contracts.kind.Kind.{the_type}

pub and_then-some : {A B : Type 0} (o : Outcome A) (f : A → Parser B) (y : B) (rest : List Token) → and_then o f ≡ Found y rest
    → (x : A) × (mid : List Token) × (o ≡ Found x mid) × (f x mid ≡ Found y rest)
and_then-some (Found x mid) f y rest e = (x, mid, refl, e)
and_then-some Lost f y rest e = cc

pub pure-is : {A : Type 0} (P : A → List Token → Type 0) (x y : A) (ts rest : List Token) → Found x ts ≡ Found y rest → P x ts → P y rest
pure-is P x y ts rest e p = let a : x ≡ y = cc in let b : ts ≡ rest = cc in subst (λ z. P z rest) a (subst (P x) b p)

pub same_is : (a b : Kind) → same_kind a b ≡ true → a ≡ b
same_is = same_true the_type (search rules)

pub is_same : (a b : Kind) → a ≡ b → same_kind a b ≡ true
is_same = true_same the_type

-- ---- one token, both ways

sign-sound_by : (kind : Kind) (t : Token) (ts rest : List Token) (at : Span) (b : Bool) → same_kind t.kind kind ≡ b → cond b (Found t.span ts) Lost ≡ Found at rest
    → Sign kind at (t ∷ ts) rest
sign-sound_by kind t ts rest at true same e = (t, cc, same_is t.kind kind same, cc)
sign-sound_by kind t ts rest at false same e = cc

pub sign-sound : (kind : Kind) (ts rest : List Token) (at : Span) → sign kind ts ≡ Found at rest → Sign kind at ts rest
unfolding sign
sign-sound kind [] rest at e = cc
sign-sound kind (t ∷ ts) rest at e = sign-sound_by kind t ts rest at (same_kind t.kind kind) refl e

word-sound_by : (kind : Kind) (t : Token) (ts rest : List Token) (w : Lexeme) (b : Bool) → same_kind t.kind kind ≡ b → cond b (Found (word_of t) ts) Lost ≡ Found w rest
    → Spelled kind w (t ∷ ts) rest
word-sound_by kind t ts rest w true same e = (t, cc, same_is t.kind kind same, cc)
word-sound_by kind t ts rest w false same e = cc

pub word-sound : (kind : Kind) (ts rest : List Token) (w : Lexeme) → word kind ts ≡ Found w rest → Spelled kind w ts rest
unfolding word
word-sound kind [] rest w e = cc
word-sound kind (t ∷ ts) rest w e = word-sound_by kind t ts rest w (same_kind t.kind kind) refl e

pub sign-complete : (kind : Kind) (ts rest : List Token) (at : Span) → Sign kind at ts rest → sign kind ts ≡ Found at rest
unfolding sign
sign-complete kind ts rest at (t, e, is, stands) = rw (e, is_same t.kind kind is, stands) refl

pub word-complete : (kind : Kind) (ts rest : List Token) (w : Lexeme) → Spelled kind w ts rest → word kind ts ≡ Found w rest
unfolding word
word-complete kind ts rest w (t, e, is, stands) = rw (e, is_same t.kind kind is) (ap (λ x. Found x rest) stands)

-- ---- where no span is kept

pub mark-sign : (kind : Kind) (at : Span) (ts rest : List Token) → Sign kind at ts rest → Mark kind ts rest
mark-sign kind at ts rest (t, e, is, stands) = (t, e, is)

pub sign-mark : (kind : Kind) (ts rest : List Token) → Mark kind ts rest → (at : Span) × Sign kind at ts rest
sign-mark kind ts rest (t, e, is) = (t.span, (t, e, is, refl))

-- ---- what stands next

pub next-sign : (kind : Kind) (at : Span) (ts rest : List Token) → Sign kind at ts rest → next_kind ts ≡ Some kind
unfolding next_kind
next-sign kind at ts rest (t, e, is, stands) = rw (e, is) refl

pub next-mark : (kind : Kind) (ts rest : List Token) → Mark kind ts rest → next_kind ts ≡ Some kind
unfolding next_kind
next-mark kind ts rest (t, e, is) = rw (e, is) refl

pub next-word : (kind : Kind) (w : Lexeme) (ts rest : List Token) → Spelled kind w ts rest → next_kind ts ≡ Some kind
unfolding next_kind
next-word kind w ts rest (t, e, is, stands) = rw (e, is) refl

abbrev pub seen : Kind → Option Kind → Bool
seen kind None = false
seen kind (Some other) = same_kind other kind

pub sees-next : (kind : Kind) (ts : List Token) → sees kind ts ≡ seen kind (next_kind ts)
unfolding sees next_kind
sees-next kind [] = refl
sees-next kind (t ∷ ts) = refl

-- ---- which tokens a phrase takes

abbrev pub Spent : Phrase
Spent ts rest = (taken : List Token) × (ts ≡ taken ++ rest)

pub spent-nothing : (ts rest : List Token) → Nothing ts rest → Spent ts rest
spent-nothing ts rest e = ([], e)

pub spent-one : (t : Token) (ts rest : List Token) → ts ≡ t ∷ rest → Spent ts rest
spent-one t ts rest e = (t ∷ [], e)

pub spent-then : (ts mid rest : List Token) → Spent ts mid → Spent mid rest → Spent ts rest
spent-then ts mid rest (a, e) (b, f) = (a ++ b, e ∙ ap (λ l. a ++ l) f ∙ sym (append_assoc a b rest))

pub not_longer : (ts rest : List Token) → Spent ts rest → length rest ≤ length ts
not_longer ts rest (taken, is) = let b : length ts ≡ length (taken ++ rest) = ap length is in omega (arith, length-append taken rest)
