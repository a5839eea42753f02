-- A text is read in one way.
use Rattle.std.proofs.Common.{◌≡◌, ℕ, ◌+◌, ◌-◌, ◌≤◌, ◌<◌, List, [], ◌∷◌, ◌++◌, length, take, drop, refl, sym, ◌∙◌, ap, inl, inr, subst, arith}
use Rattle.std.specs.Str.{IsUtf8, IsValidUpTo}
use Rattle.std.proofs.lemmas.Bool.{cases_order, cases_lt}
use Rattle.std.proofs.lemmas.Str.{utf8_valid_len-IsValidUpTo, utf8_valid_len-IsUtf8}
use Rattle.std.proofs.lemmas.List.{append_assoc, append-nil, get_or_past, length-take-le, length-drop}
use Rattle.java_tree.specs.declared.kind.Kind.{Kind}
use Rattle.java_tree.specs.declared.token.Token.{Token}
use Rattle.java_lexer.specs.Lumps.{IsComment, IsUnicodeEscapeAt, HasNoEscapeBefore}
use Rattle.java_lexer.specs.Lexing.{Longest, Spells, IsGap, IsNothing, IsFault, CutTo, token_at, Lexes, IsStuckAt, LexAt, Follow, AreSpelled}
use Rattle.java_lexer.specs.Lexing.IsFault.{no_lump, no_token, unicode}
use Rattle.java_lexer.specs.Lexing.CutTo.{start, gap, token}
use Rattle.std.specs.Prelude.{Result, Ok, Err, IfOk, IfErr}
use Rattle.java_lexer.specs.declared.error.LexError.{LexError}
use Rattle.java_lexer.specs.declared.error.LexError.TheVariants.{Lex, OutOfMemory}
use Rattle.java_lexer.specs.Answers.{IsStuck, GivesTokens, GivesPlace}
use Rattle.java_lexer.proofs.KindLemmas.{spells_kind, gap_kind, comment_kind, blank_alone}
use Rattle.java_lexer.proofs.Pieces.{longest_some}

-- ---- one step

pub one_longest : (z : List ℕ) (n m : ℕ) → Longest z n → Longest z m → n ≡ m
one_longest z n m h k = elim (cases_order n m) [
  | inl e ↦ e
  | inr o ↦ elim o [
    | inl lt ↦ absurd (h.longest m lt k.within k.lump)
    | inr gt ↦ absurd (k.longest n gt h.within h.lump)
  ]
]

one_kind : (bytes : List ℕ) (k m : Kind) → Spells k bytes → Spells m bytes → k ≡ m
one_kind bytes k m h i = let e = spells_kind k bytes h in let f = spells_kind m bytes i in cc

gap_token : (bytes : List ℕ) (k : Kind) → IsGap bytes → Spells k bytes → ⊥
gap_token bytes k h i = let e = gap_kind bytes h in let f = spells_kind k bytes i in cc

escape_within : (bytes : List ℕ) (at : ℕ) → IsUnicodeEscapeAt bytes at → at < length bytes
escape_within bytes at h = elim (cases_lt at (length bytes)) [
  | inl lt ↦ lt
  | inr ge ↦ let past = get_or_past bytes at 0 ge in let slash = h.slash in absurd (omega arith)
]

fault_gap : (z : List ℕ) (at n : ℕ) → IsFault z at → Longest z n → IsGap (take n z) → ⊥
fault_gap z at n (no_lump _ e some none) l g = none n l.within l.lump
fault_gap z at n (no_token _ m e k nothing) l g =
    let same = one_longest z m n k l in
    let none : IsNothing (take n z) = subst (λ (x : ℕ). IsNothing (take x z)) same nothing in
    elim g [ inl blank ↦ none.no_blank blank | inr c ↦ none.no_comment c.0 ]
fault_gap z at n (unicode _ m k comment escape first) l g =
    let same = one_longest z m n k l in
    let there : IsUnicodeEscapeAt (take n z) at = subst (λ (x : ℕ). IsUnicodeEscapeAt (take x z) at) same escape in
    let is : IsComment (take n z) = subst (λ (x : ℕ). IsComment (take x z)) same comment in
    elim g [ inl blank ↦ blank_alone (take n z) blank is | inr c ↦ c.1 at (escape_within (take n z) at there) there ]

fault_token : (z : List ℕ) (at n : ℕ) (k : Kind) → IsFault z at → Longest z n → Spells k (take n z) → ⊥
fault_token z at n kind (no_lump _ e some none) l s = none n l.within l.lump
fault_token z at n kind (no_token _ m e k nothing) l s =
    let same = one_longest z m n k l in
    let none : IsNothing (take n z) = subst (λ (x : ℕ). IsNothing (take x z)) same nothing in
    none.no_token kind s
fault_token z at n kind (unicode _ m k comment escape first) l s =
    let same = one_longest z m n k l in
    let is : IsComment (take n z) = subst (λ (x : ℕ). IsComment (take x z)) same comment in
    let e = comment_kind (take n z) is in let f = spells_kind kind (take n z) s in cc

one_escape : (bytes : List ℕ) (a b : ℕ) → IsUnicodeEscapeAt bytes a → HasNoEscapeBefore bytes a → IsUnicodeEscapeAt bytes b → HasNoEscapeBefore bytes b → a ≡ b
one_escape bytes a b h first k least = elim (cases_order a b) [
  | inl e ↦ e
  | inr o ↦ elim o [ inl lt ↦ absurd (least a lt h) | inr gt ↦ absurd (first b gt k) ]
]

pub one_fault : (z : List ℕ) (a b : ℕ) → IsFault z a → IsFault z b → a ≡ b
one_fault z a b (no_lump _ e some none) (no_lump _ f some' none') = e ∙ sym f
one_fault z a b (no_lump _ e some none) (no_token _ m f k nothing) = absurd (none m k.within k.lump)
one_fault z a b (no_lump _ e some none) (unicode _ m k comment escape first) = absurd (none m k.within k.lump)
one_fault z a b (no_token _ m e k nothing) (no_lump _ f some none) = absurd (none m k.within k.lump)
one_fault z a b (no_token _ m e k nothing) (no_token _ n f l nothing') = e ∙ sym f
one_fault z a b (no_token _ n e l nothing) (unicode _ m k comment escape first) =
    absurd (nothing.no_comment (subst (λ (x : ℕ). IsComment (take x z)) (one_longest z m n k l) comment))
one_fault z a b (unicode _ m k comment escape first) (no_lump _ f some none) = absurd (none m k.within k.lump)
one_fault z a b (unicode _ m k comment escape first) (no_token _ n f l nothing) =
    absurd (nothing.no_comment (subst (λ (x : ℕ). IsComment (take x z)) (one_longest z m n k l) comment))
one_fault z a b (unicode _ m k comment escape first) (unicode _ n l comment' escape' first') =
    let same = one_longest z m n k l in
    one_escape (take n z) a b (subst (λ (x : ℕ). IsUnicodeEscapeAt (take x z) a) same escape) (subst (λ (x : ℕ). HasNoEscapeBefore (take x z) a) same first) escape' first'

pub fault_within : (z : List ℕ) (at : ℕ) → IsFault z at → at < length z
fault_within z at (no_lump _ e some none) = omega arith
fault_within z at (no_token _ m e k nothing) = let some = longest_some z m k in let within = k.within in omega arith
fault_within z at (unicode _ m k comment escape first) =
    let within = k.within in let low = escape_within (take m z) at escape in omega (arith, length-take-le m z within)

-- ---- all steps

data Outcome : Type 0 where
  Cut : List Token → Outcome
  Stuck : ℕ → Outcome

with_front : List Token → Outcome → Outcome
with_front ts (Cut us) = Cut (ts ++ us)
with_front ts (Stuck at) = Stuck at

-- from a place on, what becomes of the rest of the text
data Reads (text : List ℕ) : ℕ → Outcome → Type 0 where
  ends : (at : ℕ) → at ≡ length text → Reads text at (Cut [])
  stops : (at offset : ℕ) → IsFault (drop at text) offset → Reads text at (Stuck (at + offset))
  skips : (at n : ℕ) (o : Outcome) → Longest (drop at text) n → IsGap (take n (drop at text)) → Reads text (at + n) o → Reads text at o
  takes : (at n : ℕ) (kind : Kind) (o : Outcome) → Longest (drop at text) n → Spells kind (take n (drop at text)) → Reads text (at + n) o → Reads text at (with_front (token_at text at n kind ∷ []) o)

none_left : (text : List ℕ) (at n : ℕ) → at ≡ length text → Longest (drop at text) n → ⊥
none_left text at n e l =
    let some = longest_some (drop at text) n l in let within = l.within in
    absurd (omega (arith, length-drop at text))

no_fault : (text : List ℕ) (at offset : ℕ) → at ≡ length text → IsFault (drop at text) offset → ⊥
no_fault text at offset e f = let within = fault_within (drop at text) offset f in absurd (omega (arith, length-drop at text))

one_outcome : (text : List ℕ) (at : ℕ) (o p : Outcome) → Reads text at o → Reads text at p → o ≡ p
one_outcome text at o p (ends _ e) (ends _ f) = refl
one_outcome text at o p (ends _ e) (stops _ offset f) = absurd (no_fault text at offset e f)
one_outcome text at o p (ends _ e) (skips _ n _ l g r) = absurd (none_left text at n e l)
one_outcome text at o p (ends _ e) (takes _ n k q l s r) = absurd (none_left text at n e l)
one_outcome text at o p (stops _ offset f) (ends _ e) = absurd (no_fault text at offset e f)
one_outcome text at o p (stops _ a f) (stops _ b g) = ap (λ (x : ℕ). Stuck (at + x)) (one_fault (drop at text) a b f g)
one_outcome text at o p (stops _ a f) (skips _ n _ l g r) = absurd (fault_gap (drop at text) a n f l g)
one_outcome text at o p (stops _ a f) (takes _ n k q l s r) = absurd (fault_token (drop at text) a n k f l s)
one_outcome text at o p (skips _ n _ l g r) (ends _ e) = absurd (none_left text at n e l)
one_outcome text at o p (skips _ n _ l g r) (stops _ a f) = absurd (fault_gap (drop at text) a n f l g)
one_outcome text at o p (skips _ n _ l g r) (skips _ m _ k h t) =
    let same = one_longest (drop at text) m n k l in
    one_outcome text (at + n) o p r (subst (λ (x : ℕ). Reads text (at + x) p) same t)
one_outcome text at o p (skips _ n _ l g r) (takes _ m kind q k s t) =
    let same = one_longest (drop at text) m n k l in
    absurd (gap_token (take n (drop at text)) kind g (subst (λ (x : ℕ). Spells kind (take x (drop at text))) same s))
one_outcome text at o p (takes _ n k q l s r) (ends _ e) = absurd (none_left text at n e l)
one_outcome text at o p (takes _ n k q l s r) (stops _ a f) = absurd (fault_token (drop at text) a n k f l s)
one_outcome text at o p (takes _ m kind q k s t) (skips _ n _ l g r) =
    let same = one_longest (drop at text) m n k l in
    absurd (gap_token (take n (drop at text)) kind g (subst (λ (x : ℕ). Spells kind (take x (drop at text))) same s))
one_outcome text at o p (takes _ n kind q l s r) (takes _ m other w k h t) =
    let same = one_longest (drop at text) m n k l in
    let kinds = one_kind (take n (drop at text)) kind other s (subst (λ (x : ℕ). Spells other (take x (drop at text))) same h) in
    let rest = one_outcome text (at + n) q w r (subst (λ (x : ℕ). Reads text (at + x) w) same t) in
    cc

front_nil : (o : Outcome) → with_front [] o ≡ o
unfolding with_front
front_nil (Cut ts) = refl
front_nil (Stuck at) = refl

front_more : (ts us : List Token) (o : Outcome) → with_front ts (with_front us o) ≡ with_front (ts ++ us) o
unfolding with_front
front_more ts us (Cut vs) = ap (λ (x : List Token). Cut x) (sym (append_assoc ts us vs))
front_more ts us (Stuck at) = refl

-- what a cut part and the rest come to
from_start : (text : List ℕ) (at : ℕ) (ts : List Token) (o : Outcome) → CutTo text at ts → Reads text at o → Reads text 0 (with_front ts o)
from_start text at ts o start r = subst (λ (x : Outcome). Reads text 0 x) (sym (front_nil o)) r
from_start text at ts o (gap from n _ c l g) r = from_start text from ts o c (skips from n o l g r)
from_start text at ts o (token from n us kind c l s) r =
    subst (λ (x : Outcome). Reads text 0 x) (front_more us (token_at text from n kind ∷ []) o)
    (from_start text from us _ c (takes from n kind o l s r))

lexes_reads : (text : List ℕ) (ts : List Token) → Lexes text ts → Reads text 0 (Cut ts)
unfolding with_front
lexes_reads text ts h = subst (λ (x : List Token). Reads text 0 (Cut x)) (append-nil ts) (from_start text (length text) ts (Cut []) h.cut (ends (length text) refl))

stuck_reads : (text : List ℕ) (at : ℕ) → IsStuckAt text at → Reads text 0 (Stuck at)
unfolding with_front
stuck_reads text at h = subst (λ (x : ℕ). Reads text 0 (Stuck x)) (sym h.place) (from_start text h.from h.tokens (Stuck (h.from + h.offset)) h.cut (stops h.from h.offset h.fault))

pub one_list : (text : List ℕ) (ts us : List Token) → Lexes text ts → Lexes text us → ts ≡ us
one_list text ts us h k = let e = one_outcome text 0 (Cut ts) (Cut us) (lexes_reads text ts h) (lexes_reads text us k) in cc

not_both_utf8 : (text : List ℕ) (at : ℕ) → IsUtf8 text → IsValidUpTo text at → ⊥
not_both_utf8 text at h k =
    let whole = utf8_valid_len-IsUtf8 text h in let part = utf8_valid_len-IsValidUpTo text at k in let short = k.short in
    absurd (omega arith)

pub not_both : (text : List ℕ) (ts : List Token) (at : ℕ) → Lexes text ts → LexAt text at → ⊥
not_both text ts at h (inl k) = not_both_utf8 text at h.utf8 k
not_both text ts at h (inr k) = let e = one_outcome text 0 (Cut ts) (Stuck at) (lexes_reads text ts h) (stuck_reads text at k.1) in cc

pub one_place : (text : List ℕ) (a b : ℕ) → LexAt text a → LexAt text b → a ≡ b
one_place text a b (inl h) (inl k) = sym (utf8_valid_len-IsValidUpTo text a h) ∙ utf8_valid_len-IsValidUpTo text b k
one_place text a b (inl h) (inr k) = absurd (not_both_utf8 text a k.0 h)
one_place text a b (inr h) (inl k) = absurd (not_both_utf8 text b h.0 k)
one_place text a b (inr h) (inr k) = let e = one_outcome text 0 (Stuck a) (Stuck b) (stuck_reads text a h.1) (stuck_reads text b k.1) in cc

-- ---- spans

follow_later : (text : List ℕ) (from : ℕ) (ts : List Token) (end later : ℕ) → end ≤ later → Follow text from ts end → Follow text from ts later
follow_later text from [] end later le h = omega arith
follow_later text from (t ∷ ts) end later le h = (h.0, h.1, h.2, follow_later text t.span.end ts end later le h.3)

follow_push : (text : List ℕ) (from : ℕ) (ts : List Token) (at n : ℕ) (kind : Kind) → 0 < n → Follow text from ts at → Follow text from (ts ++ token_at text at n kind ∷ []) (at + n)
follow_push text from [] at n kind some h =
    let e : n ≡ at + n - at = omega arith in
    (h, omega arith, ap (λ (x : ℕ). take x (drop at text)) e, omega arith)
follow_push text from (t ∷ ts) at n kind some h = (h.0, h.1, h.2, follow_push text t.span.end ts at n kind some h.3)

pub cut_follow : (text : List ℕ) (at : ℕ) (ts : List Token) → CutTo text at ts → Follow text 0 ts at
cut_follow text at ts start = omega arith
cut_follow text at ts (gap from n _ c l g) = follow_later text 0 ts from (from + n) (omega arith) (cut_follow text from ts c)
cut_follow text at ts (token from n us kind c l s) = follow_push text 0 us from n kind (longest_some (drop from text) n l) (cut_follow text from us c)

spelled_push : (ts : List Token) (t : Token) → AreSpelled ts → Spells t.kind t.bytes → AreSpelled (ts ++ t ∷ [])
spelled_push [] t h s = (s, tt)
spelled_push (u ∷ ts) t h s = (h.0, spelled_push ts t h.1 s)

pub cut_spelled : (text : List ℕ) (at : ℕ) (ts : List Token) → CutTo text at ts → AreSpelled ts
cut_spelled text at ts start = tt
cut_spelled text at ts (gap from n _ c l g) = cut_spelled text from ts c
cut_spelled text at ts (token from n us kind c l s) = spelled_push us (token_at text from n kind) (cut_spelled text from us c) s

-- ---- what the lexer answers

pub gives_tokens : (text : List ℕ) (r : Result (List Token) LexError) → IsUtf8 text → IfOk r (CutTo text (length text)) → IfErr r (IsStuck text) → (ts : List Token) → Lexes text ts → GivesTokens r ts
gives_tokens text (Ok found) utf8 cut stuck ts h = one_list text found ts (record { utf8 = utf8; cut = cut }) h
gives_tokens text (Err (Lex at)) utf8 cut stuck ts h = absurd (not_both text ts at h (inr (utf8, stuck)))
gives_tokens text (Err OutOfMemory) utf8 cut stuck ts h = refl

pub gives_place : (text : List ℕ) (r : Result (List Token) LexError) → IsUtf8 text → IfOk r (CutTo text (length text)) → IfErr r (IsStuck text) → (at : ℕ) → LexAt text at → GivesPlace r at
gives_place text (Ok found) utf8 cut stuck at h = not_both text found at (record { utf8 = utf8; cut = cut }) h
gives_place text (Err (Lex at)) utf8 cut stuck place h = inl (ap Lex (one_place text at place (inr (utf8, stuck)) h))
gives_place text (Err OutOfMemory) utf8 cut stuck at h = inr refl
