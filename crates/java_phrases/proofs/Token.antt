-- One token is read, or another kind stands there.
use Rattle.std.proofs.Common.{◌≡◌, ℕ, true, false, List, [], ◌∷◌, ◌++◌, refl, subst}
use Rattle.std.proofs.Math.Seq.{append_snoc}
use Rattle.java_phrases.specs.Tree.{Kind, Token}
use Rattle.java_phrases.specs.Common.{Found, Lost, same_kind, sees, sign, word}

pub seen : (kind : Kind) (t : Token) (ts rest : List Token) → ts ≡ t ∷ rest → sees kind ts ≡ true → same_kind t.kind kind ≡ true
unfolding sees
seen kind t ts rest e is = let P : List Token → Type 0 = λ l. sees kind l ≡ true in subst P e is

pub sign_found : (kind : Kind) (t : Token) (ts rest : List Token) → ts ≡ t ∷ rest → same_kind t.kind kind ≡ true → sign kind ts ≡ Found t.span rest
unfolding sign
sign_found kind t ts rest e same = rw (e, same) refl

pub sign_unseen : (kind : Kind) (ts : List Token) → sees kind ts ≡ false → sign kind ts ≡ Lost
unfolding sees sign
sign_unseen kind [] e = refl
sign_unseen kind (t ∷ ts) e = rw e refl

pub word_found : (kind : Kind) (t : Token) (ts rest : List Token) (name : List ℕ) → name ≡ t.bytes → ts ≡ t ∷ rest → same_kind t.kind kind ≡ true
    → word kind ts ≡ Found (record { text = name; span = t.span }) rest
unfolding word
word_found kind t ts rest name n e same = rw (e, same, n) refl

pub word_unseen : (kind : Kind) (ts : List Token) → sees kind ts ≡ false → word kind ts ≡ Lost
unfolding sees word
word_unseen kind [] e = refl
word_unseen kind (t ∷ ts) e = rw e refl

-- a token that moves from the tokens ahead to those taken
pub moved : (old taken new : List Token) (t : Token) (ts rest : List Token) → taken ≡ old → new ≡ taken ++ t ∷ [] → ts ≡ t ∷ rest → new ++ rest ≡ old ++ ts
moved old taken new t ts rest same e f = rw (e, f, same) (append_snoc old t rest)
