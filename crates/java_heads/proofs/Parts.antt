-- A part of a file whose tree keeps its tokens.
use Rattle.std.proofs.Common.{◌≡◌, ◌≢◌, List, [], ◌++◌, reverse, Result, Ok, Err, IfOk, refl, ap, ◌∙◌, sym, subst}
use Rattle.std.proofs.lemmas.List.{append_cancel_right}
use Rattle.java_phrases.specs.Tree.{Token}
use Rattle.java_phrases.specs.Common.{Phrase, ahead, from_start, Found, Lost, Parser, Gives}
use Rattle.java_phrases.specs.declared.error.SyntaxError.{SyntaxError, SyntaxError as error}
use Rattle.java_phrases.specs.declared.tokens.Tokens.{Tokens}
use Rattle.java_heads.specs.Answers.{ReadsKept}

-- The phrase and its reader leave the tokens out.
pub record IsPart {A : Type 0} (P : A → Phrase) (p : Parser A) (tokens_of : A → List Token) (with_tokens : List Token → A → A) : Type 0 where
  pub sound : (ts rest : List Token) (x : A) → p ts ≡ Found x rest → P x ts rest
  pub complete : (x : A) (ts rest : List Token) → P x ts rest → p ts ≡ Found (with_tokens [] x) rest
  pub keeps : (l : List Token) (x : A) (ts rest : List Token) → P x ts rest → P (with_tokens l x) ts rest
  pub has : (l : List Token) (x : A) → tokens_of (with_tokens l x) ≡ l
  pub again : (l m : List Token) (x : A) → with_tokens l (with_tokens m x) ≡ with_tokens l x
  pub own : (x : A) → with_tokens (tokens_of x) x ≡ x

module _ {A : Type 0} (P : A → Phrase) (p : Parser A) (tokens_of : A → List Token) (with_tokens : List Token → A → A) (part : IsPart P p tokens_of with_tokens) where
  pub part-found : (ts after taken : List Token) (x : A) → p ts ≡ Found x after → taken ++ after ≡ ts → P (with_tokens taken x) ts after × (ts ≡ tokens_of (with_tokens taken x) ++ after)
  part-found ts after taken x e kept = (part.keeps taken x ts after (part.sound ts after x e), sym kept ∙ ap (λ l. l ++ after) (sym (part.has taken x)))

  pub part-only : (ts after taken : List Token) (x : A) → p ts ≡ Found x after → taken ++ after ≡ ts → (y : A) (rest : List Token) → P y ts rest → ts ≡ tokens_of y ++ rest
      → (with_tokens taken x ≡ y) × (after ≡ rest)
  part-only ts after taken x e kept y rest s of_y =
      let same : Found x after ≡ Found (with_tokens [] y) rest = sym e ∙ part.complete y ts rest s in
      let tree : x ≡ with_tokens [] y = cc in
      let ends : after ≡ rest = cc in
      let tokens : taken ≡ tokens_of y = append_cancel_right taken (tokens_of y) rest (ap (λ l. taken ++ l) (sym ends) ∙ kept ∙ of_y) in
      (ap (with_tokens taken) tree ∙ part.again taken [] y ∙ ap (λ l. with_tokens l y) tokens ∙ part.own y, ends)

  pub part-lost : (ts : List Token) → p ts ≡ Lost → (y : A) (rest : List Token) → P y ts rest → ⊥
  part-lost ts e y rest s = let same : Lost ≡ Found (with_tokens [] y) rest = sym e ∙ part.complete y ts rest s in cc

-- ---- through the cursor

pub ahead-same : (a b : Tokens) → a.stack ≡ b.stack → ahead a ≡ ahead b
ahead-same a b same = ap reverse same

pub takes : {A : Type 0} (p : Parser A) (with_tokens : List Token → A → A) (old before end new : Tokens) (bare x : A) (tokens : List Token)
    → before.stack ≡ old.stack → before.taken ≡ [] → p (ahead before) ≡ Found bare (ahead end) → from_start end ≡ from_start before → new.stack ≡ end.stack → tokens ≡ end.taken → x ≡ with_tokens tokens bare
    → ReadsKept p with_tokens (ahead old) (Ok x) (ahead new)
takes {A} p with_tokens old before end new bare x tokens same none e moved after kept is =
    let a : ahead before ≡ ahead old = ahead-same before old same in
    let b : ahead new ≡ ahead end = ahead-same new end after in
    let start : from_start before ≡ ahead before = ap (λ l. l ++ ahead before) none in
    (bare, tokens, ap p (sym a) ∙ e ∙ ap (λ l. Found bare l) (sym b), is, ap (λ l. l ++ ahead new) kept ∙ ap (λ l. end.taken ++ l) b ∙ moved ∙ start ∙ a)

module _ {A : Type 0} (P : A → Phrase) (p : Parser A) (tokens_of : A → List Token) (with_tokens : List Token → A → A) (part : IsPart P p tokens_of with_tokens) where
  pub takes-found : (ts rest : List Token) (r : Result A SyntaxError) → ReadsKept p with_tokens ts r rest → IfOk r (λ x. P x ts rest × (ts ≡ tokens_of x ++ rest))
  takes-found ts rest (Ok x) (bare, tokens, e, is, kept) =
      let Q : A → Type 0 = λ z. P z ts rest × (ts ≡ tokens_of z ++ rest) in
      subst Q (sym is) (part-found P p tokens_of with_tokens part ts rest tokens bare e kept)
  takes-found ts rest (Err e) reads = tt

  pub takes-only : (ts after : List Token) (r : Result A SyntaxError) → ReadsKept p with_tokens ts r after → (y : A) (rest : List Token) → P y ts rest × (ts ≡ tokens_of y ++ rest) → Gives r after y rest
  takes-only ts after (Ok x) (bare, tokens, e, is, kept) y rest (s, of_y) =
      let (same, ends) = part-only P p tokens_of with_tokens part ts after tokens bare e kept y rest s of_y in
      (is ∙ same, ends)
  takes-only ts after (Err error.NotSpelled) reads y rest (s, of_y) =
      let other : error.NotSpelled ≢ error.OutOfMemory = λ e. cc in
      absurd (part-lost P p tokens_of with_tokens part ts (reads other) y rest s)
  takes-only ts after (Err error.OutOfMemory) reads y rest s = refl

-- ---- tokens begin with one part at most

pub one-kept : {A : Type 0} (P : A → Phrase) (p : Parser A) (tokens_of : A → List Token) (with_tokens : List Token → A → A) → IsPart P p tokens_of with_tokens → (one other : A) (ts rest other_rest : List Token)
    → P one ts rest × (ts ≡ tokens_of one ++ rest) → P other ts other_rest × (ts ≡ tokens_of other ++ other_rest) → (one ≡ other) × (rest ≡ other_rest)
one-kept P p tokens_of with_tokens part one other ts rest other_rest (s, of_one) (s1, of_other) =
    let (same, ends) = part-only P p tokens_of with_tokens part ts rest (tokens_of one) (with_tokens [] one) (part.complete one ts rest s) (sym of_one) other other_rest s1 of_other in
    (sym (part.own one) ∙ sym (part.again (tokens_of one) [] one) ∙ same, ends)
