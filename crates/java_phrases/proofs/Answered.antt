-- What a reader answers through the cursor, where its parser is known for what is spelled.
use Rattle.std.proofs.Common.{◌≡◌, ◌≢◌, List, Result, Ok, Err, IfOk, refl, ◌∙◌, sym}
use Rattle.java_phrases.specs.Tree.{Token}
use Rattle.java_phrases.specs.Common.{Phrase, ahead, Steps, Found, Lost, Parser, Gives}
use Rattle.java_phrases.specs.declared.error.SyntaxError.{SyntaxError, SyntaxError as error}
use Rattle.java_phrases.specs.declared.tokens.Tokens.{Tokens}

same-found : {A : Type 0} (x y : A) (ts rest : List Token) → Found x ts ≡ Found y rest → (x ≡ y) × (ts ≡ rest)
same-found x y ts rest e = (cc, cc)

-- what the parser finds is what is answered
pub gives : {A : Type 0} (p : Parser A) (old new : Tokens) (r : Result A SyntaxError) → Steps p old r new → (y : A) (rest : List Token) → p (ahead old) ≡ Found y rest → Gives r (ahead new) y rest
gives p old new (Ok x) (e, moved) y rest is = same-found x y (ahead new) rest (sym e ∙ is)
gives p old new (Err error.NotSpelled) reads y rest is =
    let other : error.NotSpelled ≢ error.OutOfMemory = λ e. cc in
    let same : Lost ≡ Found y rest = sym (reads other) ∙ is in
    cc
gives p old new (Err error.OutOfMemory) reads y rest is = refl

pub steps-found : {A : Type 0} (P : A → Phrase) (p : Parser A) → ((ts rest : List Token) (x : A) → p ts ≡ Found x rest → P x ts rest) → (old new : Tokens) (r : Result A SyntaxError) → Steps p old r new → IfOk r (λ x. P x (ahead old) (ahead new))
steps-found P p sound old new (Ok x) (e, moved) = sound (ahead old) (ahead new) x e
steps-found P p sound old new (Err e) reads = tt

-- tokens begin with one tree at most
pub one-found : {A : Type 0} (P : A → Phrase) (p : Parser A) → ((x : A) (ts rest : List Token) → P x ts rest → p ts ≡ Found x rest) → (one other : A) (ts rest other_rest : List Token) → P one ts rest → P other ts other_rest → (one ≡ other) × (rest ≡ other_rest)
one-found P p complete one other ts rest other_rest s s1 = same-found one other rest other_rest (sym (complete one ts rest s) ∙ complete other ts other_rest s1)
