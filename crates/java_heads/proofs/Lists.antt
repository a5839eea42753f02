-- Lists whose items are read one after another, and the tokens that phrases take.
use Rattle.std.proofs.Common.{◌≡◌, ℕ, zero, suc, ◌<◌, ◌≤◌, Bool, true, false, cond, List, [], ◌∷◌, ◌++◌, length, Some, refl, ap, ◌∙◌, sym, subst, arith, append_assoc}
use Rattle.std.proofs.lemmas.List.{append-nil}
use Rattle.java_phrases.specs.Tree.{Span, Kind, Token, Lexeme}
use Rattle.java_phrases.specs.Common.{Phrase, ◌⨾◌, Mark, Sign, Spelled, Each, Found, Parser, and_then, next_kind, same_kind, sees, sign, turns_from, turns}
use Rattle.java_phrases.proofs.Phrases.{and_then-some, pure-is, sign-sound, sign-complete, mark-sign, sign-mark, sees-next, Spent, spent-nothing, spent-one, spent-then, not_longer}
use Rattle.java_phrases.proofs.Loops.{turn_once, turn_ends}
use Rattle.java_heads.specs.Annotation.{Joined}
use Rattle.java_heads.specs.Reading.{also, after}

-- ---- which tokens a phrase takes

abbrev pub Spends : Phrase → Type 0
Spends P = (ts rest : List Token) → P ts rest → Spent ts rest

pub spends-mark : (kind : Kind) → Spends (Mark kind)
spends-mark kind ts rest (t, e, is) = spent-one t ts rest e

pub spends-sign : (kind : Kind) (at : Span) → Spends (Sign kind at)
spends-sign kind at ts rest (t, e, is, stands) = spent-one t ts rest e

pub spends-spelled : (kind : Kind) (w : Lexeme) → Spends (Spelled kind w)
spends-spelled kind w ts rest (t, e, is, stands) = spent-one t ts rest e

pub spends-then : (P Q : Phrase) → Spends P → Spends Q → Spends (P ⨾ Q)
spends-then P Q p q ts rest (mid, s, s1) = spent-then ts mid rest (p ts mid s) (q mid rest s1)

pub spends-each : {A : Type 0} (P : A → Phrase) → ((x : A) → Spends (P x)) → (xs : List A) → Spends (Each P xs)
spends-each P p [] ts rest s = spent-nothing ts rest s
spends-each P p (x ∷ xs) ts rest (mid, s, s1) = spent-then ts mid rest (p x ts mid s) (spends-each P p xs mid rest s1)

pub spends-joined : {A : Type 0} (before : Kind) (P : A → Phrase) → ((x : A) → Spends (P x)) → (xs : List A) → Spends (Joined before P xs)
spends-joined before P p [] ts rest s = absurd s
spends-joined before P p (x ∷ xs) ts rest (mid, s, s1) =
    spent-then ts mid rest (p x ts mid s) (spends-each (λ y. Mark before ⨾ P y) (λ y. spends-then (Mark before) (P y) (spends-mark before) (p y)) xs mid rest s1)

pub mark-shorter : (kind : Kind) (ts rest : List Token) → Mark kind ts rest → length ts ≡ suc (length rest)
mark-shorter kind ts rest (t, e, is) = ap length e

pub sign-shorter : (kind : Kind) (ts rest : List Token) (at : Span) → Sign kind at ts rest → length ts ≡ suc (length rest)
sign-shorter kind ts rest at (t, e, is, stands) = ap length e

pub word-shorter : (kind : Kind) (ts rest : List Token) (w : Lexeme) → Spelled kind w ts rest → length ts ≡ suc (length rest)
word-shorter kind ts rest w (t, e, is, stands) = ap length e

pub mark-sound : (kind : Kind) (ts rest : List Token) (at : Span) → sign kind ts ≡ Found at rest → Mark kind ts rest
mark-sound kind ts rest at e = mark-sign kind at ts rest (sign-sound kind ts rest at e)

-- a sign that isn't kept
pub mark-complete : (kind : Kind) (ts rest : List Token) → Mark kind ts rest → (at : Span) × (sign kind ts ≡ Found at rest)
mark-complete kind ts rest s = let (at, is) = sign-mark kind ts rest s in (at, sign-complete kind ts rest at is)

pub sees-kind : (asked kind : Kind) (ts : List Token) → next_kind ts ≡ Some kind → sees asked ts ≡ same_kind kind asked
sees-kind asked kind ts e = rw (sees-next asked ts, e) refl

-- ---- loops

turns_by : {A : Type 0} (P : A → List Token → Type 0) (goes : List Token → Bool) (turn : A → Parser A) (n : ℕ) (x y : A) (ts rest : List Token)
    → ((x y : A) (ts rest : List Token) → P x ts → turn x ts ≡ Found y rest → P y rest)
    → ((x : A) (ts : List Token) → P x ts → turns_from goes turn n x ts ≡ Found y rest → P y rest × (goes rest ≡ false))
    → P x ts → (b : Bool) → goes ts ≡ b → cond b (and_then (turn x ts) (turns_from goes turn n)) (Found x ts) ≡ Found y rest → P y rest × (goes rest ≡ false)
turns_by P goes turn n x y ts rest step later p true test e =
    let (z, mid, is, e1) = and_then-some (turn x ts) _ y rest e in
    later z mid (step x z ts mid p is) e1
turns_by P goes turn n x y ts rest step later p false test e = pure-is (λ y r. P y r × (goes r ≡ false)) x y ts rest e (p, test)

turns_from-sound : {A : Type 0} (P : A → List Token → Type 0) (goes : List Token → Bool) (turn : A → Parser A) (n : ℕ) (x y : A) (ts rest : List Token)
    → ((x y : A) (ts rest : List Token) → P x ts → turn x ts ≡ Found y rest → P y rest)
    → P x ts → turns_from goes turn n x ts ≡ Found y rest → P y rest × (goes rest ≡ false)
unfolding turns_from
turns_from-sound P goes turn zero x y ts rest step p e = cc
turns_from-sound P goes turn (suc n) x y ts rest step p e =
    turns_by P goes turn n x y ts rest step (λ z mid q f. turns_from-sound P goes turn n z y mid rest step q f) p (goes ts) refl e

pub turns-sound : {A : Type 0} (P : A → List Token → Type 0) (goes : List Token → Bool) (turn : A → Parser A) (x y : A) (ts rest : List Token)
    → ((x y : A) (ts rest : List Token) → P x ts → turn x ts ≡ Found y rest → P y rest)
    → P x ts → turns goes turn x ts ≡ Found y rest → P y rest × (goes rest ≡ false)
unfolding turns
turns-sound P goes turn x y ts rest step p e = turns_from-sound P goes turn (suc (length ts)) x y ts rest step p e

-- ---- lists that grow at their end

pub each-snoc : {A : Type 0} (P : A → Phrase) (xs : List A) (y : A) (ts mid rest : List Token) → Each P xs ts mid → P y mid rest → Each P (xs ++ y ∷ []) ts rest
each-snoc P [] y ts mid rest each last = let Q : List Token → Type 0 = λ l. P y l rest in (rest, subst Q (sym each) last, refl)
each-snoc P (x ∷ xs) y ts mid rest (t1, p, each) last = (t1, p, each-snoc P xs y t1 mid rest each last)

pub joined-snoc : {A : Type 0} (before : Kind) (P : A → Phrase) (xs : List A) (y : A) (ts mid t1 rest : List Token) → Joined before P xs ts mid → Mark before mid t1 → P y t1 rest
    → Joined before P (xs ++ y ∷ []) ts rest
joined-snoc before P [] y ts mid t1 rest s between last = absurd s
joined-snoc before P (x ∷ xs) y ts mid t1 rest (t0, p, each) between last = (t0, p, each-snoc (λ z. Mark before ⨾ P z) xs y t0 mid rest each (t1, between, last))

-- what an item's reader is known for
module _ {A : Type 0} (P : A → Phrase) (item : Parser A) (sound : (ts rest : List Token) (x : A) → item ts ≡ Found x rest → P x ts rest) where
  pub also-parts : (found y : List A) (ts rest : List Token) → also item found ts ≡ Found y rest → (x : A) × (y ≡ found ++ x ∷ []) × P x ts rest
  unfolding also
  also-parts found y ts rest e =
      let (x, mid, is, e1) = and_then-some (item ts) _ y rest e in
      pure-is (λ y r. (x : A) × (y ≡ found ++ x ∷ []) × P x ts r) (found ++ x ∷ []) y mid rest e1 (x, refl, sound ts mid x is)

  pub after-parts : (before : Kind) (found y : List A) (ts rest : List Token) → after before item found ts ≡ Found y rest
      → (x : A) × (mid : List Token) × (y ≡ found ++ x ∷ []) × Mark before ts mid × P x mid rest
  unfolding after
  after-parts before found y ts rest e =
      let (at, t1, is1, e1) = and_then-some (sign before ts) _ y rest e in
      let (x, t2, is2, e2) = and_then-some (item t1) _ y rest e1 in
      pure-is (λ y r. (x : A) × (mid : List Token) × (y ≡ found ++ x ∷ []) × Mark before ts mid × P x mid r) (found ++ x ∷ []) y t2 rest e2
      (x, t1, refl, mark-sound before ts t1 at is1, sound t1 t2 x is2)

  -- items in a row
  pub all-sound : (goes : List Token → Bool) (ts rest : List Token) (y : List A) → turns goes (also item) [] ts ≡ Found y rest → Each P y ts rest × (goes rest ≡ false)
  all-sound goes ts rest y e =
      turns-sound (λ found r. Each P found ts r) goes (also item) [] y ts rest
      (λ found y mid r each f.
      let (x, is, p) = also-parts found y mid r f in
      let Q : List A → Type 0 = λ l. Each P l ts r in
      subst Q (sym is) (each-snoc P found x ts mid r each p))
      refl e

  -- items with a sign between two
  pub joined-sound : (goes : List Token → Bool) (before : Kind) (x : A) (start ts rest : List Token) (y : List A) → P x start ts → turns goes (after before item) (x ∷ []) ts ≡ Found y rest
      → Joined before P y start rest × (goes rest ≡ false)
  joined-sound goes before x start ts rest y p e =
      turns-sound (λ found r. Joined before P found start r) goes (after before item) (x ∷ []) y ts rest
      (λ found y mid r joined f.
      let (z, t1, is, between, q) = after-parts before found y mid r f in
      let Q : List A → Type 0 = λ l. Joined before P l start r in
      subst Q (sym is) (joined-snoc before P found z start mid t1 r joined between q))
      (ts, p, refl) e

  module _ (spends : (x : A) → Spends (P x)) where
    pub after-shorter : (before : Kind) (found y : List A) (ts rest : List Token) → after before item found ts ≡ Found y rest → length rest < length ts
    after-shorter before found y ts rest e =
        let (x, mid, is, between, p) = after-parts before found y ts rest e in
        let a : length ts ≡ suc (length mid) = mark-shorter before ts mid between in
        let b : length rest ≤ length mid = not_longer mid rest (spends x mid rest p) in
        omega arith

-- where an item is found only before what suits it
module _ {A : Type 0} (P : A → Phrase) (item : Parser A) (Suits : List Token → Type 0)
    (complete : (x : A) (ts rest : List Token) → P x ts rest → Suits rest → item ts ≡ Found x rest) where
  also-is : (found : List A) (x : A) (ts rest : List Token) → P x ts rest → Suits rest → also item found ts ≡ Found (found ++ x ∷ []) rest
  unfolding also
  also-is found x ts rest p suits = rw (complete x ts rest p suits) refl

  after-is : (before : Kind) (found : List A) (x : A) (ts mid rest : List Token) → Mark before ts mid → P x mid rest → Suits rest → after before item found ts ≡ Found (found ++ x ∷ []) rest
  unfolding after
  after-is before found x ts mid rest s p suits = let (at, is) = mark-complete before ts mid s in rw (is, complete x mid rest p suits) refl

  module _ (goes : List Token → Bool) (less : (x : A) (ts rest : List Token) → P x ts rest → length rest < length ts)
      (goes_on : (x : A) (ts rest : List Token) → P x ts rest → goes ts ≡ true) (follows : (x : A) (ts rest : List Token) → P x ts rest → Suits ts) where
    suits-all : (xs : List A) (ts rest : List Token) → Each P xs ts rest → Suits rest → Suits ts
    suits-all [] ts rest each suits = subst Suits (sym each) suits
    suits-all (x ∷ xs) ts rest (mid, p, each) suits = follows x ts mid p

    all-from : (n : ℕ) (found xs : List A) (ts rest : List Token) → length ts < n → Each P xs ts rest → Suits rest → goes rest ≡ false
        → turns_from goes (also item) n found ts ≡ Found (found ++ xs) rest
    all-from n found [] ts rest enough each suits stops =
        let Q : List Token → Type 0 = λ l. turns_from goes (also item) n found l ≡ Found (found ++ []) rest in
        let less : length rest < n = omega (arith, ap length each) in
        subst Q (sym each) (turn_ends goes (also item) n found rest less stops ∙ ap (λ l. Found l rest) (sym (append-nil found)))
    all-from n found (x ∷ xs) ts rest enough (mid, p, each) suits stops =
        let (j, more, same) = turn_once goes (also item) n found (found ++ x ∷ []) ts mid enough (goes_on x ts mid p) (also-is found x ts mid p (suits-all xs mid rest each suits)) (less x ts mid p) in
        same ∙ all-from j (found ++ x ∷ []) xs mid rest more each suits stops ∙ ap (λ l. Found l rest) (append_assoc found (x ∷ []) xs)

    pub all-complete : (xs : List A) (ts rest : List Token) → Each P xs ts rest → Suits rest → goes rest ≡ false → turns goes (also item) [] ts ≡ Found xs rest
    unfolding turns
    all-complete xs ts rest each suits stops = all-from (suc (length ts)) [] xs ts rest (omega arith) each suits stops

  module _ (goes : List Token → Bool) (before : Kind) (spends : (x : A) → Spends (P x))
      (goes_on : (x : A) (ts mid rest : List Token) → Mark before ts mid → P x mid rest → goes ts ≡ true) (follows : (ts rest : List Token) → Mark before ts rest → Suits ts) where
    suits-joined : (xs : List A) (ts rest : List Token) → Each (λ y. Mark before ⨾ P y) xs ts rest → Suits rest → Suits ts
    suits-joined [] ts rest each suits = subst Suits (sym each) suits
    suits-joined (x ∷ xs) ts rest (mid, (t1, s, p), each) suits = follows ts t1 s

    joined-from : (n : ℕ) (found xs : List A) (ts rest : List Token) → length ts < n → Each (λ y. Mark before ⨾ P y) xs ts rest → Suits rest → goes rest ≡ false
        → turns_from goes (after before item) n found ts ≡ Found (found ++ xs) rest
    joined-from n found [] ts rest enough each suits stops =
        let Q : List Token → Type 0 = λ l. turns_from goes (after before item) n found l ≡ Found (found ++ []) rest in
        let less : length rest < n = omega (arith, ap length each) in
        subst Q (sym each) (turn_ends goes (after before item) n found rest less stops ∙ ap (λ l. Found l rest) (sym (append-nil found)))
    joined-from n found (x ∷ xs) ts rest enough (mid, (t1, s, p), each) suits stops =
        let a : length ts ≡ suc (length t1) = mark-shorter before ts t1 s in
        let b : length mid ≤ length t1 = not_longer t1 mid (spends x t1 mid p) in
        let (j, more, same) = turn_once goes (after before item) n found (found ++ x ∷ []) ts mid enough (goes_on x ts t1 mid s p)
        (after-is before found x ts t1 mid s p (suits-joined xs mid rest each suits)) (omega arith) in
        same ∙ joined-from j (found ++ x ∷ []) xs mid rest more each suits stops ∙ ap (λ l. Found l rest) (append_assoc found (x ∷ []) xs)

    -- behind the first item
    pub joined-complete : (x : A) (xs : List A) (ts rest : List Token) → Each (λ y. Mark before ⨾ P y) xs ts rest → Suits rest → goes rest ≡ false
        → turns goes (after before item) (x ∷ []) ts ≡ Found (x ∷ xs) rest
    unfolding turns
    joined-complete x xs ts rest each suits stops = joined-from (suc (length ts)) (x ∷ []) xs ts rest (omega arith) each suits stops

    pub suits-first : (xs : List A) (ts rest : List Token) → Each (λ y. Mark before ⨾ P y) xs ts rest → Suits rest → Suits ts
    suits-first xs ts rest each suits = suits-joined xs ts rest each suits
