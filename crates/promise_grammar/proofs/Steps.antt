-- The steps of readers: what a step that found something found, and what a step finds.
use Rattle.std.proofs.Common.{◌≡◌, ◌⊎◌, inl, inr, ℕ, Bool, true, false, cond, List, [], ◌∷◌, refl, ap, subst, arith, eqb}
use Rattle.std.specs.Str.{bytes_eq}
use Rattle.std.proofs.lemmas.Slice.Eq.{bytes_eq-Decides}
use Rattle.promise_grammar.specs.Word.{is_name, is_reserved}
use Rattle.promise_grammar.specs.Piece.{Piece, Word, Sign}
use Rattle.promise_grammar.specs.Outcome.{Outcome, Found, Lost, Reader, and_then, sees_word, sees_sign, after, eaten, name, expect_word, expect_sign}
use Rattle.promise_grammar.specs.Form.{IsName}

-- ---- what was found

pub then_found : {A B : Type 0} (o : Outcome A) (f : A → Reader B) (y : B) (rest : List Piece) → and_then o f ≡ Found y rest
    → (x : A) × (mid : List Piece) × (o ≡ Found x mid) × (f x mid ≡ Found y rest)
then_found (Found x mid) f y rest e = (x, mid, refl, e)
then_found Lost f y rest e = cc

-- what holds of the found holds of what equals it
pub pure_is : {A : Type 0} (P : A → List Piece → Type 0) (x y : A) (ps rest : List Piece) → Found x ps ≡ Found y rest → P x ps → P y rest
pure_is {A} P x y ps rest e p =
    let same : x ≡ y = cc in
    let left : ps ≡ rest = cc in
    let p' : P x rest = subst (λ (r : List Piece). P x r) left p in
    subst (λ (z : A). P z rest) same p'

pub bytes_same : (v w : List ℕ) → bytes_eq v w ≡ true → v ≡ w
bytes_same v w e = (bytes_eq-Decides v w).0 e

pub word_seen : (w : List ℕ) (ps : List Piece) → sees_word w ps ≡ true → ps ≡ Word w ∷ after ps
word_seen w [] e = cc
word_seen w (Word v ∷ ps) e = ap (λ (u : List ℕ). Word u ∷ ps) (bytes_same v w e)
word_seen w (Sign s ∷ ps) e = cc

same_number : (s t : ℕ) → eqb s t ≡ true → s ≡ t
same_number s t e = grind arith

pub sign_seen : (t : ℕ) (ps : List Piece) → sees_sign t ps ≡ true → ps ≡ Sign t ∷ after ps
sign_seen t [] e = cc
sign_seen t (Word v ∷ ps) e = cc
sign_seen t (Sign s ∷ ps) e = ap (λ (u : ℕ). Sign u ∷ ps) (same_number s t e)

-- after a word that may be there
abbrev pub AfterWord : {B : Type 0} → List ℕ → Reader B → Reader B → List Piece → B → List Piece → Type 0
AfterWord w p q ps y rest = ((mid : List Piece) × (ps ≡ Word w ∷ mid) × (p mid ≡ Found y rest)) ⊎ ((sees_word w ps ≡ false) × (q ps ≡ Found y rest))

pub eaten_word : {B : Type 0} (w : List ℕ) (p q : Reader B) (ps : List Piece) (y : B) (rest : List Piece)
    → (cond (sees_word w ps) p q) (eaten (sees_word w ps) ps) ≡ Found y rest → AfterWord w p q ps y rest
eaten_word {B} w p q ps y rest e = by (sees_word w ps) refl e
  where
    by : (t : Bool) → sees_word w ps ≡ t → (cond t p q) (eaten t ps) ≡ Found y rest → AfterWord w p q ps y rest
    by true seen e = inl (after ps, word_seen w ps seen, e)
    by false seen e = inr (seen, e)

abbrev pub AfterSign : {B : Type 0} → ℕ → Reader B → Reader B → List Piece → B → List Piece → Type 0
AfterSign s p q ps y rest = ((mid : List Piece) × (ps ≡ Sign s ∷ mid) × (p mid ≡ Found y rest)) ⊎ ((sees_sign s ps ≡ false) × (q ps ≡ Found y rest))

pub eaten_sign : {B : Type 0} (s : ℕ) (p q : Reader B) (ps : List Piece) (y : B) (rest : List Piece)
    → (cond (sees_sign s ps) p q) (eaten (sees_sign s ps) ps) ≡ Found y rest → AfterSign s p q ps y rest
eaten_sign {B} s p q ps y rest e = by (sees_sign s ps) refl e
  where
    by : (t : Bool) → sees_sign s ps ≡ t → (cond t p q) (eaten t ps) ≡ Found y rest → AfterSign s p q ps y rest
    by true seen e = inl (after ps, sign_seen s ps seen, e)
    by false seen e = inr (seen, e)

pub expected_word : {B : Type 0} (w : List ℕ) (p : Reader B) (ps : List Piece) (y : B) (rest : List Piece)
    → and_then (expect_word w ps) (λ _. p) ≡ Found y rest → (mid : List Piece) × (ps ≡ Word w ∷ mid) × (p mid ≡ Found y rest)
expected_word {B} w p ps y rest e = by (sees_word w ps) refl e
  where
    by : (t : Bool) → sees_word w ps ≡ t → and_then (cond t (Found (tt {0}) (after ps)) Lost) (λ _. p) ≡ Found y rest → (mid : List Piece) × (ps ≡ Word w ∷ mid) × (p mid ≡ Found y rest)
    by true seen e = (after ps, word_seen w ps seen, e)
    by false seen e = cc

pub expected_sign : {B : Type 0} (s : ℕ) (p : Reader B) (ps : List Piece) (y : B) (rest : List Piece)
    → and_then (expect_sign s ps) (λ _. p) ≡ Found y rest → (mid : List Piece) × (ps ≡ Sign s ∷ mid) × (p mid ≡ Found y rest)
expected_sign {B} s p ps y rest e = by (sees_sign s ps) refl e
  where
    by : (t : Bool) → sees_sign s ps ≡ t → and_then (cond t (Found (tt {0}) (after ps)) Lost) (λ _. p) ≡ Found y rest → (mid : List Piece) × (ps ≡ Sign s ∷ mid) × (p mid ≡ Found y rest)
    by true seen e = (after ps, sign_seen s ps seen, e)
    by false seen e = cc

named_by : (w : List ℕ) (ps : List Piece) (n : List ℕ) (rest : List Piece) (t : Bool) → is_name w ≡ t → cond {A = Reader (List ℕ)} t (λ (qs : List Piece). Found w qs) (λ (qs : List Piece). Lost) ps ≡ Found n rest
    → (Word w ∷ ps ≡ Word n ∷ rest) × IsName n
named_by w ps n rest true is e = pure_is (λ (m : List ℕ) (r : List Piece). (Word w ∷ ps ≡ Word m ∷ r) × IsName m) w n ps rest e (refl, is)
named_by w ps n rest false is e = cc

pub name_found : (ps : List Piece) (n : List ℕ) (rest : List Piece) → name ps ≡ Found n rest → (ps ≡ Word n ∷ rest) × IsName n
unfolding name
name_found [] n rest e = cc
name_found (Word w ∷ ps) n rest e = named_by w ps n rest (is_name w) refl e
name_found (Sign s ∷ ps) n rest e = cc

-- ---- what is found

pub name_finds : (n : List ℕ) (rest : List Piece) → IsName n → name (Word n ∷ rest) ≡ Found n rest
unfolding name
name_finds n rest is = rw is refl

apart_by : (n r : List ℕ) (t : Bool) → bytes_eq n r ≡ t → IsName n → is_reserved r ≡ true → t ≡ false
unfolding is_name
apart_by n r true same is reserved =
    let e : n ≡ r = bytes_same n r same in
    let known : is_reserved n ≡ true = rw e reserved in
    grind (arith)
apart_by n r false same is reserved = refl

-- a name is no reserved word
pub name_apart : (n r : List ℕ) → IsName n → is_reserved r ≡ true → bytes_eq n r ≡ false
name_apart n r is reserved = apart_by n r (bytes_eq n r) refl is reserved
