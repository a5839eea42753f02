-- Readers of pieces, and the steps that every reader is made of.
use Rattle.std.specs.Prelude.{◌≡◌, ℕ, Bool, true, false, if◌then◌else◌, ◌==◌, List, [], ◌∷◌, Result, Ok, Err, Option, Some, None}
use Rattle.std.specs.Str.{bytes_eq}
use Rattle.promise_grammar.specs.declared.error.PromiseError.{PromiseError}
use Rattle.promise_grammar.specs.declared.error.PromiseError.TheVariants as error
use Rattle.promise_grammar.specs.Piece.{Piece, Word, Sign}
use Rattle.promise_grammar.specs.Word.{is_name}

-- what was read and the pieces after it, or nothing
pub data Outcome (A : Type 0) : Type 0 where
  Found : A → List Piece → Outcome A
  Lost : Outcome A

abbrev pub Reader : Type 0 → Type 0
Reader A = List Piece → Outcome A

abbrev pub and_then : {A B : Type 0} → Outcome A → (A → Reader B) → Outcome B
and_then (Found a ps) f = f a ps
and_then Lost f = Lost

infixl 10 ◌>>=◌
abbrev pub ◌>>=◌ : {A B : Type 0} → Reader A → (A → Reader B) → Reader B
p >>= f = λ ps. and_then (p ps) f

infixl 10 ◌>>◌
abbrev pub ◌>>◌ : {A B : Type 0} → Reader A → Reader B → Reader B
p >> q = p >>= (λ _. q)

abbrev pub pure : {A : Type 0} → A → Reader A
pure a = λ ps. Found a ps

abbrev pub lost : {A : Type 0} → Reader A
lost = λ ps. Lost

infixr 11 ◌<$>◌
abbrev pub ◌<$>◌ : {A B : Type 0} → (A → B) → Reader A → Reader B
f <$> p = p >>= (λ x. pure (f x))

-- A call gave what the reader gives, or memory ran out.
abbrev pub Reads : {A : Type 0} → Outcome A → Result A PromiseError → List Piece → Type 0
Reads outcome (Ok a) new = outcome ≡ Found a new
Reads outcome (Err e) new = e ≡ error.Grammar → outcome ≡ Lost

-- The same of an answer that reads no pieces.
abbrev pub Answers : {A : Type 0} → Option A → Result A PromiseError → Type 0
Answers answer (Ok a) = answer ≡ Some a
Answers answer (Err e) = e ≡ error.Grammar → answer ≡ None

-- the same of what a view shows of it
abbrev pub AnswersBy : {A B : Type 0} → (A → B) → Option B → Result A PromiseError → Type 0
AnswersBy view answer (Ok a) = answer ≡ Some (view a)
AnswersBy view answer (Err e) = e ≡ error.Grammar → answer ≡ None

-- the answer, where there is one
abbrev pub settled : {A : Type 0} → Option A → Reader A
settled None = λ ps. Lost
settled (Some a) = λ ps. Found a ps

-- the pieces after the first
abbrev pub after : List Piece → List Piece
after [] = []
after (p ∷ ps) = ps

abbrev pub is_over : List Piece → Bool
is_over [] = true
is_over (p ∷ ps) = false

abbrev pub sees_word : List ℕ → List Piece → Bool
sees_word w [] = false
sees_word w (Word v ∷ ps) = bytes_eq v w
sees_word w (Sign s ∷ ps) = false

abbrev pub sees_sign : ℕ → List Piece → Bool
sees_sign t [] = false
sees_sign t (Word v ∷ ps) = false
sees_sign t (Sign s ∷ ps) = s == t

-- the pieces without the first, where that was seen
abbrev pub eaten : Bool → List Piece → List Piece
eaten seen ps = if seen then after ps else ps

-- any word
abbrev pub word : List Piece → Outcome (List ℕ)
word [] = Lost
word (Word w ∷ ps) = Found w ps
word (Sign s ∷ ps) = Lost

abbrev pub eat_word : List ℕ → Reader Bool
eat_word w = λ ps. Found (sees_word w ps) (eaten (sees_word w ps) ps)

abbrev pub eat_sign : ℕ → Reader Bool
eat_sign s = λ ps. Found (sees_sign s ps) (eaten (sees_sign s ps) ps)

abbrev pub expect_word : List ℕ → Reader (Unit {0})
expect_word w = λ ps. if sees_word w ps then Found tt (after ps) else Lost

abbrev pub expect_sign : ℕ → Reader (Unit {0})
expect_sign s = λ ps. if sees_sign s ps then Found tt (after ps) else Lost

abbrev pub expect_end : Reader (Unit {0})
expect_end = λ ps. if is_over ps then Found tt ps else Lost

unfoldable pub name : Reader (List ℕ)
name = do
  w ← word
  if is_name w then pure w else lost
