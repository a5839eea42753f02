-- What the productions of a grammar are made of: phrases, each a relation between the tokens before
-- it and the tokens after it.
use Rattle.std.specs.Prelude.{◌≡◌, ◌⊎◌, ℕ, List, [], ◌∷◌, Option, Some, None}
use Rattle.java_phrases.specs.Tree.{Span, Kind, Kind as k, Token, Lexeme}

abbrev pub Phrase : Type 1
Phrase = List Token → List Token → Type 0

-- no token
abbrev pub Nothing : Phrase
Nothing ts rest = ts ≡ rest

-- one phrase after another
infixr 12 ◌⨾◌
abbrev pub ◌⨾◌ : Phrase → Phrase → Phrase
P ⨾ Q = λ ts rest. (mid : List Token) × P ts mid × Q mid rest

-- a token of this kind
abbrev pub Mark : Kind → Phrase
Mark kind ts rest = (t : Token) × (ts ≡ t ∷ rest) × (t.kind ≡ kind)

-- a token of this kind, which stands here
abbrev pub Sign : Kind → Span → Phrase
Sign kind at ts rest = (t : Token) × (ts ≡ t ∷ rest) × (t.kind ≡ kind) × (t.span ≡ at)

-- what a tree keeps of a name or a literal
abbrev pub word_of : Token → Lexeme
word_of t = record { text = t.bytes; span = t.span }

-- a name or a literal
abbrev pub Spelled : Kind → Lexeme → Phrase
Spelled kind word ts rest = (t : Token) × (ts ≡ t ∷ rest) × (t.kind ≡ kind) × (word_of t ≡ word)

-- a name that is written so
abbrev pub Named : List ℕ → Phrase
Named text ts rest = (t : Token) × (ts ≡ t ∷ rest) × (t.kind ≡ k.Name) × (t.bytes ≡ text)

-- [item]
abbrev pub Optional : {A : Type 0} → (A → Phrase) → Option A → Phrase
Optional P None = Nothing
Optional P (Some x) = P x

-- one phrase for each item, in order
abbrev pub Each : {A : Type 0} → (A → Phrase) → List A → Phrase
Each P [] = Nothing
Each P (x ∷ xs) = P x ⨾ Each P xs

-- a phrase under a condition that is none of tokens
infixr 12 ◌⊢◌
abbrev pub ◌⊢◌ : Type 0 → Phrase → Phrase
C ⊢ P = λ ts rest. C × P ts rest

-- one of two phrases
infixr 11 ◌∣◌
abbrev pub ◌∣◌ : Phrase → Phrase → Phrase
P ∣ Q = λ ts rest. P ts rest ⊎ Q ts rest

-- no phrase at all
abbrev pub Never : Phrase
Never = λ ts rest. ⊥

-- [item {"," item}]
abbrev pub Separated : {A : Type 0} → (A → Phrase) → List A → Phrase
Separated P [] = Nothing
Separated P (x ∷ xs) = P x ⨾ Each (λ y. Mark k.Comma ⨾ P y) xs
