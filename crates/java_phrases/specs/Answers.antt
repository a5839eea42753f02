-- What the calls that read a phrase answer.
use Rattle.std.specs.Prelude.{◌≡◌, ◌≢◌, List, ◌++◌, Result, Ok, Err}
use Rattle.java_phrases.specs.Tree.{Token}
use Rattle.java_phrases.specs.declared.error.SyntaxError.{SyntaxError}
use Rattle.java_phrases.specs.declared.error.SyntaxError.TheVariants as error
use Rattle.java_phrases.specs.Phrase.{Phrase}

-- this tree with these tokens after it, unless memory ran out
abbrev pub Gives : {A : Type 0} → Result A SyntaxError → List Token → A → List Token → Type 0
Gives (Ok found) after x rest = (found ≡ x) × (after ≡ rest)
Gives (Err why) after x rest = why ≡ error.OutOfMemory

-- the one tree and the one rest that are spelled, unless memory fails, or that none is
abbrev pub Finds : {A : Type 0} → (A → Phrase) → List Token → Result A SyntaxError → List Token → Type 0
Finds {A} P ts (Ok x) rest = P x ts rest × ((y : A) (other : List Token) → P y ts other → (x ≡ y) × (rest ≡ other))
Finds {A} P ts (Err e) rest = e ≢ error.OutOfMemory → (y : A) (other : List Token) → P y ts other → ⊥

-- the same, with the tokens of the phrase put into the tree
abbrev pub Takes : {A : Type 0} → (A → Phrase) → (List Token → A → A) → List Token → Result A SyntaxError → List Token → Type 0
Takes {A} P with_tokens ts (Ok x) rest = (bare : A) × (tokens : List Token) × P bare ts rest × ((y : A) (other : List Token) → P y ts other → (bare ≡ y) × (rest ≡ other)) × (x ≡ with_tokens tokens bare) × (tokens ++ rest ≡ ts)
Takes {A} P with_tokens ts (Err e) rest = e ≢ error.OutOfMemory → (y : A) (other : List Token) → P y ts other → ⊥
