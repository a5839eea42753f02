-- What reads as a qualified name is spelled as one, and the reverse.
use Rattle.std.proofs.Common.{◌≡◌, ◌<◌, true, false, List, [], ◌∷◌, length, Some, refl}
use Rattle.java_phrases.specs.Tree.{Kind, Kind as k, Token, Lexeme}
use Rattle.java_phrases.specs.Common.{Mark, Spelled, Found, next_kind, kind_at, same_kind, sees, word}
use Rattle.java_phrases.proofs.Phrases.{and_then-some, word-sound, word-complete, next-word}
use Rattle.java_heads.specs.Annotation.{Qualified}
use Rattle.java_heads.specs.Reading.{after, goes_on, qualified}
use Rattle.java_heads.proofs.Lists.{Spends, spends-spelled, spends-joined, sees-kind, joined-sound, after-shorter, joined-complete}

pub name_after-shorter : (before : Kind) (found y : List Lexeme) (ts rest : List Token) → after before (word k.Name) found ts ≡ Found y rest → length rest < length ts
name_after-shorter = after-shorter (Spelled k.Name) (word k.Name) (word-sound k.Name) (spends-spelled k.Name)

pub qualified-sound : (ts rest : List Token) (y : List Lexeme) → qualified ts ≡ Found y rest → Qualified y ts rest
unfolding qualified
qualified-sound ts rest y e =
    let (w, mid, is, e1) = and_then-some (word k.Name ts) _ y rest e in
    (joined-sound (Spelled k.Name) (word k.Name) (word-sound k.Name) goes_on k.Dot w ts mid rest y (word-sound k.Name ts mid w is) e1).0

pub spends-qualified : (y : List Lexeme) → Spends (Qualified y)
spends-qualified = spends-joined k.Dot (Spelled k.Name) (spends-spelled k.Name)

-- a dot and a name behind it
goes_on-is : (w : Lexeme) (ts mid rest : List Token) → Mark k.Dot ts mid → Spelled k.Name w mid rest → goes_on ts ≡ true
unfolding goes_on sees kind_at
goes_on-is w ts mid rest (t, e, is) (u, f, was, stands) = rw (e, f, is, was) refl

pub qualified-complete : (y : List Lexeme) (ts rest : List Token) → Qualified y ts rest → goes_on rest ≡ false → qualified ts ≡ Found y rest
unfolding qualified
qualified-complete [] ts rest s stops = absurd s
qualified-complete (w ∷ names) ts rest (mid, s, each) stops =
    rw (word-complete k.Name ts mid w s) (joined-complete (Spelled k.Name) (word k.Name) (λ _. Unit {0}) (λ w ts rest s _. word-complete k.Name ts rest w s) goes_on k.Dot (spends-spelled k.Name)
    (λ w ts mid rest s p. goes_on-is w ts mid rest s p) (λ ts rest s. tt) w names mid rest each tt stops)

-- what stands first in it
pub qualified-first : (y : List Lexeme) (ts rest : List Token) → Qualified y ts rest → next_kind ts ≡ Some k.Name
qualified-first [] ts rest s = absurd s
qualified-first (w ∷ names) ts rest (mid, s, each) = next-word k.Name w ts mid s

pub goes_off : (kind : Kind) (ts : List Token) → next_kind ts ≡ Some kind → same_kind kind k.Dot ≡ false → goes_on ts ≡ false
unfolding goes_on
goes_off kind ts e off = rw (sees-kind k.Dot kind ts e, off) refl
