-- What reads as a type is spelled as one, and the reverse.
use Rattle.std.proofs.Common.{◌≡◌, List, Option, Some, refl}
use Rattle.java_phrases.specs.Tree.{Kind, Kind as k, Token, Ty, Ty as tree}
use Rattle.java_phrases.specs.Common.{Found, next_kind, sign, word, TySpells, ty}
use Rattle.java_phrases.specs.Types.{ty_by}
use Rattle.java_phrases.proofs.Phrases.{and_then-some, pure-is, sign-sound, sign-complete, word-sound, word-complete, next-sign, next-word}

int-sound : (ts rest : List Token) (y : Ty) → ty_by (Some k.IntType) ts ≡ Found y rest → TySpells y ts rest
int-sound ts rest y e =
    let (at, mid, is, e1) = and_then-some (sign k.IntType ts) _ y rest e in
    pure-is (λ y r. TySpells y ts r) (tree.Int at) y mid rest e1 (sign-sound k.IntType ts mid at is)

boolean-sound : (ts rest : List Token) (y : Ty) → ty_by (Some k.BooleanType) ts ≡ Found y rest → TySpells y ts rest
boolean-sound ts rest y e =
    let (at, mid, is, e1) = and_then-some (sign k.BooleanType ts) _ y rest e in
    pure-is (λ y r. TySpells y ts r) (tree.Boolean at) y mid rest e1 (sign-sound k.BooleanType ts mid at is)

named-sound : (ts rest : List Token) (y : Ty) → ty_by (Some k.Name) ts ≡ Found y rest → TySpells y ts rest
named-sound ts rest y e =
    let (name, mid, is, e1) = and_then-some (word k.Name ts) _ y rest e in
    pure-is (λ y r. TySpells y ts r) (tree.Named name) y mid rest e1 (word-sound k.Name ts mid name is)

by-sound : (next : Option Kind) (ts rest : List Token) (y : Ty) → ty_by next ts ≡ Found y rest → TySpells y ts rest
by-sound (Some k.IntType) = int-sound
by-sound (Some k.BooleanType) = boolean-sound
by-sound _ = named-sound

pub ty-sound : (ts rest : List Token) (y : Ty) → ty ts ≡ Found y rest → TySpells y ts rest
unfolding ty
ty-sound ts rest y e = by-sound (next_kind ts) ts rest y e

pub ty-complete : (y : Ty) (ts rest : List Token) → TySpells y ts rest → ty ts ≡ Found y rest
unfolding ty
ty-complete (tree.Int at) ts rest s = rw (next-sign k.IntType at ts rest s, sign-complete k.IntType ts rest at s) refl
ty-complete (tree.Boolean at) ts rest s = rw (next-sign k.BooleanType at ts rest s, sign-complete k.BooleanType ts rest at s) refl
ty-complete (tree.Named name) ts rest s = rw (next-word k.Name name ts rest s, word-complete k.Name ts rest name s) refl
