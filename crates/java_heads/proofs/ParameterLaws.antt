-- What reads as parameters, results and throws is spelled as them, and the reverse.
use Rattle.std.proofs.Common.{◌≡◌, ◌<◌, Bool, true, false, cond, nat_le, List, [], ◌∷◌, length, Option, Some, None, refl, ◌∙◌, sym, subst}
use Rattle.std.proofs.lemmas.Bool.{leb-true, le-leb}
use Rattle.java_phrases.specs.Tree.{Kind, Kind as k, Token, Lexeme, Ty, Ty as tree, Param}
use Rattle.java_phrases.specs.Common.{Phrase, ◌⨾◌, Mark, Spelled, Separated, Each, Found, pure, fail, next_kind, same_kind, sees, sign, word, TySpells, ty}
use Rattle.java_phrases.proofs.Phrases.{and_then-some, pure-is, word-sound, word-complete, next-sign, next-mark, next-word}
use Rattle.java_phrases.proofs.TypeLaws.{ty-sound, ty-complete}
use Rattle.java_heads.specs.declared.declaration.Declaration.TheVariants as of
use Rattle.java_heads.specs.Annotation.{Joined, Qualified}
use Rattle.java_heads.specs.Spelling.{ModSpells, ParamSpells, Params, Throws, ResultSpells}
use Rattle.java_heads.specs.Reading.{after, qualified, goes_on, modifiers, parameter, some_parameters, parameters_by, parameters, some_throws, throws_by, throws, result_by, result_type}
use Rattle.java_heads.proofs.Lists.{Spends, spends-sign, spends-spelled, spends-then, spends-each, mark-sound, mark-complete, sees-kind, joined-sound, after-shorter, joined-complete, suits-first}
use Rattle.java_heads.proofs.NameLaws.{qualified-sound, spends-qualified, qualified-complete, goes_off}
use Rattle.java_heads.proofs.ModifierLaws.{spends-mod, AfterMods, after-mods, modifiers-sound, modifiers-complete, mods-inside}

-- ---- types

spends-ty : (y : Ty) → Spends (TySpells y)
spends-ty (tree.Int at) = spends-sign k.IntType at
spends-ty (tree.Boolean at) = spends-sign k.BooleanType at
spends-ty (tree.Named name) = spends-spelled k.Name name

pub ty-follows : (y : Ty) (ts rest : List Token) → TySpells y ts rest → AfterMods ts
ty-follows (tree.Int at) ts rest s = after-mods k.IntType ts (next-sign k.IntType at ts rest s) refl refl refl refl refl
ty-follows (tree.Boolean at) ts rest s = after-mods k.BooleanType ts (next-sign k.BooleanType at ts rest s) refl refl refl refl refl
ty-follows (tree.Named name) ts rest s = after-mods k.Name ts (next-word k.Name name ts rest s) refl refl refl refl refl

pub ty-no_void : (y : Ty) (ts rest : List Token) → TySpells y ts rest → sees k.Void ts ≡ false
ty-no_void (tree.Int at) ts rest s = sees-kind k.Void k.IntType ts (next-sign k.IntType at ts rest s)
ty-no_void (tree.Boolean at) ts rest s = sees-kind k.Void k.BooleanType ts (next-sign k.BooleanType at ts rest s)
ty-no_void (tree.Named name) ts rest s = sees-kind k.Void k.Name ts (next-word k.Name name ts rest s)

-- ---- one parameter

parameter-sound : (ts rest : List Token) (p : Param) → parameter ts ≡ Found p rest → ParamSpells p ts rest
unfolding parameter
parameter-sound ts rest p e =
    let (mods, t1, is1, e1) = and_then-some (modifiers of.Param ts) _ p rest e in
    let (y, t2, is2, e2) = and_then-some (ty t1) _ p rest e1 in
    let (name, t3, is3, e3) = and_then-some (word k.Name t2) _ p rest e2 in
    pure-is (λ p r. ParamSpells p ts r) (record { mods = mods; ty = y; name = name }) p t3 rest e3
    (t1, modifiers-sound of.Param ts t1 mods is1, (t2, ty-sound t1 t2 y is2, word-sound k.Name t2 t3 name is3))

parameter-complete : (p : Param) (ts rest : List Token) → ParamSpells p ts rest → parameter ts ≡ Found p rest
unfolding parameter
parameter-complete p ts rest (t1, s1, (t2, s2, s3)) =
    rw (modifiers-complete of.Param p.mods ts t1 s1 (ty-follows p.ty t1 t2 s2), ty-complete p.ty t1 t2 s2, word-complete k.Name t2 rest p.name s3) refl

spends-param : (p : Param) → Spends (ParamSpells p)
spends-param p ts rest (t1, (fit, s1), tail) =
    spends-then (Each ModSpells p.mods) (TySpells p.ty ⨾ Spelled k.Name p.name) (spends-each ModSpells spends-mod p.mods) (spends-then (TySpells p.ty) (Spelled k.Name p.name) (spends-ty p.ty) (spends-spelled k.Name p.name)) ts rest (t1, s1, tail)

pub parameter_after-shorter : (before : Kind) (found y : List Param) (ts rest : List Token) → after before parameter found ts ≡ Found y rest → length rest < length ts
parameter_after-shorter = after-shorter ParamSpells parameter parameter-sound spends-param

param-inside : (p : Param) (ts rest : List Token) → ParamSpells p ts rest → sees k.RParen ts ≡ false
param-inside p ts rest (t1, (fit, s1), (t2, s2, s3)) = mods-inside p.mods ts t1 s1 (ty-follows p.ty t1 t2 s2).inside

-- ---- all of them

as-separated : {A : Type 0} (P : A → Phrase) (xs : List A) (ts rest : List Token) → Joined k.Comma P xs ts rest → Separated P xs ts rest
as-separated P [] ts rest s = absurd s
as-separated P (x ∷ xs) ts rest s = s

some_parameters-sound : (ts rest : List Token) (y : List Param) → some_parameters ts ≡ Found y rest → Separated ParamSpells y ts rest
unfolding some_parameters
some_parameters-sound ts rest y e =
    let (p, mid, is, e1) = and_then-some (parameter ts) _ y rest e in
    as-separated ParamSpells y ts rest (joined-sound ParamSpells parameter parameter-sound (sees k.Comma) k.Comma p ts mid rest y (parameter-sound ts mid p is) e1).0

parameters_by-sound : (b : Bool) (ts rest : List Token) (y : List Param) → parameters_by b ts ≡ Found y rest → Separated ParamSpells y ts rest
parameters_by-sound true ts rest y e = pure-is (λ y r. Separated ParamSpells y ts r) [] y ts rest e refl
parameters_by-sound false ts rest y e = some_parameters-sound ts rest y e

counted : (b : Bool) (found y : List Param) (ts t1 t2 t3 rest : List Token) → nat_le (length found) 255 ≡ b → Mark k.LParen ts t1 → Separated ParamSpells found t1 t2 → Mark k.RParen t2 t3 → cond b (pure found) fail t3 ≡ Found y rest → Params y ts rest
counted true found y ts t1 t2 t3 rest is s1 s2 s3 e = pure-is (λ y r. Params y ts r) found y t3 rest e (leb-true (length found) 255 is, (t1, s1, (t2, s2, s3)))
counted false found y ts t1 t2 t3 rest is s1 s2 s3 e = cc

pub parameters-sound : (ts rest : List Token) (y : List Param) → parameters ts ≡ Found y rest → Params y ts rest
unfolding parameters
parameters-sound ts rest y e =
    let (left, t1, is1, e1) = and_then-some (sign k.LParen ts) _ y rest e in
    let (found, t2, is2, e2) = and_then-some (parameters_by (sees k.RParen t1) t1) _ y rest e1 in
    let (right, t3, is3, e3) = and_then-some (sign k.RParen t2) _ y rest e2 in
    counted (nat_le (length found) 255) found y ts t1 t2 t3 rest refl (mark-sound k.LParen ts t1 left is1) (parameters_by-sound (sees k.RParen t1) t1 t2 found is2) (mark-sound k.RParen t2 t3 right is3) e3

some_parameters-complete : (p : Param) (ps : List Param) (ts rest : List Token) → Separated ParamSpells (p ∷ ps) ts rest → sees k.Comma rest ≡ false → some_parameters ts ≡ Found (p ∷ ps) rest
unfolding some_parameters
some_parameters-complete p ps ts rest (mid, s, each) stops =
    rw (parameter-complete p ts mid s) (joined-complete ParamSpells parameter (λ _. Unit {0}) (λ p ts rest s _. parameter-complete p ts rest s) (sees k.Comma) k.Comma spends-param
    (λ p ts mid rest s q. sees-kind k.Comma k.Comma ts (next-mark k.Comma ts mid s)) (λ ts rest s. tt) p ps mid rest each tt stops)

parameters_by-complete : (y : List Param) (ts rest : List Token) → Separated ParamSpells y ts rest → next_kind rest ≡ Some k.RParen → parameters_by (sees k.RParen ts) ts ≡ Found y rest
parameters_by-complete [] ts rest s next =
    let P : List Token → Type 0 = λ l. parameters_by (sees k.RParen l) l ≡ Found [] rest in
    subst P (sym s) (rw (sees-kind k.RParen k.RParen rest next) refl)
parameters_by-complete (p ∷ ps) ts rest (mid, s, each) next =
    rw (param-inside p ts mid s) (some_parameters-complete p ps ts rest (mid, s, each) (sees-kind k.Comma k.RParen rest next))

pub parameters-complete : (y : List Param) (ts rest : List Token) → Params y ts rest → parameters ts ≡ Found y rest
unfolding parameters
parameters-complete y ts rest (few, (t1, s1, (t2, s2, s3))) =
    let (left, is1) = mark-complete k.LParen ts t1 s1 in
    let (right, is3) = mark-complete k.RParen t2 rest s3 in
    rw (is1, parameters_by-complete y t1 t2 s2 (next-mark k.RParen t2 rest s3), is3, le-leb (length y) 255 few) refl

-- ---- throws

-- what may follow throws
pub record AfterThrows (ts : List Token) : Type 0 where
  pub none : sees k.Throws ts ≡ false
  pub comma : sees k.Comma ts ≡ false
  pub dot : goes_on ts ≡ false

pub after-throws : (kind : Kind) (ts : List Token) → next_kind ts ≡ Some kind → same_kind kind k.Throws ≡ false → same_kind kind k.Comma ≡ false → same_kind kind k.Dot ≡ false → AfterThrows ts
after-throws kind ts e a b d = record { none = sees-kind k.Throws kind ts e ∙ a; comma = sees-kind k.Comma kind ts e ∙ b; dot = goes_off kind ts e d }

pub qualified_after-shorter : (before : Kind) (found y : List (List Lexeme)) (ts rest : List Token) → after before qualified found ts ≡ Found y rest → length rest < length ts
qualified_after-shorter = after-shorter Qualified qualified qualified-sound spends-qualified

as-throws : (y : List (List Lexeme)) (ts mid rest : List Token) → Mark k.Throws ts mid → Joined k.Comma Qualified y mid rest → Throws y ts rest
as-throws [] ts mid rest s1 s = absurd s
as-throws (name ∷ names) ts mid rest s1 s = (mid, s1, s)

throws_by-sound : (b : Bool) (ts rest : List Token) (y : List (List Lexeme)) → throws_by b ts ≡ Found y rest → Throws y ts rest
unfolding some_throws
throws_by-sound true ts rest y e =
    let (at, t1, is1, e1) = and_then-some (sign k.Throws ts) _ y rest e in
    let (name, t2, is2, e2) = and_then-some (qualified t1) _ y rest e1 in
    as-throws y ts t1 rest (mark-sound k.Throws ts t1 at is1) (joined-sound Qualified qualified qualified-sound (sees k.Comma) k.Comma name t1 t2 rest y (qualified-sound t1 t2 name is2) e2).0
throws_by-sound false ts rest y e = pure-is (λ y r. Throws y ts r) [] y ts rest e refl

pub throws-sound : (ts rest : List Token) (y : List (List Lexeme)) → throws ts ≡ Found y rest → Throws y ts rest
unfolding throws
throws-sound ts rest y e = throws_by-sound (sees k.Throws ts) ts rest y e

comma-dot : (ts rest : List Token) → Mark k.Comma ts rest → goes_on ts ≡ false
comma-dot ts rest s = goes_off k.Comma ts (next-mark k.Comma ts rest s) refl

comma-goes : (y : List Lexeme) (ts mid rest : List Token) → Mark k.Comma ts mid → Qualified y mid rest → sees k.Comma ts ≡ true
comma-goes y ts mid rest s q = sees-kind k.Comma k.Comma ts (next-mark k.Comma ts mid s)

some_throws-complete : (name : List Lexeme) (names : List (List Lexeme)) (ts t1 rest : List Token) → Mark k.Throws ts t1 → Joined k.Comma Qualified (name ∷ names) t1 rest → sees k.Comma rest ≡ false → goes_on rest ≡ false → some_throws ts ≡ Found (name ∷ names) rest
unfolding some_throws
some_throws-complete name names ts t1 rest s1 (mid, s, each) stops dot =
    let (at, is) = mark-complete k.Throws ts t1 s1 in
    let behind : goes_on mid ≡ false = suits-first Qualified qualified (λ l. goes_on l ≡ false) qualified-complete (sees k.Comma) k.Comma spends-qualified comma-goes comma-dot names mid rest each dot in
    rw (is, qualified-complete name t1 mid s behind)
    (joined-complete Qualified qualified (λ l. goes_on l ≡ false) qualified-complete (sees k.Comma) k.Comma spends-qualified comma-goes comma-dot name names mid rest each dot stops)

pub throws-complete : (y : List (List Lexeme)) (ts rest : List Token) → Throws y ts rest → AfterThrows rest → throws ts ≡ Found y rest
unfolding throws
throws-complete [] ts rest s after = let P : List Token → Type 0 = λ l. throws l ≡ Found [] rest in subst P (sym s) (rw after.none refl)
throws-complete (name ∷ names) ts rest (mid, s1, s) after =
    rw (sees-kind k.Throws k.Throws ts (next-mark k.Throws ts mid s1)) (some_throws-complete name names ts mid rest s1 s after.comma after.dot)

-- ---- results

result_by-sound : (b : Bool) (ts rest : List Token) (y : Option Ty) → result_by b ts ≡ Found y rest → ResultSpells y ts rest
result_by-sound true ts rest y e =
    let (at, mid, is, e1) = and_then-some (sign k.Void ts) _ y rest e in
    pure-is (λ y r. ResultSpells y ts r) None y mid rest e1 (mark-sound k.Void ts mid at is)
result_by-sound false ts rest y e =
    let (found, mid, is, e1) = and_then-some (ty ts) _ y rest e in
    pure-is (λ y r. ResultSpells y ts r) (Some found) y mid rest e1 (ty-sound ts mid found is)

pub result-sound : (ts rest : List Token) (y : Option Ty) → result_type ts ≡ Found y rest → ResultSpells y ts rest
unfolding result_type
result-sound ts rest y e = result_by-sound (sees k.Void ts) ts rest y e

pub result-complete : (y : Option Ty) (ts rest : List Token) → ResultSpells y ts rest → result_type ts ≡ Found y rest
unfolding result_type
result-complete None ts rest s = let (at, is) = mark-complete k.Void ts rest s in rw (sees-kind k.Void k.Void ts (next-mark k.Void ts rest s), is) refl
result-complete (Some y) ts rest s = rw (ty-no_void y ts rest s, ty-complete y ts rest s) refl

pub result-follows : (y : Option Ty) (ts rest : List Token) → ResultSpells y ts rest → AfterMods ts
result-follows None ts rest s = after-mods k.Void ts (next-mark k.Void ts rest s) refl refl refl refl refl
result-follows (Some y) ts rest s = ty-follows y ts rest s
