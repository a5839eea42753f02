-- What reads as a member without a body is spelled as one, and the reverse.
use Rattle.std.proofs.Common.{◌≡◌, ◌≢◌, ℕ, Bool, true, false, cond, List, [], Option, Some, None, refl, ap, ◌∙◌, sym, subst}
use Rattle.std.specs.Str.{bytes_eq}
use Rattle.std.proofs.lemmas.Slice.Eq.{bytes_eq-Decides}
use Rattle.java_phrases.specs.Tree.{Span, Kind, Kind as k, Token, Lexeme, Mod, Ty, Init, Init as init, Field, Sig}
use Rattle.java_phrases.specs.Common.{◌⨾◌, Mark, Sign, Spelled, word_of, Named, Found, and_then, pure, fail, next_kind, sees, sign, word, ty, smallest_digits}
use Rattle.java_phrases.proofs.Phrases.{and_then-some, pure-is, sign-sound, sign-complete, word-sound, word-complete, next-sign, next-mark, next-word}
use Rattle.java_phrases.proofs.TypeLaws.{ty-sound, ty-complete}
use Rattle.java_heads.specs.declared.declaration.Declaration.TheVariants as of
use Rattle.java_heads.specs.Spelling.{object_name, InitSpells, InitPart, FieldParts, SigParts}
use Rattle.java_heads.specs.Reading.{modifiers, parameters, throws, result_type, small, negative, named, new_object, initializer_by, initializer, init_by, init_part, field_end, field, signature}
use Rattle.java_heads.proofs.Lists.{mark-sound, mark-complete, sees-kind}
use Rattle.java_heads.proofs.ModifierLaws.{modifiers-sound, modifiers-complete}
use Rattle.java_heads.proofs.ParameterLaws.{ty-follows, parameters-sound, parameters-complete, throws-sound, throws-complete, after-throws, result-sound, result-complete, result-follows}

-- ---- texts

pub not_bytes : (xs ys : List ℕ) → bytes_eq xs ys ≡ false → xs ≢ ys
not_bytes xs ys off same = let on = (bytes_eq-Decides xs ys).1 same in cc

other_by : (b : Bool) (xs ys : List ℕ) → bytes_eq xs ys ≡ b → xs ≢ ys → b ≡ false
other_by true xs ys is other = absurd (other ((bytes_eq-Decides xs ys).0 is))
other_by false xs ys is other = refl

pub other_bytes : (xs ys : List ℕ) → xs ≢ ys → bytes_eq xs ys ≡ false
other_bytes xs ys other = other_by (bytes_eq xs ys) xs ys refl other

pub same_bytes : (xs ys : List ℕ) → xs ≡ ys → bytes_eq xs ys ≡ true
same_bytes xs ys same = (bytes_eq-Decides xs ys).1 same

named_by : (w v : Lexeme) (text : List ℕ) (ts mid rest : List Token) (b : Bool) → Spelled k.Name w ts mid → bytes_eq w.text text ≡ b → cond b (pure w) fail mid ≡ Found v rest → Spelled k.Name v ts rest × (v.text ≡ text)
named_by w v text ts mid rest true s is e = pure-is (λ v r. Spelled k.Name v ts r × (v.text ≡ text)) w v mid rest e (s, (bytes_eq-Decides w.text text).0 is)
named_by w v text ts mid rest false s is e = cc

pub named-sound : (text : List ℕ) (ts rest : List Token) (v : Lexeme) → named text ts ≡ Found v rest → Spelled k.Name v ts rest × (v.text ≡ text)
unfolding named
named-sound text ts rest v e =
    let (w, mid, is, e1) = and_then-some (word k.Name ts) _ v rest e in
    named_by w v text ts mid rest (bytes_eq w.text text) (word-sound k.Name ts mid w is) refl e1

pub named-complete : (text : List ℕ) (v : Lexeme) (ts rest : List Token) → Spelled k.Name v ts rest → v.text ≡ text → named text ts ≡ Found v rest
unfolding named
named-complete text v ts rest s is = rw (word-complete k.Name ts rest v s, same_bytes v.text text is) refl

pub name_is : (text : List ℕ) (v : Lexeme) (ts rest : List Token) → Spelled k.Name v ts rest → v.text ≡ text → Named text ts rest
name_is text v ts rest (t, e, is, stands) same = (t, e, is, ap (λ (u : Lexeme). u.text) stands ∙ same)

pub is_name : (text : List ℕ) (ts rest : List Token) → Named text ts rest → (v : Lexeme) × (named text ts ≡ Found v rest)
is_name text ts rest (t, e, is, same) = (word_of t, named-complete text (word_of t) ts rest (t, e, is, refl) same)

-- ---- initializers

small_by : (w : Lexeme) (y : Init) (ts mid rest : List Token) (b : Bool) → Spelled k.IntLiteral w ts mid → bytes_eq w.text smallest_digits ≡ b → cond b fail (pure (init.Int w)) mid ≡ Found y rest → InitSpells y ts rest
small_by w y ts mid rest true s is e = cc
small_by w y ts mid rest false s is e = pure-is (λ y r. InitSpells y ts r) (init.Int w) y mid rest e (not_bytes w.text smallest_digits is, s)

small-sound : (ts rest : List Token) (y : Init) → small ts ≡ Found y rest → InitSpells y ts rest
unfolding small
small-sound ts rest y e =
    let (w, mid, is, e1) = and_then-some (word k.IntLiteral ts) _ y rest e in
    small_by w y ts mid rest (bytes_eq w.text smallest_digits) (word-sound k.IntLiteral ts mid w is) refl e1

negative-sound : (ts rest : List Token) (y : Init) → negative ts ≡ Found y rest → InitSpells y ts rest
unfolding negative
negative-sound ts rest y e =
    let (at, t1, is1, e1) = and_then-some (sign k.Minus ts) _ y rest e in
    let (w, t2, is2, e2) = and_then-some (word k.IntLiteral t1) _ y rest e1 in
    pure-is (λ y r. InitSpells y ts r) (init.MinusInt at w) y t2 rest e2 (t1, sign-sound k.Minus ts t1 at is1, word-sound k.IntLiteral t1 t2 w is2)

object-sound : (ts rest : List Token) (y : Init) → new_object ts ≡ Found y rest → InitSpells y ts rest
unfolding new_object
object-sound ts rest y e =
    let (at, t1, is1, e1) = and_then-some (sign k.New ts) _ y rest e in
    let (name, t2, is2, e2) = and_then-some (named object_name t1) _ y rest e1 in
    let (left, t3, is3, e3) = and_then-some (sign k.LParen t2) _ y rest e2 in
    let (right, t4, is4, e4) = and_then-some (sign k.RParen t3) _ y rest e3 in
    let (s, same) = named-sound object_name t1 t2 name is2 in
    pure-is (λ y r. InitSpells y ts r) (init.NewObject at) y t4 rest e4
    (t1, sign-sound k.New ts t1 at is1, (t2, name_is object_name name t1 t2 s same, (t3, mark-sound k.LParen t2 t3 left is3, mark-sound k.RParen t3 t4 right is4)))

word-init : (kind : Kind) (made : Span → Init) (ts rest : List Token) (y : Init) → ((at : Span) (r : List Token) → Sign kind at ts r → InitSpells (made at) ts r) → and_then (sign kind ts) (λ at. pure (made at)) ≡ Found y rest → InitSpells y ts rest
word-init kind made ts rest y spells e =
    let (at, mid, is, e1) = and_then-some (sign kind ts) _ y rest e in
    pure-is (λ y r. InitSpells y ts r) (made at) y mid rest e1 (spells at mid (sign-sound kind ts mid at is))

initializer_by-sound : (next : Option Kind) (ts rest : List Token) (y : Init) → initializer_by next ts ≡ Found y rest → InitSpells y ts rest
initializer_by-sound (Some k.IntLiteral) ts rest y e = small-sound ts rest y e
initializer_by-sound (Some k.Minus) ts rest y e = negative-sound ts rest y e
initializer_by-sound (Some k.New) ts rest y e = object-sound ts rest y e
initializer_by-sound (Some k.True) ts rest y e = word-init k.True (λ at. init.True at) ts rest y (λ at r s. s) e
initializer_by-sound (Some k.False) ts rest y e = word-init k.False (λ at. init.False at) ts rest y (λ at r s. s) e
initializer_by-sound (Some k.Null) ts rest y e = word-init k.Null (λ at. init.Null at) ts rest y (λ at r s. s) e
initializer_by-sound (Some k.StrLiteral) ts rest y e =
    let (w, mid, is, e1) = and_then-some (word k.StrLiteral ts) _ y rest e in
    pure-is (λ y r. InitSpells y ts r) (init.Str w) y mid rest e1 (word-sound k.StrLiteral ts mid w is)
initializer_by-sound _ ts rest y e = cc

initializer-sound : (ts rest : List Token) (y : Init) → initializer ts ≡ Found y rest → InitSpells y ts rest
unfolding initializer
initializer-sound ts rest y e = initializer_by-sound (next_kind ts) ts rest y e

initializer-complete : (y : Init) (ts rest : List Token) → InitSpells y ts rest → initializer ts ≡ Found y rest
unfolding initializer small negative new_object
initializer-complete (init.Int w) ts rest (other, s) = rw (next-word k.IntLiteral w ts rest s, word-complete k.IntLiteral ts rest w s, other_bytes w.text smallest_digits other) refl
initializer-complete (init.MinusInt at w) ts rest (t1, s1, s2) = rw (next-sign k.Minus at ts t1 s1, sign-complete k.Minus ts t1 at s1, word-complete k.IntLiteral t1 rest w s2) refl
initializer-complete (init.True at) ts rest s = rw (next-sign k.True at ts rest s, sign-complete k.True ts rest at s) refl
initializer-complete (init.False at) ts rest s = rw (next-sign k.False at ts rest s, sign-complete k.False ts rest at s) refl
initializer-complete (init.Null at) ts rest s = rw (next-sign k.Null at ts rest s, sign-complete k.Null ts rest at s) refl
initializer-complete (init.Str w) ts rest s = rw (next-word k.StrLiteral w ts rest s, word-complete k.StrLiteral ts rest w s) refl
initializer-complete (init.NewObject at) ts rest (t1, s1, (t2, s2, (t3, s3, s4))) =
    let (name, is2) = is_name object_name t1 t2 s2 in
    let (left, is3) = mark-complete k.LParen t2 t3 s3 in
    let (right, is4) = mark-complete k.RParen t3 rest s4 in
    rw (next-sign k.New at ts t1 s1, sign-complete k.New ts t1 at s1, is2, is3, is4) refl

init_by-sound : (b : Bool) (ts rest : List Token) (y : Option Init) → init_by b ts ≡ Found y rest → InitPart y ts rest
init_by-sound true ts rest y e =
    let (at, t1, is1, e1) = and_then-some (sign k.Assign ts) _ y rest e in
    let (found, t2, is2, e2) = and_then-some (initializer t1) _ y rest e1 in
    pure-is (λ y r. InitPart y ts r) (Some found) y t2 rest e2 (t1, mark-sound k.Assign ts t1 at is1, initializer-sound t1 t2 found is2)
init_by-sound false ts rest y e = pure-is (λ y r. InitPart y ts r) None y ts rest e refl

init-sound : (ts rest : List Token) (y : Option Init) → init_part ts ≡ Found y rest → InitPart y ts rest
unfolding init_part
init-sound ts rest y e = init_by-sound (sees k.Assign ts) ts rest y e

init-complete : (y : Option Init) (ts rest : List Token) → InitPart y ts rest → sees k.Assign rest ≡ false → init_part ts ≡ Found y rest
unfolding init_part
init-complete None ts rest s off = let P : List Token → Type 0 = λ l. init_part l ≡ Found None rest in subst P (sym s) (rw off refl)
init-complete (Some y) ts rest (t1, s1, s2) off =
    let (at, is) = mark-complete k.Assign ts t1 s1 in
    rw (sees-kind k.Assign k.Assign ts (next-mark k.Assign ts t1 s1), is, initializer-complete y t1 rest s2) refl

-- ---- fields

-- the tree without its tokens
abbrev pub field_of : List Mod → Ty → Lexeme → Option Init → Field
field_of mods y name value = record { mods = mods; ty = y; name = name; init = value; tokens = [] }

pub field_end-sound : (mods : List Mod) (y : Ty) (name : Lexeme) (ts rest : List Token) (f : Field) → field_end mods y name ts ≡ Found f rest
    → (value : Option Init) × (f ≡ field_of mods y name value) × (InitPart value ⨾ Mark k.Semicolon) ts rest
unfolding field_end
field_end-sound mods y name ts rest f e =
    let (value, t1, is1, e1) = and_then-some (init_part ts) _ f rest e in
    let (at, t2, is2, e2) = and_then-some (sign k.Semicolon t1) _ f rest e1 in
    pure-is (λ f r. (value : Option Init) × (f ≡ field_of mods y name value) × (InitPart value ⨾ Mark k.Semicolon) ts r) (field_of mods y name value) f t2 rest e2
    (value, refl, (t1, init-sound ts t1 value is1, mark-sound k.Semicolon t1 t2 at is2))

pub field_end-complete : (mods : List Mod) (y : Ty) (name : Lexeme) (value : Option Init) (ts rest : List Token) → (InitPart value ⨾ Mark k.Semicolon) ts rest → field_end mods y name ts ≡ Found (field_of mods y name value) rest
unfolding field_end
field_end-complete mods y name value ts rest (t1, s1, s2) =
    let (at, is) = mark-complete k.Semicolon t1 rest s2 in
    rw (init-complete value ts t1 s1 (sees-kind k.Assign k.Semicolon t1 (next-mark k.Semicolon t1 rest s2)), is) refl

pub field-sound : (ts rest : List Token) (f : Field) → field ts ≡ Found f rest → FieldParts f ts rest
unfolding field
field-sound ts rest f e =
    let (mods, t1, is1, e1) = and_then-some (modifiers of.Field ts) _ f rest e in
    let (y, t2, is2, e2) = and_then-some (ty t1) _ f rest e1 in
    let (name, t3, is3, e3) = and_then-some (word k.Name t2) _ f rest e2 in
    let (value, same, s) = field_end-sound mods y name t3 rest f e3 in
    let P : Field → Type 0 = λ g. FieldParts g ts rest in
    subst P (sym same) (t1, modifiers-sound of.Field ts t1 mods is1, (t2, ty-sound t1 t2 y is2, (t3, word-sound k.Name t2 t3 name is3, s)))

pub field-complete : (f : Field) (ts rest : List Token) → FieldParts f ts rest → field ts ≡ Found (field_of f.mods f.ty f.name f.init) rest
unfolding field
field-complete f ts rest (t1, s1, (t2, s2, (t3, s3, s4))) =
    rw (modifiers-complete of.Field f.mods ts t1 s1 (ty-follows f.ty t1 t2 s2), ty-complete f.ty t1 t2 s2, word-complete k.Name t2 t3 f.name s3) (field_end-complete f.mods f.ty f.name f.init t3 rest s4)

-- ---- methods of interfaces

pub signature-sound : (ts rest : List Token) (s : Sig) → signature ts ≡ Found s rest → SigParts s ts rest
unfolding signature
signature-sound ts rest s e =
    let (mods, t1, is1, e1) = and_then-some (modifiers of.Sig ts) _ s rest e in
    let (result, t2, is2, e2) = and_then-some (result_type t1) _ s rest e1 in
    let (name, t3, is3, e3) = and_then-some (word k.Name t2) _ s rest e2 in
    let (params, t4, is4, e4) = and_then-some (parameters t3) _ s rest e3 in
    let (thrown, t5, is5, e5) = and_then-some (throws t4) _ s rest e4 in
    let (at, t6, is6, e6) = and_then-some (sign k.Semicolon t5) _ s rest e5 in
    pure-is (λ s r. SigParts s ts r) (record { mods = mods; result = result; name = name; params = params; throws = thrown; tokens = [] }) s t6 rest e6
    (t1, modifiers-sound of.Sig ts t1 mods is1, (t2, result-sound t1 t2 result is2, (t3, word-sound k.Name t2 t3 name is3, (t4, parameters-sound t3 t4 params is4, (t5, throws-sound t4 t5 thrown is5, mark-sound k.Semicolon t5 t6 at is6)))))

abbrev pub bare_sig : Sig → Sig
bare_sig s = record { mods = s.mods; result = s.result; name = s.name; params = s.params; throws = s.throws; tokens = [] }

pub signature-complete : (s : Sig) (ts rest : List Token) → SigParts s ts rest → signature ts ≡ Found (bare_sig s) rest
unfolding signature
signature-complete s ts rest (t1, s1, (t2, s2, (t3, s3, (t4, s4, (t5, s5, s6))))) =
    let (at, is) = mark-complete k.Semicolon t5 rest s6 in
    rw (
      modifiers-complete of.Sig s.mods ts t1 s1 (result-follows s.result t1 t2 s2),
      result-complete s.result t1 t2 s2,
      word-complete k.Name t2 t3 s.name s3,
      parameters-complete s.params t3 t4 s4,
      throws-complete s.throws t4 t5 s5 (after-throws k.Semicolon t5 (next-mark k.Semicolon t5 rest s6) refl refl refl),
      is,
    ) refl
