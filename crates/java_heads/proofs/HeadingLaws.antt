-- What reads as the heading of a member is spelled as one, and the reverse.
use Rattle.std.proofs.Common.{◌≡◌, ℕ, Bool, true, false, cond, ◌&&◌, List, [], ◌∷◌, Option, Some, None, Result, IfOk, refl, ap, ◌∙◌, sym, subst}
use Rattle.std.specs.Str.{bytes_eq}
use Rattle.std.proofs.lemmas.Slice.Eq.{bytes_eq-Decides}
use Rattle.java_phrases.specs.Tree.{Span, Kind, Kind as k, Token, Lexeme, Mod, Mod as modifier, ModWord, ModWord as w, Ty, Ty as tree, Param, Init}
use Rattle.java_phrases.specs.Common.{◌⨾◌, Mark, Sign, Spelled, Each, Named, Optional, Found, ◌>>=◌, pure, fail, next_kind, kind_at, same_kind, sees, sign, word, TySpells, ty, ahead, Steps, Gives}
use Rattle.java_phrases.specs.declared.error.SyntaxError.{SyntaxError}
use Rattle.java_phrases.specs.declared.tokens.Tokens.{Tokens}
use Rattle.java_phrases.proofs.Answered.{gives, steps-found}
use Rattle.java_phrases.proofs.Phrases.{and_then-some, pure-is, word-sound, word-complete, next-mark, next-word}
use Rattle.java_phrases.proofs.TypeLaws.{ty-sound, ty-complete}
use Rattle.java_heads.specs.declared.declaration.Declaration.TheVariants as of
use Rattle.java_heads.specs.Modifiers.{kind_of, FitsAs}
use Rattle.java_heads.specs.Spelling.{ModSpells, Params, Throws, ResultSpells, InitPart, string_name}
use Rattle.java_heads.specs.Reading.{all_modifiers, fits, parameters, throws, perhaps, named, field_end}
use Rattle.java_heads.proofs.Lists.{mark-sound, mark-complete, sees-kind}
use Rattle.java_heads.proofs.ModifierLaws.{all_modifiers-sound, all_modifiers-complete, fits-sound, fits-complete, AfterMods, after-mods}
use Rattle.java_heads.proofs.ParameterLaws.{ty-follows, ty-no_void, result-follows, parameters-sound, parameters-complete, throws-sound, throws-complete, AfterThrows, after-throws}
use Rattle.java_heads.proofs.MemberLaws.{same_bytes, named-sound, named-complete, name_is, is_name, field_of, field_end-sound, field_end-complete}
use Rattle.java_heads.proofs.LineLaws.{perhaps-sound, perhaps-complete}
use Rattle.java_heads.specs.declared.heading.Heading.{Heading}
use Rattle.java_heads.specs.declared.heading.Heading.TheVariants as heading
use Rattle.java_heads.specs.declared.heading.MethodHeading.{MethodHeading}
use Rattle.java_heads.specs.declared.heading.CtorHeading.{CtorHeading}
use Rattle.java_heads.specs.declared.heading.MainHeading.{MainHeading}
use Rattle.java_heads.specs.Headings.{main_name, MethodHead, CtorHead, MainHead, HeadingSpells, BodyFollows, OneHeading}
use Rattle.java_heads.specs.HeadingReading.{stands, takes_array, calls_name, method_end, main_end, void_by, void_member, constructor, field_member, typed_by, typed_member, unvoid_by, heading_by, member_heading}

-- ---- what was read is spelled

method_if : (b : Bool) (class : List ℕ) (mods : List Mod) (result : Option Ty) (name : Lexeme) (start t1 t2 ts rest : List Token) (o : Heading) → fits of.Method mods ≡ b → Each ModSpells mods start t1 → ResultSpells result t1 t2 → Spelled k.Name name t2 ts
    → cond b (parameters >>= (λ params. throws >>= (λ thrown. pure (heading.Method (record { mods = mods; result = result; name = name; params = params; throws = thrown }))))) fail ts ≡ Found o rest → HeadingSpells class o start rest
method_if true class mods result name start t1 t2 ts rest o is s1 s2 s3 e =
    let (params, t4, is4, e4) = and_then-some (parameters ts) _ o rest e in
    let (thrown, t5, is5, e5) = and_then-some (throws t4) _ o rest e4 in
    pure-is (λ o r. HeadingSpells class o start r) (heading.Method (record { mods = mods; result = result; name = name; params = params; throws = thrown })) o t5 rest e5
    (t1, (fits-sound of.Method mods is, s1), (t2, s2, (ts, s3, (t4, parameters-sound ts t4 params is4, throws-sound t4 t5 thrown is5))))
method_if false class mods result name start t1 t2 ts rest o is s1 s2 s3 e = cc

method_end-sound : (class : List ℕ) (mods : List Mod) (result : Option Ty) (name : Lexeme) (start t1 t2 ts rest : List Token) (o : Heading) → Each ModSpells mods start t1 → ResultSpells result t1 t2 → Spelled k.Name name t2 ts → method_end mods result name ts ≡ Found o rest
    → HeadingSpells class o start rest
unfolding method_end
method_end-sound class mods result name start t1 t2 ts rest o s1 s2 s3 e = method_if (fits of.Method mods) class mods result name start t1 t2 ts rest o refl s1 s2 s3 e

main_if : (b c : Bool) (class : List ℕ) (mods : List Mod) (name : Lexeme) (start t1 t2 ts rest : List Token) (o : Heading) → fits of.Main mods ≡ b → bytes_eq name.text main_name ≡ c → Each ModSpells mods start t1 → Mark k.Void t1 t2 → Spelled k.Name name t2 ts
    → cond b (cond c (sign k.LParen >>= (λ _. perhaps k.Final >>= (λ final_word. named string_name >>= (λ _. sign k.LBracket >>= (λ _. sign k.RBracket >>= (λ _. word k.Name >>= (λ param. sign k.RParen >>= (λ _. throws
    >>= (λ thrown. pure (heading.Main (record { mods = mods; name = name; final_word = final_word; param = param; throws = thrown }))))))))))) fail) fail ts ≡ Found o rest → HeadingSpells class o start rest
main_if true true class mods name start t1 t2 ts rest o is same s1 s2 s3 e =
    let (left, t4, is4, e4) = and_then-some (sign k.LParen ts) _ o rest e in
    let (final_word, t5, is5, e5) = and_then-some (perhaps k.Final t4) _ o rest e4 in
    let (string, t6, is6, e6) = and_then-some (named string_name t5) _ o rest e5 in
    let (open_at, t7, is7, e7) = and_then-some (sign k.LBracket t6) _ o rest e6 in
    let (close_at, t8, is8, e8) = and_then-some (sign k.RBracket t7) _ o rest e7 in
    let (param, t9, is9, e9) = and_then-some (word k.Name t8) _ o rest e8 in
    let (right, u1, is10, e10) = and_then-some (sign k.RParen t9) _ o rest e9 in
    let (thrown, u2, is11, e11) = and_then-some (throws u1) _ o rest e10 in
    let (s6, text) = named-sound string_name t5 t6 string is6 in
    pure-is (λ o r. HeadingSpells class o start r) (heading.Main (record { mods = mods; name = name; final_word = final_word; param = param; throws = thrown })) o u2 rest e11 (
      t1,
      (fits-sound of.Main mods is, s1),
      (
        t2,
        s2,
        (
          (bytes_eq-Decides name.text main_name).0 same,
          (
            ts,
            s3,
            (
              t4,
              mark-sound k.LParen ts t4 left is4,
              (
                t5,
                perhaps-sound k.Final t4 t5 final_word is5,
                (
                  t6,
                  name_is string_name string t5 t6 s6 text,
                  (t7, mark-sound k.LBracket t6 t7 open_at is7, (t8, mark-sound k.RBracket t7 t8 close_at is8, (t9, word-sound k.Name t8 t9 param is9, (u1, mark-sound k.RParen t9 u1 right is10, throws-sound u1 u2 thrown is11)))),
                ),
              ),
            ),
          ),
        ),
      ),
    )
main_if true false class mods name start t1 t2 ts rest o is same s1 s2 s3 e = cc
main_if false c class mods name start t1 t2 ts rest o is same s1 s2 s3 e = cc

main_end-sound : (class : List ℕ) (mods : List Mod) (name : Lexeme) (start t1 t2 ts rest : List Token) (o : Heading) → Each ModSpells mods start t1 → Mark k.Void t1 t2 → Spelled k.Name name t2 ts → main_end mods name ts ≡ Found o rest → HeadingSpells class o start rest
unfolding main_end
main_end-sound class mods name start t1 t2 ts rest o s1 s2 s3 e = main_if (fits of.Main mods) (bytes_eq name.text main_name) class mods name start t1 t2 ts rest o refl refl s1 s2 s3 e

void_by-sound : (b : Bool) (class : List ℕ) (mods : List Mod) (name : Lexeme) (start t1 t2 ts rest : List Token) (o : Heading) → Each ModSpells mods start t1 → Mark k.Void t1 t2 → Spelled k.Name name t2 ts → void_by mods name b ts ≡ Found o rest → HeadingSpells class o start rest
void_by-sound true class mods name start t1 t2 ts rest o s1 s2 s3 e = main_end-sound class mods name start t1 t2 ts rest o s1 s2 s3 e
void_by-sound false class mods name start t1 t2 ts rest o s1 s2 s3 e = method_end-sound class mods None name start t1 t2 ts rest o s1 s2 s3 e

void-sound : (class : List ℕ) (mods : List Mod) (start ts rest : List Token) (o : Heading) → Each ModSpells mods start ts → void_member mods ts ≡ Found o rest → HeadingSpells class o start rest
unfolding void_member
void-sound class mods start ts rest o s1 e =
    let (at, t2, is2, e2) = and_then-some (sign k.Void ts) _ o rest e in
    let (name, t3, is3, e3) = and_then-some (word k.Name t2) _ o rest e2 in
    void_by-sound (takes_array t3) class mods name start ts t2 t3 rest o s1 (mark-sound k.Void ts t2 at is2) (word-sound k.Name t2 t3 name is3) e3

ctor_if : (b : Bool) (class : List ℕ) (mods : List Mod) (start ts rest : List Token) (o : Heading) → fits of.Ctor mods ≡ b → Each ModSpells mods start ts
    → cond b (named class >>= (λ name. parameters >>= (λ params. throws >>= (λ thrown. pure (heading.Ctor (record { mods = mods; name = name; params = params; throws = thrown })))))) fail ts ≡ Found o rest → HeadingSpells class o start rest
ctor_if true class mods start ts rest o is s1 e =
    let (name, t2, is2, e2) = and_then-some (named class ts) _ o rest e in
    let (params, t3, is3, e3) = and_then-some (parameters t2) _ o rest e2 in
    let (thrown, t4, is4, e4) = and_then-some (throws t3) _ o rest e3 in
    let (s2, same) = named-sound class ts t2 name is2 in
    pure-is (λ o r. HeadingSpells class o start r) (heading.Ctor (record { mods = mods; name = name; params = params; throws = thrown })) o t4 rest e4
    (ts, (fits-sound of.Ctor mods is, s1), (same, (t2, s2, (t3, parameters-sound t2 t3 params is3, throws-sound t3 t4 thrown is4))))
ctor_if false class mods start ts rest o is s1 e = cc

field_if : (b : Bool) (class : List ℕ) (mods : List Mod) (y : Ty) (name : Lexeme) (start t1 t2 ts rest : List Token) (o : Heading) → fits of.Field mods ≡ b → Each ModSpells mods start t1 → TySpells y t1 t2 → Spelled k.Name name t2 ts
    → cond b (field_end mods y name >>= (λ found. pure (heading.Field found))) fail ts ≡ Found o rest → HeadingSpells class o start rest
field_if true class mods y name start t1 t2 ts rest o is s1 s2 s3 e =
    let (f, t4, is4, e4) = and_then-some (field_end mods y name ts) _ o rest e in
    let (value, same, s4) = field_end-sound mods y name ts t4 f is4 in
    pure-is (λ o r. HeadingSpells class o start r) (heading.Field f) o t4 rest e4
    (subst (λ g. HeadingSpells class (heading.Field g) start t4) (sym same) (refl, (t1, (fits-sound of.Field mods is, s1), (t2, s2, (ts, s3, s4)))))
field_if false class mods y name start t1 t2 ts rest o is s1 s2 s3 e = cc

typed_by-sound : (b : Bool) (class : List ℕ) (mods : List Mod) (y : Ty) (name : Lexeme) (start t1 t2 ts rest : List Token) (o : Heading) → Each ModSpells mods start t1 → TySpells y t1 t2 → Spelled k.Name name t2 ts → typed_by mods y name b ts ≡ Found o rest
    → HeadingSpells class o start rest
unfolding field_member
typed_by-sound true class mods y name start t1 t2 ts rest o s1 s2 s3 e = method_end-sound class mods (Some y) name start t1 t2 ts rest o s1 s2 s3 e
typed_by-sound false class mods y name start t1 t2 ts rest o s1 s2 s3 e = field_if (fits of.Field mods) class mods y name start t1 t2 ts rest o refl s1 s2 s3 e

unvoid-sound : (b : Bool) (class : List ℕ) (mods : List Mod) (start ts rest : List Token) (o : Heading) → Each ModSpells mods start ts → unvoid_by class mods b ts ≡ Found o rest → HeadingSpells class o start rest
unfolding constructor typed_member
unvoid-sound true class mods start ts rest o s1 e = ctor_if (fits of.Ctor mods) class mods start ts rest o refl s1 e
unvoid-sound false class mods start ts rest o s1 e =
    let (y, t2, is2, e2) = and_then-some (ty ts) _ o rest e in
    let (name, t3, is3, e3) = and_then-some (word k.Name t2) _ o rest e2 in
    typed_by-sound (sees k.LParen t3) class mods y name start ts t2 t3 rest o s1 (ty-sound ts t2 y is2) (word-sound k.Name t2 t3 name is3) e3

heading_by-sound : (b : Bool) (class : List ℕ) (mods : List Mod) (start ts rest : List Token) (o : Heading) → Each ModSpells mods start ts → heading_by class mods b ts ≡ Found o rest → HeadingSpells class o start rest
heading_by-sound true class mods start ts rest o s1 e = void-sound class mods start ts rest o s1 e
heading_by-sound false class mods start ts rest o s1 e = unvoid-sound (calls_name ts) class mods start ts rest o s1 e

pub heading-sound : (class : List ℕ) (ts rest : List Token) (o : Heading) → member_heading class ts ≡ Found o rest → HeadingSpells class o ts rest
unfolding member_heading
heading-sound class ts rest o e =
    let (mods, t1, is1, e1) = and_then-some (all_modifiers ts) _ o rest e in
    heading_by-sound (sees k.Void t1) class mods ts t1 rest o (all_modifiers-sound ts t1 mods is1) e1

-- ---- what tells the productions apart

no_name : (word : ModWord) → same_kind (kind_of word) k.Name ≡ false
no_name w.Public = refl
no_name _ = refl

-- a parameter's first two tokens are no name and bracket
param-no_array : (mods : List Mod) (y : Ty) (name : Lexeme) (ts t1 t2 rest : List Token) → Each ModSpells mods ts t1 → TySpells y t1 t2 → Spelled k.Name name t2 rest → (stands k.Name 0 ts && stands k.LBracket 1 ts) ≡ false
unfolding stands kind_at
param-no_array [] (tree.Int at) name ts t1 t2 rest each (t, e, is, stands_at) s = let first : ts ≡ t ∷ t2 = each ∙ e in rw (first, is) refl
param-no_array [] (tree.Boolean at) name ts t1 t2 rest each (t, e, is, stands_at) s = let first : ts ≡ t ∷ t2 = each ∙ e in rw (first, is) refl
param-no_array [] (tree.Named of_type) name ts t1 t2 rest each (t, e, is, stands_at) (u, f, was, stood) = let first : ts ≡ t ∷ t2 = each ∙ e in rw (first, f, is, was) refl
param-no_array (modifier.Annot a ∷ mods) y name ts t1 t2 rest (mid, (n, (m1, (t, e, is, stands_at), tail)), each) s s1 = rw (e, is) refl
param-no_array (modifier.Word word at ∷ mods) y name ts t1 t2 rest (mid, (t, e, is, stands_at), each) s s1 = rw (e, is, no_name word) refl

-- where no `final` stands
plain : (ts : List Token) → stands k.Final 1 ts ≡ false → (stands k.Name 1 ts && stands k.LBracket 2 ts) ≡ false → takes_array ts ≡ false
unfolding takes_array
plain ts a b = rw (a, b) refl

behind : (t : Token) (ts : List Token) → (stands k.Name 0 ts && stands k.LBracket 1 ts) ≡ false → (stands k.Name 1 (t ∷ ts) && stands k.LBracket 2 (t ∷ ts)) ≡ false
unfolding stands kind_at
behind t ts e = e

first-is : (kind found : Kind) (t u : Token) (ts rest : List Token) → ts ≡ u ∷ rest → u.kind ≡ found → same_kind found kind ≡ false → stands kind 1 (t ∷ ts) ≡ false
unfolding stands kind_at
first-is kind found t u ts rest e is off = rw (e, is) off

other-first : (t u : Token) (found : Kind) (ts rest : List Token) → ts ≡ u ∷ rest → u.kind ≡ found → same_kind found k.Final ≡ false → (stands k.Name 0 ts && stands k.LBracket 1 ts) ≡ false → takes_array (t ∷ ts) ≡ false
other-first t u found ts rest e is off none = plain (t ∷ ts) (first-is k.Final found t u ts rest e is off) (behind t ts none)

final-first : (t u : Token) (ts rest : List Token) → ts ≡ u ∷ rest → u.kind ≡ k.Final → (stands k.Name 0 rest && stands k.LBracket 1 rest) ≡ false → takes_array (t ∷ ts) ≡ false
unfolding takes_array stands kind_at
final-first t u ts rest e is none = rw (e, is) none

word-first : (word : ModWord) (t u : Token) (ts rest : List Token) → ts ≡ u ∷ rest → u.kind ≡ kind_of word → (stands k.Name 0 ts && stands k.LBracket 1 ts) ≡ false → (stands k.Name 0 rest && stands k.LBracket 1 rest) ≡ false → takes_array (t ∷ ts) ≡ false
word-first w.Public t u ts rest e is none more = other-first t u k.Public ts rest e is refl none
word-first w.Protected t u ts rest e is none more = other-first t u k.Protected ts rest e is refl none
word-first w.Private t u ts rest e is none more = other-first t u k.Private ts rest e is refl none
word-first w.Static t u ts rest e is none more = other-first t u k.Static ts rest e is refl none
word-first w.Final t u ts rest e is none more = final-first t u ts rest e is more
word-first w.Abstract t u ts rest e is none more = other-first t u k.Abstract ts rest e is refl none
word-first w.Synchronized t u ts rest e is none more = other-first t u k.Synchronized ts rest e is refl none

some-param : (mods : List Mod) (y : Ty) (name : Lexeme) (t : Token) (ts t1 t2 rest : List Token) → Each ModSpells mods ts t1 → TySpells y t1 t2 → Spelled k.Name name t2 rest → takes_array (t ∷ ts) ≡ false
some-param [] (tree.Int at) name t ts t1 t2 rest each (u, e, is, stood) s = other-first t u k.IntType ts t2 (each ∙ e) is refl (param-no_array [] (tree.Int at) name ts t1 t2 rest each (u, e, is, stood) s)
some-param [] (tree.Boolean at) name t ts t1 t2 rest each (u, e, is, stood) s = other-first t u k.BooleanType ts t2 (each ∙ e) is refl (param-no_array [] (tree.Boolean at) name ts t1 t2 rest each (u, e, is, stood) s)
some-param [] (tree.Named of_type) name t ts t1 t2 rest each (u, e, is, stood) s = other-first t u k.Name ts t2 (each ∙ e) is refl (param-no_array [] (tree.Named of_type) name ts t1 t2 rest each (u, e, is, stood) s)
some-param (modifier.Annot a ∷ mods) y name t ts t1 t2 rest (mid, (n, (m1, (u, e, is, stood), tail)), each) s s1 =
    other-first t u k.At ts m1 e is refl (param-no_array (modifier.Annot a ∷ mods) y name ts t1 t2 rest (mid, (n, (m1, (u, e, is, stood), tail)), each) s s1)
some-param (modifier.Word word at ∷ mods) y name t ts t1 t2 rest (mid, (u, e, is, stood), each) s s1 =
    word-first word t u ts mid e is (param-no_array (modifier.Word word at ∷ mods) y name ts t1 t2 rest (mid, (u, e, is, stood), each) s s1) (param-no_array mods y name mid t1 t2 rest each s s1)

no_params : (t u : Token) (ts rest : List Token) → ts ≡ u ∷ rest → u.kind ≡ k.RParen → takes_array (t ∷ ts) ≡ false
unfolding takes_array stands kind_at
no_params t u ts rest e is = rw (e, is) refl

pub params-no_array : (params : List Param) (ts rest : List Token) → Params params ts rest → takes_array ts ≡ false
params-no_array [] ts rest (few, (t1, (t, e, is), (t2, none, (u, f, was)))) = let P : List Token → Type 0 = λ l. takes_array l ≡ false in subst P (sym e) (no_params t u t1 rest (none ∙ f) was)
params-no_array (p ∷ params) ts rest (few, (t1, (t, e, is), (t2, (m, (a1, (fit, s1), (a2, s2, s3)), each), end))) =
    let P : List Token → Type 0 = λ l. takes_array l ≡ false in
    subst P (sym e) (some-param p.mods p.ty p.name t t1 a1 a2 m s1 s2 s3)

type-no_call : (y : Ty) (name : Lexeme) (ts t1 rest : List Token) → TySpells y ts t1 → Spelled k.Name name t1 rest → calls_name ts ≡ false
unfolding calls_name stands kind_at
type-no_call (tree.Int at) name ts t1 rest (t, e, is, stood) s = rw (e, is) refl
type-no_call (tree.Boolean at) name ts t1 rest (t, e, is, stood) s = rw (e, is) refl
type-no_call (tree.Named of_type) name ts t1 rest (t, e, is, stood) (u, f, was, stands_at) = rw (e, f, is, was) refl

name-calls : (name : Lexeme) (ts t1 rest : List Token) → Spelled k.Name name ts t1 → Mark k.LParen t1 rest → calls_name ts ≡ true
unfolding calls_name stands kind_at
name-calls name ts t1 rest (t, e, is, stood) (u, f, was) = rw (e, f, is, was) refl

main-array : (final_word : Option Span) (ts t1 t2 t3 rest : List Token) → Mark k.LParen ts t1 → Optional (Sign k.Final) final_word t1 t2 → Named string_name t2 t3 → Mark k.LBracket t3 rest → takes_array ts ≡ true
unfolding takes_array stands kind_at
main-array None ts t1 t2 t3 rest (t, e, is) none (u, f, was, text) (v, g, so) = let first : t1 ≡ u ∷ t3 = none ∙ f in rw (e, first, g, was, so) refl
main-array (Some at) ts t1 t2 t3 rest (t, e, is) (u, f, was, stood) (v, g, so, text) (x, h, thus) = rw (e, f, g, h, was, so, thus) refl

-- ---- what is spelled is read

method_end-complete : (h : MethodHeading) (ts t1 rest : List Token) → FitsAs of.Method h.mods → Params h.params ts t1 → Throws h.throws t1 rest → AfterThrows rest → method_end h.mods h.result h.name ts ≡ Found (heading.Method h) rest
unfolding method_end
method_end-complete h ts t1 rest fit s1 s2 after = rw (fits-complete of.Method h.mods fit, parameters-complete h.params ts t1 s1, throws-complete h.throws t1 rest s2 after) refl

params-open : (params : List Param) (ts rest : List Token) → Params params ts rest → sees k.LParen ts ≡ true
params-open params ts rest (few, (t1, s1, tail)) = sees-kind k.LParen k.LParen ts (next-mark k.LParen ts t1 s1)

method-by : (result : Option Ty) (class : List ℕ) (h : MethodHeading) (ts t1 t2 t3 t4 rest : List Token) → h.result ≡ result → FitsAs of.Method h.mods → Each ModSpells h.mods ts t1 → ResultSpells result t1 t2 → Spelled k.Name h.name t2 t3 → Params h.params t3 t4
    → Throws h.throws t4 rest → AfterThrows rest → method_end h.mods result h.name t3 ≡ Found (heading.Method h) rest → member_heading class ts ≡ Found (heading.Method h) rest
unfolding member_heading void_member typed_member
method-by None class h ts t1 t2 t3 t4 rest is fit s1 s2 s3 s4 s5 after made =
    let (at, void) = mark-complete k.Void t1 t2 s2 in
    rw (all_modifiers-complete h.mods ts t1 s1 (result-follows None t1 t2 s2), sees-kind k.Void k.Void t1 (next-mark k.Void t1 t2 s2), void, word-complete k.Name t2 t3 h.name s3, params-no_array h.params t3 t4 s4) made
method-by (Some y) class h ts t1 t2 t3 t4 rest is fit s1 s2 s3 s4 s5 after made =
    rw (all_modifiers-complete h.mods ts t1 s1 (ty-follows y t1 t2 s2), ty-no_void y t1 t2 s2, type-no_call y h.name t1 t2 t3 s2 s3, ty-complete y t1 t2 s2, word-complete k.Name t2 t3 h.name s3, params-open h.params t3 t4 s4) made

pub method-complete : (class : List ℕ) (h : MethodHeading) (ts rest : List Token) → MethodHead h ts rest → AfterThrows rest → member_heading class ts ≡ Found (heading.Method h) rest
method-complete class h ts rest (t1, (fit, s1), (t2, s2, (t3, s3, (t4, s4, s5)))) after =
    method-by h.result class h ts t1 t2 t3 t4 rest refl fit s1 s2 s3 s4 s5 after (method_end-complete h t3 t4 rest fit s4 s5 after)

name-follows : (name : Lexeme) (ts rest : List Token) → Spelled k.Name name ts rest → AfterMods ts
name-follows name ts rest s = after-mods k.Name ts (next-word k.Name name ts rest s) refl refl refl refl refl

ctor-opens : (name : Lexeme) (params : List Param) (ts t1 rest : List Token) → Spelled k.Name name ts t1 → Params params t1 rest → calls_name ts ≡ true
ctor-opens name params ts t1 rest s (few, (t2, s1, tail)) = name-calls name ts t1 t2 s s1

pub ctor-complete : (class : List ℕ) (h : CtorHeading) (ts rest : List Token) → CtorHead class h ts rest → AfterThrows rest → member_heading class ts ≡ Found (heading.Ctor h) rest
unfolding member_heading constructor
ctor-complete class h ts rest (t1, (fit, s1), (same, (t2, s2, (t3, s3, s4)))) after =
    rw (
      all_modifiers-complete h.mods ts t1 s1 (name-follows h.name t1 t2 s2),
      sees-kind k.Void k.Name t1 (next-word k.Name h.name t1 t2 s2),
      ctor-opens h.name h.params t1 t2 t3 s2 s3,
      fits-complete of.Ctor h.mods fit,
      named-complete class h.name t1 t2 s2 same,
      parameters-complete h.params t2 t3 s3,
      throws-complete h.throws t3 rest s4 after,
    ) refl

next-name : (ts rest : List Token) (t : Token) → ts ≡ t ∷ rest → t.kind ≡ k.Name → next_kind ts ≡ Some k.Name
next-name ts rest t e is = next-mark k.Name ts rest (t, e, is)

main_end-complete : (h : MainHeading) (ts t4 t5 t6 t7 t8 t9 u1 rest : List Token) → FitsAs of.Main h.mods → h.name.text ≡ main_name → Mark k.LParen ts t4 → Optional (Sign k.Final) h.final_word t4 t5 → Named string_name t5 t6 → Mark k.LBracket t6 t7 → Mark k.RBracket t7 t8
    → Spelled k.Name h.param t8 t9 → Mark k.RParen t9 u1 → Throws h.throws u1 rest → AfterThrows rest → main_end h.mods h.name ts ≡ Found (heading.Main h) rest
unfolding main_end
main_end-complete h ts t4 t5 t6 t7 t8 t9 u1 rest fit same s4 s5 s6 s7 s8 s9 s10 s11 after =
    let (left, is4) = mark-complete k.LParen ts t4 s4 in
    let (string, is6) = is_name string_name t5 t6 s6 in
    let (open_at, is7) = mark-complete k.LBracket t6 t7 s7 in
    let (close_at, is8) = mark-complete k.RBracket t7 t8 s8 in
    let (right, is10) = mark-complete k.RParen t9 u1 s10 in
    let (t, e, is, text) = s6 in
    rw (fits-complete of.Main h.mods fit, same_bytes h.name.text main_name same, is4, perhaps-complete k.Final h.final_word t4 t5 s5 (sees-kind k.Final k.Name t5 (next-name t5 t6 t e is)), is6, is7, is8, word-complete k.Name t8 t9 h.param s9, is10, throws-complete h.throws u1 rest s11 after) refl

pub main-complete : (class : List ℕ) (h : MainHeading) (ts rest : List Token) → MainHead h ts rest → AfterThrows rest → member_heading class ts ≡ Found (heading.Main h) rest
unfolding member_heading void_member
main-complete class h ts rest (t1, (fit, s1), (t2, s2, (same, (t3, s3, (t4, s4, (t5, s5, (t6, s6, (t7, s7, (t8, s8, (t9, s9, (u1, s10, s11))))))))))) after =
    let (at, void) = mark-complete k.Void t1 t2 s2 in
    rw (all_modifiers-complete h.mods ts t1 s1 (after-mods k.Void t1 (next-mark k.Void t1 t2 s2) refl refl refl refl refl), sees-kind k.Void k.Void t1 (next-mark k.Void t1 t2 s2), void, word-complete k.Name t2 t3 h.name s3, main-array h.final_word t3 t4 t5 t6 t7 s4 s5 s6 s7)
    (main_end-complete h t3 t4 t5 t6 t7 t8 t9 u1 rest fit same s4 s5 s6 s7 s8 s9 s10 s11 after)

init-no_call : (value : Option Init) (ts rest : List Token) → (InitPart value ⨾ Mark k.Semicolon) ts rest → sees k.LParen ts ≡ false
init-no_call None ts rest (mid, none, s) = let P : List Token → Type 0 = λ l. sees k.LParen l ≡ false in subst P (sym none) (sees-kind k.LParen k.Semicolon mid (next-mark k.Semicolon mid rest s))
init-no_call (Some value) ts rest (mid, (t1, s, tail), end) = sees-kind k.LParen k.Assign ts (next-mark k.Assign ts t1 s)

pub field-complete : (class : List ℕ) (mods : List Mod) (y : Ty) (name : Lexeme) (value : Option Init) (ts t1 t2 t3 rest : List Token) → FitsAs of.Field mods → Each ModSpells mods ts t1 → TySpells y t1 t2 → Spelled k.Name name t2 t3 → (InitPart value ⨾ Mark k.Semicolon) t3 rest
    → member_heading class ts ≡ Found (heading.Field (field_of mods y name value)) rest
unfolding member_heading typed_member field_member
field-complete class mods y name value ts t1 t2 t3 rest fit s1 s2 s3 s4 =
    rw (
      all_modifiers-complete mods ts t1 s1 (ty-follows y t1 t2 s2),
      ty-no_void y t1 t2 s2,
      type-no_call y name t1 t2 t3 s2 s3,
      ty-complete y t1 t2 s2,
      word-complete k.Name t2 t3 name s3,
      init-no_call value t3 rest s4,
      fits-complete of.Field mods fit,
      field_end-complete mods y name value t3 rest s4,
    ) refl

-- ---- the public call

body-ends : (rest : List Token) → next_kind rest ≡ Some k.LBrace → AfterThrows rest
body-ends rest e = after-throws k.LBrace rest e refl refl refl

pub heading-complete : (class : List ℕ) (h : Heading) (ts rest : List Token) → HeadingSpells class h ts rest → BodyFollows h rest → member_heading class ts ≡ Found h rest
heading-complete class (heading.Field f) ts rest (none, (t1, (fit, s1), (t2, s2, (t3, s3, s4)))) follows =
    let same : field_of f.mods f.ty f.name f.init ≡ f = λ i. record { mods = f.mods; ty = f.ty; name = f.name; init = f.init; tokens = sym none i } in
    field-complete class f.mods f.ty f.name f.init ts t1 t2 t3 rest fit s1 s2 s3 s4 ∙ ap (λ g. Found (heading.Field g) rest) same
heading-complete class (heading.Method h) ts rest s follows = method-complete class h ts rest s (body-ends rest follows)
heading-complete class (heading.Ctor h) ts rest s follows = ctor-complete class h ts rest s (body-ends rest follows)
heading-complete class (heading.Main h) ts rest s follows = main-complete class h ts rest s (body-ends rest follows)

pub found_heading : (class : List ℕ) (old new : Tokens) (r : Result Heading SyntaxError) → Steps (member_heading class) old r new → IfOk r (λ h. HeadingSpells class h (ahead old) (ahead new))
found_heading class = steps-found (HeadingSpells class) (member_heading class) (heading-sound class)

pub only_heading : (class : List ℕ) (old new : Tokens) (r : Result Heading SyntaxError) → Steps (member_heading class) old r new
    → (h : Heading) (rest : List Token) → HeadingSpells class h (ahead old) rest → BodyFollows h rest → Gives r (ahead new) h rest
only_heading class old new r reads h rest s follows = gives (member_heading class) old new r reads h rest (heading-complete class h (ahead old) rest s follows)

pub one_heading : OneHeading
one_heading class one other ts rest other_rest s follows s1 follows1 =
    let same : Found one rest ≡ Found other other_rest = sym (heading-complete class one ts rest s follows) ∙ heading-complete class other ts other_rest s1 follows1 in
    (cc, cc)
