-- What reads as modifiers is spelled as them, and the reverse; and which words fit.
use Rattle.std.proofs.Common.{◌≡◌, ℕ, zero, suc, ◌<◌, ◌≤◌, Bool, true, false, cond, not, ◌&&◌, ◌==◌, nat_le, List, [], ◌∷◌, length, Option, Some, None, refl, ◌∙◌, sym, subst, arith}
use Rattle.std.proofs.lemmas.Bool.{leb-true, le-leb, eqb-true, eq-eqb}
use Rattle.java_phrases.specs.Tree.{Kind, Kind as k, Token, Mod, Mod as modifier, ModWord, ModWord as w}
use Rattle.java_phrases.specs.Common.{Each, Found, pure, fail, next_kind, same_kind, sees, sign}
use Rattle.java_phrases.proofs.Phrases.{and_then-some, pure-is, sign-sound, sign-complete, next-sign}
use Rattle.java_heads.specs.declared.declaration.Declaration.{Declaration}
use Rattle.java_heads.specs.Modifiers.{kind_of, same_word, may_have, must_have, is_access, words_that, most, least, FitsAs}
use Rattle.java_heads.specs.Annotation.{ElemWithin}
use Rattle.java_heads.specs.Spelling.{ModSpells, Mods}
use Rattle.java_heads.specs.Reading.{also, annotation, word_of_kind, next_word, starts_mod, mod_word_by, modifier_by, one_modifier, all_modifiers, word_fits, fits, modifiers}
use Rattle.java_heads.proofs.Lists.{Spends, spends-sign, sign-shorter, sees-kind, also-parts, all-sound, all-complete}
use Rattle.java_heads.proofs.AnnotationSound.{annotation-sound, spends-annot, spends-elem, annot-shorter}
use Rattle.java_heads.proofs.AnnotationComplete.{Suits, suits-kind, annotation-complete}

-- ---- words

record WordKind (word : ModWord) : Type 0 where
  back : word_of_kind (Some (kind_of word)) ≡ Some word
  no_at : same_kind (kind_of word) k.At ≡ false
  no_call : same_kind (kind_of word) k.LParen ≡ false
  no_dot : same_kind (kind_of word) k.Dot ≡ false
  no_end : same_kind (kind_of word) k.RParen ≡ false

word-kind : (word : ModWord) → WordKind word
word-kind w.Public = record { back = refl; no_at = refl; no_call = refl; no_dot = refl; no_end = refl }
word-kind _ = record { back = refl; no_at = refl; no_call = refl; no_dot = refl; no_end = refl }

-- ---- one modifier

word_by-sound : (found : Option ModWord) (ts rest : List Token) (m : Mod) → mod_word_by found ts ≡ Found m rest → ModSpells m ts rest
word_by-sound None ts rest m e = cc
word_by-sound (Some word) ts rest m e =
    let (at, mid, is, e1) = and_then-some (sign (kind_of word) ts) _ m rest e in
    pure-is (λ m r. ModSpells m ts r) (modifier.Word word at) m mid rest e1 (sign-sound (kind_of word) ts mid at is)

modifier_by-sound : (b : Bool) (ts rest : List Token) (m : Mod) → modifier_by b ts ≡ Found m rest → ModSpells m ts rest
modifier_by-sound true ts rest m e =
    let (a, mid, is, e1) = and_then-some (annotation ts) _ m rest e in
    pure-is (λ m r. ModSpells m ts r) (modifier.Annot a) m mid rest e1 (annotation-sound ts mid a is)
modifier_by-sound false ts rest m e = word_by-sound (next_word ts) ts rest m e

mod-sound : (ts rest : List Token) (m : Mod) → one_modifier ts ≡ Found m rest → ModSpells m ts rest
unfolding one_modifier
mod-sound ts rest m e = modifier_by-sound (sees k.At ts) ts rest m e

pub spends-mod : (m : Mod) → Spends (ModSpells m)
spends-mod (modifier.Annot a) = spends-annot a
spends-mod (modifier.Word word at) = spends-sign (kind_of word) at

mod-shorter : (m : Mod) (ts rest : List Token) → ModSpells m ts rest → length rest < length ts
mod-shorter (modifier.Annot a) ts rest (n, s) = annot-shorter (ElemWithin n 1) (spends-elem n 1) a.layer a.inner ts rest s
mod-shorter (modifier.Word word at) ts rest s = let less : length ts ≡ suc (length rest) = sign-shorter (kind_of word) ts rest at s in omega arith

pub also_modifier-shorter : (found y : List Mod) (ts rest : List Token) → also one_modifier found ts ≡ Found y rest → length rest < length ts
also_modifier-shorter found y ts rest e =
    let (m, is, s) = also-parts ModSpells one_modifier mod-sound found y ts rest e in
    mod-shorter m ts rest s

-- what a modifier begins with
record Leads (ts : List Token) : Type 0 where
  goes : starts_mod ts ≡ true
  suits : Suits ts
  inside : sees k.RParen ts ≡ false

leads-at : (ts : List Token) → next_kind ts ≡ Some k.At → Leads ts
unfolding starts_mod
leads-at ts e = record { goes = rw (sees-kind k.At k.At ts e) refl; suits = suits-kind k.At ts e refl refl; inside = sees-kind k.RParen k.At ts e }

leads-word : (word : ModWord) (ts : List Token) → next_kind ts ≡ Some (kind_of word) → Leads ts
unfolding starts_mod next_word
leads-word word ts e =
    let kinds = word-kind word in
    record {
      goes = rw (sees-kind k.At (kind_of word) ts e, kinds.no_at, e, kinds.back) refl;
      suits = suits-kind (kind_of word) ts e kinds.no_call kinds.no_dot;
      inside = sees-kind k.RParen (kind_of word) ts e ∙ kinds.no_end;
    }

mod-leads : (m : Mod) (ts rest : List Token) → ModSpells m ts rest → Leads ts
mod-leads (modifier.Annot a) ts rest (n, (mid, s, tail)) = leads-at ts (next-sign k.At a.layer.at ts mid s)
mod-leads (modifier.Word word at) ts rest s = leads-word word ts (next-sign (kind_of word) at ts rest s)

mod-complete : (m : Mod) (ts rest : List Token) → ModSpells m ts rest → Suits rest → one_modifier ts ≡ Found m rest
unfolding one_modifier next_word
mod-complete (modifier.Annot a) ts rest (n, (mid, s, tail)) suits =
    rw (sees-kind k.At k.At ts (next-sign k.At a.layer.at ts mid s), annotation-complete a ts rest (n, (mid, s, tail)) suits) refl
mod-complete (modifier.Word word at) ts rest s suits =
    let kinds = word-kind word in
    let e = next-sign (kind_of word) at ts rest s in
    rw (sees-kind k.At (kind_of word) ts e, kinds.no_at, e, kinds.back, sign-complete (kind_of word) ts rest at s) refl

-- ---- all of them

-- what may follow modifiers
pub record AfterMods (ts : List Token) : Type 0 where
  pub suits : Suits ts
  pub stops : starts_mod ts ≡ false
  pub inside : sees k.RParen ts ≡ false

pub after-mods : (kind : Kind) (ts : List Token) → next_kind ts ≡ Some kind → word_of_kind (Some kind) ≡ None → same_kind kind k.At ≡ false → same_kind kind k.LParen ≡ false → same_kind kind k.Dot ≡ false
    → same_kind kind k.RParen ≡ false → AfterMods ts
unfolding starts_mod next_word
after-mods kind ts e a b d f g = record { suits = suits-kind kind ts e d f; stops = rw (sees-kind k.At kind ts e, b, e, a) refl; inside = sees-kind k.RParen kind ts e ∙ g }

pub all_modifiers-sound : (ts rest : List Token) (mods : List Mod) → all_modifiers ts ≡ Found mods rest → Each ModSpells mods ts rest
unfolding all_modifiers
all_modifiers-sound ts rest mods e = (all-sound ModSpells one_modifier mod-sound starts_mod ts rest mods e).0

pub all_modifiers-complete : (mods : List Mod) (ts rest : List Token) → Each ModSpells mods ts rest → AfterMods rest → all_modifiers ts ≡ Found mods rest
unfolding all_modifiers
all_modifiers-complete mods ts rest s after =
    all-complete ModSpells one_modifier Suits mod-complete starts_mod mod-shorter (λ m ts rest s. (mod-leads m ts rest s).goes) (λ m ts rest s. (mod-leads m ts rest s).suits) mods ts rest s after.suits after.stops

pub mods-inside : (mods : List Mod) (ts rest : List Token) → Each ModSpells mods ts rest → sees k.RParen rest ≡ false → sees k.RParen ts ≡ false
mods-inside [] ts rest s off = let P : List Token → Type 0 = λ l. sees k.RParen l ≡ false in subst P (sym s) off
mods-inside (m ∷ mods) ts rest (mid, s, each) off = (mod-leads m ts mid s).inside

-- ---- which words fit

times-sound : (must may : Bool) (n : ℕ) (none one : Bool) → (n == 0) ≡ none → (n == 1) ≡ one → cond none (not must) (one && may) ≡ true → (cond must 1 0 ≤ n) × (n ≤ cond may 1 0)
times-sound true may n true one a b e = cc
times-sound false may n true one a b e = let zeros : n ≡ 0 = eqb-true n 0 a in (omega arith, omega arith)
times-sound true true n false true a b e = let is : n ≡ 1 = eqb-true n 1 b in (omega arith, omega arith)
times-sound false true n false true a b e = let is : n ≡ 1 = eqb-true n 1 b in (omega arith, omega arith)
times-sound must false n false true a b e = cc
times-sound must may n false false a b e = cc

one-is : (n : ℕ) → n ≡ 1 → (n == 1) ≡ true
one-is n e = eq-eqb n 1 e

zero-is : (n : ℕ) → n ≡ 0 → (n == 0) ≡ true
zero-is n e = eq-eqb n 0 e

none-fit : (n : ℕ) (must may : Bool) → n ≡ 0 → must ≡ false → cond (n == 0) (not must) ((n == 1) && may) ≡ true
none-fit n must may is off = rw (zero-is n is, off) refl

one-fit : (n : ℕ) (must may zeros : Bool) → (n == 0) ≡ zeros → n ≡ 1 → may ≡ true → cond (n == 0) (not must) ((n == 1) && may) ≡ true
one-fit n must may true z is on = let no : n ≡ 0 = eqb-true n 0 z in absurd (omega arith)
one-fit n must may false z is on = rw (z, one-is n is, on) refl

times-complete : (must may : Bool) (n : ℕ) → cond must 1 0 ≤ n → n ≤ cond may 1 0 → cond (n == 0) (not must) ((n == 1) && may) ≡ true
times-complete true false n low high = absurd (omega arith)
times-complete true true n low high = one-fit n true true (n == 0) refl (omega arith) refl
times-complete false false n low high = none-fit n false false (omega arith) refl
times-complete false true zero low high = none-fit zero false true refl refl
times-complete false true (suc n) low high = one-fit (suc n) false true (suc n == 0) refl (omega arith) refl

both : (a b : Bool) → (a && b) ≡ true → (a ≡ true) × (b ≡ true)
both true b e = (refl, e)
both false b e = cc

record AllFit (declaration : Declaration) (mods : List Mod) : Type 0 where
  each : (word : ModWord) → word_fits declaration mods word ≡ true
  access : nat_le (words_that is_access mods) 1 ≡ true

each-of : (declaration : Declaration) (mods : List Mod) → word_fits declaration mods w.Public ≡ true → word_fits declaration mods w.Protected ≡ true → word_fits declaration mods w.Private ≡ true → word_fits declaration mods w.Static ≡ true
    → word_fits declaration mods w.Final ≡ true → word_fits declaration mods w.Abstract ≡ true → word_fits declaration mods w.Synchronized ≡ true → (word : ModWord) → word_fits declaration mods word ≡ true
each-of declaration mods a b d f g h i w.Public = a
each-of declaration mods a b d f g h i w.Protected = b
each-of declaration mods a b d f g h i w.Private = d
each-of declaration mods a b d f g h i w.Static = f
each-of declaration mods a b d f g h i w.Final = g
each-of declaration mods a b d f g h i w.Abstract = h
each-of declaration mods a b d f g h i w.Synchronized = i

all-fit : (declaration : Declaration) (mods : List Mod) → fits declaration mods ≡ true → AllFit declaration mods
unfolding fits
all-fit declaration mods e =
    let (a, e1) = both (word_fits declaration mods w.Public) _ e in
    let (b, e2) = both (word_fits declaration mods w.Protected) _ e1 in
    let (d, e3) = both (word_fits declaration mods w.Private) _ e2 in
    let (f, e4) = both (word_fits declaration mods w.Static) _ e3 in
    let (g, e5) = both (word_fits declaration mods w.Final) _ e4 in
    let (h, e6) = both (word_fits declaration mods w.Abstract) _ e5 in
    let (i, e7) = both (word_fits declaration mods w.Synchronized) _ e6 in
    record { each = each-of declaration mods a b d f g h i; access = e7 }

word-range : (declaration : Declaration) (mods : List Mod) (word : ModWord) → word_fits declaration mods word ≡ true → (least declaration word ≤ words_that (same_word word) mods) × (words_that (same_word word) mods ≤ most declaration word)
unfolding word_fits
word-range declaration mods word e = times-sound (must_have declaration word) (may_have declaration word) (words_that (same_word word) mods) (words_that (same_word word) mods == 0) (words_that (same_word word) mods == 1) refl refl e

pub fits-sound : (declaration : Declaration) (mods : List Mod) → fits declaration mods ≡ true → FitsAs declaration mods
fits-sound declaration mods e =
    let all = all-fit declaration mods e in
    record {
      at_least = λ word. (word-range declaration mods word (all.each word)).0;
      at_most = λ word. (word-range declaration mods word (all.each word)).1;
      access = leb-true (words_that is_access mods) 1 all.access;
    }

word-fit : (declaration : Declaration) (mods : List Mod) → FitsAs declaration mods → (word : ModWord) → word_fits declaration mods word ≡ true
unfolding word_fits
word-fit declaration mods fit word = times-complete (must_have declaration word) (may_have declaration word) (words_that (same_word word) mods) (fit.at_least word) (fit.at_most word)

pub fits-complete : (declaration : Declaration) (mods : List Mod) → FitsAs declaration mods → fits declaration mods ≡ true
unfolding fits
fits-complete declaration mods fit =
    let f = word-fit declaration mods fit in
    rw (f w.Public, f w.Protected, f w.Private, f w.Static, f w.Final, f w.Abstract, f w.Synchronized, le-leb (words_that is_access mods) 1 fit.access) refl

fit_by : (declaration : Declaration) (mods y : List Mod) (ts mid rest : List Token) (b : Bool) → Each ModSpells mods ts mid → fits declaration mods ≡ b → cond b (pure mods) fail mid ≡ Found y rest → Mods declaration y ts rest
fit_by declaration mods y ts mid rest true s is e = pure-is (λ y r. Mods declaration y ts r) mods y mid rest e (fits-sound declaration mods is, s)
fit_by declaration mods y ts mid rest false s is e = cc

pub modifiers-sound : (declaration : Declaration) (ts rest : List Token) (y : List Mod) → modifiers declaration ts ≡ Found y rest → Mods declaration y ts rest
unfolding modifiers
modifiers-sound declaration ts rest y e =
    let (mods, mid, is, e1) = and_then-some (all_modifiers ts) _ y rest e in
    fit_by declaration mods y ts mid rest (fits declaration mods) (all_modifiers-sound ts mid mods is) refl e1

pub modifiers-complete : (declaration : Declaration) (y : List Mod) (ts rest : List Token) → Mods declaration y ts rest → AfterMods rest → modifiers declaration ts ≡ Found y rest
unfolding modifiers
modifiers-complete declaration y ts rest (fit, s) after = rw (all_modifiers-complete y ts rest s after, fits-complete declaration y fit) refl
