-- A member is spelled where its heading is read and its body completes it, and the reverse.
use Rattle.std.proofs.Common.{◌≡◌, ◌≢◌, ℕ, zero, suc, List, [], ◌++◌, Some, Result, Ok, Err, IfOk, refl, ap, ◌∙◌, sym, subst}
use Rattle.std.proofs.lemmas.List.{append_cancel_right}
use Rattle.java_phrases.specs.Tree.{Kind as k, Token, Block, out-Block, MemberTree, MemberTree as member}
use Rattle.java_phrases.specs.Common.{ahead, from_start, next_kind, Gives, Takes, Finds}
use Rattle.java_phrases.specs.declared.error.SyntaxError.{SyntaxError, SyntaxError as error}
use Rattle.java_phrases.specs.declared.tokens.Tokens.{Tokens}
use Rattle.java_phrases.proofs.Phrases.{next-sign}
use Rattle.java_heads.specs.Answers.{field_with}
use Rattle.java_heads.proofs.Parts.{ahead-same}
use Rattle.java_heads.specs.Headings.{HeadingSpells, BodyFollows, OneHeading}
use Rattle.java_statements.specs.Spelling.{BlockSpells}
use Rattle.java_heads.specs.declared.heading.Heading.{Heading}
use Rattle.java_heads.specs.declared.heading.Heading.TheVariants as heading
use Rattle.java_heads.specs.declared.heading.MethodHeading.{MethodHeading}
use Rattle.java_heads.specs.declared.heading.CtorHeading.{CtorHeading}
use Rattle.java_heads.specs.declared.heading.MainHeading.{MainHeading}
use Rattle.java_members.specs.Spelling.{MemberParts, tokens_of, MemberSpells}
use Rattle.java_members.specs.Parts.{Completes, Whole, member_with, method_of, ctor_of, main_of}

-- ---- bodies

block-first : (limit : ℕ) (b : Block) (ts rest : List Token) → BlockSpells limit b ts rest → next_kind ts ≡ Some k.LBrace
unfolding BlockSpells
block-first zero b ts rest s = absurd s
block-first (suc room) b ts rest (mid, s, tail) = next-sign k.LBrace (out-Block b).opening ts mid s

body-follows : (h : Heading) (m : MemberTree) (ts rest : List Token) → Completes h m ts rest → BodyFollows h ts
body-follows (heading.Field f) m ts rest s = tt
body-follows (heading.Method h) m ts rest (b, is, body) = block-first 64 b ts rest body
body-follows (heading.Ctor h) m ts rest (b, is, body) = block-first 64 b ts rest body
body-follows (heading.Main h) m ts rest (b, is, body) = block-first 64 b ts rest body

-- ---- what was read is spelled

spelled-by : (class : List ℕ) (h : Heading) (m : MemberTree) (ts mid rest : List Token) → HeadingSpells class h ts mid → Completes h m mid rest → MemberParts class m ts rest
spelled-by class (heading.Field f) m ts mid rest (bare, s) (is, none) =
    let P : MemberTree → Type 0 = λ x. MemberParts class x ts rest in
    let Q : List Token → Type 0 = λ l. MemberParts class (member.Field f) ts l in
    subst P (sym is) (subst Q none s)
spelled-by class (heading.Method h) m ts mid rest (t1, s1, (t2, s2, (t3, s3, (t4, s4, s5)))) (b, is, body) =
    let P : MemberTree → Type 0 = λ x. MemberParts class x ts rest in
    subst P (sym is) (t1, s1, (t2, s2, (t3, s3, (t4, s4, (mid, s5, body)))))
spelled-by class (heading.Ctor h) m ts mid rest (t1, s1, (same, (t2, s2, (t3, s3, s4)))) (b, is, body) =
    let P : MemberTree → Type 0 = λ x. MemberParts class x ts rest in
    subst P (sym is) (t1, s1, (same, (t2, s2, (t3, s3, (mid, s4, body)))))
spelled-by class (heading.Main h) m ts mid rest (t1, s1, (t2, s2, (same, (t3, s3, (t4, s4, (t5, s5, (t6, s6, (t7, s7, (t8, s8, (t9, s9, (u1, s10, s11))))))))))) (b, is, body) =
    let P : MemberTree → Type 0 = λ x. MemberParts class x ts rest in
    subst P (sym is) (t1, s1, (t2, s2, (same, (t3, s3, (t4, s4, (t5, s5, (t6, s6, (t7, s7, (t8, s8, (t9, s9, (u1, s10, (mid, s11, body))))))))))))

whole-sound : (class : List ℕ) (m : MemberTree) (ts rest : List Token) → Whole class m ts rest → MemberParts class m ts rest
whole-sound class m ts rest (h, mid, e, s) = spelled-by class h m ts mid rest e s

-- ---- what is spelled is read

whole-complete : (class : List ℕ) (m : MemberTree) (ts rest : List Token) → MemberParts class m ts rest → Whole class (member_with [] m) ts rest
whole-complete class (member.Field f) ts rest s = (heading.Field (field_with [] f), rest, (refl, s), (refl, refl))
whole-complete class (member.Method m) ts rest (t1, s1, (t2, s2, (t3, s3, (t4, s4, (mid, s5, body))))) =
    let h : MethodHeading = record { mods = m.mods; result = m.result; name = m.name; params = m.params; throws = m.throws } in
    (heading.Method h, mid, (t1, s1, (t2, s2, (t3, s3, (t4, s4, s5)))), (m.body, refl, body))
whole-complete class (member.Ctor c) ts rest (t1, s1, (same, (t2, s2, (t3, s3, (mid, s4, body))))) =
    let h : CtorHeading = record { mods = c.mods; name = c.name; params = c.params; throws = c.throws } in
    (heading.Ctor h, mid, (t1, s1, (same, (t2, s2, (t3, s3, s4)))), (c.body, refl, body))
whole-complete class (member.Main m) ts rest (t1, s1, (t2, s2, (same, (t3, s3, (t4, s4, (t5, s5, (t6, s6, (t7, s7, (t8, s8, (t9, s9, (u1, s10, (mid, s11, body)))))))))))) =
    let h : MainHeading = record { mods = m.mods; name = m.name; final_word = m.final_word; param = m.param; throws = m.throws } in
    (heading.Main h, mid, (t1, s1, (t2, s2, (same, (t3, s3, (t4, s4, (t5, s5, (t6, s6, (t7, s7, (t8, s8, (t9, s9, (u1, s10, s11))))))))))), (m.body, refl, body))
whole-complete class (member.Sig s) ts rest none = absurd none

-- ---- a heading is read, and then what completes it

pub whole-finds : (class : List ℕ) (ts mid after : List Token) (h : Heading) (r : Result MemberTree SyntaxError) → HeadingSpells class h ts mid
    → ((g : Heading) (rest : List Token) → HeadingSpells class g ts rest → BodyFollows g rest → (h ≡ g) × (mid ≡ rest)) → Finds (Completes h) mid r after → Finds (Whole class) ts r after
whole-finds class ts mid after h (Ok m) s one (done, alone) = ((h, mid, s, done), λ y other (g, left, s1, ends). only y other g left s1 ends)
  where
    only : (y : MemberTree) (other : List Token) (g : Heading) (left : List Token) → HeadingSpells class g ts left → Completes g y left other → (m ≡ y) × (after ≡ other)
    only y other g left s1 ends =
        let (same, there) = one g left s1 (body-follows g y left other ends) in
        let P : Heading → Type 0 = λ x. Completes x y mid other in
        let Q : List Token → Type 0 = λ l. Completes g y l other in
        alone y other (subst P (sym same) (subst Q (sym there) ends))
whole-finds class ts mid after h (Err e) s one lost = λ other y rest (g, left, s1, ends). fails other y rest g left s1 ends
  where
    fails : e ≢ error.OutOfMemory → (y : MemberTree) (rest : List Token) (g : Heading) (left : List Token) → HeadingSpells class g ts left → Completes g y left rest → ⊥
    fails other y rest g left s1 ends =
        let (same, there) = one g left s1 (body-follows g y left rest ends) in
        let P : Heading → Type 0 = λ x. Completes x y mid rest in
        let Q : List Token → Type 0 = λ l. Completes g y l rest in
        lost other y rest (subst P (sym same) (subst Q (sym there) ends))

pub whole-lost : (class : List ℕ) (ts : List Token) (e : SyntaxError) → ((g : Heading) (rest : List Token) → HeadingSpells class g ts rest → BodyFollows g rest → e ≡ error.OutOfMemory)
    → e ≢ error.OutOfMemory → (y : MemberTree) (other : List Token) → Whole class y ts other → ⊥
whole-lost class ts e only differs y other (g, left, s, ends) = differs (only g left s (body-follows g y left other ends))

-- ---- tokens in the tree

parts-with : (class : List ℕ) (tokens : List Token) (m : MemberTree) (ts rest : List Token) → MemberParts class m ts rest → MemberParts class (member_with tokens m) ts rest
parts-with class tokens (member.Field f) ts rest s = s
parts-with class tokens _ ts rest s = s

tokens-with : (tokens : List Token) (m : MemberTree) → tokens_of (member_with tokens m) ≡ tokens
tokens-with tokens (member.Field f) = refl
tokens-with tokens _ = refl

own-tokens : (m : MemberTree) → member_with (tokens_of m) (member_with [] m) ≡ m
own-tokens (member.Field f) = refl
own-tokens _ = refl

-- ---- through the cursor

other-member : (class : List ℕ) (before old end new : List Token) (bare : MemberTree) → before ≡ old → new ≡ end → ((y : MemberTree) (other : List Token) → Whole class y before other → (bare ≡ y) × (end ≡ other))
    → (y : MemberTree) (other : List Token) → Whole class y old other → (bare ≡ y) × (new ≡ other)
other-member class before old end new bare a b one y other s =
    let P : List Token → Type 0 = λ l. Whole class y l other in
    let (same, ends) = one y other (subst P (sym a) s) in
    (same, b ∙ ends)

pub takes-member : (class : List ℕ) (old before end new : Tokens) (bare x : MemberTree) (tokens : List Token) → before.stack ≡ old.stack → before.taken ≡ [] → Whole class bare (ahead before) (ahead end)
    → ((y : MemberTree) (other : List Token) → Whole class y (ahead before) other → (bare ≡ y) × (ahead end ≡ other)) → from_start end ≡ from_start before → new.stack ≡ end.stack → tokens ≡ end.taken → x ≡ member_with tokens bare
    → Takes (Whole class) member_with (ahead old) (Ok x) (ahead new)
takes-member class old before end new bare x tokens same none s one moved after kept is =
    let a : ahead before ≡ ahead old = ahead-same before old same in
    let b : ahead new ≡ ahead end = ahead-same new end after in
    let start : from_start before ≡ ahead before = ap (λ l. l ++ ahead before) none in
    let P : List Token → Type 0 = λ l. Whole class bare l (ahead new) in
    let Q : List Token → Type 0 = λ l. Whole class bare (ahead before) l in
    (bare, tokens, subst P a (subst Q (sym b) s), other-member class (ahead before) (ahead old) (ahead end) (ahead new) bare a b one, is, ap (λ l. l ++ ahead new) kept ∙ ap (λ l. end.taken ++ l) b ∙ moved ∙ start ∙ a)

-- ---- the public call

pub found_member : (class : List ℕ) (ts rest : List Token) (r : Result MemberTree SyntaxError) → Takes (Whole class) member_with ts r rest → IfOk r (λ m. MemberSpells class m ts rest)
found_member class ts rest (Ok x) (bare, tokens, s, one, is, kept) =
    let P : MemberTree → Type 0 = λ m. MemberSpells class m ts rest in
    subst P (sym is) (parts-with class tokens bare ts rest (whole-sound class bare ts rest s), sym kept ∙ ap (λ l. l ++ rest) (sym (tokens-with tokens bare)))
found_member class ts rest (Err e) reads = tt

pub only_member : (class : List ℕ) (ts after : List Token) (r : Result MemberTree SyntaxError) → Takes (Whole class) member_with ts r after → (m : MemberTree) (rest : List Token) → MemberSpells class m ts rest → Gives r after m rest
only_member class ts after (Ok x) (bare, tokens, s, one, is, kept) m rest (s1, of_m) =
    let (same, ends) = one (member_with [] m) rest (whole-complete class m ts rest s1) in
    let taken : tokens ≡ tokens_of m = append_cancel_right tokens (tokens_of m) rest (ap (λ l. tokens ++ l) (sym ends) ∙ kept ∙ of_m) in
    (is ∙ ap (member_with tokens) same ∙ ap (λ l. member_with l (member_with [] m)) taken ∙ own-tokens m, ends)
only_member class ts after (Err error.NotSpelled) reads m rest (s1, of_m) =
    let differs : error.NotSpelled ≢ error.OutOfMemory = λ e. cc in
    absurd (reads differs (member_with [] m) rest (whole-complete class m ts rest s1))
only_member class ts after (Err error.OutOfMemory) reads m rest s = refl

-- ---- tokens begin with one member at most

completes-one : (blocks : (limit : ℕ) (ts rest other_rest : List Token) (one other : Block) → BlockSpells limit one ts rest → BlockSpells limit other ts other_rest → (one ≡ other) × (rest ≡ other_rest))
    → (h : Heading) (one other : MemberTree) (ts rest other_rest : List Token) → Completes h one ts rest → Completes h other ts other_rest → (one ≡ other) × (rest ≡ other_rest)
completes-one blocks (heading.Field f) one other ts rest other_rest (is, s) (was, s1) = (is ∙ sym was, sym s ∙ s1)
completes-one blocks (heading.Method h) one other ts rest other_rest (b, is, s) (c, was, s1) = let (same, ends) = blocks 64 ts rest other_rest b c s s1 in (is ∙ ap (λ x. member.Method (method_of h x)) same ∙ sym was, ends)
completes-one blocks (heading.Ctor h) one other ts rest other_rest (b, is, s) (c, was, s1) = let (same, ends) = blocks 64 ts rest other_rest b c s s1 in (is ∙ ap (λ x. member.Ctor (ctor_of h x)) same ∙ sym was, ends)
completes-one blocks (heading.Main h) one other ts rest other_rest (b, is, s) (c, was, s1) = let (same, ends) = blocks 64 ts rest other_rest b c s s1 in (is ∙ ap (λ x. member.Main (main_of h x)) same ∙ sym was, ends)

whole-one : (headings : OneHeading) (blocks : (limit : ℕ) (ts rest other_rest : List Token) (one other : Block) → BlockSpells limit one ts rest → BlockSpells limit other ts other_rest → (one ≡ other) × (rest ≡ other_rest))
    → (class : List ℕ) (one other : MemberTree) (ts rest other_rest : List Token) → Whole class one ts rest → Whole class other ts other_rest → (one ≡ other) × (rest ≡ other_rest)
whole-one headings blocks class one other ts rest other_rest (h, mid, e, s) (g, mid1, e1, s1) =
    let (same, there) = headings class h g ts mid mid1 e (body-follows h one mid rest s) e1 (body-follows g other mid1 other_rest s1) in
    let P : Heading → Type 0 = λ x. Completes x other mid other_rest in
    let Q : List Token → Type 0 = λ l. Completes g other l other_rest in
    completes-one blocks h one other mid rest other_rest s (subst P (sym same) (subst Q (sym there) s1))

pub one_member : (headings : OneHeading) (blocks : (limit : ℕ) (ts rest other_rest : List Token) (one other : Block) → BlockSpells limit one ts rest → BlockSpells limit other ts other_rest → (one ≡ other) × (rest ≡ other_rest))
    → (class : List ℕ) (one other : MemberTree) (ts rest other_rest : List Token) → MemberSpells class one ts rest → MemberSpells class other ts other_rest → (one ≡ other) × (rest ≡ other_rest)
one_member headings blocks class one other ts rest other_rest (s, of_one) (s1, of_other) =
    let (same, ends) = whole-one headings blocks class (member_with [] one) (member_with [] other) ts rest other_rest (whole-complete class one ts rest s) (whole-complete class other ts other_rest s1) in
    let taken : tokens_of one ≡ tokens_of other = append_cancel_right (tokens_of one) (tokens_of other) other_rest (ap (λ l. tokens_of one ++ l) (sym ends) ∙ sym of_one ∙ of_other) in
    (sym (own-tokens one) ∙ ap (λ l. member_with l (member_with [] one)) taken ∙ ap (member_with (tokens_of other)) same ∙ own-tokens other, ends)
