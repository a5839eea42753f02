-- Where the tokens stand at which reading may end.
use Rattle.std.proofs.Common.{◌≡◌, ℕ, ◌≤◌, Bool, true, false, cond, List, [], ◌∷◌, ◌++◌, length, Some, refl, ap, sym, subst, arith, nat_le}
use Rattle.std.specs.List.{find}
use Rattle.std.proofs.lemmas.List.{append-nil}
use Rattle.std.proofs.lemmas.Bool.{leb-true}
use Rattle.java_phrases.specs.Tree.{Kind as k, Token, MemberTree}
use Rattle.java_phrases.specs.Common.{next_start}
use Rattle.java_lexer.specs.Lexing.{Lexes, Follow}
use Rattle.java_phrases.proofs.Phrases.{spent-nothing, spent-then}
use Rattle.java_heads.proofs.Lists.{Spends, spends-mark}
use Rattle.java_reader.specs.Parts.{Part, PackageLine, ImportLine, Opening, Inner, Closing, Stage, Start, Lines, Types, Body, MemberAt, PartSpells, PartsSpell, stage_after}
use Rattle.java_reader.specs.Reads.{IsGrammarAt, place_of}
use Rattle.java_reader.specs.Reach.{StandsIn, first_behind}
use Rattle.java_reader.proofs.Shorter.{spends-package, spends-import}
use Rattle.java_reader.proofs.Order.{kept, follow-behind, follow-within}
use Rattle.java_members.specs.Spelling.{tokens_of}

-- ---- the place of a fault is within the text

spends-inner : (stage : Stage) (m : MemberTree) → Spends (MemberAt stage m)
spends-inner Start m ts rest none = absurd none
spends-inner Lines m ts rest none = absurd none
spends-inner Types m ts rest none = absurd none
spends-inner (Body kind name) m ts rest s = (tokens_of m, kept kind name m ts rest s)

spends-part : (stage : Stage) (part : Part) → Spends (PartSpells stage part)
spends-part stage (PackageLine p) ts rest (ok, s) = spends-package p ts rest s
spends-part stage (ImportLine i) ts rest (ok, s) = spends-import i ts rest s
spends-part stage (Opening h) ts rest (ok, (mid, (s, is), brace)) = spent-then ts mid rest (h.tokens, is) (spends-mark k.LBrace mid rest brace)
spends-part stage (Inner m) ts rest s = spends-inner stage m ts rest s
spends-part stage Closing ts rest (ok, s) = spends-mark k.RBrace ts rest s

spends-parts : (parts : List Part) (stage : Stage) → Spends (PartsSpell stage parts)
spends-parts [] stage ts rest e = spent-nothing ts rest e
spends-parts (part ∷ parts) stage ts rest (mid, s, s1) = spent-then ts mid rest (spends-part stage part ts mid s) (spends-parts parts (stage_after stage part) mid rest s1)

start-within : (text : List ℕ) (left : List Token) (end : ℕ) → Follow text 0 left end → place_of left end ≤ end
unfolding next_start
start-within text [] end f = omega arith
start-within text (t ∷ left) end (begins, some, bytes, rest) = let later : t.span.end ≤ end = follow-within text t.span.end left end rest in omega arith

pub fault-within : ((text : List ℕ) (tokens : List Token) → Lexes text tokens → Follow text 0 tokens (length text)) → (text : List ℕ) (at : ℕ) → IsGrammarAt text at → at ≤ length text
fault-within follow text at g =
    let left = g.fault.left in
    let begun = g.fault.begun in
    let behind : Follow text 0 left (length text) = follow-behind text 0 g.tokens left (length text) (spends-parts begun.parts Start g.tokens left begun.begins) (follow text g.tokens g.lexed) in
    let P : ℕ → Type 0 = λ n. n ≤ length text in
    subst P (sym g.fault.place) (start-within text left (length text) behind)

-- ---- the first token from a place on

record FoundIn (p : Token → Bool) (ts : List Token) (t : Token) : Type 0 where
  before : List Token
  left : List Token
  split : ts ≡ before ++ t ∷ left
  passes : p t ≡ true

found-later : (p : Token → Bool) (u : Token) (ts : List Token) (t : Token) → FoundIn p ts t → FoundIn p (u ∷ ts) t
found-later p u ts t f = record { before = u ∷ f.before; left = f.left; split = ap (λ l. u ∷ l) f.split; passes = f.passes }

found-in_by : (p : Token → Bool) (u : Token) (ts : List Token) (t : Token) (b : Bool) → p u ≡ b → cond b (Some u) (find p ts) ≡ Some t → (find p ts ≡ Some t → FoundIn p ts t) → FoundIn p (u ∷ ts) t
found-in_by p u ts t true is e later =
    let same : u ≡ t = cc in
    let P : Token → Type 0 = λ x. FoundIn p (u ∷ ts) x in
    subst P same (record { before = []; left = ts; split = refl; passes = is })
found-in_by p u ts t false is e later = found-later p u ts t (later e)

found-in : (p : Token → Bool) (ts : List Token) (t : Token) → find p ts ≡ Some t → FoundIn p ts t
found-in p [] t e = cc
found-in p (u ∷ ts) t e = found-in_by p u ts t (p u) refl e (found-in p ts t)

pub stands-at_token : (place : ℕ) (ts : List Token) (end : ℕ) (t : Token) → first_behind place ts ≡ Some t → StandsIn ts end t.span.start × (place ≤ t.span.start)
unfolding next_start
stands-at_token place ts end t e = let f = found-in (λ (u : Token). nat_le place u.span.start) ts t e in ((f.before, (t ∷ f.left), f.split, refl), leb-true place t.span.start f.passes)

pub stands-at_end : (ts : List Token) (end : ℕ) → StandsIn ts end end
unfolding next_start
stands-at_end ts end = (ts, [], sym (append-nil ts), refl)
