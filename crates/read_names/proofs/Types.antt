-- The names of the types of a text.
use Rattle.std.proofs.Common.{ℕ, zero, suc, ◌+◌, ◌<◌, ◌≤◌, ◌^◌, List, [], ◌∷◌, length, get_or, Option, Some, None, subst, arith}
use Rattle.std.specs.List.{AllByRecursion, Contains}
use Rattle.java_phrases.specs.Tree.{Kind as k, Token, Package, ClassTree, FileTree}
use Rattle.java_phrases.specs.Common.{Each}
use Rattle.java_phrases.proofs.Phrases.{spent-nothing, spent-then, not_longer}
use Rattle.java_lexer.specs.Lexing.{AreSpelled, Follow}
use Rattle.java_heads.specs.Spelling.{ImportSpells, declared_as, type_word}
use Rattle.java_heads.proofs.Lists.{Spends, spends-mark, spends-each}
use Rattle.java_reader.specs.Spelling.{TypeSpells, PackagePart, Spells}
use Rattle.java_reader.specs.Reads.{Reads}
use Rattle.java_reader.proofs.Shorter.{spends-package, spends-import}
use Rattle.class_faces.specs.Keys.{HasNames}
use Rattle.read_names.proofs.Bytes.{plain_name}
use Rattle.read_names.proofs.Members.{after, spends-mods, is_name, members_named, members_few, spends-members}

spends-type : (c : ClassTree) → Spends (TypeSpells c)
spends-type c ts rest (t1, (t0, (p, is), brace), (t2, members, end)) =
    spent-then ts t0 rest (c.tokens, is)
    (spent-then t0 t1 rest (spends-mark k.LBrace t0 t1 brace)
    (spent-then t1 t2 rest (spends-members c.kind c.name.text c.members t1 t2 members) (spends-mark k.RBrace t2 rest end)))

spends-line : (line : Option Package) → Spends (PackagePart line)
spends-line None ts rest e = spent-nothing ts rest e
spends-line (Some p) ts rest s = spends-package p ts rest s

type_named : (c : ClassTree) (ts rest : List Token) → TypeSpells c ts rest → AreSpelled ts → length ts < 2 ^ 64 → HasNames c
type_named c ts rest (t1, (t0, ((a, mods, (b, sort, (free, (d, word, more)))), is), brace), (t2, members, end)) s low =
    let header : length t0 ≤ length ts = not_longer ts t0 (c.tokens, is) in
    let opened : length t1 ≤ length t0 = not_longer t0 t1 (spends-mark k.LBrace t0 t1 brace) in
    let few : length c.members + length t2 ≤ length t1 = members_few c.kind c.name.text c.members t1 t2 members in
    let own : AreSpelled b = after a b (spends-mark (type_word c.kind) a b sort) (after ts a (spends-mods (declared_as c.kind) c.mods ts a mods) s) in
    let inner : AreSpelled t1 = after t0 t1 (spends-mark k.LBrace t0 t1 brace) (after ts t0 (c.tokens, is) s) in
    record {
      own = plain_name c.name.text (is_name c.name b d word own);
      members = members_named c.kind c.name.text c.members t1 t2 members inner;
      few = omega arith;
    }

types_named : (cs : List ClassTree) (ts rest : List Token) → Each TypeSpells cs ts rest → AreSpelled ts → length ts < 2 ^ 64 → AllByRecursion HasNames cs
types_named [] ts rest e s low = tt
types_named (c ∷ cs) ts rest (mid, p, each) s low =
    let fewer : length mid ≤ length ts = not_longer ts mid (spends-type c ts mid p) in
    (type_named c ts mid p s low, types_named cs mid rest each (after ts mid (spends-type c ts mid p) s) (omega arith))

-- no token is empty
tokens_few : (text : List ℕ) (from : ℕ) (ts : List Token) (end : ℕ) → Follow text from ts end → length ts + from ≤ end
tokens_few text from [] end f = omega arith
tokens_few text from (t ∷ ts) end (begins, some, bytes, more) =
    let others : length ts + t.span.end ≤ end = tokens_few text t.span.end ts end more in
    omega arith

each_of : {X : Type 0} (P : X → Type 0) (xs : List X) → AllByRecursion P xs → (i : ℕ) (d : X) → i < length xs → P (get_or xs i d)
each_of P [] all i d low = absurd (omega arith)
each_of P (x ∷ xs) all zero d low = all.0
each_of P (x ∷ xs) all (suc i) d low = each_of P xs all.1 i d (omega arith)

pub file_named : (text : List ℕ) (file : FileTree) (c : ClassTree) (reads : Reads text file) → Follow text 0 reads.tokens (length text) → AreSpelled reads.tokens → Contains file.types c → HasNames c
file_named text file c reads follow spelled (i, low, is) =
    subst HasNames is (each_of HasNames file.types (all reads.spelled) i c low)
  where
    few : length reads.tokens < 2 ^ 64
    few = let some : length reads.tokens + 0 ≤ length text = tokens_few text 0 reads.tokens (length text) follow in let fits : length text ≤ 262144 = reads.fits in omega arith

    all : Spells reads.tokens file → AllByRecursion HasNames file.types
    all (t1, line, (t2, imports, each)) =
        let a : length t1 ≤ length reads.tokens = not_longer reads.tokens t1 (spends-line file.«package» reads.tokens t1 line) in
        let b : length t2 ≤ length t1 = not_longer t1 t2 (spends-each ImportSpells spends-import file.imports t1 t2 imports) in
        types_named file.types t2 [] each
        (after t1 t2 (spends-each ImportSpells spends-import file.imports t1 t2 imports) (after reads.tokens t1 (spends-line file.«package» reads.tokens t1 line) spelled))
        (let low = few in omega arith)
