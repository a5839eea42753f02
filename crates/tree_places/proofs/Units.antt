-- Headers and members of texts that are read.
use Rattle.std.proofs.Common.{◌≡◌, ◌≤◌, ◌+◌, ℕ, zero, suc, List, [], ◌∷◌, length, ap, ◌∙◌, sym, subst, arith}
use Rattle.std.specs.List.{Contains}
use Rattle.std.proofs.Math.Nat.{le_refl}
use Rattle.desk_base.specs.declared.span.Span.{Span}
use Rattle.java_tree.specs.declared.token.Token.{Token}
use Rattle.java_tree.specs.declared.member.MemberTree.{MemberTree}
use Rattle.java_tree.specs.declared.file.TypeKind.{TypeKind}
use Rattle.java_tree.specs.declared.file.ClassTree.{ClassTree}
use Rattle.java_tree.specs.declared.file.FileTree.{FileTree}
use Rattle.java_lexer.specs.Lexing.{Follow}
use Rattle.java_phrases.specs.Phrase.{Phrase, Each}
use Rattle.java_heads.specs.declared.header.Header.{Header}
use Rattle.java_heads.specs.Laws.{OneTree}
use Rattle.java_heads.specs.Spelling.{HeaderSpells}
use Rattle.java_members.specs.Spelling.{tokens_of}
use Rattle.java_reader.specs.Alike.{Alike}
use Rattle.java_reader.specs.Places.{MembersFollow, TypeFollows, TypesFollow}
use Rattle.java_reader.specs.Reads.{Reads}
use Rattle.java_reader.specs.Spelling.{TypeMember, TypeSpells}
use Rattle.tree_places.specs.Moved.{moved_tokens}
use Rattle.tree_places.specs.MovedMember.{moved_member, moved_header}
use Rattle.tree_places.specs.Bare.{nowhere, bare_member, bare_header}
use Rattle.tree_places.specs.Numbers.{numbered_member, numbered_header, placed_member, placed_header}
use Rattle.tree_places.specs.Units.{HasHeader, HasMember}
use Rattle.tree_places.proofs.Kept as kept
use Rattle.tree_places.proofs.Alike.{alike_from_moved}
use Rattle.tree_places.proofs.MovedMember.{moved-tokens_of}
use Rattle.tree_places.proofs.Numbers.{Rising}
use Rattle.tree_places.proofs.Parts.{Anything, members_keep, HeaderAlone, Braced, header_tokens, headers_keep}

-- ---- where the parts of a text stand

follow_rising : (text : List ℕ) (from low : ℕ) (ts : List Token) (end : ℕ) → low ≤ from → Follow text from ts end → Rising low ts
follow_rising text from low [] end below f = tt
follow_rising text from low (t ∷ ts) end below (above, long, bytes, rest) = (omega arith, follow_rising text t.span.end (t.span.start + 1) ts end (omega arith) rest)

each_at : {A : Type 0} (P : A → Phrase) (xs : List A) (ts rest : List Token) (x : A) → Contains xs x → Each P xs ts rest → (a : List Token) × (b : List Token) × P x a b
each_at P [] ts rest x (k, low, is) s = absurd (omega arith)
each_at P (y ∷ ys) ts rest x (zero, low, is) (mid, s, more) = (ts, mid, subst (λ z. P z ts mid) is s)
each_at P (y ∷ ys) ts rest x (suc k, low, is) (mid, s, more) = each_at P ys mid rest x (k, omega arith, is) more

type_follows : (text : List ℕ) (from : ℕ) (cs : List ClassTree) (end : ℕ) (c : ClassTree) → TypesFollow text from cs end → Contains cs c → (low : ℕ) × (high : ℕ) × TypeFollows text low c high
type_follows text from [] end c f (k, low, is) = absurd (omega arith)
type_follows text from (d ∷ cs) end c (mid, f, more) (zero, low, is) = (from, mid, subst (λ x. TypeFollows text from x mid) is f)
type_follows text from (d ∷ cs) end c (mid, f, more) (suc k, low, is) = type_follows text mid cs end c more (k, omega arith, is)

member_rises : (text : List ℕ) (from : ℕ) (ms : List MemberTree) (end : ℕ) (m : MemberTree) → MembersFollow text from ms end → Contains ms m → (low : ℕ) × Rising low (tokens_of m)
member_rises text from [] end m f (k, low, is) = absurd (omega arith)
member_rises text from (n ∷ ms) end m (mid, f, more) (zero, low, is) = (from, subst (λ x. Rising from (tokens_of x)) is (follow_rising text from from (tokens_of n) mid (le_refl from) f))
member_rises text from (n ∷ ms) end m (mid, f, more) (suc k, low, is) = member_rises text mid ms end m more (k, omega arith, is)

-- ---- parts with the tokens that spell them

-- that the parts of a text follow one another
abbrev pub PartsFollow : Type 0
PartsFollow = (text : List ℕ) (tree : FileTree) → Reads text tree → TypesFollow text 0 tree.types (length text)

record Stands {A : Type 0} (P : A → Phrase) (Behind : List Token → Type 0) (tokens : A → List Token) (x : A) : Type 0 where
  ts : List Token
  rest : List Token
  behind : Behind rest
  spelled : P x ts rest
  from : ℕ
  rising : Rising from (tokens x)

spelled_type : (text : List ℕ) (file : FileTree) (c : ClassTree) → Reads text file → Contains file.types c → (a : List Token) × (b : List Token) × TypeSpells c a b
spelled_type text file c reads has = let (t1, lines, (t2, imports, types)) = reads.spelled in each_at TypeSpells file.types t2 [] c has types

header_stands : PartsFollow → (text : List ℕ) (h : Header) → HasHeader text h → Stands HeaderAlone Braced header_tokens h
header_stands follow text h has =
    let (a, b, (mid, (end, alone, brace), members)) = spelled_type text has.file has.type has.reads has.is_type in
    let (low, high, (header, body, hf, above, mf)) = type_follows text 0 has.file.types (length text) has.type (follow text has.file has.reads) has.is_type in
    subst (λ x. Stands HeaderAlone Braced header_tokens x) has.is_header record {
      ts = a;
      rest = end;
      behind = (mid, brace);
      spelled = alone;
      from = low;
      rising = follow_rising text low low has.type.tokens header (le_refl low) hf;
    }

member_stands : PartsFollow → (text : List ℕ) (kind : TypeKind) (name : List ℕ) (m : MemberTree) → HasMember text kind name m → Stands (TypeMember kind name) Anything tokens_of m
member_stands follow text kind name m has =
    let (a, b, (mid, header, (end, members, brace))) = spelled_type text has.file has.type has.reads has.is_type in
    let (ts, rest, spelled) = each_at (TypeMember has.type.kind has.type.name.text) has.type.members mid end m has.is_member members in
    let (low, high, (head, body, hf, above, mf)) = type_follows text 0 has.file.types (length text) has.type (follow text has.file has.reads) has.is_type in
    let (from, rising) = member_rises text body has.type.members high m mf has.is_member in
    record {
      ts = ts;
      rest = rest;
      behind = tt;
      spelled = subst (λ k. TypeMember k name m ts rest) has.is_kind (subst (λ n. TypeMember has.type.kind n m ts rest) has.is_name spelled);
      from = from;
      rising = rising;
    }

-- ---- laws

pub one_member : PartsFollow → (first second : List ℕ) (kind : TypeKind) (name : List ℕ) (m n : MemberTree)
    → HasMember first kind name m → HasMember second kind name n → Alike (tokens_of m) (tokens_of n) → numbered_member m ≡ numbered_member n
one_member follow first second kind name m n has hold alike =
    let a = member_stands follow first kind name m has in
    let b = member_stands follow second kind name n hold in
    kept.numbered (TypeMember kind name) tokens_of moved_member Anything (members_keep kind name) m n a.ts a.rest b.ts b.rest a.from b.from a.spelled b.spelled a.rising b.rising alike

pub one_header : PartsFollow → OneTree HeaderSpells → (first second : List ℕ) (g h : Header)
    → HasHeader first g → HasHeader second h → Alike g.tokens h.tokens → numbered_header g ≡ numbered_header h
one_header follow one first second g h has hold alike =
    let a = header_stands follow first g has in
    let b = header_stands follow second h hold in
    kept.numbered HeaderAlone header_tokens moved_header Braced (headers_keep one) g h a.ts a.rest b.ts b.rest a.from b.from a.spelled b.spelled a.rising b.rising alike

pub placed-member : PartsFollow → (text : List ℕ) (kind : TypeKind) (name : List ℕ) (m : MemberTree) → HasMember text kind name m → placed_member (tokens_of m) (numbered_member m) ≡ m
placed-member follow text kind name m has =
    let a = member_stands follow text kind name m has in
    kept.placed (TypeMember kind name) tokens_of moved_member Anything (members_keep kind name) m a.ts a.rest a.from a.behind a.spelled a.rising

pub placed-header : PartsFollow → OneTree HeaderSpells → (text : List ℕ) (h : Header) → HasHeader text h → placed_header h.tokens (numbered_header h) ≡ h
placed-header follow one text h has =
    let a = header_stands follow text h has in
    kept.placed HeaderAlone header_tokens moved_header Braced (headers_keep one) h a.ts a.rest a.from a.behind a.spelled a.rising

-- ---- units whose places are put elsewhere

pub moved_members : (p q : Span → Span) (kind : TypeKind) (name : List ℕ) (m n : MemberTree) (ts rest us left : List Token) → TypeMember kind name m ts rest → TypeMember kind name n us left
    → moved_tokens p (tokens_of m) ≡ moved_tokens q (tokens_of n) → moved_member p m ≡ moved_member q n
moved_members p q kind name = kept.same (TypeMember kind name) tokens_of moved_member Anything (members_keep kind name) p q

pub moved_headers : OneTree HeaderSpells → (p q : Span → Span) (g h : Header) (ts rest us left : List Token) → HeaderSpells g ts rest → HeaderSpells h us left
    → moved_tokens p g.tokens ≡ moved_tokens q h.tokens → moved_header p g ≡ moved_header q h
moved_headers one p q g h ts rest us left (mid, s, brace) (end, t, other) = kept.same HeaderAlone header_tokens moved_header Braced (headers_keep one) p q g h ts mid us end s t

pub alike_members : (kind : TypeKind) (name : List ℕ) (m n : MemberTree) (ts rest us left : List Token) → TypeMember kind name m ts rest → TypeMember kind name n us left
    → Alike (tokens_of m) (tokens_of n) → bare_member m ≡ bare_member n
alike_members kind name = kept.bare (TypeMember kind name) tokens_of moved_member Anything (members_keep kind name)

pub alike_headers : OneTree HeaderSpells → (g h : Header) (ts rest us left : List Token) → HeaderSpells g ts rest → HeaderSpells h us left → Alike g.tokens h.tokens → bare_header g ≡ bare_header h
alike_headers one g h ts rest us left (mid, s, brace) (end, t, other) =
    kept.bare HeaderAlone header_tokens moved_header Braced (headers_keep one) g h ts mid us end s t

pub tokens_of_members : (m n : MemberTree) → bare_member m ≡ bare_member n → Alike (tokens_of m) (tokens_of n)
tokens_of_members m n same = alike_from_moved (tokens_of m) (tokens_of n) (sym (moved-tokens_of nowhere m) ∙ ap tokens_of same ∙ moved-tokens_of nowhere n)

pub tokens_of_headers : (g h : Header) → bare_header g ≡ bare_header h → Alike g.tokens h.tokens
tokens_of_headers g h same = alike_from_moved g.tokens h.tokens (ap header_tokens same)
