-- Members and counts: what their readers find is spelled so, and what is spelled is found.
use Rattle.std.proofs.Common.{◌≡◌, ℕ, ◌+◌, ◌-◌, ◌*◌, ◌<◌, ◌≤◌, Bool, true, false, cond, ◌&&◌, eqb, ltb, List, [], ◌∷◌, ◌++◌, Option, Some, None, codes, refl, ap, ◌∙◌, arith}
use Rattle.std.specs.Char.{is_ascii_digit}
use Rattle.std.specs.List.{list_all}
use Rattle.std.specs.Str.{bytes_eq}
use Rattle.promise_grammar.specs.declared.member.MemberName.{MemberName}
use Rattle.promise_grammar.specs.declared.member.MemberName.TheVariants as mem
use Rattle.promise_grammar.specs.declared.member.MemberContent.{MemberContent}
use Rattle.promise_grammar.specs.Word.{is_name, is_reserved}
use Rattle.promise_grammar.specs.Piece.{Piece, Word, Sign}
use Rattle.promise_grammar.specs.Count.{value_from, IsCount, count_from, count_of}
use Rattle.promise_grammar.specs.Outcome.{Found, Lost, Reader, settled, word, name}
use Rattle.promise_grammar.specs.Form.{member_name_word, IsMemberName, member_words, IsMember}
use Rattle.promise_grammar.specs.Reading.{member_name, member_count, member}
use Rattle.promise_grammar.proofs.Steps.{then_found, pure_is, bytes_same, expected_word, expected_sign, name_found, name_finds, name_apart}
use Rattle.promise_grammar.proofs.ScopeLaws.{word_found, both_true}

-- ---- counts

abbrev Counted : ℕ → List ℕ → ℕ → Type 0
Counted n ds m = (list_all is_ascii_digit ds ≡ true) × (value_from n ds ≡ m) × (m < 2147483648)

below : (a b : ℕ) → ltb a b ≡ true → a < b
below a b e = grind arith

count_from_found : (ds : List ℕ) (n m : ℕ) → n < 2147483648 → count_from n ds ≡ Some m → Counted n ds m
count_from_found [] n m small e = let same : n ≡ m = cc in (refl, same, omega arith)
count_from_found (d ∷ ds) n m small e = by (is_ascii_digit d && ltb (n * 10 + (d - 48)) 2147483648) (count_from_found ds (n * 10 + (d - 48)) m) refl e
  where
    by : (t : Bool) → (n * 10 + (d - 48) < 2147483648 → count_from (n * 10 + (d - 48)) ds ≡ Some m → Counted (n * 10 + (d - 48)) ds m) → (is_ascii_digit d && ltb (n * 10 + (d - 48)) 2147483648) ≡ t → cond t (count_from (n * 10 + (d - 48)) ds) None ≡ Some m → Counted n (d ∷ ds) m
    by true again both f =
        let each = both_true (is_ascii_digit d) (ltb (n * 10 + (d - 48)) 2147483648) both in
        let later = again (below (n * 10 + (d - 48)) 2147483648 each.1) f in
        (rw (each.0, later.0) refl, later.1, later.2)
    by false again both f = cc

grows : (ds : List ℕ) (n : ℕ) → n ≤ value_from n ds
grows [] n = omega arith
grows (d ∷ ds) n = let more = grows ds (n * 10 + (d - 48)) in omega arith

above : (a b : ℕ) → a < b → ltb a b ≡ true
above a b e = grind arith

count_from_finds : (ds : List ℕ) (n m : ℕ) → Counted n ds m → count_from n ds ≡ Some m
count_from_finds [] n m is = ap (λ (k : ℕ). Some k) is.1
count_from_finds (d ∷ ds) n m is =
    let each = both_true (is_ascii_digit d) (list_all is_ascii_digit ds) is.0 in
    let more = grows ds (n * 10 + (d - 48)) in
    let value : value_from (n * 10 + (d - 48)) ds ≡ m = is.1 in
    let small : m < 2147483648 = is.2 in
    let step : n * 10 + (d - 48) < 2147483648 = omega arith in
    let later : count_from (n * 10 + (d - 48)) ds ≡ Some m = count_from_finds ds (n * 10 + (d - 48)) m (each.1, value, small) in
    rw (each.0, above (n * 10 + (d - 48)) 2147483648 step) later

pub count_found : (ds : List ℕ) (m : ℕ) → count_of ds ≡ Some m → IsCount ds m
count_found [] m e = cc
count_found (d ∷ []) m e =
    let zero_small : 0 < 2147483648 = omega arith in
    let is = count_from_found (d ∷ []) 0 m zero_small e in
    record { some = omega arith; each = is.0; plain = λ _. refl; value = is.1; small = is.2 }
count_found (d ∷ x ∷ ds) m e = by (eqb d 48) refl e
  where
    by : (t : Bool) → eqb d 48 ≡ t → cond t None (count_from 0 (d ∷ x ∷ ds)) ≡ Some m → IsCount (d ∷ x ∷ ds) m
    by true same f = cc
    by false same f =
        let zero_small : 0 < 2147483648 = omega arith in
        let is = count_from_found (d ∷ x ∷ ds) 0 m zero_small f in
        let other : d ≡ 48 → ⊥ = λ z. grind arith in
        record { some = omega arith; each = is.0; plain = λ z. absurd (other z); value = is.1; small = is.2 }

pub count_finds : (ds : List ℕ) (m : ℕ) → IsCount ds m → count_of ds ≡ Some m
count_finds [] m is = let some = is.some in absurd (omega arith)
count_finds (d ∷ []) m is = count_from_finds (d ∷ []) 0 m (is.each, is.value, is.small)
count_finds (d ∷ x ∷ ds) m is = by (eqb d 48) refl
  where
    by : (t : Bool) → eqb d 48 ≡ t → cond t None (count_from 0 (d ∷ x ∷ ds)) ≡ Some m
    by true same =
        let zero_first : d ≡ 48 = grind arith in
        let alone = is.plain zero_first in
        absurd (omega arith)
    by false same = count_from_finds (d ∷ x ∷ ds) 0 m (is.each, is.value, is.small)

-- ---- members

new_reserved : is_reserved (codes "new") ≡ true
unfolding is_reserved
new_reserved = refl

abbrev NamedSo : List Piece → MemberName → List Piece → Type 0
NamedSo ps m rest = (ps ≡ Word (member_name_word m) ∷ rest) × IsMemberName m

named_by : (w : List ℕ) (ps : List Piece) (m : MemberName) (rest : List Piece) (t : Bool) → is_name w ≡ t
    → cond {A = Reader MemberName} t (λ (qs : List Piece). Found (mem.Named w) qs) (λ (qs : List Piece). Lost) ps ≡ Found m rest → NamedSo (Word w ∷ ps) m rest
named_by w ps m rest true is e = pure_is (λ (k : MemberName) (r : List Piece). NamedSo (Word w ∷ ps) k r) (mem.Named w) m ps rest e (refl, is)
named_by w ps m rest false is e = cc

new_by : (w : List ℕ) (ps : List Piece) (m : MemberName) (rest : List Piece) (t : Bool) → bytes_eq w (codes "new") ≡ t
    → cond {A = Reader MemberName} t (λ (qs : List Piece). Found mem.New qs) (cond {A = Reader MemberName} (is_name w) (λ (qs : List Piece). Found (mem.Named w) qs) (λ (qs : List Piece). Lost)) ps ≡ Found m rest
    → NamedSo (Word w ∷ ps) m rest
new_by w ps m rest true same e =
    let is : w ≡ codes "new" = bytes_same w (codes "new") same in
    pure_is (λ (k : MemberName) (r : List Piece). NamedSo (Word w ∷ ps) k r) mem.New m ps rest e (ap (λ (v : List ℕ). Word v ∷ ps) is, tt)
new_by w ps m rest false same e = named_by w ps m rest (is_name w) refl e

member_name_found : (ps : List Piece) (m : MemberName) (rest : List Piece) → member_name ps ≡ Found m rest → NamedSo ps m rest
unfolding member_name
member_name_found ps m rest e =
    let w = then_found (word ps) _ m rest e in
    let n = new_by w.0 w.1 m rest (bytes_eq w.0 (codes "new")) refl w.3 in
    (word_found ps w.0 w.1 w.2 ∙ n.0, n.1)

abbrev CountedSo : List Piece → ℕ → List Piece → Type 0
CountedSo ps n rest = (digits : List ℕ) × (ps ≡ Word digits ∷ rest) × IsCount digits n

member_count_found : (ps : List Piece) (n : ℕ) (rest : List Piece) → member_count ps ≡ Found n rest → CountedSo ps n rest
unfolding member_count
member_count_found ps n rest e =
    let w = then_found (word ps) _ n rest e in
    by w.0 w.1 (word_found ps w.0 w.1 w.2) (count_of w.0) refl w.3
  where
    by : (w : List ℕ) (mid : List Piece) → ps ≡ Word w ∷ mid → (o : Option ℕ) → count_of w ≡ o → settled o mid ≡ Found n rest → CountedSo ps n rest
    by w mid is None none f = cc
    by w mid is (Some k) some f = pure_is (λ (j : ℕ) (r : List Piece). CountedSo ps j r) k n mid rest f (w, is, count_found w k some)

-- the pieces begin with the words of the member, its count in some digits
abbrev pub SpellsMember : List Piece → MemberContent → List Piece → Type 0
SpellsMember ps m rest = (digits : List ℕ) × IsCount digits m.count × (ps ≡ member_words m digits ++ rest) × IsMember m

pub member_found : (ps : List Piece) (m : MemberContent) (rest : List Piece) → member ps ≡ Found m rest → SpellsMember ps m rest
unfolding member
member_found ps m rest e =
    let n = then_found (member_name ps) _ m rest e in
    let is_n = member_name_found ps n.0 n.1 n.2 in
    let slash = expected_sign 47 _ n.1 m rest n.3 in
    let c = then_found (member_count slash.0) _ m rest slash.2 in
    let is_c = member_count_found slash.0 c.0 c.1 c.2 in
    let within = expected_word (codes "in") _ c.1 m rest c.3 in
    let k = then_found (name within.0) _ m rest within.2 in
    let is_k = name_found within.0 k.0 k.1 k.2 in
    pure_is (λ (x : MemberContent) (r : List Piece). SpellsMember ps x r) (record { name = n.0; count = c.0; class = k.0 }) m k.1 rest k.3 (
      is_c.0,
      is_c.2,
      is_n.0 ∙ ap (λ (r : List Piece). Word (member_name_word n.0) ∷ r) (slash.1 ∙ ap (λ (r : List Piece). Sign 47 ∷ r) (is_c.1 ∙ ap (λ (r : List Piece). Word is_c.0 ∷ r) (within.1 ∙ ap (λ (r : List Piece). Word (codes "in") ∷ r) is_k.0))),
      record { name = is_n.1; class = is_k.1 },
    )

member_name_finds : (m : MemberName) (ps : List Piece) → IsMemberName m → member_name (Word (member_name_word m) ∷ ps) ≡ Found m ps
unfolding member_name
member_name_finds (mem.Named n) ps is = rw (name_apart n (codes "new") is new_reserved, is) refl
member_name_finds mem.New ps is = refl

member_count_finds : (digits : List ℕ) (n : ℕ) (ps : List Piece) → IsCount digits n → member_count (Word digits ∷ ps) ≡ Found n ps
unfolding member_count
member_count_finds digits n ps is = rw (count_finds digits n is) refl

pub member_finds : (m : MemberContent) (digits : List ℕ) → IsMember m → IsCount digits m.count → member (member_words m digits) ≡ Found m []
unfolding member
member_finds m digits is counts =
    rw (
      member_name_finds m.name (Sign 47 ∷ Word digits ∷ Word (codes "in") ∷ Word m.class ∷ []) is.name,
      member_count_finds digits m.count (Word (codes "in") ∷ Word m.class ∷ []) counts,
      name_finds m.class [] is.class,
    ) refl
