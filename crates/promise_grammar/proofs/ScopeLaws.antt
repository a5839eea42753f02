-- Scopes: what their reader finds is spelled so, and what is spelled is found.
use Rattle.std.proofs.Common.{◌≡◌, inl, inr, ℕ, zero, suc, ◌≤◌, Bool, true, false, not, cond, ◌&&◌, eqb, List, [], ◌∷◌, ◌++◌, length, take, drop, Option, Some, None, codes, refl, sym, ap, ◌∙◌, subst, arith}
use Rattle.std.specs.List.{list_all}
use Rattle.std.specs.Str.{bytes_eq}
use Rattle.std.proofs.Math.Seq.{drop-append_seam, take-append_seam}
use Rattle.std.proofs.lemmas.List.{take-append-drop, length-append, length-take-le}
use Rattle.promise_grammar.specs.declared.scope.NamePattern.{NamePattern}
use Rattle.promise_grammar.specs.declared.scope.NamePattern.TheVariants as pat
use Rattle.promise_grammar.specs.declared.scope.ScopeContent.{ScopeContent}
use Rattle.promise_grammar.specs.declared.scope.ScopeContent.TheVariants as scp
use Rattle.promise_grammar.specs.Word.{is_name, is_name_byte, is_reserved, begins_name}
use Rattle.promise_grammar.specs.Piece.{Piece, Word, Sign}
use Rattle.promise_grammar.specs.Split.{first_split, longer_front}
use Rattle.promise_grammar.specs.Outcome.{Found, Reader, and_then, settled, word}
use Rattle.promise_grammar.specs.Form.{IsName, pattern_word, IsPattern, scope_words, IsScope}
use Rattle.promise_grammar.specs.Reading.{is_nil, exact_pattern, starred_pattern, by_star, pattern, constructors, members, scope}
use Rattle.promise_grammar.proofs.Steps.{then_found, pure_is, bytes_same, eaten_word, eaten_sign, expected_word, expected_sign, name_apart}
use Rattle.promise_grammar.proofs.Sound.{Begins, Sound}

-- ---- splits at a byte

split_by : (s b : ℕ) (bs : List ℕ) (p : List ℕ × List ℕ) (t : Bool) → eqb b s ≡ t → ((q : List ℕ × List ℕ) → first_split s bs ≡ Some q → bs ≡ q.0 ++ (s ∷ q.1))
    → cond t (Some ([], bs)) (longer_front b (first_split s bs)) ≡ Some p → b ∷ bs ≡ p.0 ++ (s ∷ p.1)
split_by s b bs p true same later e =
    let here : b ≡ s = grind arith in
    let is : ([], bs) ≡ p = cc in
    subst (λ (q : List ℕ × List ℕ). b ∷ bs ≡ q.0 ++ (s ∷ q.1)) is (ap (λ (c : ℕ). c ∷ bs) here)
split_by s b bs p false same later e = longer (first_split s bs) refl e
  where
    longer : (o : Option (List ℕ × List ℕ)) → first_split s bs ≡ o → longer_front b o ≡ Some p → b ∷ bs ≡ p.0 ++ (s ∷ p.1)
    longer None none f = cc
    longer (Some q) some f =
        let is : (b ∷ q.0, q.1) ≡ p = cc in
        subst (λ (r : List ℕ × List ℕ). b ∷ bs ≡ r.0 ++ (s ∷ r.1)) is (ap (λ (r : List ℕ). b ∷ r) (later q some))

pub first_split_is : (s : ℕ) (bs : List ℕ) (p : List ℕ × List ℕ) → first_split s bs ≡ Some p → bs ≡ p.0 ++ (s ∷ p.1)
first_split_is s [] p e = cc
first_split_is s (b ∷ bs) p e = split_by s b bs p (eqb b s) refl (first_split_is s bs) e

-- the byte doesn't stand in the front
pub first_split_here : (s : ℕ) (front rest : List ℕ) → first_split s front ≡ None → first_split s (front ++ (s ∷ rest)) ≡ Some (front, rest)
first_split_here s [] rest none = let same : eqb s s ≡ true = grind arith in rw same refl
first_split_here s (b ∷ front) rest none = by (eqb b s) (first_split_here s front rest) refl none
  where
    later : (o : Option (List ℕ × List ℕ)) → longer_front b o ≡ None → o ≡ None
    later None e = refl
    later (Some q) e = cc

    by : (t : Bool) → (first_split s front ≡ None → first_split s (front ++ (s ∷ rest)) ≡ Some (front, rest)) → eqb b s ≡ t → cond t (Some ([], front)) (longer_front b (first_split s front)) ≡ None
        → cond t (Some ([], front ++ (s ∷ rest))) (longer_front b (first_split s (front ++ (s ∷ rest)))) ≡ Some (b ∷ front, rest)
    by true again same e = cc
    by false again same e = rw (again (later (first_split s front) e)) refl

-- ---- patterns

star_apart : (b : ℕ) → is_name_byte b ≡ true → eqb b 42 ≡ false
star_apart b is = grind arith

pub both_true : (a b : Bool) → (a && b) ≡ true → (a ≡ true) × (b ≡ true)
both_true true true e = (refl, refl)
both_true true false e = cc
both_true false b e = cc

no_star : (bs : List ℕ) → list_all is_name_byte bs ≡ true → first_split 42 bs ≡ None
no_star [] is = refl
no_star (b ∷ bs) is =
    let each = both_true (is_name_byte b) (list_all is_name_byte bs) is in
    rw (star_apart b each.0, no_star bs each.1) refl

name_bytes : (w : List ℕ) → IsName w → list_all is_name_byte w ≡ true
unfolding is_name
name_bytes w is = (both_true (begins_name w) (list_all is_name_byte w) (both_true (begins_name w && list_all is_name_byte w) (not (is_reserved w)) is).0).1

take_bytes : (bs : List ℕ) (at : ℕ) → list_all is_name_byte bs ≡ true → list_all is_name_byte (take at bs) ≡ true
take_bytes bs zero is = refl
take_bytes [] (suc at) is = refl
take_bytes (b ∷ bs) (suc at) is =
    let each = both_true (is_name_byte b) (list_all is_name_byte bs) is in
    rw (each.0, take_bytes bs at each.1) refl

abbrev Spelled : List ℕ → NamePattern → Type 0
Spelled w p = (w ≡ pattern_word p) × IsPattern p

exact_found : (w : List ℕ) (p : NamePattern) (t : Bool) → is_name w ≡ t → cond t (Some (pat.Exactly w)) None ≡ Some p → Spelled w p
exact_found w p true is e = let same : pat.Exactly w ≡ p = cc in subst (λ (q : NamePattern). Spelled w q) same (refl, is)
exact_found w p false is e = cc

nil_is : (bs : List ℕ) → is_nil bs ≡ true → bs ≡ []
nil_is [] e = refl
nil_is (b ∷ bs) e = cc

starred_found : (before rest : List ℕ) (p : NamePattern) → starred_pattern before rest ≡ Some p → Spelled (before ++ (42 ∷ rest)) p
unfolding starred_pattern
starred_found before rest p e = by (is_nil before && is_nil rest) refl e
  where
    named : (t : Bool) → is_name (before ++ rest) ≡ t → cond t (Some (pat.Starred (before ++ rest) (length before))) None ≡ Some p → Spelled (before ++ (42 ∷ rest)) p
    named true is f =
        let same : pat.Starred (before ++ rest) (length before) ≡ p = cc in
        let sum = length-append before rest in
        let within : length before ≤ length (before ++ rest) = omega (arith, sum) in
        let spelled : before ++ (42 ∷ rest) ≡ take (length before) (before ++ rest) ++ (42 ∷ drop (length before) (before ++ rest)) = rw (take-append_seam before rest, drop-append_seam before rest) refl in
        subst (λ (q : NamePattern). Spelled (before ++ (42 ∷ rest)) q) same (spelled, (is, within))
    named false is f = cc

    by : (t : Bool) → (is_nil before && is_nil rest) ≡ t
        → cond t (Some pat.Any) (cond (is_name (before ++ rest)) (Some (pat.Starred (before ++ rest) (length before))) None) ≡ Some p → Spelled (before ++ (42 ∷ rest)) p
    by true nil f =
        let each = both_true (is_nil before) (is_nil rest) nil in
        let same : pat.Any ≡ p = cc in
        subst (λ (q : NamePattern). Spelled (before ++ (42 ∷ rest)) q) same (rw (nil_is before each.0, nil_is rest each.1) refl, tt)
    by false nil f = named (is_name (before ++ rest)) refl f

pub pattern_found : (w : List ℕ) (p : NamePattern) → pattern w ≡ Some p → Spelled w p
unfolding pattern exact_pattern
pattern_found w p e = by (first_split 42 w) refl e
  where
    by : (o : Option (List ℕ × List ℕ)) → first_split 42 w ≡ o → by_star w o ≡ Some p → Spelled w p
    by None none f = exact_found w p (is_name w) refl f
    by (Some q) some f =
        let s = starred_found q.0 q.1 p f in
        (first_split_is 42 w q some ∙ s.0, s.1)

not_nil : (w a b : List ℕ) → w ≡ a ++ b → IsName w → (is_nil a && is_nil b) ≡ false
unfolding is_name
not_nil w [] [] e is = let named : false ≡ true = subst (λ (v : List ℕ). is_name v ≡ true) e is in cc
not_nil w [] (y ∷ b) e is = refl
not_nil w (x ∷ a) b e is = refl

pub pattern_finds : (p : NamePattern) → IsPattern p → pattern (pattern_word p) ≡ Some p
unfolding pattern exact_pattern starred_pattern
pattern_finds (pat.Exactly n) is = rw (no_star n (name_bytes n is), is) refl
pattern_finds pat.Any is = refl
pattern_finds (pat.Starred n at) is =
    let split = first_split_here 42 (take at n) (drop at n) (no_star (take at n) (take_bytes n at (name_bytes n is.0))) in
    let whole : take at n ++ drop at n ≡ n = take-append-drop at n in
    rw (split, not_nil n (take at n) (drop at n) (sym whole) is.0, whole, is.0, length-take-le at n is.1) refl

-- ---- scopes

pub word_found : (ps : List Piece) (w : List ℕ) (rest : List Piece) → word ps ≡ Found w rest → ps ≡ Word w ∷ rest
word_found [] w rest e = cc
word_found (Word v ∷ ps) w rest e = cc
word_found (Sign s ∷ ps) w rest e = cc

new_reserved : is_reserved (codes "new") ≡ true
unfolding is_reserved
new_reserved = refl

constructors_found : (ps : List Piece) (s : ScopeContent) (rest : List Piece) → constructors ps ≡ Found s rest → Begins scope_words IsScope (Word (codes "new") ∷ ps) s rest
unfolding constructors
constructors_found ps s rest e =
    let a = expected_sign 40 _ ps s rest e in
    let b = expected_word (codes "**") _ a.0 s rest a.2 in
    let c = expected_sign 41 _ b.0 s rest b.2 in
    pure_is (λ (t : ScopeContent) (r : List Piece). Begins scope_words IsScope (Word (codes "new") ∷ ps) t r) scp.Constructors s c.0 rest c.2
    (ap (λ (r : List Piece). Word (codes "new") ∷ r) (a.1 ∙ ap (λ (r : List Piece). Sign 40 ∷ r) (b.1 ∙ ap (λ (r : List Piece). Word (codes "**") ∷ r) c.1)), tt)

members_found : (p : NamePattern) → IsPattern p → (ps : List Piece) (s : ScopeContent) (rest : List Piece) → members p ps ≡ Found s rest → Begins scope_words IsScope (Word (pattern_word p) ∷ ps) s rest
unfolding members
members_found p is ps s rest e =
    let P : ScopeContent → List Piece → Type 0 = λ t r. Begins scope_words IsScope (Word (pattern_word p) ∷ ps) t r in
    elim (eaten_sign 40 _ _ ps s rest e) [
      | inl a ↦ elim (eaten_word (codes "**") _ _ a.0 s rest a.2) [
        | inl b ↦ (let c = expected_sign 41 _ b.0 s rest b.2 in
            pure_is P (scp.Methods p) s c.0 rest c.2
            (ap (λ (r : List Piece). Word (pattern_word p) ∷ r) (a.1 ∙ ap (λ (r : List Piece). Sign 40 ∷ r) (b.1 ∙ ap (λ (r : List Piece). Word (codes "**") ∷ r) c.1)), is))
        | inr b ↦ (let c = expected_sign 41 _ a.0 s rest b.1 in
            pure_is P (scp.PlainMethods p) s c.0 rest c.2
            (ap (λ (r : List Piece). Word (pattern_word p) ∷ r) (a.1 ∙ ap (λ (r : List Piece). Sign 40 ∷ r) c.1), is))
      ]
      | inr b ↦ pure_is P (scp.Fields p) s ps rest b.1 (refl, is)
    ]

settled_found : (w : List ℕ) (ps : List Piece) (s : ScopeContent) (rest : List Piece) (o : Option NamePattern) → pattern w ≡ o → and_then (settled o ps) members ≡ Found s rest
    → Begins scope_words IsScope (Word w ∷ ps) s rest
settled_found w ps s rest None none e = cc
settled_found w ps s rest (Some p) some e =
    let is = pattern_found w p some in
    let m = members_found p is.1 ps s rest e in
    (ap (λ (v : List ℕ). Word v ∷ ps) is.0 ∙ m.0, m.1)

scope_by : (w : List ℕ) (ps : List Piece) (s : ScopeContent) (rest : List Piece) (t : Bool) → bytes_eq w (codes "new") ≡ t
    → cond {A = Reader ScopeContent} t constructors (λ (qs : List Piece). and_then (settled (pattern w) qs) members) ps ≡ Found s rest → Begins scope_words IsScope (Word w ∷ ps) s rest
scope_by w ps s rest true same e =
    let is : w ≡ codes "new" = bytes_same w (codes "new") same in
    let m = constructors_found ps s rest e in
    (ap (λ (v : List ℕ). Word v ∷ ps) is ∙ m.0, m.1)
scope_by w ps s rest false same e = settled_found w ps s rest (pattern w) refl e

pub scope_found : Sound scope_words IsScope scope
unfolding scope
scope_found ps s rest e =
    let w = then_found (word ps) _ s rest e in
    let m = scope_by w.0 w.1 s rest (bytes_eq w.0 (codes "new")) refl w.3 in
    (word_found ps w.0 w.1 w.2 ∙ m.0, m.1)

-- a pattern is never `new`
not_new : (p : NamePattern) → IsPattern p → bytes_eq (pattern_word p) (codes "new") ≡ false
not_new (pat.Exactly n) is = name_apart n (codes "new") is new_reserved
not_new pat.Any is = refl
not_new (pat.Starred n at) is = by (bytes_eq (pattern_word (pat.Starred n at)) (codes "new")) refl
  where
    by : (t : Bool) → bytes_eq (take at n ++ (42 ∷ drop at n)) (codes "new") ≡ t → t ≡ false
    by true same =
        let split : first_split 42 (take at n ++ (42 ∷ drop at n)) ≡ Some (take at n, drop at n) = first_split_here 42 (take at n) (drop at n) (no_star (take at n) (take_bytes n at (name_bytes n is.0))) in
        let spelled : take at n ++ (42 ∷ drop at n) ≡ codes "new" = bytes_same (take at n ++ (42 ∷ drop at n)) (codes "new") same in
        let none : first_split 42 (take at n ++ (42 ∷ drop at n)) ≡ None = ap (first_split 42) spelled in
        cc
    by false same = refl

pub scope_finds : (s : ScopeContent) → IsScope s → scope (scope_words s) ≡ Found s []
unfolding scope members constructors
scope_finds (scp.Fields p) is = rw (not_new p is, pattern_finds p is) refl
scope_finds (scp.Methods p) is = rw (not_new p is, pattern_finds p is) refl
scope_finds (scp.PlainMethods p) is = rw (not_new p is, pattern_finds p is) refl
scope_finds scp.Constructors is = refl
