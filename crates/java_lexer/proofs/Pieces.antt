-- How long the longest piece that begins a text is.
use Rattle.std.proofs.Common.{◌≡◌, ℕ, zero, suc, ◌+◌, ◌≤◌, ◌<◌, Bool, true, false, not, ◌==◌, cond, Option, Some, None, List, [], ◌∷◌, ◌++◌, length, take, drop, slice_index, refl, sym, ◌∙◌, ap, inl, inr, subst, arith, one-add}
use Rattle.std.specs.Prelude.{is_some}
use Rattle.std.specs.List.{list_all, prefix_len}
use Rattle.std.proofs.lemmas.Bool.{eqb-true, and_parts, and_from, cases_Bool}
use Rattle.std.proofs.lemmas.List.{take-append-drop, length-take-le, length-append, append_assoc, take_all}
use Rattle.std.proofs.lemmas.List.Sums.{prefix_len-le-length}
use Rattle.java_tree.specs.declared.kind.Kind.TheVariants as kind
use Rattle.java_tree.specs.declared.kind.Kind.{Kind}
use Rattle.java_lexer.specs.Chars.{is_name_part, is_blank, is_line_end}
use Rattle.java_lexer.specs.Spelling.{spelling}
use Rattle.java_lexer.specs.Scan.{close_from, string_from, double_sign, single_sign}
use Rattle.java_lexer.specs.Lumps.{IsBlank, IsComment, IsOpenComment, IsRun, IsString, IsSign, IsLump, IsStringTail, has_close}
use Rattle.java_lexer.specs.Lumps.IsLump.{blank, comment, unclosed, run, string, sign}
use Rattle.java_lexer.specs.Lexing.{Longest, Spells}
use Rattle.java_lexer.proofs.Bytes.{at_blank, no_double, no_double_at_end}
use Rattle.java_lexer.proofs.Counts.{all_prefix, prefix_all, close_found, close_late, close_none, close_splits, string_found, string_tail}
use Rattle.java_lexer.proofs.KindLemmas.{sign_of, single_sign_spelled, double_sign_spelled, sign_found, spelled_fixed}

abbrev pub in_line : ℕ → Bool
in_line b = not (is_line_end b)

abbrev pub block_len : ℕ → Option ℕ → ℕ
block_len all None = all
block_len all (Some n) = 2 + n

abbrev pub slash_len : List ℕ → ℕ
slash_len [] = 1
slash_len (c ∷ z) = cond (c == 47) (2 + prefix_len in_line z) (cond (c == 42) (block_len (2 + length z) (close_from 0 z)) 1)

abbrev pub quote_len : Option ℕ → ℕ
quote_len None = 0
quote_len (Some n) = 1 + n

pub lump_len : List ℕ → ℕ
lump_len [] = 0
lump_len (b ∷ z) =
    cond (is_name_part b) (prefix_len is_name_part (b ∷ z))
    (cond (is_some (double_sign b (slice_index z 0))) 2
    (cond (b == 47) (slash_len z)
    (cond (is_blank b) 1
    (cond (b == 34) (quote_len (string_from false 0 z))
    (cond (is_some (single_sign b)) 1 0)))))

-- ---- no piece is longer

slash_some : (z : List ℕ) → 1 ≤ slash_len z
slash_some [] = omega arith
slash_some (c ∷ z) = elim (cases_Bool (c == 47)) [
  | inl e ↦ rw e (omega arith)
  | inr e ↦ rw e (elim (cases_Bool (c == 42)) [ inl f ↦ rw f (some_block (close_from 0 z)) | inr f ↦ rw f (omega arith) ])
]
  where
    some_block : (o : Option ℕ) → 1 ≤ block_len (2 + length z) o
    some_block None = omega arith
    some_block (Some n) = omega arith

bounds_blank : (b : ℕ) (rest : List ℕ) → is_blank b ≡ true → 1 ≤ lump_len (b ∷ rest)
unfolding lump_len
bounds_blank b rest h = at_blank (λ (x : ℕ). 1 ≤ lump_len (x ∷ rest))
    (rw (no_double 32 (slice_index rest 0) refl refl) (omega arith))
    (rw (no_double 9 (slice_index rest 0) refl refl) (omega arith))
    (rw (no_double 10 (slice_index rest 0) refl refl) (omega arith))
    (rw (no_double 13 (slice_index rest 0) refl refl) (omega arith))
    (rw (no_double 12 (slice_index rest 0) refl refl) (omega arith)) b h

bounds_line : (body rest : List ℕ) → list_all in_line body ≡ true → 2 + length body ≤ lump_len (47 ∷ 47 ∷ (body ++ rest))
unfolding lump_len double_sign
bounds_line body rest h = omega (arith, all_prefix in_line body rest h)

bounds_block : (body rest : List ℕ) → has_close (body ++ 42 ∷ []) ≡ false → 2 + (length body + 2) ≤ lump_len (47 ∷ 42 ∷ (body ++ 42 ∷ 47 ∷ rest))
unfolding lump_len double_sign
bounds_block body rest h = rw (close_found body rest 0 h) (omega arith)

bounds_unclosed : (body rest : List ℕ) → has_close body ≡ false → 2 + length body ≤ lump_len (47 ∷ 42 ∷ (body ++ rest))
unfolding lump_len double_sign
bounds_unclosed body rest h = at_len (close_from 0 (body ++ rest)) (λ n e. close_late body rest 0 n e h)
  where
    at_len : (o : Option ℕ) → ((n : ℕ) → o ≡ Some n → 0 + length body ≤ n) → 2 + length body ≤ block_len (2 + length (body ++ rest)) o
    at_len None f = omega (arith, length-append body rest)
    at_len (Some n) f = omega (arith, f n refl)

bounds_run : (b : ℕ) (body rest : List ℕ) → list_all is_name_part (b ∷ body) ≡ true → suc (length body) ≤ lump_len (b ∷ (body ++ rest))
unfolding lump_len
bounds_run b body rest h =
    let e : is_name_part b ≡ true = (and_parts (is_name_part b) (list_all is_name_part body) h).0 in
    let most : length (b ∷ body) ≤ prefix_len is_name_part ((b ∷ body) ++ rest) = all_prefix is_name_part (b ∷ body) rest h in
    rw e (subst (λ (n : ℕ). suc (length body) ≤ n) (rw e refl) most)

bounds_string : (tail : List ℕ) → IsStringTail tail → (rest : List ℕ) → suc (length tail) ≤ lump_len (34 ∷ (tail ++ rest))
unfolding lump_len
bounds_string tail t rest = rw (no_double 34 (slice_index (tail ++ rest) 0) refl refl, string_found tail t rest 0) (omega arith)

bounds_single : (b : ℕ) (rest : List ℕ) (k : Kind) → is_name_part b ≡ false → single_sign b ≡ Some k → 1 ≤ lump_len (b ∷ rest)
unfolding lump_len
bounds_single b rest k name h = rw name (elim (cases_Bool (is_some (double_sign b (slice_index rest 0)))) [
  | inl e ↦ rw e (omega arith)
  | inr e ↦ rw e (elim (cases_Bool (b == 47)) [
    | inl f ↦ rw f (slash_some rest)
    | inr f ↦ rw f (elim (cases_Bool (is_blank b)) [
      | inl g ↦ rw g (omega arith)
      | inr g ↦ rw g (elim (cases_Bool (b == 34)) [
        | inl i ↦ absurd (no_quote b k (eqb-true b 34 i) h)
        | inr i ↦ rw (i, h) (omega arith)
      ])
    ])
  ])
])
  where
    no_quote : (b : ℕ) (k : Kind) → b ≡ 34 → single_sign b ≡ Some k → ⊥
    no_quote b k e h = let f : single_sign 34 ≡ Some k = rw (← e) h in unfold single_sign in cc

bounds_double : (b c : ℕ) (rest : List ℕ) (k : Kind) → is_name_part b ≡ false → double_sign b c ≡ Some k → 2 ≤ lump_len (b ∷ c ∷ rest)
unfolding lump_len
bounds_double b c rest k name h = rw (name, h) (omega arith)

at_block : (body rest : List ℕ) → (47 ∷ 42 ∷ (body ++ 42 ∷ 47 ∷ [])) ++ rest ≡ 47 ∷ 42 ∷ (body ++ 42 ∷ 47 ∷ rest)
at_block body rest = ap (λ (w : List ℕ). 47 ∷ 42 ∷ w) (append_assoc body (42 ∷ 47 ∷ []) rest)

bounds_sign : (bytes rest : List ℕ) → IsSign bytes → length bytes ≤ lump_len (bytes ++ rest)
unfolding sign_of
bounds_sign [] rest h = absurd h
bounds_sign (b ∷ []) rest h = bounds_single b rest h.1 h.0 (sign_found b [] h.1 h.0 h.2)
bounds_sign (b ∷ c ∷ []) rest h = bounds_double b c rest h.1 h.0 (sign_found b (c ∷ []) h.1 h.0 h.2)
bounds_sign (b ∷ c ∷ d ∷ more) rest h = let e = sign_found b (c ∷ d ∷ more) h.1 h.0 h.2 in cc

runs : (bytes rest : List ℕ) → IsRun bytes → length bytes ≤ lump_len (bytes ++ rest)
runs [] rest h = absurd h
runs (b ∷ body) rest h = bounds_run b body rest h

bounds : (bytes rest : List ℕ) → IsLump bytes → length bytes ≤ lump_len (bytes ++ rest)
bounds bytes rest (blank _ h) = rw h.1 (bounds_blank h.0 rest h.2)
bounds bytes rest (comment _ (inl h)) = rw h.1 (omega (arith, bounds_line h.0 rest h.2))
bounds bytes rest (comment _ (inr h)) = rw (h.1, at_block h.0 rest) (omega (arith, bounds_block h.0 rest h.2, length-append h.0 (42 ∷ 47 ∷ [])))
bounds bytes rest (unclosed _ h) = rw h.1 (omega (arith, bounds_unclosed h.0 rest h.2))
bounds bytes rest (run _ h) = runs bytes rest h
bounds bytes rest (string _ h) = rw h.1 (bounds_string h.0 h.2 rest)
bounds bytes rest (sign _ h) = bounds_sign bytes rest h

lump_nil : (bytes : List ℕ) → bytes ≡ [] → IsLump bytes → ⊥
lump_nil bytes e (blank _ h) = let f : h.0 ∷ [] ≡ [] = sym h.1 ∙ e in cc
lump_nil bytes e (comment _ (inl h)) = let f : 47 ∷ 47 ∷ h.0 ≡ [] = sym h.1 ∙ e in cc
lump_nil bytes e (comment _ (inr h)) = let f : 47 ∷ 42 ∷ (h.0 ++ 42 ∷ 47 ∷ []) ≡ [] = sym h.1 ∙ e in cc
lump_nil bytes e (unclosed _ h) = let f : 47 ∷ 42 ∷ h.0 ≡ [] = sym h.1 ∙ e in cc
lump_nil bytes e (run _ h) = let f : IsRun [] = subst IsRun e h in f
lump_nil bytes e (string _ h) = let f : 34 ∷ h.0 ≡ [] = sym h.1 ∙ e in cc
lump_nil bytes e (sign _ h) = let f : IsSign [] = subst IsSign e h in f

bound_front : (z : List ℕ) (m : ℕ) → m ≤ length z → IsLump (take m z) → m ≤ lump_len z
bound_front z m le l =
    let front : length (take m z) ≤ lump_len z = subst (λ (w : List ℕ). length (take m z) ≤ lump_len w) (take-append-drop m z) (bounds (take m z) (drop m z) l) in
    omega (arith, length-take-le m z le)

longest_from : (z : List ℕ) (n : ℕ) → n ≤ length z → IsLump (take n z) → lump_len z ≡ n → Longest z n
longest_from z n le l e = record {
  within = le;
  lump = l;
  longest = λ m lt most more. let bound = bound_front z m most more in omega arith;
}

none_from : (z : List ℕ) → lump_len z ≡ 0 → (m : ℕ) → m ≤ length z → ¬ IsLump (take m z)
none_from z e = λ m le l.
    let none : m ≡ 0 = omega (arith, bound_front z m le l) in
    lump_nil (take m z) (rw none refl) l

-- a piece has a byte
pub longest_some : (z : List ℕ) (n : ℕ) → Longest z n → 0 < n
longest_some z zero h = absurd (lump_nil (take zero z) refl h.lump)
longest_some z (suc n) h = omega arith

-- ---- the longest piece, by what begins the text

pub run_is : (z : List ℕ) → is_name_part (slice_index z 0) ≡ true → IsRun (take (prefix_len is_name_part z) z)
run_is [] h = cc
run_is (b ∷ z) h = rw (h, one-add (prefix_len is_name_part z)) (taken b z h)
  where
    taken : (b : ℕ) (z : List ℕ) → is_name_part b ≡ true → IsRun (b ∷ take (prefix_len is_name_part z) z)
    taken b z h = and_from (is_name_part b) _ h (prefix_all is_name_part z)

pub longest_run : (z : List ℕ) → is_name_part (slice_index z 0) ≡ true → Longest z (prefix_len is_name_part z)
unfolding lump_len
longest_run z h = longest_from z _ (prefix_len-le-length is_name_part z) (run _ (run_is z h)) (whole z h)
  where
    whole : (z : List ℕ) → is_name_part (slice_index z 0) ≡ true → lump_len z ≡ prefix_len is_name_part z
    whole [] h = refl
    whole (b ∷ z) h = rw h refl

pub longest_double : (z : List ℕ) (k : Kind) → is_name_part (slice_index z 0) ≡ false → double_sign (slice_index z 0) (slice_index z 1) ≡ Some k → Longest z 2 × Spells k (take 2 z)
unfolding lump_len
longest_double [] k name h = let e = no_double_at_end 0 in cc
longest_double (b ∷ []) k name h = let e = no_double_at_end b in cc
longest_double (b ∷ c ∷ z) k name h =
    let e = double_sign_spelled b c k h in
    (longest_from (b ∷ c ∷ z) 2 (omega arith) (sign _ (name, k, e)) (rw (name, h) refl), spelled_fixed k (b ∷ c ∷ []) e (λ f. cc))

apart : (c d : ℕ) → (c ≡ d → ⊥) → (c == d) ≡ false
apart c d h = elim (cases_Bool (c == d)) [ inl e ↦ absurd (h (eqb-true c d e)) | inr e ↦ e ]

one_blank : (b : ℕ) (z : List ℕ) → is_blank b ≡ true → lump_len (b ∷ z) ≡ 1
unfolding lump_len
one_blank b z h = at_blank (λ (x : ℕ). lump_len (x ∷ z) ≡ 1)
    (rw (no_double 32 (slice_index z 0) refl refl) refl)
    (rw (no_double 9 (slice_index z 0) refl refl) refl)
    (rw (no_double 10 (slice_index z 0) refl refl) refl)
    (rw (no_double 13 (slice_index z 0) refl refl) refl)
    (rw (no_double 12 (slice_index z 0) refl refl) refl) b h

-- after a `/`, where the next byte begins no comment
pub longest_divide : (z : List ℕ) → slice_index z 0 ≡ 47 → (slice_index z 1 ≡ 47 → ⊥) → (slice_index z 1 ≡ 42 → ⊥) → Longest z 1 × Spells kind.Divide (take 1 z)
unfolding lump_len
longest_divide [] h no_line no_block = cc
longest_divide (b ∷ z) h no_line no_block =
    let e : take 1 (b ∷ z) ≡ spelling kind.Divide = rw h refl in
    (longest_from (b ∷ z) 1 (omega arith) (sign _ (rw h (refl, kind.Divide, refl))) (rw h (alone z no_line no_block)), e)
  where
    alone : (z : List ℕ) → (slice_index z 0 ≡ 47 → ⊥) → (slice_index z 0 ≡ 42 → ⊥) → lump_len (47 ∷ z) ≡ 1
    alone z no_line no_block = rw (no_double 47 (slice_index z 0) refl refl) (slash z no_line no_block)
      where
        slash : (z : List ℕ) → (slice_index z 0 ≡ 47 → ⊥) → (slice_index z 0 ≡ 42 → ⊥) → slash_len z ≡ 1
        slash [] no_line no_block = refl
        slash (c ∷ z) no_line no_block = rw (apart c 47 no_line, apart c 42 no_block) refl

pub longest_line : (z : List ℕ) → slice_index z 0 ≡ 47 → slice_index z 1 ≡ 47 → Longest z (2 + prefix_len in_line (drop 2 z)) × IsComment (take (2 + prefix_len in_line (drop 2 z)) z)
unfolding lump_len double_sign
longest_line [] h k = cc
longest_line (b ∷ []) h k = cc
longest_line (b ∷ c ∷ z) h k =
    let n = prefix_len in_line z in
    let two : 2 + prefix_len in_line z ≡ suc (suc (prefix_len in_line z)) = omega arith in
    let bytes : take (2 + prefix_len in_line z) (b ∷ c ∷ z) ≡ 47 ∷ 47 ∷ take (prefix_len in_line z) z = rw (two, h, k) refl in
    let is : IsComment (take (2 + prefix_len in_line z) (b ∷ c ∷ z)) = inl (take (prefix_len in_line z) z, bytes, prefix_all in_line z) in
    (longest_from (b ∷ c ∷ z) _ (omega (arith, prefix_len-le-length in_line z)) (comment _ is) (rw (h, k) refl), is)

pub longest_block : (z : List ℕ) (n : ℕ) → slice_index z 0 ≡ 47 → slice_index z 1 ≡ 42 → close_from 0 (drop 2 z) ≡ Some n → n ≤ length (drop 2 z) → Longest z (2 + n) × IsComment (take (2 + n) z)
unfolding lump_len double_sign
longest_block [] n h k e le = cc
longest_block (b ∷ []) n h k e le = cc
longest_block (b ∷ c ∷ z) n h k e le =
    let r = close_splits z 0 n e in
    let len : n ≡ r.len = omega (arith, r.end) in
    let two : 2 + n ≡ suc (suc r.len) = omega arith in
    let bytes : take (2 + n) (b ∷ c ∷ z) ≡ 47 ∷ 42 ∷ (r.body ++ 42 ∷ 47 ∷ []) = rw (two, h, k, r.bytes) refl in
    let is : IsComment (take (2 + n) (b ∷ c ∷ z)) = inr (r.body, bytes, r.open_before) in
    (longest_from (b ∷ c ∷ z) _ (omega arith) (comment _ is) (rw (h, k, e) refl), is)

pub longest_unclosed : (z : List ℕ) → slice_index z 0 ≡ 47 → slice_index z 1 ≡ 42 → close_from 0 (drop 2 z) ≡ None → Longest z (length z) × IsOpenComment (take (length z) z)
unfolding lump_len double_sign
longest_unclosed [] h k e = cc
longest_unclosed (b ∷ []) h k e = cc
longest_unclosed (b ∷ c ∷ z) h k e =
    let bytes : take (length (b ∷ c ∷ z)) (b ∷ c ∷ z) ≡ 47 ∷ 42 ∷ z = rw (take_all (length z) z (omega arith), h, k) refl in
    let is : IsOpenComment (take (length (b ∷ c ∷ z)) (b ∷ c ∷ z)) = (z, bytes, close_none z 0 e) in
    (longest_from (b ∷ c ∷ z) _ (omega arith) (unclosed _ is) (rw (h, k, e) (omega arith)), is)

pub longest_blank : (z : List ℕ) → is_blank (slice_index z 0) ≡ true → Longest z 1 × IsBlank (take 1 z)
longest_blank [] h = cc
longest_blank (b ∷ z) h =
    let is : IsBlank (take 1 (b ∷ z)) = (b, refl, h) in
    (longest_from (b ∷ z) 1 (omega arith) (blank _ is) (one_blank b z h), is)

pub longest_string : (z : List ℕ) (n : ℕ) → slice_index z 0 ≡ 34 → string_from false 0 (drop 1 z) ≡ Some n → n ≤ length (drop 1 z) → Longest z (1 + n) × IsString (take (1 + n) z)
unfolding lump_len
longest_string [] n h e le = cc
longest_string (b ∷ z) n h e le =
    let r = string_tail false z 0 n e in
    let len : n ≡ r.len = omega (arith, r.end) in
    let bytes : take (1 + n) (b ∷ z) ≡ 34 ∷ take r.len z = rw (one-add n, h) (ap (λ (k : ℕ). 34 ∷ take k z) len) in
    let is : IsString (take (1 + n) (b ∷ z)) = (take r.len z, bytes, r.tail) in
    (longest_from (b ∷ z) _ (omega arith) (string _ is) (rw (h, no_double 34 (slice_index z 0) refl refl, e) refl), is)

pub no_string : (z : List ℕ) → slice_index z 0 ≡ 34 → string_from false 0 (drop 1 z) ≡ None → (m : ℕ) → m ≤ length z → ¬ IsLump (take m z)
unfolding lump_len
no_string [] h e = cc
no_string (b ∷ z) h e = none_from (b ∷ z) (rw (h, no_double 34 (slice_index z 0) refl refl, e) refl)

pub longest_single : (z : List ℕ) (k : Kind) → 0 < length z → is_name_part (slice_index z 0) ≡ false → double_sign (slice_index z 0) (slice_index z 1) ≡ None → (slice_index z 0 ≡ 47 → ⊥) → is_blank (slice_index z 0) ≡ false → (slice_index z 0 ≡ 34 → ⊥) → single_sign (slice_index z 0) ≡ Some k → Longest z 1 × Spells k (take 1 z)
unfolding lump_len
longest_single [] k some name double slash no_blank quote h = absurd (omega arith)
longest_single (b ∷ z) k some name double slash no_blank quote h =
    let e = single_sign_spelled b k h in
    (longest_from (b ∷ z) 1 (omega arith) (sign _ (name, k, e)) (rw (name, double, apart b 47 slash, no_blank, apart b 34 quote, h) refl), spelled_fixed k (b ∷ []) e (λ f. cc))

pub no_sign : (z : List ℕ) → 0 < length z → is_name_part (slice_index z 0) ≡ false → double_sign (slice_index z 0) (slice_index z 1) ≡ None → (slice_index z 0 ≡ 47 → ⊥) → is_blank (slice_index z 0) ≡ false → (slice_index z 0 ≡ 34 → ⊥) → single_sign (slice_index z 0) ≡ None → (m : ℕ) → m ≤ length z → ¬ IsLump (take m z)
unfolding lump_len
no_sign [] some name double slash no_blank quote h = absurd (omega arith)
no_sign (b ∷ z) some name double slash no_blank quote h = none_from (b ∷ z) (rw (name, double, apart b 47 slash, no_blank, apart b 34 quote, h) refl)

pub some_byte : (z : List ℕ) → slice_index z 0 ≡ 34 → 0 < length z
some_byte [] h = cc
some_byte (b ∷ z) h = omega arith
