-- Bytes are a token of one kind at most, and no token where they are a blank or a comment.
use Rattle.std.proofs.Common.{◌≡◌, ◌≢◌, ℕ, ◌⊎◌, true, false, ◌==◌, cond, Option, Some, None, List, [], ◌∷◌, ◌++◌, slice_index, refl, sym, ◌∙◌, ap, inl, inr, subst, arith, rules}
use Rattle.std.specs.List.{list_all}
use Rattle.std.specs.Option.{unwrap_or}
use Rattle.std.specs.Str.{bytes_eq}
use Rattle.std.specs.Char.{is_ascii_digit}
use Rattle.std.proofs.lemmas.Bool.{eqb-true, or_right, and_parts, cases_Bool, both_ways}
use Rattle.std.proofs.lemmas.Slice.Eq.{bytes_eq-Decides}
use Rattle.java_tree.specs.declared.kind.Kind.{Kind}
use Rattle.java_tree.specs.declared.kind.Kind.TheVariants as kind
use Rattle.java_lexer.specs.Chars.{is_name_part}
use Rattle.java_lexer.specs.Spelling.{spelling}
use Rattle.java_lexer.specs.Words.{Table, lookup, words}
use Rattle.java_lexer.specs.Scan.{choose, before_equals, twice, single, double_sign, single_sign}
use Rattle.java_lexer.specs.Lumps.{IsBlank, IsComment, IsOpenComment, IsRun, IsString, IsInt, has_close}
use Rattle.java_lexer.specs.Lexing.{Spells, IsGap, IsNothing}
use Rattle.java_lexer.proofs.Bytes.{chosen, at_blank}

-- ---- from bytes to kinds

unfoldable pub sign_of : List ℕ → Option Kind
sign_of [] = None
sign_of (b ∷ []) = single_sign b
sign_of (b ∷ c ∷ []) = double_sign b c
sign_of (b ∷ c ∷ d ∷ rest) = None

pub fixed_of : List ℕ → Option Kind
fixed_of [] = None
fixed_of (b ∷ rest) = cond (is_name_part b) (lookup words (b ∷ rest)) (sign_of (b ∷ rest))

-- what has a spelling is found by it
pub known : (k : Kind) → (spelling k ≡ []) ⊎ (fixed_of (spelling k) ≡ Some k)
unfolding fixed_of sign_of words double_sign single_sign
known kind.Name = inl refl
known kind.IntLiteral = inl refl
known kind.StrLiteral = inl refl
known k = inr refl

-- ---- from kinds to bytes

-- each entry has its kind's spelling
abbrev pub AreSpelled : Table → Type 0
AreSpelled [] = Unit {0}
AreSpelled (e ∷ es) = (e.0 ≡ spelling e.1) × AreSpelled es

words_spelled : AreSpelled words
unfolding words
words_spelled = search rules

lookup_spelled : (t : Table) → AreSpelled t → (word : List ℕ) (k : Kind) → lookup t word ≡ Some k → word ≡ spelling k
lookup_spelled [] h word k e = cc
lookup_spelled (x ∷ t) h word k e = elim (chosen (bytes_eq x.0 word) (Some x.1) (lookup t word) (Some k) e) [
  | inl y ↦ let same : x.1 ≡ k = cc in sym ((bytes_eq-Decides x.0 word).0 y.0) ∙ h.0 ∙ ap spelling same
  | inr y ↦ lookup_spelled t h.1 word k y.1
]

pub word_spelled : (word : List ℕ) (k : Kind) → lookup words word ≡ Some k → word ≡ spelling k
word_spelled word k e = lookup_spelled words words_spelled word k e

abbrev pub AreChosen : (ℕ → List ℕ) → List (ℕ × Kind) → Type 0
AreChosen bytes [] = Unit {0}
AreChosen bytes (e ∷ es) = (bytes e.0 ≡ spelling e.1) × AreChosen bytes es

choose_spelled : (bytes : ℕ → List ℕ) (t : List (ℕ × Kind)) → AreChosen bytes t → (b : ℕ) (k : Kind) → choose t b ≡ Some k → bytes b ≡ spelling k
choose_spelled bytes [] h b k e = cc
choose_spelled bytes (x ∷ t) h b k e = elim (chosen (b == x.0) (Some x.1) (choose t b) (Some k) e) [
  | inl y ↦ let same : x.1 ≡ k = cc in ap bytes (eqb-true b x.0 y.0) ∙ h.0 ∙ ap spelling same
  | inr y ↦ choose_spelled bytes t h.1 b k y.1
]

equals_spelled : AreChosen (λ b. b ∷ 61 ∷ []) before_equals
equals_spelled = search rules

twice_spelled : AreChosen (λ b. b ∷ b ∷ []) twice
twice_spelled = search rules

single_spelled : AreChosen (λ b. b ∷ []) single
single_spelled = search rules

pub single_sign_spelled : (b : ℕ) (k : Kind) → single_sign b ≡ Some k → b ∷ [] ≡ spelling k
unfolding single_sign
single_sign_spelled b k e = choose_spelled (λ (x : ℕ). x ∷ []) single single_spelled b k e

pub double_sign_spelled : (b c : ℕ) (k : Kind) → double_sign b c ≡ Some k → b ∷ c ∷ [] ≡ spelling k
unfolding double_sign
double_sign_spelled b c k e = elim (chosen (c == 61) (choose before_equals b) (cond (b == c) (choose twice b) None) (Some k) e) [
  | inl y ↦ ap (λ (x : ℕ). b ∷ x ∷ []) (eqb-true c 61 y.0) ∙ choose_spelled (λ (x : ℕ). x ∷ 61 ∷ []) before_equals equals_spelled b k y.1
  | inr y ↦ elim (chosen (b == c) (choose twice b) None (Some k) y.1) [
    | inl w ↦ ap (λ (x : ℕ). b ∷ x ∷ []) (sym (eqb-true b c w.0)) ∙ choose_spelled (λ (x : ℕ). x ∷ x ∷ []) twice twice_spelled b k w.1
    | inr w ↦ cc
  ]
]

-- ---- one kind at most

pub kind_of : List ℕ → Option Kind
kind_of [] = None
kind_of (b ∷ rest) =
    cond (b == 34) (Some kind.StrLiteral) (cond (is_ascii_digit b) (Some kind.IntLiteral)
    (cond (is_name_part b) (Some (unwrap_or (lookup words (b ∷ rest)) kind.Name)) (sign_of (b ∷ rest))))

not_quote : (b : ℕ) → is_name_part b ≡ true → (b == 34) ≡ false
not_quote b h = elim (cases_Bool (b == 34)) [
  | inl e ↦ let f : is_name_part 34 ≡ true = subst (λ (x : ℕ). is_name_part x ≡ true) (eqb-true b 34 e) h in cc
  | inr e ↦ e
]

digit_not_quote : (b : ℕ) → is_ascii_digit b ≡ true → (b == 34) ≡ false
digit_not_quote b h = elim (cases_Bool (b == 34)) [
  | inl e ↦ let f : is_ascii_digit 34 ≡ true = subst (λ (x : ℕ). is_ascii_digit x ≡ true) (eqb-true b 34 e) h in cc
  | inr e ↦ e
]

no_word : (o : Option Kind) → ((k : Kind) → o ≡ Some k → ⊥) → unwrap_or o kind.Name ≡ kind.Name
no_word None h = refl
no_word (Some k) h = absurd (h k refl)

named : (bytes : List ℕ) → IsRun bytes → is_ascii_digit (slice_index bytes 0) ≡ false → ((word : Kind) → bytes ≢ spelling word) → kind_of bytes ≡ Some kind.Name
unfolding kind_of
named [] run digit none = absurd run
named (b ∷ rest) run digit none =
    let name : is_name_part b ≡ true = (and_parts (is_name_part b) (list_all is_name_part rest) run).0 in
    let quote = not_quote b name in
    rw (quote, name, digit) (ap (λ (k : Kind). Some k) (no_word (lookup words (b ∷ rest)) (λ k e. none k (word_spelled (b ∷ rest) k e))))

whole : (bytes : List ℕ) → IsInt bytes → kind_of bytes ≡ Some kind.IntLiteral
unfolding kind_of
whole [] h = absurd h
whole (b ∷ rest) h =
    let digit : is_ascii_digit b ≡ true = (and_parts (is_ascii_digit b) (list_all is_ascii_digit rest) h.0).0 in
    let quote = digit_not_quote b digit in
    rw (quote, digit) refl

quoted : (bytes : List ℕ) → IsString bytes → kind_of bytes ≡ Some kind.StrLiteral
unfolding kind_of
quoted bytes h = rw h.1 refl

pub spells_kind : (k : Kind) (bytes : List ℕ) → Spells k bytes → kind_of bytes ≡ Some k
unfolding kind_of fixed_of sign_of words double_sign single_sign
spells_kind kind.Name bytes h = named bytes h.0 h.1 h.2
spells_kind kind.IntLiteral bytes h = whole bytes h
spells_kind kind.StrLiteral bytes h = quoted bytes h
spells_kind k bytes h = rw h refl

-- ---- no kind at all

pub blank_kind : (bytes : List ℕ) → IsBlank bytes → kind_of bytes ≡ None
unfolding kind_of sign_of single_sign
blank_kind bytes h = rw h.1 (at_blank (λ (b : ℕ). kind_of (b ∷ []) ≡ None) refl refl refl refl refl h.0 h.2)

slash_kind : (c : ℕ) (body : List ℕ) → double_sign 47 c ≡ None → kind_of (47 ∷ c ∷ body) ≡ None
unfolding kind_of sign_of
slash_kind c [] h = h
slash_kind c (d ∷ body) h = refl

line_kind : (body : List ℕ) → kind_of (47 ∷ 47 ∷ body) ≡ None
unfolding double_sign
line_kind body = slash_kind 47 body refl

block_kind : (body : List ℕ) → kind_of (47 ∷ 42 ∷ body) ≡ None
unfolding double_sign
block_kind body = slash_kind 42 body refl

pub comment_kind : (bytes : List ℕ) → IsComment bytes → kind_of bytes ≡ None
comment_kind bytes (inl h) = rw h.1 (line_kind h.0)
comment_kind bytes (inr h) = rw h.1 (block_kind (h.0 ++ 42 ∷ 47 ∷ []))

pub gap_kind : (bytes : List ℕ) → IsGap bytes → kind_of bytes ≡ None
gap_kind bytes (inl h) = blank_kind bytes h
gap_kind bytes (inr h) = comment_kind bytes h.0

-- a blank is no comment
pub blank_alone : (bytes : List ℕ) → IsBlank bytes → IsComment bytes → ⊥
blank_alone bytes blank (inl h) = let e : blank.0 ∷ [] ≡ 47 ∷ 47 ∷ h.0 = sym blank.1 ∙ h.1 in cc
blank_alone bytes blank (inr h) = let e : blank.0 ∷ [] ≡ 47 ∷ 42 ∷ (h.0 ++ 42 ∷ 47 ∷ []) = sym blank.1 ∙ h.1 in cc

-- ---- pieces that are nothing

has_closed : (body rest : List ℕ) → has_close (body ++ 42 ∷ 47 ∷ rest) ≡ true
has_closed [] rest = refl
has_closed (b ∷ body) rest = or_right _ _ (has_closed body rest)

pub unclosed_nothing : (bytes : List ℕ) → IsOpenComment bytes → IsNothing bytes
unclosed_nothing bytes h =
    let none : kind_of bytes ≡ None = rw h.1 (block_kind h.0) in
    record {
      no_token = λ k s. let e = spells_kind k bytes s in cc;
      no_blank = λ blank. let e : blank.0 ∷ [] ≡ 47 ∷ 42 ∷ h.0 = sym blank.1 ∙ h.1 in cc;
      no_comment = λ c. elim c [
        | inl line ↦ let f : slice_index (47 ∷ 47 ∷ line.0) 1 ≡ slice_index (47 ∷ 42 ∷ h.0) 1 = ap (λ (xs : List ℕ). slice_index xs 1) (sym line.1 ∙ h.1) in omega arith
        | inr block ↦
            let e : 47 ∷ 42 ∷ (block.0 ++ 42 ∷ 47 ∷ []) ≡ 47 ∷ 42 ∷ h.0 = sym block.1 ∙ h.1 in
            let same : block.0 ++ 42 ∷ 47 ∷ [] ≡ h.0 = cc in
            both_ways (has_close h.0) h.2 (rw (← same) (has_closed block.0 []))
      ];
    }

digit_kind : (b : ℕ) (rest : List ℕ) → is_ascii_digit b ≡ true → kind_of (b ∷ rest) ≡ Some kind.IntLiteral
unfolding kind_of
digit_kind b rest h = let quote = digit_not_quote b h in rw (quote, h) refl

number_nothing_from : (b : ℕ) (rest : List ℕ) → is_ascii_digit b ≡ true → ¬ IsInt (b ∷ rest) → IsNothing (b ∷ rest)
number_nothing_from b rest h not_int = record {
  no_token = λ k s.
      let e : Some k ≡ Some kind.IntLiteral = sym (spells_kind k (b ∷ rest) s) ∙ digit_kind b rest h in
      let same : k ≡ kind.IntLiteral = cc in
      not_int (subst (λ (x : Kind). Spells x (b ∷ rest)) same s);
  no_blank = λ blank. let e = blank_kind (b ∷ rest) blank in let f = digit_kind b rest h in cc;
  no_comment = λ c. let e = comment_kind (b ∷ rest) c in let f = digit_kind b rest h in cc;
}

pub number_nothing : (bytes : List ℕ) → is_ascii_digit (slice_index bytes 0) ≡ true → ¬ IsInt bytes → IsNothing bytes
number_nothing [] h not_int = cc
number_nothing (b ∷ rest) h not_int = number_nothing_from b rest h not_int

-- ---- what a token's bytes spell

pub spelled_fixed : (k : Kind) (bytes : List ℕ) → bytes ≡ spelling k → (bytes ≡ [] → ⊥) → Spells k bytes
spelled_fixed kind.Name bytes h some = absurd (some h)
spelled_fixed kind.IntLiteral bytes h some = absurd (some h)
spelled_fixed kind.StrLiteral bytes h some = absurd (some h)
spelled_fixed k bytes h some = h

fixed_word : (b : ℕ) (rest : List ℕ) → is_name_part b ≡ true → fixed_of (b ∷ rest) ≡ lookup words (b ∷ rest)
unfolding fixed_of
fixed_word b rest name = rw name refl

fixed_sign : (b : ℕ) (rest : List ℕ) → is_name_part b ≡ false → fixed_of (b ∷ rest) ≡ sign_of (b ∷ rest)
unfolding fixed_of
fixed_sign b rest name = rw name refl

pub sign_found : (b : ℕ) (rest : List ℕ) (k : Kind) → is_name_part b ≡ false → b ∷ rest ≡ spelling k → sign_of (b ∷ rest) ≡ Some k
sign_found b rest k name h = elim (known k) [
  | inl none ↦ let e : b ∷ rest ≡ [] = h ∙ none in cc
  | inr is ↦ sym (fixed_sign b rest name) ∙ ap fixed_of h ∙ is
]

-- a run that is not in the table is no kind's spelling
pub word_unknown : (bytes : List ℕ) → IsRun bytes → lookup words bytes ≡ None → (word : Kind) → bytes ≢ spelling word
word_unknown [] run none word h = absurd run
word_unknown (b ∷ rest) run none word h =
    let name : is_name_part b ≡ true = (and_parts (is_name_part b) (list_all is_name_part rest) run).0 in
    elim (known word) [
      | inl nil ↦ let e : b ∷ rest ≡ [] = h ∙ nil in cc
      | inr is ↦ let e : None ≡ Some word = sym none ∙ sym (fixed_word b rest name) ∙ ap fixed_of h ∙ is in cc
    ]
