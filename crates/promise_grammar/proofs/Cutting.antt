-- How a content is cut: what its first piece is.
use Rattle.std.proofs.Common.{◌≡◌, ℕ, suc, ◌+◌, ◌<◌, ◌≤◌, Bool, true, false, cond, List, [], ◌∷◌, length, take, drop, refl, sym, ap, ◌∙◌, arith, ◌-◌, get_or}
use Rattle.std.proofs.Math.Seq.{take-length}
use Rattle.std.proofs.lemmas.List.{length-drop}
use Rattle.std.specs.List.{prefix_len}
use Rattle.std.proofs.lemmas.Grind.{common_steps}
use Rattle.promise_grammar.specs.Word.{is_blank, is_word_byte}
use Rattle.promise_grammar.specs.Piece.{Word, Sign, begins_word, begins_blank, joined, cut}

-- a blank is no byte of a word
pub blank_apart : (b : ℕ) → is_blank b ≡ true → is_word_byte b ≡ false
blank_apart b e = grind (arith, common_steps)

pub cut-blank : (b : ℕ) (bs : List ℕ) → is_blank b ≡ true → cut (b ∷ bs) ≡ cut bs
unfolding cut
cut-blank b bs e = rw (blank_apart b e, e) refl

pub cut-sign : (b : ℕ) (bs : List ℕ) → is_blank b ≡ false → is_word_byte b ≡ false → cut (b ∷ bs) ≡ Sign b ∷ cut bs
unfolding cut
cut-sign b bs e w = rw (w, e) refl

pub cut-word : (b : ℕ) (bs : List ℕ) → is_word_byte b ≡ true → cut (b ∷ bs) ≡ joined (begins_word bs) b (cut bs)
unfolding cut
cut-word b bs w = rw w refl

-- ---- the blanks in front

past_blank : (b : ℕ) (bs : List ℕ) (n : ℕ) (t : Bool) → is_blank b ≡ t → cut (drop n bs) ≡ cut bs → cut (drop (cond t (1 + n) 0) (b ∷ bs)) ≡ cut (b ∷ bs)
past_blank b bs n true e same = let one : 1 + n ≡ suc n = omega arith in rw one (same ∙ sym (cut-blank b bs e))
past_blank b bs n false e same = refl

pub cut-past_blanks : (bs : List ℕ) → cut (drop (prefix_len is_blank bs) bs) ≡ cut bs
cut-past_blanks [] = refl
cut-past_blanks (b ∷ bs) = past_blank b bs (prefix_len is_blank bs) (is_blank b) refl (cut-past_blanks bs)

first_unblank : (b : ℕ) (bs : List ℕ) (n : ℕ) (t : Bool) → is_blank b ≡ t → begins_blank (drop n bs) ≡ false → begins_blank (drop (cond t (1 + n) 0) (b ∷ bs)) ≡ false
first_unblank b bs n true e rest = let one : 1 + n ≡ suc n = omega arith in rw one rest
first_unblank b bs n false e rest = e

pub begins_blank-past_blanks : (bs : List ℕ) → begins_blank (drop (prefix_len is_blank bs) bs) ≡ false
begins_blank-past_blanks [] = refl
begins_blank-past_blanks (b ∷ bs) = first_unblank b bs (prefix_len is_blank bs) (is_blank b) refl (begins_blank-past_blanks bs)

-- ---- the word in front

no_run : (bs : List ℕ) → begins_word bs ≡ false → prefix_len is_word_byte bs ≡ 0
no_run [] e = refl
no_run (b ∷ bs) e = rw e refl

-- the front of n bytes is a word, and the pieces after it those of the rest
abbrev BeginsWith : List ℕ → ℕ → Type 0
BeginsWith bs n = cut bs ≡ Word (take n bs) ∷ cut (drop n bs)

longer_run : (b : ℕ) (bs : List ℕ) (n : ℕ) → is_word_byte b ≡ true → begins_word bs ≡ true → BeginsWith bs n → BeginsWith (b ∷ bs) (suc n)
longer_run b bs n w more is = cut-word b bs w ∙ rw (more, is) refl

one_byte : (b : ℕ) (bs : List ℕ) → is_word_byte b ≡ true → begins_word bs ≡ false → BeginsWith (b ∷ bs) 1
one_byte b bs w none = cut-word b bs w ∙ rw none refl

run_by : (b : ℕ) (bs : List ℕ) (n : ℕ) (t : Bool) → is_word_byte b ≡ true → begins_word bs ≡ t → (t ≡ false → n ≡ 0) → (t ≡ true → BeginsWith bs n) → BeginsWith (b ∷ bs) (suc n)
run_by b bs n true w e none is = longer_run b bs n w e (is refl)
run_by b bs n false w e none is = rw (none refl) (one_byte b bs w e)

pub cut-run : (bs : List ℕ) → begins_word bs ≡ true → BeginsWith bs (prefix_len is_word_byte bs)
cut-run [] w = cc
cut-run (b ∷ bs) w =
    let more : BeginsWith (b ∷ bs) (suc (prefix_len is_word_byte bs)) = run_by b bs (prefix_len is_word_byte bs) (begins_word bs) w refl (no_run bs) (cut-run bs) in
    let count : prefix_len is_word_byte (b ∷ bs) ≡ suc (prefix_len is_word_byte bs) = rw w (omega arith) in
    rw count more

-- ---- the first piece, as the code finds it

pub rest_whole : (n : ℕ) (bs : List ℕ) → take (length bs - n) (drop n bs) ≡ drop n bs
rest_whole n bs = ap (λ k. take k (drop n bs)) (sym (length-drop n bs)) ∙ take-length (drop n bs)

word_by : (bs : List ℕ) (t : Bool) → begins_word bs ≡ t → 0 < prefix_len is_word_byte bs → BeginsWith bs (prefix_len is_word_byte bs)
word_by bs true w some = cut-run bs w
word_by bs false w some = let none = no_run bs w in absurd (omega arith)

pub first_word : (bs : List ℕ) (n : ℕ) → n ≡ prefix_len is_word_byte bs → 0 < n → cut bs ≡ Word (take n bs) ∷ cut (take (length bs - n) (drop n bs))
first_word bs n e some =
    let some_there : 0 < prefix_len is_word_byte bs = omega arith in
    rw (rest_whole n bs, e) (word_by bs (begins_word bs) refl some_there)

no_word : (b : ℕ) (bs : List ℕ) (n : ℕ) (t : Bool) → is_word_byte b ≡ t → cond t (1 + n) 0 ≤ 0 → is_word_byte b ≡ false
no_word b bs n true w none = absurd (omega arith)
no_word b bs n false w none = w

pub first_sign : (bs : List ℕ) → prefix_len is_word_byte bs ≤ 0 → begins_blank bs ≡ false → 0 < length bs → cut bs ≡ Sign (get_or bs 0 0) ∷ cut (take (length bs - 1) (drop 1 bs))
first_sign [] none e some = absurd (omega arith)
first_sign (b ∷ bs) none e some =
    rw (rest_whole 1 (b ∷ bs)) (cut-sign b bs e (no_word b bs (prefix_len is_word_byte bs) (is_word_byte b) refl none))

pub nothing : (bs : List ℕ) → length bs ≤ 0 → cut bs ≡ []
unfolding cut
nothing [] none = refl
nothing (b ∷ bs) none = absurd (omega arith)
