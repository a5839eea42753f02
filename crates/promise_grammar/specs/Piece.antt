-- Pieces of a content: its words, and its signs.
use Rattle.std.specs.Prelude.{ℕ, Bool, true, false, if◌then◌else◌, List, [], ◌∷◌}
use Rattle.promise_grammar.specs.Word.{is_blank, is_word_byte}

-- a longest run of bytes of words, or another byte that is no blank
pub data Piece : Type 0 where
  Word : List ℕ → Piece
  Sign : ℕ → Piece

-- a word goes on here
abbrev pub begins_word : List ℕ → Bool
begins_word [] = false
begins_word (b ∷ bs) = is_word_byte b

-- a blank comes next
abbrev pub begins_blank : List ℕ → Bool
begins_blank [] = false
begins_blank (b ∷ bs) = is_blank b

-- a byte more in the word in front
abbrev pub lengthened : ℕ → List Piece → List Piece
lengthened b [] = Word (b ∷ []) ∷ []
lengthened b (Word w ∷ ps) = Word (b ∷ w) ∷ ps
lengthened b (Sign s ∷ ps) = Word (b ∷ []) ∷ Sign s ∷ ps

-- a byte of a word before the pieces, joined with a word that goes on right after it
abbrev pub joined : Bool → ℕ → List Piece → List Piece
joined true b ps = lengthened b ps
joined false b ps = Word (b ∷ []) ∷ ps

-- The pieces of a content. Blanks separate words and say nothing else.
unfoldable pub cut : List ℕ → List Piece
cut [] = []
cut (b ∷ bs) =
    if is_word_byte b then joined (begins_word bs) b (cut bs)
    else (if is_blank b then cut bs else Sign b ∷ cut bs)
