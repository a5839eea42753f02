-- The loop over the items of a block, turn by turn.
use Rattle.std.proofs.Common.{◌≡◌, ℕ, ◌<◌, true, List, [], ◌∷◌, ◌++◌, length, refl, sym, subst}
use Rattle.java_phrases.specs.Tree.{Token, BlockItem}
use Rattle.java_phrases.specs.Common.{Found, Lost, turns}
use Rattle.java_phrases.proofs.Loops.{Continues, begins, turn_goes, loop_fails}
use Rattle.java_statements.specs.Reading.{goes_on, one_more, block_item, statement}
use Rattle.java_statements.proofs.Sound.{block_item-sound, sound}

module _ (room : ℕ) where
  pub start_is : (start : List Token) (found : List BlockItem) → found ≡ [] → Continues (goes_on room (statement room)) (one_more room (statement room)) start [] found start
  start_is start found is =
      let P : List BlockItem → Type 0 = λ l. Continues (goes_on room (statement room)) (one_more room (statement room)) start [] l start in
      subst P (sym is) (begins (goes_on room (statement room)) (one_more room (statement room)) start [])

  pub item-shorter : (ts rest : List Token) (i : BlockItem) → block_item room (statement room) ts ≡ Found i rest → length rest < length ts
  item-shorter ts rest i e = (block_item-sound room (statement room) (sound room).0 ts rest i e).1

  one_more-is : (found : List BlockItem) (i : BlockItem) (ts rest : List Token) → block_item room (statement room) ts ≡ Found i rest → one_more room (statement room) found ts ≡ Found (found ++ i ∷ []) rest
  unfolding one_more
  one_more-is found i ts rest is = rw is refl

  one_more-lost : (found : List BlockItem) (ts : List Token) → block_item room (statement room) ts ≡ Lost → one_more room (statement room) found ts ≡ Lost
  unfolding one_more
  one_more-lost found ts is = rw is refl

  pub item_more : (start ts rest : List Token) (found more : List BlockItem) (i : BlockItem) → Continues (goes_on room (statement room)) (one_more room (statement room)) start [] found ts → goes_on room (statement room) ts ≡ true
      → block_item room (statement room) ts ≡ Found i rest → more ≡ found ++ i ∷ [] → Continues (goes_on room (statement room)) (one_more room (statement room)) start [] more rest
  item_more start ts rest found more i go on is made =
      let P : List BlockItem → Type 0 = λ l. Continues (goes_on room (statement room)) (one_more room (statement room)) start [] l rest in
      subst P (sym made) (turn_goes (goes_on room (statement room)) (one_more room (statement room)) start [] found (found ++ i ∷ []) ts rest go on (one_more-is found i ts rest is) (item-shorter ts rest i is))

  pub item_fails : (start ts : List Token) (found : List BlockItem) → Continues (goes_on room (statement room)) (one_more room (statement room)) start [] found ts → goes_on room (statement room) ts ≡ true
      → block_item room (statement room) ts ≡ Lost → turns (goes_on room (statement room)) (one_more room (statement room)) [] start ≡ Lost
  item_fails start ts found go on is = loop_fails (goes_on room (statement room)) (one_more room (statement room)) start [] found ts go on (one_more-lost found ts is)
