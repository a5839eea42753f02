-- A text that has been written so far.
use Rattle.std.proofs.Common.{◌≡◌, ℕ, ◌-◌, ◌++◌, List, Option, Some, None, length, take, drop, ap, sym, ◌∙◌, append_assoc, subst}
use Rattle.std.proofs.lemmas.List.{take-append-drop, length-drop}
use Rattle.desk_base.specs.Fault.{StaysUntold}
use Rattle.promise_desk.specs.Output.{HasRoom, Wrote}

-- the sink, where it tells its bytes, has the front at its end
abbrev pub WrittenAfter : Option (List ℕ) → Option (List ℕ) → List ℕ → Type 0
WrittenAfter None new front = new ≡ None
WrittenAfter (Some old) new front = new ≡ Some (old ++ front)

-- a front of the text is written, and the rest is left
abbrev pub Written : Option (List ℕ) → Option (List ℕ) → List ℕ → List ℕ → Type 0
Written old new text rest = (front : List ℕ) × (text ≡ front ++ rest) × WrittenAfter old new front

given_after : (first old new : Option (List ℕ)) (front piece : List ℕ) → WrittenAfter first old front → Wrote old new piece → StaysUntold old new → WrittenAfter first new (front ++ piece)
given_after None None new front piece after wrote untold = untold
given_after None (Some old) new front piece after wrote untold = cc
given_after (Some first) None new front piece after wrote untold = cc
given_after (Some first) (Some old) new front piece after wrote untold =
    let same = some_same _ _ after in
    wrote ∙ ap (λ l. Some (l ++ piece)) same ∙ ap (λ l. Some l) (append_assoc first front piece)
  where
    some_same : (x y : List ℕ) → Some x ≡ Some y → x ≡ y
    some_same x y e = cc

pub written_more : (first old new : Option (List ℕ)) (text rest : List ℕ) (n : ℕ) → Written first old text rest → Wrote old new (take n rest) → StaysUntold old new → Written first new text (drop n rest)
written_more first old new text rest n written wrote untold = (
  written.0 ++ take n rest,
  written.1 ∙ ap (λ l. written.0 ++ l) (sym (take-append-drop n rest)) ∙ sym (append_assoc written.0 (take n rest) (drop n rest)),
  given_after first old new written.0 (take n rest) written.2 wrote untold,
)

pub room_more : (room : Option ℕ) (rest : List ℕ) (n : ℕ) → HasRoom room (length rest - n) → HasRoom room (length (drop n rest))
room_more room rest n has = subst (HasRoom room) (sym (length-drop n rest)) has
