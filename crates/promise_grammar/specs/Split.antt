-- Where a content is split.
use Rattle.std.specs.Prelude.{ℕ, not, ◌&&◌, if◌then◌else◌, ◌==◌, List, [], ◌∷◌, Option, Some, None}
use Rattle.std.specs.List.{list_all}
use Rattle.promise_grammar.specs.Word.{is_blank}

-- one byte more in front
abbrev pub longer_front : ℕ → Option (List ℕ × List ℕ) → Option (List ℕ × List ℕ)
longer_front b None = None
longer_front b (Some p) = Some (b ∷ p.0, p.1)

-- what stands before the first such byte, and after it
abbrev pub first_split : ℕ → List ℕ → Option (List ℕ × List ℕ)
first_split s [] = None
first_split s (b ∷ bs) = if b == s then Some ([], bs) else longer_front b (first_split s bs)

-- the split of what stands later, where there is one, and else the split here
abbrev pub later_or : ℕ → List ℕ → Option (List ℕ × List ℕ) → Option (List ℕ × List ℕ)
later_or b bs None = if b == 41 && not (list_all is_blank bs) then Some ([], bs) else None
later_or b bs (Some p) = Some (b ∷ p.0, p.1)

-- what stands before the last `)` that more than blanks follow, and after it
abbrev pub closing_split : List ℕ → Option (List ℕ × List ℕ)
closing_split [] = None
closing_split (b ∷ bs) = later_or b bs (closing_split bs)
