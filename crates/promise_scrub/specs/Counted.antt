-- The annotations of a unit that count, by their numbers.
use Rattle.std.specs.Prelude.{◌≡◌, ◌⊎◌, ℕ, ◌+◌, List, [], ◌∷◌, Option, Some, take}
use Rattle.std.specs.List.{slice_get}
use Rattle.promise_scrub.specs.Steps.{number_in}
use Rattle.promise_scrub.specs.Verdicts.{Judged, counts}
use Rattle.promise_scrub.specs.declared.surface.Aside.{Aside}

-- the k-th annotation, from 1, of which something is left
pub record IsCounted (js : List Judged) (k : ℕ) (j : Judged) : Type 0 where
  pub place : ℕ
  pub there : slice_get js place ≡ Some j
  pub left : counts j.verdict ≡ 1
  pub number : k ≡ number_in (take place js) + 1

-- it is among these
abbrev pub IsAmong : Aside → List Aside → Type 0
IsAmong a [] = ⊥
IsAmong a (b ∷ bs) = (a ≡ b) ⊎ IsAmong a bs
