-- Counts of parameters, as they are written.
use Rattle.std.specs.Prelude.{◌≡◌, ℕ, ◌+◌, ◌-◌, ◌*◌, ◌<◌, nat_lt, true, ◌&&◌, if◌then◌else◌, ◌==◌, List, [], ◌∷◌, length, slice_index, Option, Some, None}
use Rattle.std.specs.Char.{is_ascii_digit}
use Rattle.std.specs.List.{list_all}

-- the number that decimals stand for, behind one that stands before them
abbrev pub value_from : ℕ → List ℕ → ℕ
value_from n [] = n
value_from n (d ∷ ds) = value_from (n * 10 + (d - 48)) ds

-- Decimals without a leading zero spell the count.
pub record IsCount (digits : List ℕ) (n : ℕ) : Type 0 where
  pub some : 0 < length digits
  pub each : list_all is_ascii_digit digits ≡ true
  pub plain : slice_index digits 0 ≡ 48 → length digits ≡ 1
  pub value : value_from 0 digits ≡ n
  pub small : n < 2147483648

-- ---- the reader

abbrev pub count_from : ℕ → List ℕ → Option ℕ
count_from n [] = Some n
count_from n (d ∷ ds) =
    if is_ascii_digit d && nat_lt (n * 10 + (d - 48)) 2147483648 then count_from (n * 10 + (d - 48)) ds else None

abbrev pub count_of : List ℕ → Option ℕ
count_of [] = None
count_of (d ∷ []) = count_from 0 (d ∷ [])
count_of (d ∷ e ∷ ds) = if d == 48 then None else count_from 0 (d ∷ e ∷ ds)
