-- The paths that files may have.
use Rattle.std.specs.Prelude.{ℕ, ◌==◌, ◌||◌, ◌&&◌, not, nat_le, nat_eq, Bool, List, [], length, codes, Option, Some, None}
use Rattle.std.specs.Char.{is_ascii_alphanumeric}
use Rattle.std.specs.Cmp.Lexicographic.{pointwise}
use Rattle.std.specs.List.{list_all, ends_with, slice_split}

-- a letter, a digit, `_`, `-`, `.` or `/`
abbrev pub is_path_byte : ℕ → Bool
is_path_byte b = is_ascii_alphanumeric b || (b == 95 || b == 45 || b == 46 || b == 47)

-- what may stand between two slashes: not nothing, `.` or `..`
abbrev pub is_good_part : List ℕ → Bool
is_good_part part =
    not (pointwise nat_eq part []) && not (pointwise nat_eq part (codes ".")) && not (pointwise nat_eq part (codes ".."))

-- the parts of what comes after a slash; none where there is no slash
abbrev pub parts_after : Option (List ℕ) → List (List ℕ)
parts_after None = []
parts_after (Some rest) = slice_split (λ b. b == 47) rest

-- at most 255 bytes, ending with `.java`, good between its slashes
abbrev pub is_good_path : List ℕ → Bool
is_good_path path =
    nat_le (length path) 255
    && list_all is_path_byte path
    && ends_with nat_eq path (codes ".java")
    && list_all is_good_part (slice_split (λ b. b == 47) path)
