-- Files in the order of their paths.
use Rattle.std.specs.Prelude.{Bool, List}
use Rattle.std.specs.List.Sorted.{IsPermutation, IsSortedBy}
use Rattle.std.specs.Ordering.{nat_cmp, is_lt}
use Rattle.std.specs.Cmp.Lexicographic.{slice_cmp}
use Rattle.bundle.specs.Entry.{Entry}

-- by the bytes of their paths the one file comes before the other
abbrev pub path_before : Entry → Entry → Bool
path_before a b = is_lt (slice_cmp nat_cmp a.path b.path)

-- the same files by the bytes of their paths
pub record InOrder (files sorted : List Entry) : Type 0 where
  pub same : IsPermutation files sorted
  pub rising : IsSortedBy path_before sorted
