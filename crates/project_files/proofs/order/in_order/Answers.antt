use Rattle.std.proofs.Common.{subst, List, rules}
use Rattle.std.specs.List.Sorted.{IsPermutation}
use Rattle.std.specs.Cmp.Lexicographic.{nat_list_cmp_total}
use Rattle.std.proofs.lemmas.List.MinMax.{ranks_by}
use Rattle.std.proofs.lemmas.List.Sorted.{IsPermutation-map}
use Rattle.std.proofs.lemmas.Fn.{always_returns_same}
use Rattle.bundle.specs.File.{file_of}
use Rattle.bundle.specs.declared.entry.FileEntry.{FileEntry}
use Rattle.project_files.specs.Order.{path_before}
use Rattle.project_files.specs.Kept.{files_of}
use Rattle.project_files.proofs.Lists.{sorted_map}
use Rattle.project_files.proofs.order.in_order.Goals as goal

pub returns : goal.returns
returns c =
    let sorted = c.sort_unstable_by.new.self.items in
    let P : List FileEntry → Type 0 = λ l. IsPermutation (files_of l) (files_of sorted) in
    record {
      same = subst P c.in_ok-sorted.ensures.items (IsPermutation-map file_of c.in_ok-sorted.sorted.items sorted c.sort_unstable_by.ensures.permutation);
      rising = sorted_map file_of path_before sorted
          (c.sort_unstable_by.ensures.sorted (λ (a b : FileEntry). path_before (file_of a) (file_of b)) (ranks_by nat_list_cmp_total (λ (f : FileEntry). f.path.now)) (always_returns_same _ _ _ (λ a r q k. search rules)));
    }
