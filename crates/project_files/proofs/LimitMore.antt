-- The limits of files, as the code counts them.
use Rattle.std.proofs.Common.{◌≡◌, ◌||◌, ℕ, nat_lt, true, false, List, [], ◌∷◌, length, map, Some, None, refl, ap, sym, ◌∙◌}
use Rattle.std.specs.List.{list_any, sum_by}
use Rattle.std.proofs.lemmas.List.Sums.{sum-map}
use Rattle.bundle.specs.Entry.{Entry}
use Rattle.bundle.specs.declared.entry.FileEntry.{FileEntry}
use Rattle.desk_base.specs.declared.limit.LimitName.TheVariants as limit
use Rattle.desk_base.specs.Limit.{limit_max}
use Rattle.project_files.specs.Kept.{files_of}
use Rattle.project_files.specs.Limits.{passed_limit}

pub long_file : (most : ℕ) (files : List FileEntry) → list_any (λ (e : Entry). nat_lt most (length e.text)) (files_of files) ≡ list_any (λ (f : FileEntry). nat_lt most (length f.text.now)) files
long_file most [] = refl
long_file most (f ∷ files) = ap (λ b. nat_lt most (length f.text.now) || b) (long_file most files)

lengths : (files : List FileEntry) → map (λ (e : Entry). length e.text) (files_of files) ≡ map (λ (f : FileEntry). length f.text.now) files
lengths [] = refl
lengths (f ∷ files) = ap (λ l. length f.text.now ∷ l) (lengths files)

pub text_sum : (files : List FileEntry) → sum_by (λ (e : Entry). length e.text) (files_of files) ≡ sum_by (λ (f : FileEntry). length f.text.now) files
text_sum files = sym (sum-map (λ (e : Entry). length e.text) (files_of files)) ∙ ap (λ l. sum_by (λ x. x) l) (lengths files) ∙ sum-map (λ (f : FileEntry). length f.text.now) files

module _ (files : List Entry) (few : nat_lt (limit_max limit.Files) (length files) ≡ false) where
  pub past_file_bytes : list_any (λ (e : Entry). nat_lt (limit_max limit.FileBytes) (length e.text)) files ≡ true → Some limit.FileBytes ≡ passed_limit files
  past_file_bytes long = rw (few, long) refl

  pub past_text_bytes : list_any (λ (e : Entry). nat_lt (limit_max limit.FileBytes) (length e.text)) files ≡ false → nat_lt (limit_max limit.TextBytes) (sum_by (λ (e : Entry). length e.text) files) ≡ true → Some limit.TextBytes ≡ passed_limit files
  past_text_bytes short long = rw (few, short, long) refl

  pub past_none : list_any (λ (e : Entry). nat_lt (limit_max limit.FileBytes) (length e.text)) files ≡ false → nat_lt (limit_max limit.TextBytes) (sum_by (λ (e : Entry). length e.text) files) ≡ false → None ≡ passed_limit files
  past_none short few_bytes = rw (few, short, few_bytes) refl
