-- The files of a bundle, as they are taken off its front.
use Rattle.std.proofs.Common.{◌≡◌, ℕ, List, [], ◌∷◌, ◌++◌, ap, sym, ◌∙◌, subst, append_assoc, append-nil}
use Rattle.std.specs.List.{All}
use Rattle.bundle.specs.Entry.{Entry, IsEntry, entry_bytes}
use Rattle.bundle.specs.Bundle.{entries_bytes, end_line, IsBundle}
use Rattle.bundle.proofs.Whole.{each_head, each_tail, one_entry}

-- these files of a bundle were taken, and the rest is that of the bundle behind them
pub record Taken (bytes : List ℕ) (taken : List Entry) (rest : List ℕ) : Type 0 where
  pub more : List Entry
  pub fits : All IsEntry more
  pub bundle : IsBundle (taken ++ more) bytes
  pub left : rest ≡ entries_bytes more ++ end_line

pub none_taken : (all : List Entry) (bytes : List ℕ) → IsBundle all bytes → Taken bytes [] bytes
none_taken all bytes is = record { more = all; fits = is.good.each; bundle = is; left = is.whole }

pub one_taken : (bytes : List ℕ) (taken : List Entry) (rest after : List ℕ) (e : Entry) → Taken bytes taken rest → IsEntry e → rest ≡ entry_bytes e ++ after → Taken bytes (taken ++ (e ∷ [])) after
one_taken bytes taken rest after e t good whole = taken_by t.more t.fits t.bundle t.left
  where
    taken_by : (more : List Entry) → All IsEntry more → IsBundle (taken ++ more) bytes → rest ≡ entries_bytes more ++ end_line → Taken bytes (taken ++ (e ∷ [])) after
    taken_by [] fits is left = let same : entry_bytes e ++ after ≡ end_line = sym whole ∙ left in cc
    taken_by (f ∷ more) fits is left =
        let one = one_entry e f after (entries_bytes more ++ end_line) good (each_head f more fits) (sym whole ∙ left ∙ append_assoc (entry_bytes f) (entries_bytes more) end_line) in
        let P : List Entry → Type 0 = λ l. IsBundle l bytes in
        record {
          more = more;
          fits = each_tail f more fits;
          bundle = subst P (ap (λ x. taken ++ (x ∷ more)) (sym one.0) ∙ sym (append_assoc taken (e ∷ []) more)) is;
          left = one.1;
        }

-- where no entry begins the rest, all were taken
pub all_taken : (bytes : List ℕ) (taken : List Entry) (rest : List ℕ) → Taken bytes taken rest → ((e : Entry) (after : List ℕ) → IsEntry e → rest ≡ entry_bytes e ++ after → ⊥) → IsBundle taken bytes
all_taken bytes taken rest t none = taken_by t.more t.fits t.bundle t.left
  where
    taken_by : (more : List Entry) → All IsEntry more → IsBundle (taken ++ more) bytes → rest ≡ entries_bytes more ++ end_line → IsBundle taken bytes
    taken_by [] fits is left = let P : List Entry → Type 0 = λ l. IsBundle l bytes in subst P (append-nil taken) is
    taken_by (f ∷ more) fits is left = absurd (none f (entries_bytes more ++ end_line) (each_head f more fits) (left ∙ append_assoc (entry_bytes f) (entries_bytes more) end_line))
