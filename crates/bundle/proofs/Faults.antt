-- Bytes have one place of fault at most.
use Rattle.std.proofs.Common.{◌≡◌, ◌≢◌, ℕ, ◌+◌, ◌⊎◌, inl, inr, length, List, [], ◌∷◌, ◌++◌, refl, ap, sym, ◌∙◌, subst, append_assoc, append-nil}
use Rattle.std.specs.List.{All}
use Rattle.bundle.specs.Entry.{Entry, IsEntry, entry_bytes}
use Rattle.bundle.specs.Bundle.{AreFiles, entries_bytes, end_line, Stops, BadAt, NoNewEntry, NoEnd}
use Rattle.bundle.proofs.Whole.{each_head, each_tail, front_files, none_more, one_entry}

-- the second list is the first one and more entries, which begin what the first one leaves
record GoesOn (front all : List Entry) (rest left : List ℕ) : Type 0 where
  more : List Entry
  files : all ≡ front ++ more
  split : rest ≡ entries_bytes more ++ left

longer : (e : Entry) (front all : List Entry) (rest left : List ℕ) → GoesOn front all rest left → GoesOn (e ∷ front) (e ∷ all) rest left
longer e front all rest left g = record { more = g.more; files = ap (λ l. e ∷ l) g.files; split = g.split }

abbrev EitherGoesOn : List Entry → List Entry → List ℕ → List ℕ → Type 0
EitherGoesOn front all rest left = GoesOn front all rest left ⊎ GoesOn all front left rest

both_longer : (e : Entry) (front all : List Entry) (rest left : List ℕ) → EitherGoesOn front all rest left → EitherGoesOn (e ∷ front) (e ∷ all) rest left
both_longer e front all rest left (inl g) = inl (longer e front all rest left g)
both_longer e front all rest left (inr g) = inr (longer e all front left rest g)

-- of two lists of entries that begin the same bytes, one goes on with the other
one_goes_on : (front all : List Entry) (rest left : List ℕ) → All IsEntry front → All IsEntry all → entries_bytes front ++ rest ≡ entries_bytes all ++ left → EitherGoesOn front all rest left
one_goes_on [] all rest left fits fits' same = inl (record { more = all; files = refl; split = same })
one_goes_on (e ∷ front) [] rest left fits fits' same = inr (record { more = e ∷ front; files = refl; split = sym same })
one_goes_on (e ∷ front) (f ∷ all) rest left fits fits' same =
    let grouped : entry_bytes e ++ (entries_bytes front ++ rest) ≡ entry_bytes f ++ (entries_bytes all ++ left) = sym (append_assoc (entry_bytes e) (entries_bytes front) rest) ∙ same ∙ append_assoc (entry_bytes f) (entries_bytes all) left in
    let one = one_entry e f _ _ (each_head e front fits) (each_head f all fits') grouped in
    let P : Entry → Type 0 = λ x. EitherGoesOn (e ∷ front) (x ∷ all) rest left in
    subst P one.0 (both_longer e front all rest left (one_goes_on front all rest left (each_tail e front fits) (each_tail f all fits') one.1))

-- behind entries that no new one follows, nothing goes on
goes_nowhere : (bytes rest : List ℕ) (all : List Entry) (left : List ℕ) → (stop : Stops bytes rest) → AreFiles all → GoesOn stop.files all rest left → (stop.files ≡ all) × (rest ≡ left)
goes_nowhere bytes rest all left stop good g = by_more g.more g.files g.split
  where
    by_more : (more : List Entry) → all ≡ stop.files ++ more → rest ≡ entries_bytes more ++ left → (stop.files ≡ all) × (rest ≡ left)
    by_more [] files split = (sym (files ∙ append-nil stop.files), split)
    by_more (f ∷ more) files split = absurd (stop.last f (entries_bytes more ++ left) (split ∙ append_assoc (entry_bytes f) (entries_bytes more) left)
        (front_files (stop.files ++ (f ∷ [])) more (subst AreFiles (files ∙ sym (append_assoc stop.files (f ∷ []) more)) good)))

-- bytes stop in one way
one_stop : (bytes rest left : List ℕ) → (stop : Stops bytes rest) → (other : Stops bytes left) → (stop.files ≡ other.files) × (rest ≡ left)
one_stop bytes rest left stop other = by_either (one_goes_on stop.files other.files rest left stop.good.each other.good.each (sym stop.split ∙ other.split))
  where
    by_either : EitherGoesOn stop.files other.files rest left → (stop.files ≡ other.files) × (rest ≡ left)
    by_either (inl g) = goes_nowhere bytes rest other.files left stop other.good g
    by_either (inr g) = let (files, split) = goes_nowhere bytes left stop.files rest other stop.good g in (sym files, sym split)

-- ---- the place behind such entries

abbrev FaultBehind : List Entry → List ℕ → ℕ → Type 0
FaultBehind files rest at =
    (NoNewEntry files rest × NoEnd rest × (at ≡ length (entries_bytes files)))
    ⊎ ((more : List ℕ) × (more ≢ []) × (rest ≡ end_line ++ more) × (at ≡ length (entries_bytes files) + length end_line))

nothing_new : (files : List Entry) (rest : List ℕ) (at : ℕ) → FaultBehind files rest at → NoNewEntry files rest
nothing_new files rest at (inl (none, no-end, place)) = none
nothing_new files rest at (inr (more, some, split, place)) = λ e after whole good. none_more more files e after (sym split ∙ whole)

abbrev stop_at : (bytes : List ℕ) (at : ℕ) → (bad : BadAt bytes at) → Stops bytes bad.rest
stop_at bytes at bad = record { files = bad.files; good = bad.good; split = bad.split; last = nothing_new bad.files bad.rest at bad.fault }

one_behind : (files : List Entry) (rest : List ℕ) (first second : ℕ) → FaultBehind files rest first → FaultBehind files rest second → first ≡ second
one_behind files rest first second (inl (none, no-end, place)) (inl (none', no-end', place')) = place ∙ sym place'
one_behind files rest first second (inl (none, no-end, place)) (inr (more, some, split, place')) = absurd (no-end more split)
one_behind files rest first second (inr (more, some, split, place)) (inl (none, no-end, place')) = absurd (no-end more split)
one_behind files rest first second (inr (more, some, split, place)) (inr (more', some', split', place')) = place ∙ sym place'

pub one_place : (bytes : List ℕ) (first second : ℕ) → BadAt bytes first → BadAt bytes second → first ≡ second
one_place bytes first second bad bad' =
    let (files, rest) = one_stop bytes bad.rest bad'.rest (stop_at bytes first bad) (stop_at bytes second bad') in
    let P : List Entry → Type 0 = λ fs. FaultBehind fs bad.rest first in
    let Q : List ℕ → Type 0 = λ r. FaultBehind bad'.files r first in
    one_behind bad'.files bad'.rest first second (subst Q rest (subst P files bad.fault)) bad'.fault
