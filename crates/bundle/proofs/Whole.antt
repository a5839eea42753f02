-- A bundle has one reading, and no bytes are a bundle and at fault.
use Rattle.std.proofs.Common.{◌≡◌, ◌≢◌, ℕ, ◌+◌, ◌⊎◌, inl, inr, length, List, [], ◌∷◌, ◌++◌, map, refl, ap, sym, ◌∙◌, subst, arith, append_assoc, append-nil, suc, Some, None}
use Rattle.std.specs.List.{All, AllPairs}
use Rattle.std.proofs.lemmas.List.{map-append, get_or_append_left, length-append}
use Rattle.bundle.specs.Entry.{Entry, IsEntry, entry_bytes}
use Rattle.bundle.specs.Reading.{entry_at, stripped}
use Rattle.bundle.specs.Bundle.{AreFiles, entries_bytes, end_line, IsBundle, Stops, BadAt, NoNewEntry, NoEnd}
use Rattle.bundle.proofs.Fronts.{stripped_again}
use Rattle.bundle.proofs.Laws.{entry_again, some_is}

-- entries that begin a bundle are its first ones
record Continues (front all : List Entry) (rest : List ℕ) : Type 0 where
  more : List Entry
  files : all ≡ front ++ more
  left : rest ≡ entries_bytes more ++ end_line

pub each_tail : (e : Entry) (es : List Entry) → All IsEntry (e ∷ es) → All IsEntry es
each_tail e es all k d low = all (suc k) d (omega arith)

pub each_head : (e : Entry) (es : List Entry) → All IsEntry (e ∷ es) → IsEntry e
each_head e es all = all 0 e (omega arith)

continue_by : (e : Entry) (front all : List Entry) (rest : List ℕ) → Continues front all rest → Continues (e ∷ front) (e ∷ all) rest
continue_by e front all rest c = record { more = c.more; files = ap (λ l. e ∷ l) c.files; left = c.left }

pub one_entry : (e f : Entry) (x y : List ℕ) → IsEntry e → IsEntry f → entry_bytes e ++ x ≡ entry_bytes f ++ y → (e ≡ f) × (x ≡ y)
one_entry e f x y fits fits' same =
    let pair = some_is _ _ (sym (entry_again e x fits) ∙ ap entry_at same ∙ entry_again f y fits') in
    (ap (λ p. p.0) pair, ap (λ p. p.1) pair)

continues : (front all : List Entry) (rest : List ℕ) → All IsEntry front → All IsEntry all → entries_bytes front ++ rest ≡ entries_bytes all ++ end_line → Continues front all rest
continues [] all rest fits fits' same = record { more = all; files = refl; left = same }
continues (e ∷ front) [] rest fits fits' same = cc
continues (e ∷ front) (f ∷ all) rest fits fits' same =
    let grouped : entry_bytes e ++ (entries_bytes front ++ rest) ≡ entry_bytes f ++ (entries_bytes all ++ end_line) = sym (append_assoc (entry_bytes e) (entries_bytes front) rest) ∙ same ∙ append_assoc (entry_bytes f) (entries_bytes all) end_line in
    let one = one_entry e f _ _ (each_head e front fits) (each_head f all fits') grouped in
    let P : Entry → Type 0 = λ x. Continues (e ∷ front) (x ∷ all) rest in
    subst P one.0 (continue_by e front all rest (continues front all rest (each_tail e front fits) (each_tail f all fits') one.1))

pub front_files : (front more : List Entry) → AreFiles (front ++ more) → AreFiles front
front_files front more good = record {
  each = λ k d low. subst IsEntry (get_or_append_left front more d k low) (good.each k d (omega (arith, length-append front more)));
  distinct = λ i j d low high same.
      let paths = map (λ x. x.path) front in
      let others = map (λ x. x.path) more in
      let P : List (List ℕ) → Type 0 = AllPairs (λ p q. p ≢ q) in
      let apart : AllPairs (λ p q. p ≢ q) (paths ++ others) = subst P (map-append (λ x. x.path) front more) good.distinct in
      apart i j d low (omega (arith, length-append paths others))
      (get_or_append_left paths others d i (omega arith) ∙ same ∙ sym (get_or_append_left paths others d j high));
}

-- after the entries that begin a bundle comes another new one, or the end
after_stop : (bytes rest : List ℕ) (files : List Entry) → (stop : Stops bytes rest) → IsBundle files bytes → rest ≡ end_line
after_stop bytes rest files stop is =
    end_by (continues stop.files files rest stop.good.each is.good.each (sym stop.split ∙ is.whole))
  where
    end_by : Continues stop.files files rest → rest ≡ end_line
    end_by c = end_at c.more c.files c.left
      where
        end_at : (more : List Entry) → files ≡ stop.files ++ more → rest ≡ entries_bytes more ++ end_line → rest ≡ end_line
        end_at [] e left = left
        end_at (f ∷ more) e left = absurd (stop.last f (entries_bytes more ++ end_line) (left ∙ append_assoc (entry_bytes f) (entries_bytes more) end_line)
            (front_files (stop.files ++ (f ∷ [])) more (subst AreFiles (e ∙ sym (append_assoc stop.files (f ∷ []) more)) is.good)))

pub no_end_law : (bytes rest : List ℕ) (files : List Entry) → Stops bytes rest → stripped end_line rest ≡ None → IsBundle files bytes → ⊥
no_end_law bytes rest files stop none is =
    let e : rest ≡ end_line = after_stop bytes rest files stop is in
    let found : stripped end_line rest ≡ Some [] = ap (stripped end_line) (e ∙ sym (append-nil end_line)) ∙ stripped_again end_line [] in cc

pub more_law : (bytes rest more : List ℕ) (files : List Entry) → Stops bytes rest → stripped end_line rest ≡ Some more → IsBundle files bytes → more ≡ []
more_law bytes rest more files stop some is =
    let e : rest ≡ end_line = after_stop bytes rest files stop is in
    let found : stripped end_line rest ≡ Some [] = ap (stripped end_line) (e ∙ sym (append-nil end_line)) ∙ stripped_again end_line [] in cc

ends_here : (more : List Entry) → end_line ≡ entries_bytes more ++ end_line → more ≡ []
ends_here [] e = refl
ends_here (f ∷ more) e = cc

-- bytes are the bundle of one list of files at most
pub one_list : (bytes : List ℕ) (first second : List Entry) → IsBundle first bytes → IsBundle second bytes → first ≡ second
one_list bytes first second one two =
    let c = continues first second end_line one.good.each two.good.each (sym one.whole ∙ two.whole) in
    sym (c.files ∙ ap (λ l. first ++ l) (ends_here c.more c.left) ∙ append-nil first)

pub none_more : (more : List ℕ) (files : List Entry) (e : Entry) (rest : List ℕ) → end_line ++ more ≡ entry_bytes e ++ rest → ⊥
none_more more files e rest same = cc

-- no bytes with a place at fault are a bundle
pub bad_no_bundle : (bytes : List ℕ) (at : ℕ) (files : List Entry) → BadAt bytes at → IsBundle files bytes → ⊥
bad_no_bundle bytes at files bad is = bad_by bad.fault
  where
    stop_with : NoNewEntry bad.files bad.rest → Stops bytes bad.rest
    stop_with none = record { files = bad.files; good = bad.good; split = bad.split; last = none }

    bad_by : (NoNewEntry bad.files bad.rest × NoEnd bad.rest × (at ≡ length (entries_bytes bad.files)))
        ⊎ ((more : List ℕ) × (more ≢ []) × (bad.rest ≡ end_line ++ more) × (at ≡ length (entries_bytes bad.files) + length end_line)) → ⊥
    bad_by (inl (none, no-end, place)) = no-end [] (after_stop bytes bad.rest files (stop_with none) is ∙ sym (append-nil end_line))
    bad_by (inr (more, some, split, place)) =
        let rest = after_stop bytes bad.rest files (stop_with (λ e after whole good. none_more more files e after (sym split ∙ whole))) is in
        some (ends_with more (sym split ∙ rest))
      where
        ends_with : (more : List ℕ) → end_line ++ more ≡ end_line → more ≡ []
        ends_with [] e = refl
        ends_with (b ∷ more) e = cc
