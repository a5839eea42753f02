-- One entry after another: how far the bytes are entries with paths of their own.
use Rattle.std.proofs.Common.{◌≡◌, ◌≢◌, ℕ, ◌<◌, Bool, true, false, List, [], ◌∷◌, ◌++◌, ◌||◌, not, length, map, get_or, refl, ap, sym, ◌∙◌, subst, arith, append_assoc, zero, suc}
use Rattle.std.specs.List.{list_any, AllPairs}
use Rattle.std.specs.Borrow.{Bor}
use Rattle.std.specs.BTreeSet.{BTreeSet}
use Rattle.std.proofs.lemmas.List.{map-append, flat_map_more, get_or_push, get_or_append_left, length-append}
use Rattle.std.proofs.lemmas.List.Elements.{All-push}
use Rattle.std.proofs.lemmas.List.Quantifiers.{all_pairs_push}
use Rattle.std.proofs.lemmas.List.Folds.{list_any-append}
use Rattle.std.proofs.lemmas.Slice.Eq.{bytes_eq-Decides}
use Rattle.bundle.specs.Entry.{Entry, IsEntry, entry_bytes}
use Rattle.bundle.specs.Bundle.{AreFiles, entries_bytes, Stops}
use Rattle.bundle.specs.Paths.{list_eq, has_path}

-- whether a path is one of the files'
abbrev pub among : List ℕ → List Entry → Bool
among q files = list_any (λ e. list_eq q e.path) files

-- the entries so far, whose paths the set has
pub record SoFar (seen : BTreeSet (Bor (List ℕ))) (bytes rest : List ℕ) : Type 0 where
  pub files : List Entry
  pub good : AreFiles files
  pub split : bytes ≡ entries_bytes files ++ rest
  pub known : (q : List ℕ) → has_path seen q ≡ among q files

no_files : AreFiles []
no_files = record { each = λ k d low. absurd (omega arith); distinct = λ i j d low high. absurd (omega arith) }

nothing_seen : (seen : BTreeSet (Bor (List ℕ))) (q : List ℕ) → seen.keys ≡ [] → has_path seen q ≡ false
nothing_seen seen q e = ap (list_any (λ k. list_eq q k.now)) e

pub none_yet : (seen : BTreeSet (Bor (List ℕ))) (bytes : List ℕ) → seen.keys ≡ [] → SoFar seen bytes bytes
none_yet seen bytes e = record { files = []; good = no_files; split = refl; known = λ q. nothing_seen seen q e }

different : (q p : List ℕ) → list_eq q p ≡ false → p ≢ q
different q p no-eq e =
    let same : list_eq q p ≡ true = (bytes_eq-Decides q p).1 (sym e) in cc

neither : (a b : Bool) → (a || b) ≡ false → (a ≡ false) × (b ≡ false)
neither true b e = cc
neither false b e = (refl, e)

paths_apart : (q : List ℕ) (files : List Entry) → among q files ≡ false → (k : ℕ) (d : List ℕ) → k < length (map (λ e. e.path) files) → get_or (map (λ e. e.path) files) k d ≢ q
paths_apart q [] apart k d low = absurd (omega arith)
paths_apart q (e ∷ files) apart zero d low = different q e.path (neither _ _ apart).0
paths_apart q (e ∷ files) apart (suc k) d low = paths_apart q files (neither _ _ apart).1 k d (omega arith)

or_last : (a b : Bool) → (a || b) ≡ (b || (a || false))
or_last true true = refl
or_last true false = refl
or_last false true = refl
or_last false false = refl

not_true : (b : Bool) → not b ≡ true → b ≡ false
not_true true e = cc
not_true false e = refl

entries_push : (files : List Entry) (e : Entry) (after : List ℕ) → entries_bytes files ++ (entry_bytes e ++ after) ≡ entries_bytes (files ++ (e ∷ [])) ++ after
entries_push files e after = sym (append_assoc (entries_bytes files) (entry_bytes e) after) ∙ ap (λ l. l ++ after) (flat_map_more entry_bytes [] files e)

pub not_not : (b : Bool) → not b ≡ false → b ≡ true
not_not true e = refl
not_not false e = cc

pub one_more : (seen new : BTreeSet (Bor (List ℕ))) (bytes rest after : List ℕ) (e : Entry) → SoFar seen bytes rest → IsEntry e → rest ≡ entry_bytes e ++ after → not (has_path seen e.path) ≡ true → ((q : List ℕ) → has_path new q ≡ (list_eq q e.path || has_path seen q)) → SoFar new bytes after
one_more seen new bytes rest after e so fits whole fresh added =
    let apart : among e.path so.files ≡ false = sym (so.known e.path) ∙ not_true _ fresh in
    record {
      files = so.files ++ (e ∷ []);
      good = record {
        each = All-push IsEntry so.files e so.good.each fits;
        distinct = rw (map-append (λ x. x.path) so.files (e ∷ [])) (all_pairs_push (λ p q. p ≢ q) _ e.path so.good.distinct (paths_apart e.path so.files apart));
      };
      split = so.split ∙ ap (λ l. entries_bytes so.files ++ l) whole ∙ entries_push so.files e after;
      known = λ q. added q ∙ ap (λ b. list_eq q e.path || b) (so.known q) ∙ or_last (list_eq q e.path) (among q so.files) ∙ sym (list_any-append (λ x. list_eq q x.path) so.files (e ∷ []));
    }

last_fits : (files : List Entry) (e : Entry) → AreFiles (files ++ (e ∷ [])) → IsEntry e
last_fits files e good =
    subst IsEntry (get_or_push files e e (length files) refl) (good.each (length files) e (omega (arith, length-append files (e ∷ []))))

apart_by : (q p : List ℕ) (rest : Bool) → p ≢ q → rest ≡ false → (list_eq q p || rest) ≡ false
apart_by q p rest other e = apart_at (list_eq q p) refl
  where
    apart_at : (b : Bool) → list_eq q p ≡ b → (b || rest) ≡ false
    apart_at true is = absurd (other (sym ((bytes_eq-Decides q p).0 is)))
    apart_at false is = e

all_apart : (q : List ℕ) (files : List Entry) → ((k : ℕ) (d : List ℕ) → k < length (map (λ e. e.path) files) → get_or (map (λ e. e.path) files) k d ≢ q) → among q files ≡ false
all_apart q [] other = refl
all_apart q (e ∷ files) other = apart_by q e.path _ (other 0 q (omega arith)) (all_apart q files (λ k d low. other (suc k) d (omega arith)))

last_new : (files : List Entry) (e : Entry) → AreFiles (files ++ (e ∷ [])) → among e.path files ≡ false
last_new files e good = all_apart e.path files (λ k d low same.
    let paths = map (λ x. x.path) files in
    let whole : map (λ x. x.path) (files ++ (e ∷ [])) ≡ paths ++ (e.path ∷ []) = map-append (λ x. x.path) files (e ∷ []) in
    let P : List (List ℕ) → Type 0 = AllPairs (λ p q. p ≢ q) in
    let apart : AllPairs (λ p q. p ≢ q) (paths ++ (e.path ∷ [])) = subst P whole good.distinct in
    apart k (length paths) d low (omega (arith, length-append paths (e.path ∷ [])))
    (get_or_append_left paths (e.path ∷ []) d k low ∙ same ∙ sym (get_or_push paths e.path d (length paths) refl)))

pub stops_at_none : (seen : BTreeSet (Bor (List ℕ))) (bytes rest : List ℕ) → SoFar seen bytes rest → ((e : Entry) (after : List ℕ) → IsEntry e → rest ≡ entry_bytes e ++ after → ⊥) → Stops bytes rest
stops_at_none seen bytes rest so none = record {
  files = so.files;
  good = so.good;
  split = so.split;
  last = λ e after whole good. none e after (last_fits so.files e good) whole;
}

pub stops_at_old : (seen : BTreeSet (Bor (List ℕ))) (bytes rest : List ℕ) (path : List ℕ) → SoFar seen bytes rest → ((e : Entry) (after : List ℕ) → IsEntry e → rest ≡ entry_bytes e ++ after → path ≡ e.path) → has_path seen path ≡ true → Stops bytes rest
stops_at_old seen bytes rest path so only old = record {
  files = so.files;
  good = so.good;
  split = so.split;
  last = λ e after whole good.
      let same = only e after (last_fits so.files e good) whole in
      let there : among e.path so.files ≡ true = ap (λ q. among q so.files) (sym same) ∙ sym (so.known path) ∙ old in
      let new = last_new so.files e good in
      cc;
}
