-- Counting the slots of members.
use Rattle.std.proofs.Common.{◌≡◌, ℕ, ◌+◌, ◌<◌, List, [], ◌∷◌, ◌++◌, length, take, drop, get_or, map, refl, sym, ◌∙◌, ap, subst, arith, append_assoc, zero-add, Bool, true, false, cond}
use Rattle.std.specs.Prelude.{Option, Some, unwrap_or}
use Rattle.std.specs.Ordering.{nat_cmp, is_eq}
use Rattle.std.specs.Cmp.Lexicographic.{slice_cmp}
use Rattle.std.specs.Str.{bytes_eq}
use Rattle.std.specs.BTreeMap.{BTreeMap, Updates, IsEmpty, is_at, get}
use Rattle.std.specs.Map.{lookup}
use Rattle.std.proofs.lemmas.Map.Text.{is_eq-slice_cmp}
use Rattle.std.proofs.lemmas.Slice.Eq.{bytes_eq-Decides}
use Rattle.std.proofs.lemmas.List.Sums.{sum_by-append}
use Rattle.std.proofs.lemmas.List.{take_more, drop_more, map-append}
use Rattle.java_tree.specs.declared.member.MemberTree.{MemberTree}
use Rattle.std.specs.Option.{option_to_list}
use Rattle.class_faces.specs.declared.face.MemberFace.{MemberFace}
use Rattle.class_faces.specs.Faces.{face_of, faces_after}
use Rattle.class_faces.specs.Keys.{Counts, Counted, count_in, times, slot_of, key_with, keys_after}

-- one slot more
pub times_more : (slots : List (List ℕ)) (slot q : List ℕ) → times (slots ++ slot ∷ []) q ≡ times slots q + cond (bytes_eq slot q) 1 0
times_more slots slot q =
    sum_by-append (λ s. cond (bytes_eq s q) 1 0) slots (slot ∷ []) ∙ ap (λ n. times slots q + n) (zero-add (cond (bytes_eq slot q) 1 0))

pub counts_none : (m : BTreeMap (List ℕ) ℕ) → IsEmpty m → Counts m []
counts_none m empty = record { counts = λ q. ap (λ (es : List (List ℕ × ℕ)). unwrap_or (lookup (is_at (slice_cmp nat_cmp q)) es) 0) empty }

pub count_step : (old new : BTreeMap (List ℕ) ℕ) (slot : List ℕ) (k : ℕ) (slots : List (List ℕ)) → Updates (slice_cmp nat_cmp) old new slot (Some k)
    → k ≡ count_in old slot + 1 → Counts old slots → Counted new slots slot k
count_step old new slot k slots u one was = record {
  counts = record { counts = λ q. go q (bytes_eq slot q) refl };
  number = one ∙ ap (λ n. n + 1) (was.counts slot);
}
  where
    go : (q : List ℕ) (b : Bool) → bytes_eq slot q ≡ b → count_in new q ≡ times (slots ++ slot ∷ []) q
    go q true e =
        let test : is_eq (slice_cmp nat_cmp slot q) ≡ true = is_eq-slice_cmp slot q ∙ e in
        let same : slot ≡ q = (bytes_eq-Decides slot q).0 e in
        ap (λ (o : Option ℕ). unwrap_or o 0) (u.0 q ∙ ap (λ (b : Bool). cond b (Some k) (get (slice_cmp nat_cmp) old q)) test)
        ∙ one ∙ ap (λ n. n + 1) (was.counts slot) ∙ ap (λ s. times slots s + 1) same
        ∙ sym (times_more slots slot q ∙ ap (λ (b : Bool). times slots q + cond b 1 0) e)
    go q false e =
        let test : is_eq (slice_cmp nat_cmp slot q) ≡ false = is_eq-slice_cmp slot q ∙ e in
        let more : times (slots ++ slot ∷ []) q ≡ times slots q + 0 = times_more slots slot q ∙ ap (λ (b : Bool). times slots q + cond b 1 0) e in
        ap (λ (o : Option ℕ). unwrap_or o 0) (u.0 q ∙ ap (λ (b : Bool). cond b (Some k) (get (slice_cmp nat_cmp) old q)) test) ∙ was.counts q ∙ omega (arith, more)

slots_so_far : (ms : List MemberTree) (i : ℕ) (m : MemberTree) → i < length ms → m ≡ get_or ms i m → map slot_of (take (i + 1) ms) ≡ map slot_of (take i ms) ++ (slot_of m ∷ [])
slots_so_far ms i m low is =
    ap (map slot_of) (take_more ms i m low) ∙ map-append slot_of (take i ms) (get_or ms i m ∷ []) ∙ ap (λ x. map slot_of (take i ms) ++ (slot_of x ∷ [])) (sym is)

rest_of : (ms : List MemberTree) (i : ℕ) (m : MemberTree) → i < length ms → m ≡ get_or ms i m → drop i ms ≡ m ∷ drop (i + 1) ms
rest_of ms i m low is = drop_more ms i m low ∙ ap (λ x. x ∷ drop (i + 1) ms) (sym is)

-- one key more
pub keys_step : (class : List ℕ) (ms : List MemberTree) (i : ℕ) (m : MemberTree) (keys all : List (List ℕ)) (key : List ℕ)
    → i < length ms → m ≡ get_or ms i m
    → keys ++ keys_after class (map slot_of (take i ms)) (drop i ms) ≡ all
    → key ≡ key_with class m (times (map slot_of (take i ms)) (slot_of m) + 1)
    → (keys ++ (key ∷ [])) ++ keys_after class (map slot_of (take (i + 1) ms)) (drop (i + 1) ms) ≡ all
keys_step class ms i m keys all key low is so key_is =
    rw (slots_so_far ms i m low is, append_assoc, key_is)
    (sym (ap (λ z. keys ++ keys_after class (map slot_of (take i ms)) z) (rest_of ms i m low is)) ∙ so)

pub counts_step : (ms : List MemberTree) (i : ℕ) (m : MemberTree) (map_now : BTreeMap (List ℕ) ℕ) → i < length ms → m ≡ get_or ms i m
    → Counts map_now (map slot_of (take i ms) ++ slot_of m ∷ []) → Counts map_now (map slot_of (take (i + 1) ms))
counts_step ms i m map_now low is counts = subst (Counts map_now) (sym (slots_so_far ms i m low is)) counts

-- one member's face more
pub faces_step : (class : List ℕ) (ms : List MemberTree) (i : ℕ) (m : MemberTree) (faces all : List MemberFace) (key : List ℕ)
    → i < length ms → m ≡ get_or ms i m
    → faces ++ faces_after class (map slot_of (take i ms)) (drop i ms) ≡ all
    → key ≡ key_with class m (times (map slot_of (take i ms)) (slot_of m) + 1)
    → (faces ++ option_to_list (face_of key m)) ++ faces_after class (map slot_of (take (i + 1) ms)) (drop (i + 1) ms) ≡ all
faces_step class ms i m faces all key low is so key_is =
    rw (slots_so_far ms i m low is, append_assoc, key_is)
    (sym (ap (λ z. faces ++ faces_after class (map slot_of (take i ms)) z) (rest_of ms i m low is)) ∙ so)
