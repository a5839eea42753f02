-- The set of the names that have been met, as a test of a name.
use Rattle.std.proofs.Common.{◌≡◌, ℕ, Bool, true, false, List, [], ◌∷◌, ◌||◌, refl, ap, sym, ◌∙◌}
use Rattle.std.specs.Ordering.{nat_cmp, match_ordering, is_eq}
use Rattle.std.specs.declared.cmp.Ordering.{Ordering}
use Rattle.std.specs.declared.cmp.Ordering.TheVariants.{Less, Equal, Greater}
use Rattle.std.specs.List.{list_any}
use Rattle.std.specs.Borrow.{Bor}
use Rattle.std.specs.BTreeSet.{BTreeSet, insert_key, contains}
use Rattle.std.specs.Cmp.Lexicographic.{slice_cmp}
use Rattle.std.proofs.lemmas.Map.Text.{is_eq-slice_cmp}
use Rattle.std.proofs.lemmas.Slice.Eq.{bytes_eq-Decides}
use Rattle.std.specs.Str.{bytes_eq}
use Rattle.bound_unit.specs.Aboves.{has_name}

-- the order of the set's keys
abbrev pub name_cmp : Bor (List ℕ) → Bor (List ℕ) → Ordering
name_cmp p q = slice_cmp nat_cmp p.now q.now

any_at : (k : Bor (List ℕ)) (keys : List (Bor (List ℕ))) → list_any (λ x. is_eq (name_cmp k x)) keys ≡ list_any (λ x. bytes_eq k.now x.now) keys
any_at k [] = refl
any_at k (x ∷ keys) = rw (is_eq-slice_cmp k.now x.now, any_at k keys) refl

pub contains_is : (met : BTreeSet (Bor (List ℕ))) (k : Bor (List ℕ)) → contains name_cmp met k ≡ has_name met k.now
contains_is met k = any_at k met.keys

same_by : (k x : Bor (List ℕ)) → name_cmp k x ≡ Equal → k.now ≡ x.now
same_by k x e = (bytes_eq-Decides k.now x.now).0 (sym (is_eq-slice_cmp k.now x.now) ∙ ap is_eq e)

or_swap : (a b c : Bool) → (a || (b || c)) ≡ (b || (a || c))
or_swap true true c = refl
or_swap true false c = refl
or_swap false b c = refl

or_same : (a b : Bool) → (a || b) ≡ (a || (a || b))
or_same true b = refl
or_same false b = refl

insert_by : (f : Bor (List ℕ) → Bool) (k x : Bor (List ℕ)) (keys : List (Bor (List ℕ))) (o : Ordering) → (o ≡ Equal → f k ≡ f x) → list_any f (insert_key name_cmp keys k) ≡ (f k || list_any f keys) → list_any f (match_ordering o (k ∷ x ∷ keys) (x ∷ keys) (x ∷ insert_key name_cmp keys k)) ≡ (f k || (f x || list_any f keys))
insert_by f k x keys Less same rest = refl
insert_by f k x keys Equal same rest = rw (same refl) (or_same (f x) (list_any f keys))
insert_by f k x keys Greater same rest = rw rest (or_swap (f x) (f k) (list_any f keys))

insert_any : (q : List ℕ) (k : Bor (List ℕ)) (keys : List (Bor (List ℕ))) → list_any (λ x. bytes_eq q x.now) (insert_key name_cmp keys k) ≡ (bytes_eq q k.now || list_any (λ x. bytes_eq q x.now) keys)
insert_any q k [] = refl
insert_any q k (x ∷ keys) = insert_by (λ x. bytes_eq q x.now) k x keys (name_cmp k x) (λ e. ap (bytes_eq q) (same_by k x e)) (insert_any q k keys)

pub inserted_is : (old new : BTreeSet (Bor (List ℕ))) (k : Bor (List ℕ)) → new.keys ≡ insert_key name_cmp old.keys k → (q : List ℕ) → has_name new q ≡ (bytes_eq q k.now || has_name old q)
inserted_is old new k e q = ap (list_any (λ x. bytes_eq q x.now)) e ∙ insert_any q k old.keys
