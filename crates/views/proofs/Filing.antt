-- Surfaces in a map by their names.
use Rattle.std.proofs.Common.{◌≡◌, ℕ, List, [], ◌∷◌, map, refl, sym, ◌∙◌, ap, subst, Bool, true, false, cond}
use Rattle.std.specs.Prelude.{Option, Some, None, find, is_some}
use Rattle.std.specs.Map.{keys_of, lookup, values_of}
use Rattle.std.specs.Ordering.{is_eq, match_ordering, nat_cmp}
use Rattle.std.specs.declared.cmp.Ordering.{Ordering}
use Rattle.std.specs.declared.cmp.Ordering.TheVariants.{Less, Equal, Greater}
use Rattle.std.specs.Cmp.Lexicographic.{nat_list_eq_equiv, slice_cmp}
use Rattle.std.specs.BTreeMap.{BTreeMap, insert_entry, is_at}
use Rattle.std.specs.Str.{bytes_eq}
use Rattle.std.proofs.lemmas.Map.Text.{is_eq-slice_cmp}
use Rattle.std.proofs.lemmas.Map.Lookups.{exact_bytes}
use Rattle.promise_scrub.specs.declared.surface.Surface.{Surface}
use Rattle.views.specs.Face.{surface_named}
use Rattle.views.specs.Filed.{IsFiled, name_of, with_surface}

first_key : (k n : List ℕ) (ks ns : List (List ℕ)) → k ∷ ks ≡ n ∷ ns → k ≡ n
first_key k n ks ns e = cc

other_keys : (k n : List ℕ) (ks ns : List (List ℕ)) → k ∷ ks ≡ n ∷ ns → ks ≡ ns
other_keys k n ks ns e = cc

same_test : (a b : List ℕ) → bytes_eq a b ≡ bytes_eq b a
same_test a b = (nat_list_eq_equiv).symm a b

-- the surface at a name is the first one of the name
pub lookup_named : (es : List (List ℕ × Surface)) (name : List ℕ) → keys_of es ≡ map name_of (values_of es)
    → lookup (is_at (slice_cmp nat_cmp name)) es ≡ surface_named (values_of es) name
lookup_named [] name e = refl
lookup_named (x ∷ es) name e =
    let k : x.0 ≡ x.1.name = first_key x.0 x.1.name (keys_of es) (map name_of (values_of es)) e in
    let test : is_at (slice_cmp nat_cmp name) x.0 ≡ bytes_eq x.1.name name =
    is_eq-slice_cmp name x.0 ∙ same_test name x.0 ∙ ap (λ (n : List ℕ). bytes_eq n name) k in
    ap (λ (b : Bool). cond b (Some x.1) (lookup (is_at (slice_cmp nat_cmp name)) es)) test
    ∙ ap (λ (o : Option Surface). cond (bytes_eq x.1.name name) (Some x.1) o)
    (lookup_named es name (other_keys x.0 x.1.name (keys_of es) (map name_of (values_of es)) e))

put_value : (o : Ordering) (n : List ℕ) (s : Surface) (x : List ℕ × Surface) (es more : List (List ℕ × Surface)) (vs : List Surface) → values_of more ≡ vs
    → values_of (match_ordering o ((n, s) ∷ x ∷ es) ((x.0, s) ∷ es) (x ∷ more)) ≡ match_ordering o (s ∷ x.1 ∷ values_of es) (s ∷ values_of es) (x.1 ∷ vs)
put_value Less n s x es more vs e = refl
put_value Equal n s x es more vs e = refl
put_value Greater n s x es more vs e = ap (λ (ys : List Surface). x.1 ∷ ys) e

-- the surfaces of the map with one more are those with one more
pub values_put : (es : List (List ℕ × Surface)) (n : List ℕ) (s : Surface) → n ≡ s.name → keys_of es ≡ map name_of (values_of es)
    → values_of (insert_entry (slice_cmp nat_cmp) es n s) ≡ with_surface (values_of es) s
values_put [] n s is e = refl
values_put (x ∷ es) n s is e =
    put_value (slice_cmp nat_cmp n x.0) n s x es (insert_entry (slice_cmp nat_cmp) es n s) (with_surface (values_of es) s)
    (values_put es n s is (other_keys x.0 x.1.name (keys_of es) (map name_of (values_of es)) e))
    ∙ ap (λ (o : Ordering). match_ordering o (s ∷ x.1 ∷ values_of es) (s ∷ values_of es) (x.1 ∷ with_surface (values_of es) s))
    (ap (λ (m : List ℕ). slice_cmp nat_cmp m x.0) is ∙ ap (slice_cmp nat_cmp s.name) (first_key x.0 x.1.name (keys_of es) (map name_of (values_of es)) e))

put_key : (o : Ordering) (n : List ℕ) (s : Surface) (x : List ℕ × Surface) (es more : List (List ℕ × Surface)) → slice_cmp nat_cmp n x.0 ≡ o → n ≡ s.name
    → x.0 ≡ x.1.name → keys_of es ≡ map name_of (values_of es) → keys_of more ≡ map name_of (values_of more)
    → keys_of (match_ordering o ((n, s) ∷ x ∷ es) ((x.0, s) ∷ es) (x ∷ more)) ≡ map name_of (values_of (match_ordering o ((n, s) ∷ x ∷ es) ((x.0, s) ∷ es) (x ∷ more)))
put_key Less n s x es more c is k e f = cc
put_key Equal n s x es more c is k e f = let tie : n ≡ x.0 = exact_bytes n x.0 c in cc
put_key Greater n s x es more c is k e f = cc

-- each still stands under its own name
pub named_put : (es : List (List ℕ × Surface)) (n : List ℕ) (s : Surface) → n ≡ s.name → keys_of es ≡ map name_of (values_of es)
    → keys_of (insert_entry (slice_cmp nat_cmp) es n s) ≡ map name_of (values_of (insert_entry (slice_cmp nat_cmp) es n s))
named_put [] n s is e = ap (λ (m : List ℕ). m ∷ []) is
named_put (x ∷ es) n s is e =
    let k : x.0 ≡ x.1.name = first_key x.0 x.1.name (keys_of es) (map name_of (values_of es)) e in
    let rest : keys_of es ≡ map name_of (values_of es) = other_keys x.0 x.1.name (keys_of es) (map name_of (values_of es)) e in
    put_key (slice_cmp nat_cmp n x.0) n s x es (insert_entry (slice_cmp nat_cmp) es n s) refl is k rest (named_put es n s is rest)

-- the same of maps
pub filed_put : (old new : BTreeMap (List ℕ) Surface) (name : List ℕ) (s t object string runnable : Surface)
    → new.entries ≡ insert_entry (slice_cmp nat_cmp) old.entries name t → name ≡ s.name → t ≡ s → IsFiled old object string runnable
    → IsFiled new object string runnable
filed_put old new name s t object string runnable e is same f = record {
  named = subst (λ (es : List (List ℕ × Surface)). keys_of es ≡ map name_of (values_of es)) (sym e)
      (named_put old.entries name t (is ∙ ap name_of (sym same)) f.named);
  is_object = f.is_object;
  is_string = f.is_string;
  is_runnable = f.is_runnable;
}

pub values_filed : (old new : BTreeMap (List ℕ) Surface) (name : List ℕ) (s t object string runnable : Surface)
    → new.entries ≡ insert_entry (slice_cmp nat_cmp) old.entries name t → name ≡ s.name → t ≡ s → IsFiled old object string runnable
    → values_of new.entries ≡ with_surface (values_of old.entries) s
values_filed old new name s t object string runnable e is same f =
    ap (λ (es : List (List ℕ × Surface)). values_of es) e
    ∙ values_put old.entries name t (is ∙ ap name_of (sym same)) f.named
    ∙ ap (with_surface (values_of old.entries)) same
