-- One more type: whether its name is used before.
use Rattle.std.proofs.Common.{◌≡◌, ◌≢◌, ◌<◌, length, get_or, arith, ℕ, Bool, true, false, List, [], ◌∷◌, ◌++◌, Option, Some, None, cond, map, AllPairs, ◌⊎◌, inl, inr, refl, ap, sym, ◌∙◌, subst, append_assoc}
use Rattle.std.specs.Prelude.{is_some}
use Rattle.std.specs.Option.{MatchOption}
use Rattle.std.specs.Borrow.{Bor}
use Rattle.std.specs.List.{Contains}
use Rattle.std.specs.Ordering.{nat_cmp, is_eq}
use Rattle.std.specs.BTreeMap.{BTreeMap, get, Updates}
use Rattle.std.specs.Cmp.Lexicographic.{slice_cmp}
use Rattle.std.proofs.lemmas.Map.Text.{is_eq-slice_cmp}
use Rattle.std.proofs.lemmas.List.{length-map, get_or-map, map-append}
use Rattle.std.proofs.lemmas.List.Elements.{Contains-get_or, Contains-push, Contains-append_left, Contains-push_cases}
use Rattle.std.proofs.lemmas.List.Quantifiers.{all_pairs_push}
use Rattle.std.proofs.lemmas.Slice.Eq.{bytes_eq-Decides}
use Rattle.project_files.specs.Trees.{ClassText}
use Rattle.project_files.specs.declared.repeats.Repeat.{Repeat}
use Rattle.project_files.specs.Repeats.{NoRepeat, name_of}
use Rattle.project_files.specs.Kept.{IsNamed, ArePaths, NamedBy}

same_by : (p q : List ℕ) → is_eq (slice_cmp nat_cmp p q) ≡ true → p ≡ q
same_by p q e = (bytes_eq-Decides p q).0 (sym (is_eq-slice_cmp p q) ∙ e)

-- ---- one more type

apart_more : (types : List ClassText) (c : ClassText) → NoRepeat types → ((d : ClassText) → Contains types d → name_of d ≡ name_of c → ⊥) → NoRepeat (types ++ c ∷ [])
apart_more types c apart none =
    subst (AllPairs ◌≢◌) (sym (map-append name_of types (c ∷ []))) (all_pairs_push ◌≢◌ (map name_of types) (name_of c) apart (λ k d low same. other k d (omega (arith, low, length-map types name_of)) same))
  where
    other : (k : ℕ) (d : List ℕ) → k < length types → get_or (map name_of types) k d ≡ name_of c → ⊥
    other k d low same = none (get_or types k c) (Contains-get_or types k c low) (sym (get_or-map name_of types k c d low) ∙ same)

named_new : (types : List ClassText) (c : ClassText) (name path : List ℕ) → name ≡ name_of c → path ≡ c.path → IsNamed (types ++ c ∷ []) name path
named_new types c name path named placed = record { type = c; among = Contains-push types c; named = sym named; placed = placed }

named_kept : (types : List ClassText) (c : ClassText) (name path : List ℕ) → IsNamed types name path → IsNamed (types ++ c ∷ []) name path
named_kept types c name path n = record { type = n.type; among = Contains-append_left types (c ∷ []) n.type n.among; named = n.named; placed = n.placed }

none_more : (types : List ClassText) (c : ClassText) (name : List ℕ) → ((d : ClassText) → Contains types d → name_of d ≡ name → ⊥) → (name_of c ≡ name → ⊥)
    → (d : ClassText) → Contains types d ⊎ (c ≡ d) → name_of d ≡ name → ⊥
none_more types c name none other d (inl among) named = none d among named
none_more types c name none other d (inr same) named = other (ap name_of same ∙ named)

-- ---- the map

abbrev NamedAt : List ClassText → List ℕ → Option (Bor (List ℕ)) → Type 0
NamedAt types name o = MatchOption o ((c : ClassText) → Contains types c → name_of c ≡ name → ⊥) (λ p. IsNamed types name p.now)

got : (types : List ClassText) (m : BTreeMap (List ℕ) (Bor (List ℕ))) (q : List ℕ) (o : Option (Bor (List ℕ))) → ArePaths types m → get (slice_cmp nat_cmp) m q ≡ o → NamedAt types q o
got types m q o known e = subst (NamedAt types q) e (known q)

kept_at : (types : List ClassText) (c : ClassText) (name : List ℕ) (o : Option (Bor (List ℕ))) → (name_of c ≡ name → ⊥) → NamedAt types name o → NamedAt (types ++ c ∷ []) name o
kept_at types c name None other none = λ d there named. none_more types c name none other d (Contains-push_cases types c d there) named
kept_at types c name (Some p) other n = named_kept types c name p.now n

put_by : (types : List ClassText) (c : ClassText) (key q : List ℕ) (path : Bor (List ℕ)) (o : Option (Bor (List ℕ))) (b : Bool) → is_eq (slice_cmp nat_cmp key q) ≡ b → key ≡ name_of c → path.now ≡ c.path
    → NamedAt types q o → NamedAt (types ++ c ∷ []) q (cond b (Some path) o)
put_by types c key q path o true is named placed old = named_new types c q path.now (sym (same_by key q is) ∙ named) placed
put_by types c key q path o false is named placed old =
    kept_at types c q o (λ same. let whole : key ≡ q = named ∙ same in
    let on : is_eq (slice_cmp nat_cmp key q) ≡ true = is_eq-slice_cmp key q ∙ (bytes_eq-Decides key q).1 whole in cc) old

paths_put : (types : List ClassText) (c : ClassText) (m n : BTreeMap (List ℕ) (Bor (List ℕ))) (key : List ℕ) (path : Bor (List ℕ)) → key ≡ name_of c → path.now ≡ c.path
    → Updates (slice_cmp nat_cmp) m n key (Some path) → ArePaths types m → ArePaths (types ++ c ∷ []) n
paths_put types c m n key path named placed updates old q =
    subst (NamedAt (types ++ c ∷ []) q) (sym (updates.0 q)) (put_by types c key q path (get (slice_cmp nat_cmp) m q) (is_eq (slice_cmp nat_cmp key q)) refl named placed (old q))

-- ---- the names so far

-- a repeat stays the first
pub names_stay : (types : List ClassText) (c : ClassText) (m : BTreeMap (List ℕ) (Bor (List ℕ))) (o : Option Repeat) → is_some o ≡ true → NamedBy types m o → NamedBy (types ++ c ∷ []) m o
names_stay types c m None is named = cc
names_stay types c m (Some r) is named = record {
  front = named.front;
  type = named.type;
  rest = named.rest ++ c ∷ [];
  is = ap (λ l. l ++ c ∷ []) named.is ∙ append_assoc named.front (named.type ∷ named.rest) (c ∷ []);
  apart = named.apart;
  earlier = named.earlier;
  among = named.among;
  same = named.same;
  named = named.named;
  first_path = named.first_path;
  second_path = named.second_path;
}

-- a name of its own
pub names_more : (types : List ClassText) (c : ClassText) (m n : BTreeMap (List ℕ) (Bor (List ℕ))) (o : Option Repeat) (key : List ℕ) (path : Bor (List ℕ)) → is_some o ≡ false → key ≡ name_of c → path.now ≡ c.path
    → Updates (slice_cmp nat_cmp) m n key (Some path) → get (slice_cmp nat_cmp) m key ≡ None → NamedBy types m o → NamedBy (types ++ c ∷ []) n o
names_more types c m n (Some r) key path is named placed updates new so = cc
names_more types c m n None key path is named placed updates new so =
    (apart_more types c so.0 (λ d among same. got types m key None so.1 new d among (same ∙ sym named)), paths_put types c m n key path named placed updates so.1)
