-- The promises at each unit, by their places.
use Rattle.std.proofs.Common.{◌≡◌, ℕ, zero, suc, ◌+◌, ◌<◌, ◌≤◌, List, [], ◌∷◌, ◌++◌, length, map, take, get_or, refl, sym, ◌∙◌, ap, subst, arith, Bool, true, false, cond}
use Rattle.std.specs.Prelude.{Option, Some, None, filter, option_and_then}
use Rattle.std.specs.List.{slice_get}
use Rattle.std.specs.Option.{option_map, option_to_list}
use Rattle.std.specs.Ordering.{nat_cmp}
use Rattle.std.specs.Cmp.Lexicographic.{slice_cmp}
use Rattle.std.specs.Map.{lookup}
use Rattle.std.specs.BTreeMap.{BTreeMap, IsEmpty, Updates, UpdatesBy, get, is_at}
use Rattle.std.specs.Str.{bytes_eq}
use Rattle.std.proofs.lemmas.List.{map-append, take_all, take_more}
use Rattle.std.proofs.lemmas.List.Elements.{filter-append}
use Rattle.std.proofs.lemmas.Map.Text.{is_eq-slice_cmp}
use Rattle.std.proofs.lemmas.Option.{slice_get-get_or, slice_get-map}
use Rattle.std.proofs.lemmas.Slice.Eq.{bytes_eq-Decides}
use Rattle.promise_scrub.specs.declared.surface.Standing.{Standing}
use Rattle.views.specs.Indexes.{Forgets, UnitsTo, listed, places_in, stands_at}
use Rattle.views.specs.Gathered.{AreThere, gathered}

-- ---- the map

pub no_units : (index : BTreeMap (List ℕ) (List ℕ)) (standing : List Standing) → IsEmpty index → UnitsTo index 0 standing
no_units index standing empty = record {
  units = λ unit. ap (λ (es : List (List ℕ × List ℕ)). map (slice_get standing) (listed (lookup (is_at (slice_cmp nat_cmp unit)) es))) empty;
}

-- a map from which the unit is taken
pub forgets : (old new : BTreeMap (List ℕ) (List ℕ)) (unit : List ℕ) → UpdatesBy (slice_cmp nat_cmp) (slice_cmp nat_cmp unit) old new None → Forgets old new unit
forgets old new unit u = record {
  forgets = λ q. u.0 q ∙ ap (λ (b : Bool). cond b None (get (slice_cmp nat_cmp) old q)) (is_eq-slice_cmp unit q);
}

filter_more : (standing : List Standing) (i : ℕ) (x : Standing) (unit : List ℕ) → i < length standing → x ≡ get_or standing i x
    → filter (stands_at unit) (take (i + 1) standing) ≡ filter (stands_at unit) (take i standing) ++ cond (bytes_eq x.key.target unit) (x ∷ []) []
filter_more standing i x unit low is =
    ap (filter (stands_at unit)) (take_more standing i x low)
    ∙ filter-append (stands_at unit) (take i standing) (get_or standing i x ∷ [])
    ∙ ap (λ (y : Standing). filter (stands_at unit) (take i standing) ++ filter (stands_at unit) (y ∷ [])) (sym is)

pub units_more : (old mid new : BTreeMap (List ℕ) (List ℕ)) (standing : List Standing) (i : ℕ) (x : Standing) (places pushed key : List ℕ)
    → UnitsTo old i standing → i < length standing → x ≡ get_or standing i x → places ≡ places_in old x.key.target → Forgets old mid x.key.target
    → pushed ≡ places ++ i ∷ [] → key ≡ x.key.target → Updates (slice_cmp nat_cmp) mid new key (Some pushed)
    → UnitsTo new (i + 1) standing
units_more old mid new standing i x places pushed key u low is were f push same put = record { units = λ unit. go unit (bytes_eq x.key.target unit) refl }
  where
    found : (unit : List ℕ) → get (slice_cmp nat_cmp) new unit
        ≡ cond (bytes_eq x.key.target unit) (Some pushed) (cond (bytes_eq x.key.target unit) None (get (slice_cmp nat_cmp) old unit))
    found unit =
        put.0 unit
        ∙ ap (λ (b : Bool). cond b (Some pushed) (get (slice_cmp nat_cmp) mid unit)) (is_eq-slice_cmp key unit ∙ ap (λ (k : List ℕ). bytes_eq k unit) same)
        ∙ ap (λ (o : Option (List ℕ)). cond (bytes_eq x.key.target unit) (Some pushed) o) (f.forgets unit)

    more : (unit : List ℕ) (b : Bool) → bytes_eq x.key.target unit ≡ b
        → map (λ (s : Standing). Some s) (filter (stands_at unit) (take (i + 1) standing))
        ≡ map (λ (s : Standing). Some s) (filter (stands_at unit) (take i standing)) ++ map (λ (s : Standing). Some s) (cond b (x ∷ []) [])
    more unit b e =
        ap (map (λ (s : Standing). Some s)) (filter_more standing i x unit low is ∙ ap (λ (c : Bool). filter (stands_at unit) (take i standing) ++ cond c (x ∷ []) []) e)
        ∙ map-append (λ (s : Standing). Some s) (filter (stands_at unit) (take i standing)) (cond b (x ∷ []) [])

    here : slice_get standing i ≡ Some x
    here = slice_get-get_or standing i x low ∙ ap (λ (y : Standing). Some y) (sym is)

    none_more : (ys : List (Option Standing)) → ys ≡ ys ++ []
    none_more [] = refl
    none_more (y ∷ ys) = ap (λ (zs : List (Option Standing)). y ∷ zs) (none_more ys)

    go : (unit : List ℕ) (b : Bool) → bytes_eq x.key.target unit ≡ b
        → map (slice_get standing) (places_in new unit) ≡ map (λ (s : Standing). Some s) (filter (stands_at unit) (take (i + 1) standing))
    go unit true e =
        let hit : x.key.target ≡ unit = (bytes_eq-Decides x.key.target unit).0 e in
        ap (λ (o : Option (List ℕ)). map (slice_get standing) (listed o)) (found unit ∙ ap (λ (b : Bool). cond b (Some pushed) (cond b None (get (slice_cmp nat_cmp) old unit))) e)
        ∙ ap (map (slice_get standing)) (push ∙ ap (λ (z : List ℕ). z ++ i ∷ []) (were ∙ ap (places_in old) hit))
        ∙ map-append (slice_get standing) (places_in old unit) (i ∷ [])
        ∙ ap (λ (z : List (Option Standing)). z ++ slice_get standing i ∷ []) (u.units unit)
        ∙ ap (λ (z : Option Standing). map (λ (s : Standing). Some s) (filter (stands_at unit) (take i standing)) ++ z ∷ []) here
        ∙ sym (more unit true e)
    go unit false e =
        ap (λ (o : Option (List ℕ)). map (slice_get standing) (listed o)) (found unit ∙ ap (λ (b : Bool). cond b (Some pushed) (cond b None (get (slice_cmp nat_cmp) old unit))) e)
        ∙ u.units unit
        ∙ none_more (map (λ (s : Standing). Some s) (filter (stands_at unit) (take i standing)))
        ∙ sym (more unit false e)

-- ---- what stands at the places

first_same : (x y : Option Standing) (xs ys : List (Option Standing)) → x ∷ xs ≡ y ∷ ys → x ≡ y
first_same x y xs ys e = cc

rest_same : (x y : Option Standing) (xs ys : List (Option Standing)) → x ∷ xs ≡ y ∷ ys → xs ≡ ys
rest_same x y xs ys e = cc

pub gathered_is : (standing : List Standing) (places : List ℕ) (ys : List Standing) → map (slice_get standing) places ≡ map (λ (s : Standing). Some s) ys → gathered standing places ≡ ys
gathered_is standing [] [] e = refl
gathered_is standing [] (y ∷ ys) e = absurd (cc)
gathered_is standing (k ∷ ks) [] e = absurd (cc)
gathered_is standing (k ∷ ks) (y ∷ ys) e =
    ap (λ (o : Option Standing). option_to_list o ++ gathered standing ks) (first_same (slice_get standing k) (Some y) (map (slice_get standing) ks) (map (λ (s : Standing). Some s) ys) e)
    ∙ ap (λ (zs : List Standing). y ∷ zs) (gathered_is standing ks ys (rest_same (slice_get standing k) (Some y) (map (slice_get standing) ks) (map (λ (s : Standing). Some s) ys) e))

-- those of a whole map, at a unit
pub units_there : (index : BTreeMap (List ℕ) (List ℕ)) (standing : List Standing) (unit places : List ℕ) → UnitsTo index (length standing) standing → places ≡ places_in index unit
    → map (slice_get standing) places ≡ map (λ (s : Standing). Some s) (filter (stands_at unit) standing)
units_there index standing unit places u is =
    ap (map (slice_get standing)) is ∙ u.units unit
    ∙ ap (λ (xs : List Standing). map (λ (s : Standing). Some s) (filter (stands_at unit) xs)) (take_all (length standing) standing (omega arith))

pub units_gathered : (index : BTreeMap (List ℕ) (List ℕ)) (standing : List Standing) (unit places : List ℕ) → UnitsTo index (length standing) standing → places ≡ places_in index unit
    → gathered standing places ≡ filter (stands_at unit) standing
units_gathered index standing unit places u is = gathered_is standing places (filter (stands_at unit) standing) (units_there index standing unit places u is)

pub units_all_there : (index : BTreeMap (List ℕ) (List ℕ)) (standing : List Standing) (unit places : List ℕ) → UnitsTo index (length standing) standing → places ≡ places_in index unit
    → AreThere standing places
units_all_there index standing unit places u is = record {
  there = units_there index standing unit places u is ∙ ap (map (λ (s : Standing). Some s)) (sym (units_gathered index standing unit places u is));
}

pub none_there : (standing : List Standing) → AreThere standing []
none_there standing = record { there = refl }

length-map : {A B : Type 0} (f : A → B) (xs : List A) → length (map f xs) ≡ length xs
length-map f [] = refl
length-map f (x ∷ xs) = ap suc (length-map f xs)

pub length-gathered : (standing : List Standing) (places : List ℕ) → AreThere standing places → length places ≡ length (gathered standing places)
length-gathered standing places a =
    sym (length-map (slice_get standing) places) ∙ ap (λ (z : List (Option Standing)). length z) a.there ∙ length-map (λ (s : Standing). Some s) (gathered standing places)

pub get-gathered : (standing : List Standing) (places : List ℕ) (at : ℕ) → AreThere standing places
    → option_and_then (slice_get standing) (slice_get places at) ≡ slice_get (gathered standing places) at
get-gathered standing places at a =
    go (slice_get places at) (slice_get (gathered standing places) at)
    (sym (slice_get-map (slice_get standing) places at) ∙ ap (λ (z : List (Option Standing)). slice_get z at) a.there ∙ slice_get-map (λ (s : Standing). Some s) (gathered standing places) at)
  where
    go : (o : Option ℕ) (p : Option Standing) → option_map (slice_get standing) o ≡ option_map (λ (s : Standing). Some s) p → option_and_then (slice_get standing) o ≡ p
    go None None e = refl
    go None (Some y) e = absurd (cc)
    go (Some k) None e = absurd (cc)
    go (Some k) (Some y) e = cc
