-- The numbers of regions, as declarations are taken one by one.
use Rattle.std.proofs.Common.{◌≡◌, ℕ, zero, suc, ◌+◌, ◌<◌, ◌≤◌, List, [], ◌∷◌, ◌++◌, length, get_or, take, map, refl, sym, ◌∙◌, ap, subst, arith, Bool, true, false, cond}
use Rattle.std.specs.Prelude.{Option, Some, None, codes, option_and_then}
use Rattle.std.specs.List.{position_from, slice_get}
use Rattle.std.specs.Option.{option_or, option_map, option_eq}
use mathlib.Core.Bool.{beq, not}
use Rattle.std.specs.Str.{bytes_eq}
use Rattle.std.specs.BTreeMap.{BTreeMap, Updates, IsEmpty, is_at}
use Rattle.std.specs.Ordering.{nat_cmp}
use Rattle.std.specs.Cmp.Lexicographic.{slice_cmp}
use Rattle.std.proofs.lemmas.List.{take_more, map-append}
use Rattle.std.proofs.lemmas.Option.{slice_get-map, slice_get-get_or}
use Rattle.std.proofs.lemmas.Map.Text.{is_eq-slice_cmp}
use Rattle.std.proofs.Common.{add-zero, ◌-◌}
use Rattle.std.proofs.lemmas.Slice.Eq.{bytes_eq-Decides}
use Rattle.std.specs.Ordering.{is_eq}
use Rattle.std.specs.Map.{lookup}
use Rattle.std.specs.Prelude.{is_some}
use Rattle.std.proofs.lemmas.Grind.{common_steps}
use Rattle.region_tree.specs.declared.decl.RegionDecl.{RegionDecl}
use Rattle.region_tree.specs.Regions.{name_or_root, decl_name, decl_kind, region_names, region_kinds, number_of, kind_of, parent_number, parents_of}
use Rattle.region_tree.specs.Names.{number_at, Numbered, PutsFirst, number_found}

position_push : (t : List ℕ → Bool) (i : ℕ) (xs : List (List ℕ)) (y : List ℕ)
    → position_from t i (xs ++ y ∷ []) ≡ option_or (position_from t i xs) (cond (t y) (Some (i + length xs)) None)
position_push t i [] y = ap (λ (z : ℕ). cond (t y) (Some z) None) (sym (add-zero i))
position_push t i (x ∷ xs) y =
    elim (t x) as (λ b. cond b (Some i) (position_from t (i + 1) (xs ++ y ∷ []))
    ≡ option_or (cond b (Some i) (position_from t (i + 1) xs)) (cond (t y) (Some (i + suc (length xs))) None)) [
      | true ↦ refl
      | false ↦ (let same : (i + 1) + length xs ≡ i + suc (length xs) = omega arith in
          position_push t (i + 1) xs y ∙ ap (λ (z : ℕ). option_or (position_from t (i + 1) xs) (cond (t y) (Some z) None)) same)
    ]

names_more : (declared : List RegionDecl) (i : ℕ) (d : RegionDecl) → i < length declared
    → region_names (take (i + 1) declared) ≡ region_names (take i declared) ++ (get_or declared i d).name ∷ []
names_more declared i d within =
    ap region_names (take_more declared i d within)
    ∙ ap (λ (z : List (List ℕ)). codes "Instance" ∷ codes "Static" ∷ z) (map-append decl_name (take i declared) (get_or declared i d ∷ []))

names_long : (declared : List RegionDecl) (i : ℕ) → i < length declared → 0 + length (region_names (take i declared)) ≡ i + 2
names_long declared i within = grind (arith, common_steps)

-- one declaration more
pub number_more : (declared : List RegionDecl) (i : ℕ) (d : RegionDecl) (q : List ℕ) → i < length declared
    → number_of (take (i + 1) declared) q ≡ option_or (number_of (take i declared) q) (cond (bytes_eq (get_or declared i d).name q) (Some (i + 2)) None)
unfolding number_of
number_more declared i d q within =
    let t : List ℕ → Bool = λ n. bytes_eq n q in
    ap (position_from t 0) (names_more declared i d within)
    ∙ position_push t 0 (region_names (take i declared)) (get_or declared i d).name
    ∙ ap (λ (z : ℕ). option_or (position_from t 0 (region_names (take i declared))) (cond (t (get_or declared i d).name) (Some z) None))
    (names_long declared i within)

-- the written name, or the root
pub found_is : (numbers : BTreeMap (List ℕ) ℕ) (declared : List RegionDecl) (name : Option (List ℕ)) (is_static : Bool) → Numbered numbers declared
    → number_found numbers name is_static ≡ number_of declared (name_or_root name is_static)
unfolding number_of
found_is numbers declared None false n = refl
found_is numbers declared None true n = refl
found_is numbers declared (Some name) is_static n = n.numbered name

position_below : (t : List ℕ → Bool) (i k : ℕ) (xs : List (List ℕ)) → position_from t i xs ≡ Some k → k < i + length xs
position_below t i k [] e = absurd (cc)
position_below t i k (x ∷ xs) e = go (t x) (position_below t (i + 1) k xs) e
  where
    go : (b : Bool) → (position_from t (i + 1) xs ≡ Some k → k < (i + 1) + length xs) → cond b (Some i) (position_from t (i + 1) xs) ≡ Some k
        → k < i + suc (length xs)
    go true later found = let same : i ≡ k = cc in omega arith
    go false later found = omega (arith, later found)

-- the number of a region is below the number of regions
pub number_below : (declared : List RegionDecl) (q : List ℕ) (k : ℕ) → number_of declared q ≡ Some k → k < length (region_names declared)
unfolding number_of
number_below declared q k e = omega (arith, position_below (λ n. bytes_eq n q) 0 k (region_names declared) e)

pub names-parents : (declared : List RegionDecl) → length (parents_of declared) ≡ length (region_names declared)
names-parents declared = grind (arith, common_steps)

or_none : (o : Option ℕ) → option_or o None ≡ o
or_none None = refl
or_none (Some x) = refl

-- the map with a name more that was not there
pub inserted_first : (old new : BTreeMap (List ℕ) ℕ) (name : List ℕ) (number : ℕ) → Updates (slice_cmp nat_cmp) old new name (Some number)
    → number_at old name ≡ None → PutsFirst old new name number
inserted_first old new name number u absent = record { puts = λ q. go q (bytes_eq name q) refl }
  where
    go : (q : List ℕ) (b : Bool) → bytes_eq name q ≡ b → number_at new q ≡ option_or (number_at old q) (cond (bytes_eq name q) (Some number) None)
    go q true e =
        let test : is_eq (slice_cmp nat_cmp name q) ≡ true = is_eq-slice_cmp name q ∙ e in
        let none : number_at old q ≡ None = subst (λ (z : List ℕ). number_at old z ≡ None) ((bytes_eq-Decides name q).0 e) absent in
        u.0 q ∙ ap (λ (b : Bool). cond b (Some number) (number_at old q)) test
        ∙ sym (ap (λ (z : Option ℕ). option_or z (cond (bytes_eq name q) (Some number) None)) none ∙ ap (λ (b : Bool). cond b (Some number) None) e)
    go q false e =
        let test : is_eq (slice_cmp nat_cmp name q) ≡ false = is_eq-slice_cmp name q ∙ e in
        u.0 q ∙ ap (λ (b : Bool). cond b (Some number) (number_at old q)) test
        ∙ sym (ap (λ (b : Bool). option_or (number_at old q) (cond b (Some number) None)) e ∙ or_none (number_at old q))

roots_or : (a b : Bool) → option_or {T = ℕ} (option_or {T = ℕ} None (cond a (Some 0) None)) (cond b (Some 1) None) ≡ cond a (Some 0) (cond b (Some 1) None)
roots_or true b = refl
roots_or false true = refl
roots_or false false = refl

-- the map of the two roots
pub roots_numbered : (m0 m1 m2 : BTreeMap (List ℕ) ℕ) (declared : List RegionDecl) (first second : List ℕ) → IsEmpty m0
    → first ≡ codes "Instance" → second ≡ codes "Static" → PutsFirst m0 m1 first 0 → PutsFirst m1 m2 second 1 → Numbered m2 (take 0 declared)
unfolding number_of
roots_numbered m0 m1 m2 declared first second empty is_first is_second one two = record {
  numbered = λ name.
      two.puts name
      ∙ ap (λ (z : Option ℕ). option_or z (cond (bytes_eq second name) (Some 1) None))
      (one.puts name ∙ ap (λ (z : Option ℕ). option_or z (cond (bytes_eq first name) (Some 0) None))
      (ap (λ (es : List (List ℕ × ℕ)). lookup (is_at (slice_cmp nat_cmp name)) es) empty))
      ∙ roots_or (bytes_eq first name) (bytes_eq second name)
      ∙ ap (λ (z : List ℕ). cond (bytes_eq z name) (Some 0) (cond (bytes_eq second name) (Some 1) None)) is_first
      ∙ ap (λ (z : List ℕ). cond (bytes_eq (codes "Instance") name) (Some 0) (cond (bytes_eq z name) (Some 1) None)) is_second;
}

pub more_numbered : (old new : BTreeMap (List ℕ) ℕ) (declared : List RegionDecl) (i : ℕ) (d : RegionDecl) (name : List ℕ) → i < length declared
    → d ≡ get_or declared i d → name ≡ d.name → Numbered old (take i declared) → PutsFirst old new name (i + 2) → Numbered new (take (i + 1) declared)
more_numbered old new declared i d name within is same n p = record {
  numbered = λ q.
      let here : name ≡ (get_or declared i d).name = same ∙ ap decl_name is in
      p.puts q
      ∙ ap (λ (z : Option ℕ). option_or z (cond (bytes_eq name q) (Some (i + 2)) None)) (n.numbered q)
      ∙ ap (λ (z : List ℕ). option_or (number_of (take i declared) q) (cond (bytes_eq z q) (Some (i + 2)) None)) here
      ∙ sym (number_more declared i d q within);
}

-- the kind of the written name
kind_found : (numbers : BTreeMap (List ℕ) ℕ) (declared : List RegionDecl) (name : Option (List ℕ)) (is_static : Bool) → Numbered numbers declared
    → kind_of declared (name_or_root name is_static) ≡ option_and_then (slice_get (region_kinds declared)) (number_found numbers name is_static)
unfolding kind_of
kind_found numbers declared name is_static n = ap (option_and_then (slice_get (region_kinds declared))) (sym (found_is numbers declared name is_static n))

pub kind_none : (numbers : BTreeMap (List ℕ) ℕ) (declared : List RegionDecl) (name : Option (List ℕ)) (is_static : Bool) (found : Option ℕ)
    → Numbered numbers declared → found ≡ number_found numbers name is_static → found ≡ None → kind_of declared (name_or_root name is_static) ≡ None
kind_none numbers declared name is_static found n e none =
    kind_found numbers declared name is_static n ∙ ap (option_and_then (slice_get (region_kinds declared))) (sym e ∙ none)

pub kind_some : (numbers : BTreeMap (List ℕ) ℕ) (declared : List RegionDecl) (name : Option (List ℕ)) (is_static : Bool) (found : Option ℕ) (k : ℕ)
    → Numbered numbers declared → found ≡ number_found numbers name is_static → found ≡ Some k
    → kind_of declared (name_or_root name is_static) ≡ slice_get (region_kinds declared) k
kind_some numbers declared name is_static found k n e some =
    kind_found numbers declared name is_static n ∙ ap (option_and_then (slice_get (region_kinds declared))) (sym e ∙ some)

kind_at : (declared : List RegionDecl) (n : ℕ) → 2 ≤ n → slice_get (region_kinds declared) n ≡ option_map decl_kind (slice_get declared (n - 2))
kind_at declared zero a = absurd (omega arith)
kind_at declared (suc zero) a = absurd (omega arith)
kind_at declared (suc (suc n)) a = slice_get-map decl_kind declared n ∙ ap (λ (z : ℕ). option_map decl_kind (slice_get declared z)) (omega arith)

-- the parents with one more
pub parents_more : (declared : List RegionDecl) (i : ℕ) (d : RegionDecl) (parents : List (Option ℕ)) → i < length declared
    → parents ≡ None ∷ None ∷ map (parent_number declared) (take i declared)
    → parents ++ parent_number declared (get_or declared i d) ∷ [] ≡ None ∷ None ∷ map (parent_number declared) (take (i + 1) declared)
parents_more declared i d parents within e =
    ap (λ (z : List (Option ℕ)). z ++ parent_number declared (get_or declared i d) ∷ []) e
    ∙ ap (λ (z : List (Option ℕ)). None ∷ None ∷ z) (sym (map-append (parent_number declared) (take i declared) (get_or declared i d ∷ [])))
    ∙ ap (λ (z : List RegionDecl). None ∷ None ∷ map (parent_number declared) z) (sym (take_more declared i d within))

pub parents_pushed : (numbers : BTreeMap (List ℕ) ℕ) (declared : List RegionDecl) (i : ℕ) (d : RegionDecl) (found : Option ℕ) (parents pushed : List (Option ℕ))
    → i < length declared → Numbered numbers declared → d ≡ get_or declared i d → found ≡ number_found numbers d.parent d.is_static
    → pushed ≡ parents ++ found ∷ [] → parents ≡ None ∷ None ∷ map (parent_number declared) (take i declared)
    → pushed ≡ None ∷ None ∷ map (parent_number declared) (take (i + 1) declared)
parents_pushed numbers declared i d found parents pushed within n is e push so_far =
    let here : found ≡ parent_number declared (get_or declared i d) =
    e ∙ found_is numbers declared d.parent d.is_static n ∙ ap (parent_number declared) is in
    push ∙ ap (λ (z : Option ℕ). parents ++ z ∷ []) here ∙ parents_more declared i d parents within so_far

pub none_of : (o : Option ℕ) → is_some o ≡ false → o ≡ None
none_of None e = refl
none_of (Some x) e = absurd (cc)

pub kind_some_at : (declared : List RegionDecl) (n : ℕ) (d : RegionDecl) → 2 ≤ n → n - 2 < length declared → d ≡ get_or declared (n - 2) d
    → Some d.is_static ≡ slice_get (region_kinds declared) n
kind_some_at declared n d low within e =
    ap (λ (z : RegionDecl). Some z.is_static) e ∙ sym (ap (option_map decl_kind) (slice_get-get_or declared (n - 2) d within)) ∙ sym (kind_at declared n low)

-- an element of a front of a list
pub get_take : {X : Type 0} (xs : List X) (i k : ℕ) (x : X) → slice_get (take i xs) k ≡ Some x → (k < i) × (slice_get xs k ≡ Some x)
get_take [] zero k x e = absurd (cc)
get_take [] (suc i) k x e = absurd (cc)
get_take (y ∷ xs) zero k x e = absurd (cc)
get_take (y ∷ xs) (suc i) zero x e = (omega arith, e)
get_take (y ∷ xs) (suc i) (suc k) x e = let r = get_take xs i k x e in (omega (arith, r.0), r.1)

pub none_if : {X : Type 0} (o : Option X) → ((x : X) → o ≡ Some x → ⊥) → o ≡ None
none_if None h = refl
none_if (Some x) h = absurd (h x refl)

pub kind_differs : (o : Option Bool) (s : Bool) → true ≡ not (option_eq beq o (Some s)) → o ≡ Some s → ⊥
kind_differs None s e is = cc
kind_differs (Some true) true e is = cc
kind_differs (Some true) false e is = cc
kind_differs (Some false) true e is = cc
kind_differs (Some false) false e is = cc

pub kind_agrees : (o : Option Bool) (s : Bool) → false ≡ not (option_eq beq o (Some s)) → o ≡ Some s
kind_agrees None s e = absurd (cc)
kind_agrees (Some true) true e = refl
kind_agrees (Some true) false e = absurd (cc)
kind_agrees (Some false) true e = absurd (cc)
kind_agrees (Some false) false e = refl
