-- What is known of the declarations and fields that were looked at.
use Rattle.std.proofs.Common.{◌≡◌, ℕ, ◌+◌, ◌<◌, List, [], ◌∷◌, ◌++◌, length, get_or, take, refl, sym, ◌∙◌, ap, subst, inl, inr, ◌⊎◌, Bool, true, false, cond, rules}
use Rattle.std.specs.Prelude.{Option, Some, None, option_and_then, find, is_some}
use Rattle.std.specs.List.{slice_get, position_or_len}
use Rattle.std.specs.Option.{option_or}
use Rattle.std.specs.Str.{bytes_eq}
use Rattle.std.specs.BTreeMap.{BTreeMap}
use Rattle.std.proofs.lemmas.List.{take_more}
use Rattle.std.proofs.lemmas.List.Folds.{find-append, find_at}
use Rattle.std.proofs.lemmas.Option.{slice_get-get_or}
use Rattle.region_tree.specs.declared.decl.RegionDecl.{RegionDecl}
use Rattle.region_tree.specs.declared.decl.FieldPut.{FieldPut}
use Rattle.region_tree.specs.Regions.{number_of, kind_of, field_region, place_of}
use Rattle.region_tree.specs.Faults.{IsGood, AllGood, IsPlaced, AllPlaced}
use Rattle.region_tree.specs.Names.{PutsFirst, Places}
use Rattle.region_tree.proofs.Numbers.{get_take}

some_at : {X : Type 0} (xs : List X) (i : ℕ) (d x : X) → i < length xs → d ≡ get_or xs i d → slice_get xs i ≡ Some x → x ≡ d
some_at xs i d x within e there = let s = slice_get-get_or xs i d within in cc

-- what holds of each element below i and of that at i holds below i + 1
below_more_at : {X : Type 0} (P : ℕ → X → Type 0) (xs : List X) (i : ℕ) (d : X) → i < length xs → d ≡ get_or xs i d
    → ((j : ℕ) (x : X) → j < i → slice_get xs j ≡ Some x → P j x) → P i d → (j : ℕ) (x : X) → j < i + 1 → slice_get xs j ≡ Some x → P j x
below_more_at P xs i d within e below here j x less there = go (search rules)
  where
    go : (j < i) ⊎ (j ≡ i) → P j x
    go (inl low) = below j x low there
    go (inr same) =
        let at_i : slice_get xs i ≡ Some x = subst (λ (k : ℕ). slice_get xs k ≡ Some x) same there in
        let is : d ≡ x = sym (some_at xs i d x within e at_i) in
        subst (λ (k : ℕ). P k x) (sym same) (subst (λ y. P i y) is here)

pub good_more : (declared : List RegionDecl) (i : ℕ) (d : RegionDecl) → i < length declared → d ≡ get_or declared i d → AllGood declared i → IsGood declared i d
    → AllGood declared (i + 1)
good_more declared i d within e below here = below_more_at (λ k x. IsGood declared k x) declared i d within e below here

pub placed_more : (declared : List RegionDecl) (puts : List FieldPut) (i : ℕ) (d : FieldPut) → i < length puts → d ≡ get_or puts i d → AllPlaced declared puts i
    → IsPlaced declared d → AllPlaced declared puts (i + 1)
placed_more declared puts i d within e below here = below_more_at (λ k x. IsPlaced declared x) puts i d within e below here

placed_number : (declared : List RegionDecl) (put : FieldPut) → IsPlaced declared put → is_some (number_of declared (field_region put)) ≡ true
unfolding kind_of
placed_number declared put e = go (number_of declared (field_region put)) refl
  where
    go : (o : Option ℕ) → number_of declared (field_region put) ≡ o → is_some (number_of declared (field_region put)) ≡ true
    go None is = absurd (cc)
    go (Some n) is = ap is_some is

or_some : (o p : Option ℕ) → is_some o ≡ true → option_or o p ≡ o
or_some None p e = absurd (cc)
or_some (Some x) p e = refl

find_then : {X : Type 0} (f : X → Option ℕ) (p : X → Bool) (xs : List X) (y : X) → ((x : X) → find p xs ≡ Some x → is_some (f x) ≡ true)
    → option_and_then f (find p (xs ++ y ∷ [])) ≡ option_or (option_and_then f (find p xs)) (cond (p y) (f y) None)
find_then f p xs y all = ap (option_and_then f) (find-append p xs (y ∷ [])) ∙ go (find p xs) all (p y)
  where
    go : (o : Option _) → ((x : _) → o ≡ Some x → is_some (f x) ≡ true) → (b : Bool)
        → option_and_then f (option_or o (cond b (Some y) None)) ≡ option_or (option_and_then f o) (cond b (f y) None)
    go None some true = refl
    go None some false = refl
    go (Some x) some b = sym (or_some (f x) (cond b (f y) None) (some x refl))

place_more : (declared : List RegionDecl) (puts : List FieldPut) (i : ℕ) (d : FieldPut) (q : List ℕ) → i < length puts → d ≡ get_or puts i d → AllPlaced declared puts i
    → place_of declared (take (i + 1) puts) q ≡ option_or (place_of declared (take i puts) q) (cond (bytes_eq d.field q) (number_of declared (field_region d)) None)
place_more declared puts i d q within e placed =
    ap (λ (ps : List FieldPut). place_of declared ps q) (take_more puts i d within ∙ ap (λ (z : FieldPut). take i puts ++ z ∷ []) (sym e))
    ∙ find_then (λ put. number_of declared (field_region put)) (λ put. bytes_eq put.field q) (take i puts) d
    (λ x found. placed_number declared x
    (let k = position_or_len (λ put. bytes_eq put.field q) (take i puts) in
    let r = get_take puts i k x (sym (find_at (λ put. bytes_eq put.field q) (take i puts)) ∙ found) in placed k x r.0 r.1))

-- one field more
pub places_more : (old new : BTreeMap (List ℕ) ℕ) (declared : List RegionDecl) (puts : List FieldPut) (i : ℕ) (d : FieldPut) (name : List ℕ) (number : ℕ)
    → i < length puts → d ≡ get_or puts i d → AllPlaced declared puts i → name ≡ d.field → number_of declared (field_region d) ≡ Some number
    → Places old declared (take i puts) → PutsFirst old new name number → Places new declared (take (i + 1) puts)
places_more old new declared puts i d name number within e placed same is n p = record {
  placed = λ q.
      p.puts q
      ∙ ap (λ (z : Option ℕ). option_or z (cond (bytes_eq name q) (Some number) None)) (n.placed q)
      ∙ ap (λ (z : List ℕ). option_or (place_of declared (take i puts) q) (cond (bytes_eq z q) (Some number) None)) same
      ∙ ap (λ (z : Option ℕ). option_or (place_of declared (take i puts) q) (cond (bytes_eq d.field q) z None)) (sym is)
      ∙ sym (place_more declared puts i d q within e placed);
}
