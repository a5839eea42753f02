-- What the map of a scope's names finds is what a search of its entries finds.
use Rattle.std.proofs.Common.{◌≡◌, ℕ, zero, suc, ◌+◌, ◌<◌, List, [], ◌∷◌, ◌++◌, take, length, refl, sym, ◌∙◌, ap, subst, inl, inr, arith, Bool, true, false, cond}
use Rattle.std.specs.Prelude.{◌⊎◌, Option, Some, None, find, is_some}
use Rattle.std.specs.List.{slice_get}
use Rattle.std.specs.Str.{bytes_eq}
use Rattle.std.specs.Ordering.{nat_cmp}
use Rattle.std.specs.Cmp.Lexicographic.{nat_list_eq_equiv, slice_cmp}
use Rattle.std.specs.BTreeMap.{BTreeMap, Updates}
use Rattle.std.proofs.lemmas.Slice.Eq.{bytes_eq-Decides}
use Rattle.std.proofs.lemmas.Map.Text.{is_eq-slice_cmp}
use Rattle.name_rules.specs.declared.scope.Entry.{Entry}
use Rattle.name_rules.specs.Types.{Name}
use Rattle.name_rules.specs.Named.{IsNamed, place_at}
use Rattle.name_rules.specs.Scopes.{entry_of, in_scope}

some_same : {X : Type 0} (x y : X) → Some x ≡ Some y → x ≡ y
some_same x y e = cc

-- the only element that passes is the first that does
find_only : {X : Type 0} (t : X → Bool) (xs : List X) (i : ℕ) (x : X) → slice_get xs i ≡ Some x → t x ≡ true
    → ((j : ℕ) (y : X) → slice_get xs j ≡ Some y → t y ≡ true → j ≡ i) → find t xs ≡ Some x
find_only t [] i x e p only = absurd (cc)
find_only {X} t (y ∷ ys) zero x e p only =
    ap (λ (b : Bool). cond b (Some y) (find t ys)) (ap t (some_same y x e) ∙ p) ∙ e
find_only {X} t (y ∷ ys) (suc i) x e p only = go (t y) (only zero y refl) (find_only t ys i x e p later)
  where
    later : (j : ℕ) (z : X) → slice_get ys j ≡ Some z → t z ≡ true → j ≡ i
    later j z f q = let same : suc j ≡ suc i = only (suc j) z f q in omega arith

    go : (b : Bool) → (b ≡ true → zero ≡ suc i) → find t ys ≡ Some x → cond b (Some y) (find t ys) ≡ Some x
    go true first rest = absurd (let same : zero ≡ suc i = first refl in omega arith)
    go false first rest = rest

-- where no element passes none is found
find_none : {X : Type 0} (t : X → Bool) (xs : List X) → ((j : ℕ) (y : X) → slice_get xs j ≡ Some y → t y ≡ true → ⊥) → find t xs ≡ None
find_none t [] never = refl
find_none {X} t (y ∷ ys) never = go (t y) (never zero y refl) (find_none t ys (λ j. never (suc j)))
  where
    go : (b : Bool) → (b ≡ true → ⊥) → find t ys ≡ None → cond b (Some y) (find t ys) ≡ None
    go true first rest = absurd (first refl)
    go false first rest = rest

abbrev has_name : Name → Entry → Bool
has_name name e = bytes_eq e.name name

-- an entry of a name stands at the place that the map has at the name
place_of : (places : BTreeMap Name ℕ) (scope : List Entry) (name : Name) (j : ℕ) (d : Entry)
    → IsNamed places scope → slice_get scope j ≡ Some d → bytes_eq d.name name ≡ true → place_at places name ≡ Some j
place_of places scope name j d named at same =
    subst (λ (n : Name). place_at places n ≡ Some j) ((bytes_eq-Decides d.name name).0 same) (named.stands j d at)

-- a name that has no place isn't in scope
pub not_placed : (places : BTreeMap Name ℕ) (scope : List Entry) (name : Name)
    → IsNamed places scope → place_at places name ≡ None → entry_of scope name ≡ None
not_placed places scope name named none =
    find_none (has_name name) scope (λ j d at same. let p : place_at places name ≡ Some j = place_of places scope name j d named at same in cc)

-- what stands at its place is what is found
pub placed : (places : BTreeMap Name ℕ) (scope : List Entry) (name : Name) (i : ℕ) (e : Entry)
    → IsNamed places scope → place_at places name ≡ Some i → slice_get scope i ≡ Some e → bytes_eq e.name name ≡ true → entry_of scope name ≡ Some e
placed places scope name i e named has at same =
    find_only (has_name name) scope i e at same
    (λ j d there is. let p : place_at places name ≡ Some j = place_of places scope name j d named there is in some_same j i (sym p ∙ has))

-- where nothing or another name stands there, the name isn't in scope
left_over : (places : BTreeMap Name ℕ) (scope : List Entry) (name : Name) (i : ℕ)
    → IsNamed places scope → place_at places name ≡ Some i → ((e : Entry) → slice_get scope i ≡ Some e → bytes_eq e.name name ≡ false) → entry_of scope name ≡ None
left_over places scope name i named has other =
    find_none (has_name name) scope (λ j d at same.
    let p : place_at places name ≡ Some j = place_of places scope name j d named at same in
    let here : i ≡ j = some_same i j (sym has ∙ p) in
    let differs : bytes_eq d.name name ≡ false = other d (subst (λ (n : ℕ). slice_get scope n ≡ Some d) (sym here) at) in
    cc)

pub other_there : (places : BTreeMap Name ℕ) (scope : List Entry) (name : Name) (i : ℕ) (e : Entry)
    → IsNamed places scope → place_at places name ≡ Some i → slice_get scope i ≡ Some e → bytes_eq e.name name ≡ false → entry_of scope name ≡ None
other_there places scope name i e named has there differs =
    left_over places scope name i named has (λ d at. ap (has_name name) (some_same d e (sym at ∙ there)) ∙ differs)

pub none_there : (places : BTreeMap Name ℕ) (scope : List Entry) (name : Name) (i : ℕ)
    → IsNamed places scope → place_at places name ≡ Some i → slice_get scope i ≡ None → entry_of scope name ≡ None
none_there places scope name i named has there = left_over places scope name i named has (λ d at. absurd (cc))

-- ---- the map as names come and go

-- no entry needs no place
pub none_named : (places : BTreeMap Name ℕ) (scope : List Entry) → scope ≡ [] → IsNamed places scope
none_named places scope none = record { stands = λ i e at. absurd (nothing i e (subst (λ (s : List Entry). slice_get s i ≡ Some e) none at)) }
  where
    nothing : (i : ℕ) (e : Entry) → slice_get [] i ≡ Some e → ⊥
    nothing i e at = cc

-- one of more elements is the last, or one of those before
one_more : {X : Type 0} (xs : List X) (x : X) (j : ℕ) (y : X) → slice_get (xs ++ x ∷ []) j ≡ Some y
    → ((j ≡ length xs) × (x ≡ y)) ⊎ (slice_get xs j ≡ Some y)
one_more [] x zero y e = inl (refl, some_same x y e)
one_more [] x (suc j) y e = absurd (cc)
one_more (z ∷ zs) x zero y e = inr e
one_more {X} (z ∷ zs) x (suc j) y e = go (one_more zs x j y e)
  where
    go : ((j ≡ length zs) × (x ≡ y)) ⊎ (slice_get zs j ≡ Some y) → ((suc j ≡ suc (length zs)) × (x ≡ y)) ⊎ (slice_get zs j ≡ Some y)
    go (inl (at, is)) = inl (ap (λ (n : ℕ). suc n) at, is)
    go (inr there) = inr there

absent_here : (x d : Entry) (xs : List Entry) (name : Name) (b : Bool) → bytes_eq x.name name ≡ b → is_some (cond b (Some x) (entry_of xs name)) ≡ false → x ≡ d → bytes_eq d.name name ≡ false
absent_here x d xs name true is has same = absurd (cc)
absent_here x d xs name false is has same = ap (has_name name) (sym same) ∙ is

absent_later : (x : Entry) (xs : List Entry) (name : Name) (b : Bool) → is_some (cond b (Some x) (entry_of xs name)) ≡ false → in_scope xs name ≡ false
absent_later x xs name true has = absurd (cc)
absent_later x xs name false has = has

-- a name that isn't in scope is that of no entry
absent : (scope : List Entry) (name : Name) (j : ℕ) (d : Entry) → in_scope scope name ≡ false → slice_get scope j ≡ Some d → bytes_eq d.name name ≡ false
absent [] name j d free at = absurd (cc)
absent (x ∷ xs) name zero d free at = absent_here x d xs name (bytes_eq x.name name) refl free (some_same x d at)
absent (x ∷ xs) name (suc j) d free at = absent xs name j d (absent_later x xs name (bytes_eq x.name name) free) at

-- a name more in the map, which isn't in scope
pub with_place : (old new : BTreeMap Name ℕ) (scope : List Entry) (name : Name) (n : ℕ)
    → Updates (slice_cmp nat_cmp) old new name (Some n) → in_scope scope name ≡ false → IsNamed old scope → IsNamed new scope
with_place old new scope name n u free named = record {
  stands = λ i e at.
      u.0 e.name
      ∙ ap (λ (b : Bool). cond b (Some n) (place_at old e.name)) (is_eq-slice_cmp name e.name ∙ same_test name e.name ∙ absent scope name i e free at)
      ∙ named.stands i e at;
} where
  same_test : (a b : Name) → bytes_eq a b ≡ bytes_eq b a
  same_test a b = (nat_list_eq_equiv).symm a b

-- an entry more, whose name has the place behind the others
pub with_last : (old new : BTreeMap Name ℕ) (scope : List Entry) (name : Name) (n : ℕ) (e : Entry)
    → Updates (slice_cmp nat_cmp) old new name (Some n) → n ≡ length scope → name ≡ e.name → in_scope scope e.name ≡ false
    → IsNamed old scope → IsNamed new (scope ++ e ∷ [])
with_last old new scope name n e u last is free named = record {
  stands = λ i d at. go i d (one_more scope e i d at);
} where
  before : IsNamed new scope
  before = with_place old new scope name n u (ap (in_scope scope) is ∙ free) named

  go : (i : ℕ) (d : Entry) → ((i ≡ length scope) × (e ≡ d)) ⊎ (slice_get scope i ≡ Some d) → place_at new d.name ≡ Some i
  go i d (inl (at, same)) =
      ap (place_at new) (sym (is ∙ ap (λ (x : Entry). x.name) same)) ∙ u.1 ∙ ap (λ (k : ℕ). Some k) (last ∙ sym at)
  go i d (inr there) = before.stands i d there

-- of the first elements each stands where it stood
stood : {X : Type 0} (len : ℕ) (xs : List X) (i : ℕ) (x : X) → slice_get (take len xs) i ≡ Some x → slice_get xs i ≡ Some x
stood zero xs i x e = absurd (cc)
stood (suc len) [] i x e = absurd (cc)
stood (suc len) (y ∷ ys) zero x e = e
stood (suc len) (y ∷ ys) (suc i) x e = stood len ys i x e

pub cut_named : (places : BTreeMap Name ℕ) (scope : List Entry) (len : ℕ) → IsNamed places scope → IsNamed places (take len scope)
cut_named places scope len named = record { stands = λ i e at. named.stands i e (stood len scope i e at) }
