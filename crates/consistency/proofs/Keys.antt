-- One promise more has its number.
use Rattle.std.proofs.Common.{◌≡◌, ℕ, ◌+◌, ◌<◌, List, [], refl, sym, ◌∙◌, ap, subst, arith, rules, ◌⊎◌, inl, inr, Bool, true, false, cond}
use Rattle.std.specs.Prelude.{Some}
use Rattle.std.specs.List.{slice_get}
use Rattle.std.specs.Ordering.{nat_cmp, ordering_then, is_eq}
use Rattle.std.specs.Cmp.Lexicographic.{slice_cmp}
use Rattle.std.specs.BTreeMap.{BTreeMap, Updates, IsEmpty, is_at}
use Rattle.std.specs.Map.{lookup}
use Rattle.std.specs.declared.cmp.Ordering.{Ordering}
use Rattle.std.specs.declared.cmp.Ordering.TheVariants.{Less, Equal, Greater}
use Rattle.std.proofs.lemmas.Map.Lookups.{exact_bytes}
use denote.Enum.Bare.{same_true}
use Rattle.desk_base.specs.declared.key.PromiseKey.{PromiseKey}
use Rattle.desk_base.specs.declared.key.PromiseName.{PromiseName}
use Rattle.desk_base.specs.contracts.key.PromiseName.{the_type}
use Rattle.desk_base.specs.contracts.key.PromiseNameOrd.TheImpl as name_ord
use Rattle.desk_base.specs.contracts.key.PromiseNameOrd.TheImpl.Laws as name_laws
use Rattle.consistency.specs.Keys.{IndexesTo, key_cmp, number_in}

-- ---- keys that tie are one key

exact_name : (x y : PromiseName) → (name_ord.ghosts).cmp x y ≡ Equal → x ≡ y
exact_name x y h = same_true the_type (search rules) x y (name_laws.matches_eq-law x y ∙ ap (λ (o : Ordering). is_eq o) h)

both_tie : (a b : Ordering) → ordering_then a b ≡ Equal → (a ≡ Equal) × (b ≡ Equal)
both_tie Less b h = absurd (cc)
both_tie Equal b h = (refl, h)
both_tie Greater b h = absurd (cc)

pub exact_keys : (x y : PromiseKey) → key_cmp x y ≡ Equal → x ≡ y
exact_keys x y h =
    let tied : ordering_then (slice_cmp nat_cmp x.target y.target) (ordering_then ((name_ord.ghosts).cmp x.name y.name) (slice_cmp nat_cmp x.detail y.detail)) ≡ Equal = h in
    let first = both_tie _ _ tied in
    let rest = both_tie _ _ first.1 in
    same x.target y.target x.name y.name x.detail y.detail (exact_bytes x.target y.target first.0) (exact_name x.name y.name rest.0) (exact_bytes x.detail y.detail rest.1)
  where
    same : (t u : List ℕ) (m n : PromiseName) (d e : List ℕ) → t ≡ u → m ≡ n → d ≡ e
        → (let a : PromiseKey = record { target = t; name = m; detail = d } in let b : PromiseKey = record { target = u; name = n; detail = e } in a ≡ b)
    same t u m n d e p q r = cc

equal_of : (o : Ordering) → is_eq o ≡ true → o ≡ Equal
equal_of Less h = absurd cc
equal_of Equal h = refl
equal_of Greater h = absurd cc

at_key : (x y : PromiseKey) → is_at (key_cmp x) y ≡ true → x ≡ y
at_key x y h = exact_keys x y (equal_of (key_cmp x y) h)

-- ---- the map

test_of : (b : Bool) → (b ≡ true) ⊎ (b ≡ false)
test_of true = inl refl
test_of false = inr refl

last_or_below : (l n : ℕ) → l < n + 1 → (l ≡ n) ⊎ (l < n)
last_or_below l n h = grind arith

some_same : {X : Type 0} (x y : X) → Some x ≡ Some y → x ≡ y
some_same {X} x y e = cc

pub indexes_none : (ps : List PromiseKey) (numbers : BTreeMap PromiseKey ℕ) → IsEmpty numbers → IndexesTo ps 0 numbers
indexes_none ps numbers none = record {
  sound = λ p k h. absurd (none_there p k (subst (λ (z : List (PromiseKey × ℕ)). lookup (is_at (key_cmp p)) z ≡ Some k) none h));
  whole = λ one p k lt. absurd (omega arith);
} where
  none_there : (p : PromiseKey) (k : ℕ) → lookup (is_at (key_cmp p)) [] ≡ Some k → ⊥
  none_there p k h = cc

pub indexes_more : (ps : List PromiseKey) (i n : ℕ) (old new : BTreeMap PromiseKey ℕ) (key : PromiseKey) → slice_get ps i ≡ Some key → n ≡ i
    → Updates key_cmp old new key (Some n) → IndexesTo ps i old → IndexesTo ps (i + 1) new
indexes_more ps i n old new key at is u x = record {
  sound = λ p k h. elim (test_of (is_at (key_cmp key) p)) [
    | inl hit ↦ (
        let now = u.0 p ∙ ap (λ (b : Bool). cond b (Some n) (number_in old p)) hit in
        let same : k ≡ i = some_same k n (sym h ∙ now) ∙ is in
        let e = at_key key p hit in
        (omega arith, subst (λ (z : ℕ). slice_get ps z ≡ Some p) (sym same) (at ∙ ap (λ (z : PromiseKey). Some z) e)))
    | inr miss ↦ (
        let now = u.0 p ∙ ap (λ (b : Bool). cond b (Some n) (number_in old p)) miss in
        let w = x.sound p k (sym now ∙ h) in
        (let lt = w.0 in omega arith, w.1))
  ];
  whole = λ one p k lt h. elim (last_or_below k i lt) [
    | inl last ↦ (
        let same : key ≡ p = some_same key p (sym at ∙ subst (λ (z : ℕ). slice_get ps z ≡ Some p) last h) in
        subst (λ (z : PromiseKey). number_in new z ≡ Some k) same (u.1 ∙ ap (λ (z : ℕ). Some z) (is ∙ sym last)))
    | inr below ↦ elim (test_of (is_at (key_cmp key) p)) [
      | inl hit ↦ absurd (
          let e = at_key key p hit in
          let same = one i k p (at ∙ ap (λ (z : PromiseKey). Some z) e) h in
          omega arith)
      | inr miss ↦ u.0 p ∙ ap (λ (b : Bool). cond b (Some n) (number_in old p)) miss ∙ x.whole one p k below h
    ]
  ];
}
