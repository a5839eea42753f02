-- Maps that are filled from the last element to the first.
use Rattle.std.proofs.Common.{◌≡◌, ℕ, zero, suc, ◌+◌, ◌-◌, ◌<◌, ◌≤◌, List, [], ◌∷◌, length, get_or, drop, refl, sym, ◌∙◌, ap, subst, arith, Bool, true, false, cond, add-one}
use Rattle.std.specs.Prelude.{Option, Some, None, find}
use Rattle.std.specs.List.{position_from, slice_get}
use Rattle.std.specs.Option.{option_map}
use Rattle.std.specs.Map.{lookup}
use Rattle.std.specs.BTreeMap.{BTreeMap, Updates, IsEmpty, get, is_at}
use Rattle.std.specs.declared.cmp.Ordering.{Ordering}
use Rattle.std.specs.Ordering.{nat_cmp}
use Rattle.std.specs.Cmp.Lexicographic.{slice_cmp}
use Rattle.std.specs.Str.{bytes_eq}
use Rattle.std.proofs.lemmas.Map.Text.{is_eq-slice_cmp}
use Rattle.std.proofs.Math.Seq.{drop-cons}
use Rattle.std.proofs.lemmas.List.{drop_all}
use mathlib.Core.Bool.{◌&&◌}
use Rattle.std.specs.Prelude.{is_some}
use Rattle.promise_grammar.specs.declared.lock.RegionLockContent.{RegionLockContent}
use Rattle.promise_scrub.specs.declared.surface.Standing.{Standing}
use Rattle.std.specs.Option.{option_copied}
use Rattle.std.proofs.Common.{Bor}
use Rattle.views.specs.Indexes.{FirstsFrom, lock_is, place_at}
use Rattle.views.specs.Looks.{lock_given, lock_has_name, puts_field, region_given}

-- behind the last element there is none
pub none_behind : {K X : Type 0} (cmp : K → K → Ordering) (index : BTreeMap K ℕ) (test : K → X → Bool) (at : ℕ) (xs : List X)
    → IsEmpty index → at ≡ length xs → FirstsFrom (get cmp index) test at xs
none_behind {K} {X} cmp index test at xs empty end = record {
  firsts = λ key.
      ap (λ (es : List (K × ℕ)). lookup (is_at (cmp key)) es) empty
      ∙ sym (ap (position_from (test key) at) (drop_all at xs (let e = end in omega arith)));
}

-- an element more, which was put under its key
pub one_more : {K X : Type 0} (cmp : K → K → Ordering) (old new : BTreeMap K ℕ) (test : K → X → Bool) (at i : ℕ) (xs : List X) (x : X) (key : K)
    → FirstsFrom (get cmp old) test at xs → at ≡ i + 1 → i < length xs → x ≡ get_or xs i x
    → ((q : K) → is_at (cmp key) q ≡ test q x) → Updates cmp old new key (Some i)
    → FirstsFrom (get cmp new) test i xs
one_more {K} {X} cmp old new test at i xs x key f next low is same u = record {
  firsts = λ q.
      u.0 q
      ∙ ap (λ (b : Bool). cond b (Some i) (get cmp old q)) (same q)
      ∙ ap (λ (o : Option ℕ). cond (test q x) (Some i) o) (f.firsts q ∙ ap (λ (n : ℕ). position_from (test q) n (drop n xs)) next)
      ∙ sym (ap (position_from (test q) i) (rest_of xs i x low is));
} where
  rest_of : (xs : List X) (i : ℕ) (x : X) → i < length xs → x ≡ get_or xs i x → drop i xs ≡ x ∷ drop (i + 1) xs
  rest_of xs i x low is = drop-cons xs i x low ∙ ap (λ (y : X). y ∷ drop (suc i) xs) (sym is) ∙ ap (λ (n : ℕ). x ∷ drop n xs) (sym (add-one i))

-- the same under a text
pub text_more : {X : Type 0} (old new : BTreeMap (List ℕ) ℕ) (test : List ℕ → X → Bool) (at : ℕ) (xs : List X) (x : X) (key : List ℕ)
    → 0 < at → at ≤ length xs → x ≡ get_or xs (at - 1) x → ((q : List ℕ) → bytes_eq key q ≡ test q x)
    → FirstsFrom (place_at old) test at xs → Updates (slice_cmp nat_cmp) old new key (Some (at - 1))
    → FirstsFrom (place_at new) test (at - 1) xs
text_more {X} old new test at xs x key some low is same f u =
    one_more (slice_cmp nat_cmp) old new test at (at - 1) xs x key f (omega arith) (omega arith) is (λ q. is_eq-slice_cmp key q ∙ same q) u

-- an element less, which the map is not to have
pub one_less : {K X : Type 0} (found : K → Option ℕ) (test : K → X → Bool) (at : ℕ) (xs : List X) (x : X)
    → 0 < at → at ≤ length xs → x ≡ get_or xs (at - 1) x → ((q : K) → test q x ≡ false)
    → FirstsFrom found test at xs → FirstsFrom found test (at - 1) xs
one_less {K} {X} found test at xs x some low is fails f = record {
  firsts = λ q.
      f.firsts q
      ∙ sym (ap (position_from (test q) (at - 1)) rest ∙ ap (λ (b : Bool). cond b (Some (at - 1)) (position_from (test q) ((at - 1) + 1) (drop at xs))) (fails q)
      ∙ ap (λ (n : ℕ). position_from (test q) n (drop at xs)) back);
} where
  back : (at - 1) + 1 ≡ at
  back = omega arith

  below : at - 1 < length xs
  below = omega arith

  rest : drop (at - 1) xs ≡ x ∷ drop at xs
  rest = drop-cons xs (at - 1) x below ∙ ap (λ (y : X). y ∷ drop (suc (at - 1)) xs) (sym is) ∙ ap (λ (n : ℕ). x ∷ drop n xs) (sym (add-one (at - 1)) ∙ back)

-- a promise that gives a lock is found under its name alone
pub lock_named : (s : Standing) (content : RegionLockContent) (key : List ℕ) → lock_given s ≡ Some content → key ≡ content.name
    → (q : List ℕ) → bytes_eq key q ≡ lock_is q s
lock_named s content key given is q = ap (λ (k : List ℕ). bytes_eq k q) is ∙ sym (ap (lock_has_name q) given)

pub no_lock : (s : Standing) → lock_given s ≡ None → (q : List ℕ) → lock_is q s ≡ false
no_lock s none q = ap (lock_has_name q) none

and_true : (a b : Bool) → b ≡ true → a ≡ (a && b)
and_true true true e = refl
and_true false true e = refl
and_true a false e = absurd (cc)

and_false : (a b : Bool) → b ≡ false → (a && b) ≡ false
and_false true b e = e
and_false false b e = refl

-- one that puts a field in a region, under the field's key
pub put_keyed : (s : Standing) (key : List ℕ) → is_some (region_given s) ≡ true → key ≡ s.key.target
    → (q : List ℕ) → bytes_eq key q ≡ puts_field q s
put_keyed s key puts is q = ap (λ (k : List ℕ). bytes_eq k q) is ∙ and_true (bytes_eq s.key.target q) (is_some (region_given s)) puts

pub no_put : (s : Standing) → is_some (region_given s) ≡ false → (q : List ℕ) → puts_field q s ≡ false
no_put s puts q = and_false (bytes_eq s.key.target q) (is_some (region_given s)) puts

pub is_some-copied : {X : Type 0} (o : Option (Bor X)) → is_some (option_copied o) ≡ is_some o
is_some-copied None = refl
is_some-copied (Some x) = refl
