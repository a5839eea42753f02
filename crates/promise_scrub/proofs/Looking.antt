-- Texts as they are put to a list and to what they are looked up in.
use Rattle.std.proofs.Common.{◌≡◌, ℕ, List, [], ◌∷◌, ◌++◌, refl, sym, ◌∙◌, ap, Bool, true, false, cond}
use Rattle.std.specs.Prelude.{◌||◌}
use Rattle.std.specs.List.{list_any}
use Rattle.std.specs.Ordering.{nat_cmp}
use Rattle.std.specs.BTreeMap.{is_at}
use Rattle.std.specs.Cmp.Lexicographic.{slice_cmp}
use Rattle.std.specs.Str.{bytes_eq}
use Rattle.std.specs.BTreeSet.{BTreeSet, contains, Updates, IsEmpty}
use Rattle.std.proofs.lemmas.Map.Text.{is_eq-slice_cmp}
use Rattle.std.proofs.lemmas.List.Folds.{list_any-append}
use Rattle.promise_scrub.specs.Texts.{is_among, Lists}

either : (b h : Bool) → cond b true h ≡ (h || (b || false))
either true true = refl
either true false = refl
either false true = refl
either false false = refl

pub lists_none : (set : BTreeSet (List ℕ)) → IsEmpty set → Lists set []
lists_none set empty = record { lists = λ q. ap (λ (ks : List (List ℕ)). list_any (is_at (slice_cmp nat_cmp q)) ks) empty }

-- one text is put
pub lists_more : (old new : BTreeSet (List ℕ)) (list : List (List ℕ)) (copy text : List ℕ) → copy ≡ text → Updates (slice_cmp nat_cmp) old new copy true → Lists old list
    → Lists new (list ++ text ∷ [])
lists_more old new list copy text same u l = record {
  lists = λ q.
      u.0 q ∙ ap (λ (b : Bool). cond b true (contains (slice_cmp nat_cmp) old q)) (is_eq-slice_cmp copy q)
      ∙ ap (λ (b : Bool). cond (bytes_eq copy q) true b) (l.lists q) ∙ either (bytes_eq copy q) (is_among q list)
      ∙ ap (λ (t : List ℕ). is_among q list || (bytes_eq t q || false)) same
      ∙ sym (list_any-append (λ t. bytes_eq t q) list (text ∷ []));
}

not_none : {A : Type 0} (xs : List A) (x : A) → xs ++ x ∷ [] ≡ [] → ⊥
not_none [] x e = absurd (cc)
not_none (y ∷ ys) x e = absurd (cc)

-- what comes before the last one
pub front_same : {A : Type 0} (xs ys : List A) (x y : A) → xs ++ x ∷ [] ≡ ys ++ y ∷ [] → xs ≡ ys
front_same [] [] x y e = refl
front_same [] (b ∷ bs) x y e = let rest : bs ++ y ∷ [] ≡ [] = cc in absurd (not_none bs y rest)
front_same (a ∷ as_) [] x y e = let rest : as_ ++ x ∷ [] ≡ [] = cc in absurd (not_none as_ x rest)
front_same (a ∷ as_) (b ∷ bs) x y e =
    let head : a ≡ b = cc in
    let rest : as_ ++ x ∷ [] ≡ bs ++ y ∷ [] = cc in
    let same : as_ ≡ bs = front_same as_ bs x y rest in
    λ i. head i ∷ same i
