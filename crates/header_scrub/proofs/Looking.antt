-- Locks and fields as they are put to lists and to what they are looked up in.
use Rattle.std.proofs.Common.{◌≡◌, ℕ, ◌+◌, ◌<◌, List, [], ◌∷◌, ◌++◌, length, take, get_or, refl, sym, ◌∙◌, ap, subst, Bool, true, false, cond}
use Rattle.std.specs.Prelude.{◌||◌, Option, Some, None, find, is_some}
use Rattle.std.specs.List.{list_any}
use Rattle.std.specs.Option.{option_map, option_or}
use Rattle.std.specs.Ordering.{nat_cmp, is_eq}
use Rattle.std.specs.Map.{lookup}
use Rattle.std.specs.BTreeMap.{BTreeMap, is_at}
use Rattle.std.specs.BTreeMap as map
use Rattle.std.proofs.lemmas.List.{take_more}
use Rattle.std.proofs.lemmas.Slice.Eq.{bytes_eq-Decides}
use Rattle.class_faces.specs.declared.face.FieldFace.{FieldFace}
use Rattle.header_scrub.specs.declared.lock.Lock.{Lock}
use Rattle.header_scrub.specs.declared.lock.LockField.{LockField}
use Rattle.header_scrub.specs.Fields.{fields_by, fields_in, lock_field, HasFields, PutsField}
use Rattle.header_scrub.specs.Locks.{has_lock, HasNames}
use Rattle.std.specs.Cmp.Lexicographic.{slice_cmp}
use Rattle.std.specs.Str.{bytes_eq}
use Rattle.std.specs.BTreeSet.{BTreeSet, contains, Updates, IsEmpty}
use Rattle.std.proofs.lemmas.Map.Text.{is_eq-slice_cmp}
use Rattle.std.proofs.lemmas.List.Folds.{list_any-append}

either : (b h : Bool) → cond b true h ≡ (h || (b || false))
either true true = refl
either true false = refl
either false true = refl
either false false = refl

not_none : {A : Type 0} (xs : List A) (x : A) → xs ++ x ∷ [] ≡ [] → ⊥
not_none [] x e = absurd (cc)
not_none (y ∷ ys) x e = absurd (cc)

-- what comes before the last one
pub front_same : {A : Type 0} (xs ys : List A) (x y : A) → xs ++ x ∷ [] ≡ ys ++ y ∷ [] → xs ≡ ys
front_same [] [] x y e = refl
front_same [] (b ∷ bs) x y e = let rest : bs ++ y ∷ [] ≡ [] = cc in absurd (not_none bs y rest)
front_same (a ∷ as_) [] x y e = let rest : as_ ++ x ∷ [] ≡ [] = cc in absurd (not_none as_ x rest)
front_same (a ∷ as_) (b ∷ bs) x y e =
    let head : a ≡ b = cc in
    let rest : as_ ++ x ∷ [] ≡ bs ++ y ∷ [] = cc in
    let same : as_ ≡ bs = front_same as_ bs x y rest in
    λ i. head i ∷ same i

-- ---- the names of locks

pub names_none : (names : BTreeSet (List ℕ)) → IsEmpty names → HasNames names []
names_none names empty = record { has = λ q. ap (λ (ks : List (List ℕ)). list_any (is_at (slice_cmp nat_cmp q)) ks) empty }

-- one lock more
pub names_more : (old new : BTreeSet (List ℕ)) (locks : List Lock) (l : Lock) (name : List ℕ) → name ≡ l.name → Updates (slice_cmp nat_cmp) old new name true
    → HasNames old locks → HasNames new (locks ++ l ∷ [])
names_more old new locks l name same u h = record {
  has = λ q.
      u.0 q ∙ ap (λ (b : Bool). cond b true (contains (slice_cmp nat_cmp) old q)) (is_eq-slice_cmp name q)
      ∙ ap (λ (b : Bool). cond (bytes_eq name q) true b) (h.has q) ∙ either (bytes_eq name q) (has_lock locks q)
      ∙ ap (λ (n : List ℕ). has_lock locks q || (bytes_eq n q || false)) same
      ∙ sym (list_any-append (λ k. bytes_eq k.name q) locks (l ∷ []));
}

-- ---- the fields that locks are held by

or_none : (o : Option LockField) → option_or o None ≡ o
or_none None = refl
or_none (Some x) = refl

pub fields_none : (known : BTreeMap (List ℕ) LockField) → map.IsEmpty known → HasFields known []
fields_none known empty = record { has = λ q. ap (λ (es : List (List ℕ × LockField)). lookup (is_at (slice_cmp nat_cmp q)) es) empty }

-- a name that was not there
pub field_put : (old new : BTreeMap (List ℕ) LockField) (f : FieldFace) (name : List ℕ) (shown : LockField) → name ≡ f.name → shown ≡ lock_field f
    → map.Updates (slice_cmp nat_cmp) old new name (Some shown) → fields_in old f.name ≡ None → PutsField old new f
field_put old new f name shown same shows u absent = record { puts = λ q. go q (bytes_eq f.name q) refl }
  where
    go : (q : List ℕ) (b : Bool) → bytes_eq f.name q ≡ b → fields_in new q ≡ option_or (fields_in old q) (cond (bytes_eq f.name q) (Some (lock_field f)) None)
    go q true e =
        let test : is_eq (slice_cmp nat_cmp name q) ≡ true = is_eq-slice_cmp name q ∙ ap (λ (n : List ℕ). bytes_eq n q) same ∙ e in
        let none : fields_in old q ≡ None = subst (λ (z : List ℕ). fields_in old z ≡ None) ((bytes_eq-Decides f.name q).0 e) absent in
        u.0 q ∙ ap (λ (b : Bool). cond b (Some shown) (fields_in old q)) test ∙ ap (λ (v : LockField). Some v) shows
        ∙ sym (ap (λ (z : Option LockField). option_or z (cond (bytes_eq f.name q) (Some (lock_field f)) None)) none ∙ ap (λ (b : Bool). cond b (Some (lock_field f)) None) e)
    go q false e =
        let test : is_eq (slice_cmp nat_cmp name q) ≡ false = is_eq-slice_cmp name q ∙ ap (λ (n : List ℕ). bytes_eq n q) same ∙ e in
        u.0 q ∙ ap (λ (b : Bool). cond b (Some shown) (fields_in old q)) test
        ∙ sym (ap (λ (b : Bool). option_or (fields_in old q) (cond b (Some (lock_field f)) None)) e ∙ or_none (fields_in old q))

-- a name that was there
pub field_stays : (known : BTreeMap (List ℕ) LockField) (f : FieldFace) → is_some (fields_in known f.name) ≡ true → PutsField known known f
field_stays known f there = record { puts = λ q. go q (bytes_eq f.name q) refl }
  where
    keeps : (o p : Option LockField) → is_some o ≡ true → o ≡ option_or o p
    keeps None p h = absurd (cc)
    keeps (Some x) p h = refl

    go : (q : List ℕ) (b : Bool) → bytes_eq f.name q ≡ b → fields_in known q ≡ option_or (fields_in known q) (cond (bytes_eq f.name q) (Some (lock_field f)) None)
    go q true e = keeps (fields_in known q) (cond (bytes_eq f.name q) (Some (lock_field f)) None) (subst (λ (z : List ℕ). is_some (fields_in known z) ≡ true) ((bytes_eq-Decides f.name q).0 e) there)
    go q false e = sym (ap (λ (b : Bool). option_or (fields_in known q) (cond b (Some (lock_field f)) None)) e ∙ or_none (fields_in known q))

pub no_field : (o : Option LockField) → is_some o ≡ false → o ≡ None
no_field None h = refl
no_field (Some x) h = absurd (cc)

field_push : (fs : List FieldFace) (f : FieldFace) (q : List ℕ) → fields_by (fs ++ f ∷ []) q ≡ option_or (fields_by fs q) (cond (bytes_eq f.name q) (Some (lock_field f)) None)
field_push [] f q = elim (bytes_eq f.name q) as (λ b. option_map lock_field (cond b (Some f) None) ≡ cond b (Some (lock_field f)) None) [ true ↦ refl | false ↦ refl ]
field_push (k ∷ ks) f q = elim (bytes_eq k.name q) as (λ b. option_map lock_field (cond b (Some k) (find (λ x. bytes_eq x.name q) (ks ++ f ∷ [])))
    ≡ option_or (option_map lock_field (cond b (Some k) (find (λ x. bytes_eq x.name q) ks))) (cond (bytes_eq f.name q) (Some (lock_field f)) None)) [ true ↦ refl | false ↦ field_push ks f q ]

-- one field more
pub fields_more : (fs : List FieldFace) (i : ℕ) (f : FieldFace) (old new : BTreeMap (List ℕ) LockField) → i < length fs → f ≡ get_or fs i f
    → HasFields old (take i fs) → PutsField old new f → HasFields new (take (i + 1) fs)
fields_more fs i f old new low is has puts = record {
  has = λ q.
      puts.puts q ∙ ap (λ (z : Option LockField). option_or z (cond (bytes_eq f.name q) (Some (lock_field f)) None)) (has.has q)
      ∙ sym (field_push (take i fs) f q)
      ∙ ap (λ (z : List FieldFace). fields_by z q) (ap (λ (x : FieldFace). take i fs ++ x ∷ []) is ∙ sym (take_more fs i f low));
}
