-- Objects keep what they are and how many fields they have.
use Rattle.std.proofs.Common.{◌≡◌, ℕ, zero, suc, ◌+◌, ⊎_elim, Bool, true, false, List, [], ◌∷◌, ◌++◌, Option, Some, None, map, length, replicate, slice_get, slice_set, refl, sym, ap, ◌∙◌, subst, arith, length-set}
use Rattle.std.proofs.lemmas.Bool.Decides.{eqb_tells}
use Rattle.core_model.specs.Objects.{put_for, with_field, entered, exited, new_object, fresh_object, fresh_count, initial_values, initials, of_kind, own_initials, static_initials}
use Rattle.core_model.specs.Begin.{begin, holders_from, static_fresh, all_fresh}
use Rattle.core_model.specs.Step.{step, run}
use Rattle.core_model.specs.declared.program.Program.{Program}
use Rattle.core_model.specs.declared.program.ClassInfo.{ClassInfo}
use Rattle.core_model.specs.declared.program.FieldInfo.{FieldInfo}
use Rattle.core_model.specs.declared.program.Initial.{Initial}
use Rattle.core_model.specs.declared.program.Initial.TheVariants.{Held, FreshObject}
use Rattle.core_model.specs.declared.config.Config.{Config}
use Rattle.core_model.specs.declared.object.Obj.{Obj}
use Rattle.core_model.specs.declared.object.ObjKind.{ObjKind}
use Rattle.core_model.specs.declared.object.ObjKind.TheVariants as kind
use Rattle.core_laws.specs.Shape.{kind_of, kind_at, class_fields, fields_of, HasItsFields, Shaped}
use Rattle.core_laws.proofs.Owners.{get-set, get-other}
use Rattle.core_laws.proofs.Flows.{IsKept, there-step, there-run}

-- ---- what an object is stays

pub change-kind : (os : List Obj) (r q : ℕ) (o : Option Obj) (f : Obj → Obj) → ((x : Obj) → (f x).kind ≡ x.kind) → slice_get os r ≡ o
    → kind_of (slice_get (put_for os r o f) q) ≡ kind_of (slice_get os q)
change-kind os r q None f same e = refl
change-kind os r q (Some o) f same e =
    ⊎_elim (λ y. sym (ap (λ (i : ℕ). kind_of (slice_get (slice_set os r (f o)) i)) y.1)
    ∙ ap kind_of (get-set os r o (f o) e) ∙ ap Some (same o) ∙ sym (ap kind_of e) ∙ ap (λ (i : ℕ). kind_of (slice_get os i)) y.1)
    (λ no. ap kind_of (get-other os r q (f o) no.1)) (eqb_tells r q)

pub append-kind : (os ns : List Obj) (q : ℕ) (k : ObjKind) → kind_of (slice_get os q) ≡ Some k → kind_of (slice_get (os ++ ns) q) ≡ Some k
append-kind [] ns q k e = absurd (let no : ⊥ = cc in no)
append-kind (o ∷ os) ns zero k e = e
append-kind (o ∷ os) ns (suc q) k e = append-kind os ns q k e

kind-kept : (p : Program) (r : ℕ) (k : ObjKind) → IsKept p (λ os. kind_of (slice_get os r) ≡ Some k)
kind-kept p r k = record {
  write = λ os q i v g. change-kind os q r (slice_get os q) (λ o. with_field o i v) (λ x. refl) refl ∙ g;
  enter = λ os q t g. change-kind os q r (slice_get os q) (entered t) (λ x. refl) refl ∙ g;
  exit = λ os q g. change-kind os q r (slice_get os q) exited (λ x. refl) refl ∙ g;
  fresh = λ os g. append-kind os _ r k g;
  make = λ os c info e g. append-kind os _ r k g;
}

pub kind-step : (p : Program) (c : Config) (t r : ℕ) (k : ObjKind) → kind_at c r ≡ Some k → kind_at (step p c t) r ≡ Some k
kind-step p c t r k h = there-step p (λ os. kind_of (slice_get os r) ≡ Some k) (kind-kept p r k) c t h

-- ---- fields

some-is : {A : Type 0} {x y : A} → Some x ≡ Some y → x ≡ y
some-is e = cc

abbrev Fit : Program → Obj → Type 0
Fit p o = length o.fields ≡ length (fields_of p o.kind)

change-fields : (p : Program) (os : List Obj) (r : ℕ) (o : Option Obj) (f : Obj → Obj) → ((x : Obj) → Fit p x → Fit p (f x)) → slice_get os r ≡ o
    → HasItsFields p os → HasItsFields p (put_for os r o f)
change-fields p os r None f same e h = h
change-fields p os r (Some o) f same e h = λ q x g.
    ⊎_elim (λ y. let is : f o ≡ x = some-is (sym (get-set os r o (f o) e) ∙ ap (slice_get (slice_set os r (f o))) y.1 ∙ g) in
    subst (Fit p) is (same o (h r o e)))
    (λ no. h q x (sym (get-other os r q (f o) no.1) ∙ g)) (eqb_tells r q)

append-fields : (p : Program) (os ns : List Obj) → HasItsFields p ns → HasItsFields p os → (r : ℕ) (o : Obj) → slice_get (os ++ ns) r ≡ Some o → Fit p o
append-fields p [] ns g h r o e = g r o e
append-fields p (x ∷ os) ns g h zero o e = h zero o e
append-fields p (x ∷ os) ns g h (suc r) o e = append-fields p os ns g (λ q y f. h (suc q) y f) r o e

cons-fields : (p : Program) (x : Obj) (ns : List Obj) → Fit p x → HasItsFields p ns → (r : ℕ) (o : Obj) → slice_get (x ∷ ns) r ≡ Some o → Fit p o
cons-fields p x ns f g zero o e = subst (Fit p) (some-is e) f
cons-fields p x ns f g (suc r) o e = g r o e

fresh-fields : (p : Program) (n r : ℕ) (o : Obj) → slice_get (replicate n fresh_object) r ≡ Some o → Fit p o
fresh-fields p zero r o e = absurd (let no : ⊥ = cc in no)
fresh-fields p (suc n) zero o e = subst (Fit p) (some-is e) refl
fresh-fields p (suc n) (suc r) o e = fresh-fields p n r o e

values-long : (n : ℕ) (is : List Initial) → length (initial_values n is) ≡ length is
values-long n [] = refl
values-long n (Held v ∷ is) = ap suc (values-long n is)
values-long n (FreshObject ∷ is) = ap suc (values-long (n + 1) is)

map-long : {A B : Type 0} (f : A → B) (xs : List A) → length (map f xs) ≡ length xs
map-long f [] = refl
map-long f (x ∷ xs) = ap suc (map-long f xs)

initials-long : (n : ℕ) (s : Bool) (fs : List FieldInfo) → length (initial_values n (initials s fs)) ≡ length (of_kind s fs)
initials-long n s fs = values-long n (initials s fs) ∙ map-long _ (of_kind s fs)

made-fit : (p : Program) (n c : ℕ) (info : ClassInfo) → slice_get p.classes c ≡ Some info
    → Fit p (new_object (kind.Made c) (initial_values n (own_initials info.fields)))
made-fit p n c info e =
    initials-long n false info.fields ∙ sym (ap (λ (o : Option ClassInfo). length (of_kind false (class_fields o))) e)

pub fields-kept : (p : Program) → IsKept p (HasItsFields p)
fields-kept p = record {
  write = λ os q i v g. change-fields p os q (slice_get os q) (λ o. with_field o i v) (λ x h. length-set x.fields i v ∙ h) refl g;
  enter = λ os q t g. change-fields p os q (slice_get os q) (entered t) (λ x h. h) refl g;
  exit = λ os q g. change-fields p os q (slice_get os q) exited (λ x h. h) refl g;
  fresh = λ os g. append-fields p os _ (fresh-fields p 1) g;
  make = λ os c info e g. append-fields p os _
      (cons-fields p _ (replicate (fresh_count (own_initials info.fields)) fresh_object) (made-fit p (length os + 1) c info e) (fresh-fields p _)) g;
}

-- ---- the beginning

-- cs are the classes from number c on
abbrev From : Program → ℕ → List ClassInfo → Type 0
From p c cs = (k : ℕ) (info : ClassInfo) → slice_get cs k ≡ Some info → slice_get p.classes (c + k) ≡ Some info

from-next : (p : Program) (c : ℕ) (x : ClassInfo) (cs : List ClassInfo) → From p c (x ∷ cs) → From p (c + 1) cs
from-next p c x cs h = λ k info e. let n : c + suc k ≡ c + 1 + k = omega arith in ap (slice_get p.classes) (sym n) ∙ h (suc k) info e

holder-fit : (p : Program) (c n : ℕ) (x : ClassInfo) → slice_get p.classes c ≡ Some x
    → Fit p (new_object (kind.Holder c) (initial_values n (static_initials x.fields)))
holder-fit p c n x e = initials-long n true x.fields ∙ sym (ap (λ (o : Option ClassInfo). length (of_kind true (class_fields o))) e)

holders-fields : (p : Program) (c n : ℕ) (cs : List ClassInfo) (more : List Obj) → From p c cs → HasItsFields p more → HasItsFields p (holders_from c n cs ++ more)
holders-fields p c n [] more h g = g
holders-fields p c n (x ∷ cs) more h g =
    let here : slice_get p.classes c ≡ Some x = let z : c + 0 ≡ c = omega arith in ap (slice_get p.classes) (sym z) ∙ h 0 x refl in
    cons-fields p _ (holders_from (c + 1) (n + static_fresh x) cs ++ more) (holder-fit p c n x here)
    (holders-fields p (c + 1) (n + static_fresh x) cs more (from-next p c x cs h) g)

holders-kinds : (c n : ℕ) (cs : List ClassInfo) (more : List Obj) (k : ℕ) (info : ClassInfo) → slice_get cs k ≡ Some info
    → kind_of (slice_get (holders_from c n cs ++ more) k) ≡ Some (kind.Holder (c + k))
holders-kinds c n [] more k info e = absurd (let no : ⊥ = cc in no)
holders-kinds c n (x ∷ cs) more zero info e = let z : c ≡ c + 0 = omega arith in ap (λ (i : ℕ). Some (kind.Holder i)) z
holders-kinds c n (x ∷ cs) more (suc k) info e =
    let z : c + 1 + k ≡ c + suc k = omega arith in
    holders-kinds (c + 1) (n + static_fresh x) cs more k info e ∙ ap (λ (i : ℕ). Some (kind.Holder i)) z

kinds-run : (p : Program) (c : Config) (schedule : List ℕ) (r : ℕ) (k : ObjKind) → kind_at c r ≡ Some k → kind_at (run p c schedule) r ≡ Some k
kinds-run p c schedule r k h = there-run p (λ os. kind_of (slice_get os r) ≡ Some k) (kind-kept p r k) c schedule h

pub shaped-run : (p : Program) (mains schedule : List ℕ) → Shaped p (run p (begin p mains) schedule)
shaped-run p mains schedule = record {
  holders = λ k info e.
      kinds-run p (begin p mains) schedule k (kind.Holder k)
      (holders-kinds 0 (length p.classes) p.classes (replicate (all_fresh p.classes) fresh_object) k info e
      ∙ (let z : 0 + k ≡ k = omega arith in ap (λ (i : ℕ). Some (kind.Holder i)) z));
  fields = there-run p (HasItsFields p) (fields-kept p) (begin p mains) schedule
      (holders-fields p 0 (length p.classes) p.classes (replicate (all_fresh p.classes) fresh_object)
      (λ k info e. let z : 0 + k ≡ k = omega arith in ap (slice_get p.classes) z ∙ e) (fresh-fields p (all_fresh p.classes)));
}
