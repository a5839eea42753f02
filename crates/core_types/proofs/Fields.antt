-- Where a field of a type is found.
use Rattle.std.proofs.Common.{◌≡◌, ℕ, zero, suc, ◌||◌, ⊎_elim, Bool, true, List, [], ◌∷◌, Option, Some, None, length, slice_get, is_some, refl, sym, ap, ◌∙◌, subst, arith}
use Rattle.std.proofs.lemmas.Bool.Decides.{eqb_tells}
use Rattle.core_model.specs.Objects.{field_of, field_at, with_field, changed}
use Rattle.core_model.specs.declared.program.Program.{Program}
use Rattle.core_model.specs.declared.object.Obj.{Obj}
use Rattle.core_model.specs.declared.object.ObjKind.{ObjKind}
use Rattle.core_model.specs.declared.object.ObjKind.TheVariants as kind
use Rattle.core_model.specs.declared.value.Value.{Value}
use Rattle.core_model.specs.declared.value.Value.TheVariants as value
use Rattle.core_laws.specs.Shape.{kind_of}
use Rattle.core_types.specs.Types.{Ty, ClassType, Types, ClassTypes, or_no_class, of_class, has, is_class}
use Rattle.core_types.specs.Belonging.{if_kind, is_of, Belongs}
use Rattle.core_types.specs.Programs.{ProgramFits}
use Rattle.core_types.specs.Configs.{fields_types, FieldsFit}
use Rattle.core_types.proofs.Widening.{Found, all-get, all-set}
use Rattle.core_types.proofs.Heaps.{some-is, Holders, fields-changed}

-- an object is there
pub record IsFound (os : List Obj) (r : ℕ) (test : ObjKind → Bool) : Type 0 where
  pub obj : Obj
  pub found : slice_get os r ≡ Some obj
  pub passes : test obj.kind ≡ true

there-in : (os : List Obj) (r : ℕ) (test : ObjKind → Bool) (o : Option Obj) → slice_get os r ≡ o → if_kind (kind_of o) test ≡ true → IsFound os r test
there-in os r test None e h = absurd (let no : ⊥ = cc in no)
there-in os r test (Some x) e h = record { obj = x; found = e; passes = h }

pub is-there : (os : List Obj) (r : ℕ) (test : ObjKind → Bool) → if_kind (kind_of (slice_get os r)) test ≡ true → IsFound os r test
is-there os r test h = there-in os r test (slice_get os r) refl h

-- it has a field of the type
pub record FieldAt (T : Types) (os : List Obj) (r i : ℕ) (t : Ty) : Type 0 where
  pub obj : Obj
  pub found : slice_get os r ≡ Some obj
  pub typed : slice_get (fields_types T obj.kind) i ≡ Some t

pub read-found : (T : Types) (os : List Obj) (r i : ℕ) (t : Ty) → FieldsFit T os → FieldAt T os r i t → Found T os (field_at os r i) t
read-found T os r i t h a =
    subst (λ (o : Option Obj). Found T os (field_of o i) t) (sym a.found) (all-get T os a.obj.fields (fields_types T a.obj.kind) i t a.typed (h r a.obj a.found))

pub found-some : (T : Types) (os : List Obj) (o : Option Value) (t : Ty) → Found T os o t → is_some o ≡ true
found-some T os None t h = absurd h
found-some T os (Some v) t h = refl

pub fields-written : (T : Types) (os : List Obj) (r i : ℕ) (v : Value) (t : Ty) → FieldAt T os r i t → Belongs T os v t → FieldsFit T os
    → FieldsFit T (changed os r (λ o. with_field o i v))
fields-written T os r i v t a b h =
    fields-changed T os r (λ o. with_field o i v) (λ x. refl)
    (λ x e old. let same : a.obj ≡ x = some-is (sym a.found ∙ e) in
    let typed : slice_get (fields_types T x.kind) i ≡ Some t = subst (λ (z : Obj). slice_get (fields_types T z.kind) i ≡ Some t) same a.typed in
    all-set T os x.fields (fields_types T x.kind) i v t typed b old) h

own-of : (p : Program) (T : Types) → ProgramFits p T → (c d i : ℕ) (t : Ty) → is_class T c d ≡ true → slice_get (of_class T c).own i ≡ Some t
    → slice_get (of_class T d).own i ≡ Some t
own-of p T program c d i t h e =
    ⊎_elim (λ y. subst (λ x. slice_get (of_class T x).own i ≡ Some t) (sym y.1) e)
    (λ n. let named : has (of_class T d).implements c ≡ true = ap (λ x. x || has (of_class T d).implements c) (sym n.0) ∙ h in
    let none : slice_get (of_class T c).own i ≡ None = ap (λ l. slice_get l i) ((program.implements d c named).fields) in
    absurd (let no : ⊥ = cc in no))
    (eqb_tells d c)

own-in : (p : Program) (T : Types) → ProgramFits p T → (c i : ℕ) (t : Ty) (k : ObjKind) → is_of T c k ≡ true → slice_get (of_class T c).own i ≡ Some t
    → slice_get (fields_types T k) i ≡ Some t
own-in p T program c i t (kind.Holder d) h e = absurd (let no : ⊥ = cc in no)
own-in p T program c i t (kind.Made d) h e = own-of p T program c d i t h e
own-in p T program c i t kind.Plain h e = absurd (let no : ⊥ = cc in no)

-- the object of a class has its fields
pub own-at : (p : Program) (T : Types) → ProgramFits p T → (os : List Obj) (r c i : ℕ) (t : Ty) → Belongs T os (value.Ref r) (ClassType c)
    → slice_get (of_class T c).own i ≡ Some t → FieldAt T os r i t
own-at p T program os r c i t h e =
    let there = is-there os r (is_of T c) h in
    record { obj = there.obj; found = there.found; typed = own-in p T program c i t there.obj.kind there.passes e }

pub class-there : {A B : Type 0} (xs : List A) (ys : List B) (c : ℕ) → length xs ≡ length ys → is_some (slice_get xs c) ≡ true
    → is_some (slice_get ys c) ≡ true
class-there [] ys c e h = absurd (let no : ⊥ = cc in no)
class-there (x ∷ xs) [] c e h = absurd (omega (arith, e))
class-there (x ∷ xs) (y ∷ ys) zero e h = refl
class-there (x ∷ xs) (y ∷ ys) (suc c) e h = class-there xs ys c (omega (arith, e)) h

types-there : (o : Option ClassTypes) (i : ℕ) (t : Ty) → slice_get (or_no_class o).statics i ≡ Some t → is_some o ≡ true
types-there None i t e = absurd (let no : ⊥ = cc in no)
types-there (Some c) i t e = refl

holder-in : (os : List Obj) (c : ℕ) (o : Option Obj) → slice_get os c ≡ o → kind_of o ≡ Some (kind.Holder c)
    → IsFound os c (λ (k : ObjKind). true)
holder-in os c None e h = absurd (let no : ⊥ = cc in no)
holder-in os c (Some x) e h = record { obj = x; found = e; passes = refl }

pub class-is : {A : Type 0} (o : Option A) → is_some o ≡ true → (x : A) × (o ≡ Some x)
class-is None h = absurd (let no : ⊥ = cc in no)
class-is (Some x) h = (x, refl)

-- the holder of a class is there
pub holder-there : (p : Program) (os : List Obj) (c : ℕ) → Holders p os → is_some (slice_get p.classes c) ≡ true
    → (o : Obj) × (slice_get os c ≡ Some o) × (o.kind ≡ kind.Holder c)
holder-there p os c h there =
    let info = class-is (slice_get p.classes c) there in
    let is : kind_of (slice_get os c) ≡ Some (kind.Holder c) = h c info.0 info.1 in
    let at = holder-in os c (slice_get os c) refl is in
    (at.obj, at.found, some-is (sym (ap kind_of at.found) ∙ is))

pub static-at : (p : Program) (T : Types) → ProgramFits p T → (os : List Obj) (c i : ℕ) (t : Ty) → Holders p os
    → slice_get (of_class T c).statics i ≡ Some t → FieldAt T os c i t
static-at p T program os c i t h e =
    let there = class-there T.classes p.classes c program.long (types-there (slice_get T.classes c) i t e) in
    let at = holder-there p os c h there in
    record { obj = at.0; found = at.1; typed = ap (λ k. slice_get (fields_types T k) i) at.2 ∙ e }
