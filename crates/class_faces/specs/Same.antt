-- When types, parameters, fields and members are the same: exactly where they are equal. It stands here
-- since a comparison is written with its laws.
use Rattle.std.specs.Prelude.{◌≡◌, ℕ, Bool, true, ◌&&◌, Option, Some, None, List, nat_eq, refl}
use Rattle.std.specs.Bool.{Decides}
use Rattle.std.specs.Option.{option_eq}
use Rattle.std.specs.Cmp.{booleans_Decides, first_so, second_so}
use Rattle.std.specs.Cmp.Lexicographic.{bytes_decides, pointwise, pointwise_decides}
use mathlib.Core.Path.{sym, ap, subst}
use mathlib.Core.Bool.{beq, true≢false}
use Rattle.class_faces.specs.declared.face.FaceTy.{FaceTy}
use Rattle.class_faces.specs.declared.face.FaceTy.TheVariants as face
use Rattle.class_faces.specs.declared.face.FieldFace.{FieldFace}
use Rattle.class_faces.specs.declared.face.ParamFace.{ParamFace}
use Rattle.class_faces.specs.declared.face.MemberFace.{MemberFace}
use Rattle.class_faces.specs.contracts.face.FaceTyPartialEq.TheImpl as ty_eq
use Rattle.class_faces.specs.contracts.face.FieldFacePartialEq.TheImpl as field_eq
use Rattle.class_faces.specs.contracts.face.ParamFacePartialEq.TheImpl as param_eq

-- ---- tests

abbrev pub same_ty : FaceTy → FaceTy → Bool
same_ty = (ty_eq.ghosts).eq

abbrev pub same_field : FieldFace → FieldFace → Bool
same_field = (field_eq.ghosts).eq

abbrev pub same_param : ParamFace → ParamFace → Bool
same_param = (param_eq.ghosts).eq

abbrev pub same_member : MemberFace → MemberFace → Bool
same_member a b =
    pointwise nat_eq a.key b.key && (pointwise same_param a.params b.params && (option_eq same_ty a.result b.result && beq a.is_static b.is_static))

-- ---- they hold exactly where the values are equal

-- a test that tells equal values and holds of each value and itself
pub exact : {A : Type 0} (E : A → A → Bool) → ((a b : A) → E a b ≡ true → a ≡ b) → ((a : A) → E a a ≡ true) → (a b : A) → Decides (E a b) (a ≡ b)
exact E to own a b = (to a b, λ e. subst (λ z. E a z ≡ true) e (own a))

pub option_to : {A : Type 0} (E : A → A → Bool) → ((a b : A) → Decides (E a b) (a ≡ b)) → (x y : Option A) → option_eq E x y ≡ true → x ≡ y
option_to E decides None None h = refl
option_to E decides None (Some y) h = absurd (true≢false (sym h))
option_to E decides (Some x) None h = absurd (true≢false (sym h))
option_to E decides (Some x) (Some y) h = ap Some ((decides x y).0 h)

pub option_own : {A : Type 0} (E : A → A → Bool) → ((a b : A) → Decides (E a b) (a ≡ b)) → (x : Option A) → option_eq E x x ≡ true
option_own E decides None = refl
option_own E decides (Some x) = (decides x x).1 refl

ty_to : (a b : FaceTy) → same_ty a b ≡ true → a ≡ b
ty_to face.Int face.Int h = refl
ty_to face.Bool face.Bool h = refl
ty_to face.Args face.Args h = refl
ty_to (face.Named x) (face.Named y) h = ap face.Named ((bytes_decides x y).0 h)
ty_to _ _ h = absurd (true≢false (sym h))

ty_own : (a : FaceTy) → same_ty a a ≡ true
ty_own face.Int = refl
ty_own face.Bool = refl
ty_own face.Args = refl
ty_own (face.Named x) = (bytes_decides x x).1 refl

pub ty_decides : (a b : FaceTy) → Decides (same_ty a b) (a ≡ b)
ty_decides = exact same_ty ty_to ty_own

param_to : (a b : ParamFace) → same_param a b ≡ true → a ≡ b
param_to a b h =
    let more = second_so (pointwise nat_eq a.name b.name) _ h in
    let name : a.name ≡ b.name = (bytes_decides a.name b.name).0 (first_so (pointwise nat_eq a.name b.name) _ h) in
    let ty : a.ty ≡ b.ty = (ty_decides a.ty b.ty).0 (first_so (same_ty a.ty b.ty) _ more) in
    let final_ : a.effectively_final ≡ b.effectively_final = (booleans_Decides a.effectively_final b.effectively_final).0 (second_so (same_ty a.ty b.ty) _ more) in
    λ i. record { name = name i; ty = ty i; effectively_final = final_ i }

param_own : (a : ParamFace) → same_param a a ≡ true
param_own a = λ i. (bytes_decides a.name a.name).1 refl i && ((ty_decides a.ty a.ty).1 refl i && (booleans_Decides a.effectively_final a.effectively_final).1 refl i)

pub param_decides : (a b : ParamFace) → Decides (same_param a b) (a ≡ b)
param_decides = exact same_param param_to param_own

field_to : (a b : FieldFace) → same_field a b ≡ true → a ≡ b
field_to a b h =
    let more = second_so (pointwise nat_eq a.name b.name) _ h in
    let flags = second_so (same_ty a.ty b.ty) _ more in
    let later = second_so (beq a.is_static b.is_static) _ flags in
    let last = second_so (beq a.is_final b.is_final) _ later in
    let name : a.name ≡ b.name = (bytes_decides a.name b.name).0 (first_so (pointwise nat_eq a.name b.name) _ h) in
    let ty : a.ty ≡ b.ty = (ty_decides a.ty b.ty).0 (first_so (same_ty a.ty b.ty) _ more) in
    let is_static : a.is_static ≡ b.is_static = (booleans_Decides a.is_static b.is_static).0 (first_so (beq a.is_static b.is_static) _ flags) in
    let is_final : a.is_final ≡ b.is_final = (booleans_Decides a.is_final b.is_final).0 (first_so (beq a.is_final b.is_final) _ later) in
    let final_init : a.final_init ≡ b.final_init = (booleans_Decides a.final_init b.final_init).0 (first_so (beq a.final_init b.final_init) _ last) in
    let lock_form : a.lock_form ≡ b.lock_form = (booleans_Decides a.lock_form b.lock_form).0 (second_so (beq a.final_init b.final_init) _ last) in
    λ i. record {
      name = name i;
      ty = ty i;
      is_static = is_static i;
      is_final = is_final i;
      final_init = final_init i;
      lock_form = lock_form i;
    }

field_own : (a : FieldFace) → same_field a a ≡ true
field_own a =
    let flag : (b : Bool) → beq b b ≡ true = λ b. (booleans_Decides b b).1 refl in
    λ i. (bytes_decides a.name a.name).1 refl i && ((ty_decides a.ty a.ty).1 refl i
    && (flag a.is_static i && (flag a.is_final i && (flag a.final_init i && flag a.lock_form i))))

pub field_decides : (a b : FieldFace) → Decides (same_field a b) (a ≡ b)
field_decides = exact same_field field_to field_own

member_to : (a b : MemberFace) → same_member a b ≡ true → a ≡ b
member_to a b h =
    let more = second_so (pointwise nat_eq a.key b.key) _ h in
    let last = second_so (pointwise same_param a.params b.params) _ more in
    let key : a.key ≡ b.key = (bytes_decides a.key b.key).0 (first_so (pointwise nat_eq a.key b.key) _ h) in
    let params : a.params ≡ b.params = (pointwise_decides param_decides a.params b.params).0 (first_so (pointwise same_param a.params b.params) _ more) in
    let gives : a.result ≡ b.result = option_to same_ty ty_decides a.result b.result (first_so (option_eq same_ty a.result b.result) _ last) in
    let is_static : a.is_static ≡ b.is_static = (booleans_Decides a.is_static b.is_static).0 (second_so (option_eq same_ty a.result b.result) _ last) in
    λ i. record { key = key i; params = params i; result = gives i; is_static = is_static i }

member_own : (a : MemberFace) → same_member a a ≡ true
member_own a =
    λ i. (bytes_decides a.key a.key).1 refl i && ((pointwise_decides param_decides a.params a.params).1 refl i
    && (option_own same_ty ty_decides a.result i && (booleans_Decides a.is_static a.is_static).1 refl i))

pub member_decides : (a b : MemberFace) → Decides (same_member a b) (a ≡ b)
member_decides = exact same_member member_to member_own
