-- What a look-up finds in types that stand.
use Rattle.std.proofs.Common.{◌≡◌, ℕ, refl, ap, sym, ◌∙◌, subst, Bool, true, false, cond, ◌==◌, List, [], ◌∷◌, length, find, Option, Some, None, is_some, bytes_eq}
use Rattle.std.specs.List.{AllByRecursion}
use Rattle.std.proofs.lemmas.Slice.Eq.{bytes_eq-Decides}
use Rattle.std.specs.Cmp.{unsigned_Decides}
use Rattle.class_faces.specs.declared.face.FaceTy.{FaceTy}
use Rattle.class_faces.specs.declared.face.FieldFace.{FieldFace}
use Rattle.class_faces.specs.declared.face.MemberFace.{MemberFace}
use Rattle.name_rules.specs.Types.{Name, Types, Face, field_in, field_of, member_key, member_in, maker_in, is_known}
use Rattle.expression_binding.specs.Stamps.{type_given}
use Rattle.expression_binding.specs.Methods.{NamedMethod, named_method, face_method, is_run, run_method, method_in, maker, maker_params}
use Rattle.typed_units.specs.Named.{is_known_result}
use Rattle.typed_units.specs.Standing.{TypesStand, IsKnownField, IsKnownFace, IsKnownMember, IsKnownParam}
use Rattle.binding_types.proofs.Silences.{none_some, same_some, and-second}

-- what is found passes, and is one of those
pub find-passes : {X : Type 0} (t : X → Bool) (xs : List X) (x : X) → find t xs ≡ Some x → t x ≡ true
find-passes t [] x e = none_some x e
find-passes {X} t (y ∷ ys) x e = go (t y) refl (find-passes t ys x) e
  where
    go : (b : Bool) → t y ≡ b → (find t ys ≡ Some x → t x ≡ true) → cond b (Some y) (find t ys) ≡ Some x → t x ≡ true
    go true is later found = ap t (sym (same_some y x found)) ∙ is
    go false is later found = later found

pub find-all : {X : Type 0} (P : X → Type 0) (t : X → Bool) (xs : List X) (x : X) → AllByRecursion P xs → find t xs ≡ Some x → P x
find-all P t [] x all e = none_some x e
find-all {X} P t (y ∷ ys) x all e = go (t y) (find-all P t ys x all.1) e
  where
    go : (b : Bool) → (find t ys ≡ Some x → P x) → cond b (Some y) (find t ys) ≡ Some x → P x
    go true later found = subst P (same_some y x found) all.0
    go false later found = later found

-- ---- fields

field-known : (types : Types) (name : Name) (o : Option Face) → ((f : Face) → o ≡ Some f → IsKnownFace types f) → (x : FieldFace) → field_in name o ≡ Some x → is_known types x.ty ≡ true
field-known types name None known x e = none_some x e
field-known types name (Some f) known x e = find-all (IsKnownField types) (λ (y : FieldFace). bytes_eq y.name name) f.fields x (known f refl).fields e

pub found_field_known : (types : Types) → TypesStand types → (c name : Name) (x : FieldFace) → field_of types c name ≡ Some x → is_known types x.ty ≡ true
found_field_known types stand c name x e = field-known types name (types c) (stand.known c) x e

field-name : (name : Name) (o : Option Face) (x : FieldFace) → field_in name o ≡ Some x → x.name ≡ name
field-name name None x e = none_some x e
field-name name (Some f) x e = (bytes_eq-Decides x.name name).0 (find-passes (λ (y : FieldFace). bytes_eq y.name name) f.fields x e)

pub found_field_name : (types : Types) (c name : Name) (x : FieldFace) → field_of types c name ≡ Some x → x.name ≡ name
found_field_name types c name x e = field-name name (types c) x e

-- ---- members

member-known : (types : Types) (key : List ℕ) (o : Option Face) → ((f : Face) → o ≡ Some f → IsKnownFace types f) → (m : MemberFace) → member_in key o ≡ Some m → IsKnownMember types m
member-known types key None known m e = none_some m e
member-known types key (Some f) known m e = find-all (IsKnownMember types) (λ (y : MemberFace). bytes_eq y.key key) f.members m (known f refl).members e

maker-known : (types : Types) (c : Name) (o : Option Face) → ((f : Face) → o ≡ Some f → IsKnownFace types f) → AllByRecursion (IsKnownParam types) (maker_params (maker_in c o))
maker-known types c None known = tt
maker-known types c (Some f) known = go _ refl
  where
    go : (o : Option MemberFace) → maker_in c (Some f) ≡ o → AllByRecursion (IsKnownParam types) (maker_params o)
    go None e = tt
    go (Some m) e = (find-all (IsKnownMember types) _ f.members m (known f refl).members e).params

pub made_known : (types : Types) → TypesStand types → (c : Name) → AllByRecursion (IsKnownParam types) (maker_params (maker types c))
made_known types stand c = maker-known types c (types c) (stand.known c)

-- what is known of a method that is found
pub record MethodStands (types : Types) (c name : Name) (count : ℕ) (m : NamedMethod) : Type 0 where
  pub counted : length m.params ≡ count
  pub params : AllByRecursion (IsKnownParam types) m.params
  pub result : is_known_result types m.result ≡ true
  pub class : m.named.class ≡ c
  pub name_is : m.named.name ≡ name
  pub told : m.named.has_result ≡ is_some (type_given m.result)

given_some : (r : Option FaceTy) → is_some r ≡ is_some (type_given r)
given_some None = refl
given_some (Some ty) = refl

named-stands : (types : Types) → TypesStand types → (c name : Name) (count : ℕ) (o : Option MemberFace) → member_in (member_key c name count) (types c) ≡ o
    → (m : NamedMethod) → face_method c name o ≡ Some m → MethodStands types c name count m
named-stands types stand c name count None is m e = none_some m e
named-stands types stand c name count (Some f) is m e = subst (MethodStands types c name count) (same_some (named_method c name f) m e)
    (let known : IsKnownMember types f = member-known types (member_key c name count) (types c) (stand.known c) f is in
    record { counted = stand.counted c name count f is; params = known.params; result = known.result; class = refl; name_is = refl; told = given_some f.result })

run-stands : (types : Types) (c name : Name) (count : ℕ) → is_run c name count ≡ true → (m : NamedMethod) → Some (run_method c name) ≡ Some m → MethodStands types c name count m
run-stands types c name count run m e = subst (MethodStands types c name count) (same_some (run_method c name) m e)
    (record { counted = sym ((unsigned_Decides count 0).0 (and-second _ (count == 0) (and-second _ _ run))); params = tt; result = refl; class = refl; name_is = refl; told = refl })

pub method_stands : (types : Types) → TypesStand types → (c name : Name) (count : ℕ) (m : NamedMethod) → method_in types c name count ≡ Some m → MethodStands types c name count m
method_stands types stand c name count m e = go (is_run c name count) refl e
  where
    go : (b : Bool) → is_run c name count ≡ b → cond b (Some (run_method c name)) (face_method c name (member_in (member_key c name count) (types c))) ≡ Some m → MethodStands types c name count m
    go true run found = run-stands types c name count run m found
    go false run found = named-stands types stand c name count (member_in (member_key c name count) (types c)) refl m found
