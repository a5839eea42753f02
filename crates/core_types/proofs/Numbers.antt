-- Numbers stay in range: units, references and kinds.
use Rattle.std.proofs.Common.{◌≡◌, ℕ, zero, suc, ◌==◌, ◌&&◌, ⊎_elim, Bool, true, false, if◌then◌else◌, List, [], ◌∷◌, ◌++◌, Option, Some, None, length, replicate, slice_get, slice_set, is_some, refl, sym, ◌∙◌, subst}
use Rattle.std.specs.Option.{option_map}
use Rattle.std.specs.List.{find}
use Rattle.std.proofs.lemmas.Bool.Decides.{eqb_tells}
use Rattle.core_model.specs.Objects.{with_field, entered, exited, fresh_object, fresh_count, own_initials}
use Rattle.core_model.specs.Units.{number_in, number_of_class, unit_number}
use Rattle.core_model.specs.declared.program.Program.{Program}
use Rattle.core_model.specs.declared.program.ClassInfo.{ClassInfo}
use Rattle.core_model.specs.declared.program.UnitName.{UnitName}
use Rattle.core_model.specs.declared.object.Obj.{Obj}
use Rattle.core_model.specs.declared.object.ObjKind.{ObjKind}
use Rattle.core_model.specs.declared.object.ObjKind.TheVariants as kind
use Rattle.core_model.specs.declared.config.Call.{Call}
use Rattle.core_model.specs.declared.config.Gives.{Gives}
use Rattle.core_model.specs.declared.config.Gives.TheVariants.{Own, Object}
use Rattle.core_model.specs.declared.value.Value.{Value}
use Rattle.core_model.specs.declared.value.Value.TheVariants as value
use Rattle.core_laws.specs.Places.{Each}
use Rattle.core_laws.specs.Shape.{kind_of}
use Rattle.core_laws.proofs.Flows.{IsKept}
use Rattle.core_laws.proofs.Shaping.{change-kind}
use Rattle.core_types.specs.Types.{Ty, IntType, BoolType, TextType, NullType, ObjectType, RunnableType, ClassType, AnyType, Types, of_unit}
use Rattle.core_types.specs.Belonging.{if_kind, is_object, may_run, is_of, Belongs, AllBelong}
use Rattle.core_types.specs.Programs.{ThisFits, MemberFits, ProgramFits}
use Rattle.core_types.specs.Configs.{need_in, result_in, AllThere, GivesThere, IsThere, KindThere, KindsThere, AwaitsType, Awaits, BeneathFit}
use Rattle.core_types.proofs.Widening.{Grows, belongs-grows}

-- ---- values

kind-any : (k : Option ObjKind) (test : ObjKind → Bool) → ((x : ObjKind) → test x ≡ true → is_object x ≡ true) → if_kind k test ≡ true
    → if_kind k is_object ≡ true
kind-any None test f h = absurd (let no : ⊥ = cc in no)
kind-any (Some k) test f h = f k h

runs-any : (T : Types) (k : ObjKind) → may_run T k ≡ true → is_object k ≡ true
runs-any T (kind.Holder c) h = absurd (let no : ⊥ = cc in no)
runs-any T (kind.Made c) h = refl
runs-any T kind.Plain h = refl

class-any : (T : Types) (c : ℕ) (k : ObjKind) → is_of T c k ≡ true → is_object k ≡ true
class-any T c (kind.Holder d) h = absurd (let no : ⊥ = cc in no)
class-any T c (kind.Made d) h = refl
class-any T c kind.Plain h = refl

ref-any : (T : Types) (os : List Obj) (r : ℕ) (t : Ty) → Belongs T os (value.Ref r) t → Belongs T os (value.Ref r) AnyType
ref-any T os r IntType h = absurd (let no : ⊥ = cc in no)
ref-any T os r BoolType h = absurd (let no : ⊥ = cc in no)
ref-any T os r TextType h = absurd (let no : ⊥ = cc in no)
ref-any T os r NullType h = absurd (let no : ⊥ = cc in no)
ref-any T os r ObjectType h = h
ref-any T os r RunnableType h = kind-any (kind_of (slice_get os r)) (may_run T) (runs-any T) h
ref-any T os r (ClassType c) h = kind-any (kind_of (slice_get os r)) (is_of T c) (class-any T c) h
ref-any T os r AnyType h = h

pub belongs-any : (T : Types) (os : List Obj) (v : Value) (t : Ty) → Belongs T os v t → Belongs T os v AnyType
belongs-any T os (value.Int x) t h = refl
belongs-any T os (value.Bool b) t h = refl
belongs-any T os (value.Str s) t h = refl
belongs-any T os value.Null t h = refl
belongs-any T os (value.Ref r) t h = ref-any T os r t h

pub all-there : (T : Types) (os : List Obj) (vs : List Value) (ts : List Ty) → AllBelong T os vs ts → AllThere T os vs
all-there T os [] [] h = tt
all-there T os [] (t ∷ ts) h = absurd h
all-there T os (v ∷ vs) [] h = absurd h
all-there T os (v ∷ vs) (t ∷ ts) h = (belongs-any T os v t h.0, all-there T os vs ts h.1)

pub there-grows : (T : Types) (os ns : List Obj) (vs : List Value) → Grows os ns → AllThere T os vs → AllThere T ns vs
there-grows T os ns [] g h = tt
there-grows T os ns (v ∷ vs) g h = (belongs-grows T os ns v AnyType g h.0, there-grows T os ns vs g h.1)

pub there-set : (T : Types) (os : List Obj) (vs : List Value) (i : ℕ) (v : Value) → Belongs T os v AnyType → AllThere T os vs → AllThere T os (slice_set vs i v)
there-set T os [] i v b h = tt
there-set T os (w ∷ vs) zero v b h = (b, h.1)
there-set T os (w ∷ vs) (suc i) v b h = (h.0, there-set T os vs i v b h.1)

pub there-append : (T : Types) (os : List Obj) (vs ws : List Value) → AllThere T os vs → AllThere T os ws → AllThere T os (vs ++ ws)
there-append T os [] ws h g = g
there-append T os (v ∷ vs) ws h g = (h.0, there-append T os vs ws h.1 g)

pub nulls-there : (T : Types) (os : List Obj) (n : ℕ) → AllThere T os (replicate n value.Null)
nulls-there T os zero = tt
nulls-there T os (suc n) = (refl, nulls-there T os n)

-- ---- calls

gives-grow : (T : Types) (os ns : List Obj) (w : Gives) → Grows os ns → GivesThere T os w → GivesThere T ns w
gives-grow T os ns Own g h = tt
gives-grow T os ns (Object r) g h = belongs-grows T os ns (value.Ref r) AnyType g h

pub calls-there-grow : (p : Program) (T : Types) (os ns : List Obj) (cs : List Call) → Grows os ns → Each (IsThere p T os) cs → Each (IsThere p T ns) cs
calls-there-grow p T os ns [] g h = tt
calls-there-grow p T os ns (c ∷ cs) g h =
    ((h.0.0, there-grows T os ns c.locals g h.0.1, gives-grow T os ns c.gives g h.0.2), calls-there-grow p T os ns cs g h.1)

abbrev pub TempsThere : Types → List Obj → Call → Type 0
TempsThere T os c = AllThere T os c.temps

pub temps-there-grow : (T : Types) (os ns : List Obj) (cs : List Call) → Grows os ns → Each (TempsThere T os) cs → Each (TempsThere T ns) cs
temps-there-grow T os ns [] g h = tt
temps-there-grow T os ns (c ∷ cs) g h = (there-grows T os ns c.temps g h.0, temps-there-grow T os ns cs g h.1)

type-there : (T : Types) (os : List Obj) (t : Ty) (ts : List Value) (l : List Ty) → AwaitsType T os t ts l → AllThere T os ts
type-there T os t ts [] h = absurd h
type-there T os t ts (n ∷ l) h = all-there T os ts l h.1

awaits-there : (T : Types) (os : List Obj) (w : Gives) (r : Option Ty) (ts : List Value) (l : List Ty) → Awaits T os w r ts l → AllThere T os ts
awaits-there T os Own None ts l h = all-there T os ts l h
awaits-there T os Own (Some t) ts l h = type-there T os t ts l h
awaits-there T os (Object q) r ts [] h = absurd h
awaits-there T os (Object q) r ts (n ∷ l) h = all-there T os ts l h.1

-- the temporaries of calls that can go on are there
pub beneath-there : (p : Program) (T : Types) (os : List Obj) (w : Gives) (r : Option Ty) (cs : List Call) → BeneathFit p T os w r cs → Each (TempsThere T os) cs
beneath-there p T os w r [] h = tt
beneath-there p T os w r (c ∷ cs) h =
    (awaits-there T os w r c.temps (need_in p T c) h.1, beneath-there p T os c.gives (result_in T c) cs h.2)

-- ---- kinds

pub kinds-append : (p : Program) (os ns : List Obj) → KindsThere p os → KindsThere p ns
    → (r : ℕ) (k : ObjKind) → kind_of (slice_get (os ++ ns) r) ≡ Some k → KindThere p k
kinds-append p [] ns h g r k e = g r k e
kinds-append p (o ∷ os) ns h g zero k e = h zero k e
kinds-append p (o ∷ os) ns h g (suc r) k e = kinds-append p os ns (λ q l f. h (suc q) l f) g r k e

pub kinds-cons : (p : Program) (o : Obj) (os : List Obj) → KindThere p o.kind → KindsThere p os → KindsThere p (o ∷ os)
kinds-cons p o os h g = λ r k e. at r k e
  where
    at : (r : ℕ) (k : ObjKind) → kind_of (slice_get (o ∷ os) r) ≡ Some k → KindThere p k
    at zero k e = let same : o.kind ≡ k = cc in subst (KindThere p) same h
    at (suc r) k e = g r k e

pub kinds-none : (p : Program) → KindsThere p []
kinds-none p r k e = absurd (let no : ⊥ = cc in no)

pub kinds-fresh : (p : Program) (n : ℕ) → KindsThere p (replicate n fresh_object)
kinds-fresh p zero = kinds-none p
kinds-fresh p (suc n) = kinds-cons p fresh_object (replicate n fresh_object) tt (kinds-fresh p n)

pub kinds-kept : (p : Program) → IsKept p (KindsThere p)
kinds-kept p = record {
  write = λ os q i v g r k e. g r k (sym (change-kind os q r (slice_get os q) (λ o. with_field o i v) (λ x. refl) refl) ∙ e);
  enter = λ os q t g r k e. g r k (sym (change-kind os q r (slice_get os q) (entered t) (λ x. refl) refl) ∙ e);
  exit = λ os q g r k e. g r k (sym (change-kind os q r (slice_get os q) exited (λ x. refl) refl) ∙ e);
  fresh = λ os g. kinds-append p os (fresh_object ∷ []) g (kinds-fresh p 1);
  make = λ os c info e g. kinds-append p os _ g
      (kinds-cons p _ (replicate (fresh_count (own_initials info.fields)) fresh_object) (rw e refl) (kinds-fresh p _));
}

-- ---- members

-- the unit of a member with n parameters
pub record IsMember (p : Program) (T : Types) (c n u : ℕ) : Type 0 where
  pub there : is_some (slice_get p.units u) ≡ true
  pub count : length (of_unit T u).params ≡ n
  pub this : ThisFits c (of_unit T u).this

and-both : (a b : Bool) → a && b ≡ true → (a ≡ true) × (b ≡ true)
and-both true b h = (refl, h)
and-both false b h = absurd (let no : ⊥ = cc in no)

equal-is : (a b : ℕ) → (a == b) ≡ true → a ≡ b
equal-is a b e = ⊎_elim (λ y. y.1) (λ d. absurd (let no : ⊥ = cc in no)) (eqb_tells a b)

some-is : {A : Type 0} {x y : A} → Some x ≡ Some y → x ≡ y
some-is e = cc

abbrev test : ℕ → ℕ → UnitName → Bool
test m n e = (e.name == m) && (e.params == n)

member-in : (p : Program) (T : Types) (c m n u : ℕ) (us : List UnitName) → Each (MemberFits p T c) us → number_in us m n ≡ Some u → IsMember p T c n u
member-in p T c m n u [] h e = absurd (let no : ⊥ = cc in no)
member-in p T c m n u (x ∷ us) h e = chosen (test m n x) refl (λ f. member-in p T c m n u us h.1 f) e
  where
    chosen : (b : Bool) → test m n x ≡ b → (number_in us m n ≡ Some u → IsMember p T c n u) → option_map (λ (y : UnitName). y.unit) (if b then Some x else find (test m n) us) ≡ Some u → IsMember p T c n u
    chosen true t later f =
        let same : x.unit ≡ u = some-is f in
        let long : x.params ≡ n = equal-is x.params n (and-both (x.name == m) (x.params == n) t).1 in
        subst (λ w. IsMember p T c n w) same (record { there = h.0.there; count = h.0.count ∙ long; this = h.0.this })
    chosen false t later f = later f

class-member : (p : Program) (T : Types) → ProgramFits p T → (c m n u : ℕ) (o : Option ClassInfo) → slice_get p.classes c ≡ o
    → number_of_class o m n ≡ Some u → IsMember p T c n u
class-member p T program c m n u None there e = absurd (let no : ⊥ = cc in no)
class-member p T program c m n u (Some info) there e = member-in p T c m n u info.units (program.members c info there) e

pub member-at : (p : Program) (T : Types) → ProgramFits p T → (c m n u : ℕ) → unit_number p c m n ≡ Some u → IsMember p T c n u
member-at p T program c m n u e = class-member p T program c m n u (slice_get p.classes c) refl e
