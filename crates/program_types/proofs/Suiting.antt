-- What suits by names suits by numbers.
use Rattle.std.proofs.Common.{◌≡◌, ℕ, Bool, true, false, ◌||◌, List, [], Option, Some, None, if◌then◌else◌, refl, sym, ◌∙◌, ap, subst, codes, arith, ◌&&◌, slice_get, ◌==◌}
use Rattle.std.specs.Prelude.{is_some, not}
use Rattle.std.specs.Str.{bytes_eq}
use Rattle.std.proofs.lemmas.Slice.Eq.{bytes_eq-Decides}
use Rattle.java_tree.specs.declared.file.TypeKind.{TypeKind}
use Rattle.bound_tree.specs.declared.name.ValueType.{ValueType}
use Rattle.bound_tree.specs.declared.name.ValueType.TheVariants as value
use Rattle.class_faces.specs.declared.face.FaceTy.{FaceTy}
use Rattle.class_faces.specs.declared.face.FaceTy.TheVariants as face
use Rattle.core_model.specs.declared.object.Obj.{Obj}
use Rattle.core_model.specs.declared.object.ObjKind.{ObjKind}
use Rattle.core_model.specs.declared.object.ObjKind.TheVariants as kind
use Rattle.core_model.specs.declared.program.Program.{Program}
use Rattle.core_model.specs.declared.value.Value.{Value}
use Rattle.core_model.specs.declared.value.Value.TheVariants as val
use Rattle.core_laws.specs.Shape.{kind_of}
use Rattle.core_types.specs.Types.{Ty, IntType, BoolType, TextType, NullType, ObjectType, RunnableType, ClassType, AnyType, Types, of_class, has}
use Rattle.core_types.specs.Types as core
use Rattle.core_types.specs.Belonging.{Belongs, Suits, if_kind, refers, is_object, may_run, is_of}
use Rattle.lowering.specs.Numbers.{Numbers, class_number}
use Rattle.name_rules.specs.Types.{Name, is_built_in, suits, class_suits, has_monitor, can_start, is_class, is_declared, is_interface, implements, lists_interface, is_object_kind}
use Rattle.name_rules.specs.Types as rules
use Rattle.expression_binding.specs.Stamps.{type_of, judged_type}
use Rattle.program_types.specs.Types.{named_type, value_type}
use Rattle.program_types.specs.Numbering.{NumbersFit}

-- ---- tests

pub and_first : (a b : Bool) → (a && b) ≡ true → a ≡ true
and_first true b e = refl
and_first false b e = e

pub and_second : (a b : Bool) → (a && b) ≡ true → b ≡ true
and_second true b e = e
and_second false b e = absurd (let no : ⊥ = cc in no)

-- ---- references

kinds_refer : (o : Option ObjKind) (s t : ObjKind → Bool) → ((k : ObjKind) → s k ≡ true → t k ≡ true) → if_kind o s ≡ true → if_kind o t ≡ true
kinds_refer None s t h e = e
kinds_refer (Some k) s t h e = h k e

-- what refers to an object of one kind refers to one of a wider kind
refers_wider : (os : List Obj) (v : Value) (s t : ObjKind → Bool) → ((k : ObjKind) → s k ≡ true → t k ≡ true) → refers os v s ≡ true → refers os v t ≡ true
refers_wider os (val.Int x) s t h e = e
refers_wider os (val.Bool x) s t h e = e
refers_wider os (val.Str x) s t h e = e
refers_wider os val.Null s t h e = e
refers_wider os (val.Ref r) s t h e = kinds_refer (kind_of (slice_get os r)) s t h e

of_is_object : (T : Types) (d : ℕ) (k : ObjKind) → is_of T d k ≡ true → is_object k ≡ true
of_is_object T d (kind.Holder c) e = e
of_is_object T d (kind.Made c) e = refl
of_is_object T d kind.Plain e = refl

run_is_object : (T : Types) (k : ObjKind) → may_run T k ≡ true → is_object k ≡ true
run_is_object T (kind.Holder c) e = e
run_is_object T (kind.Made c) e = refl
run_is_object T kind.Plain e = refl

pub itself : (T : Types) (t : Ty) → Suits T t t
itself T t os v h = h

refers_any : (T : Types) (os : List Obj) (v : Value) → refers os v is_object ≡ true → Belongs T os v AnyType
refers_any T os (val.Int x) e = refl
refers_any T os (val.Bool x) e = refl
refers_any T os (val.Str x) e = refl
refers_any T os val.Null e = refl
refers_any T os (val.Ref r) e = e

pub class_object : (T : Types) (c : ℕ) → Suits T (ClassType c) ObjectType
class_object T c os v h = refers_wider os v (is_of T c) is_object (of_is_object T c) h

run_object : (T : Types) → Suits T RunnableType ObjectType
run_object T os v h = refers_wider os v (may_run T) is_object (run_is_object T) h

-- each type's values are values
pub suits_any : (T : Types) (t : Ty) → Suits T t AnyType
suits_any T IntType os (val.Int x) h = refl
suits_any T IntType os (val.Bool x) h = absurd (let no : ⊥ = cc in no)
suits_any T IntType os (val.Str x) h = absurd (let no : ⊥ = cc in no)
suits_any T IntType os val.Null h = refl
suits_any T IntType os (val.Ref x) h = absurd (let no : ⊥ = cc in no)
suits_any T BoolType os (val.Int x) h = refl
suits_any T BoolType os (val.Bool x) h = refl
suits_any T BoolType os (val.Str x) h = refl
suits_any T BoolType os val.Null h = refl
suits_any T BoolType os (val.Ref x) h = absurd (let no : ⊥ = cc in no)
suits_any T TextType os (val.Int x) h = refl
suits_any T TextType os (val.Bool x) h = refl
suits_any T TextType os (val.Str x) h = refl
suits_any T TextType os val.Null h = refl
suits_any T TextType os (val.Ref x) h = absurd (let no : ⊥ = cc in no)
suits_any T NullType os (val.Int x) h = refl
suits_any T NullType os (val.Bool x) h = refl
suits_any T NullType os (val.Str x) h = refl
suits_any T NullType os val.Null h = refl
suits_any T NullType os (val.Ref x) h = absurd (let no : ⊥ = cc in no)
suits_any T ObjectType os v h = refers_any T os v h
suits_any T RunnableType os v h = refers_any T os v (run_object T os v h)
suits_any T (ClassType c) os v h = refers_any T os v (class_object T c os v h)
suits_any T AnyType os v h = h

null_suits : (T : Types) (t : Ty) → (os : List Obj) → Belongs T os val.Null t → Suits T NullType t
null_suits T t os n rs val.Null h = same t rs n
  where
    same : (t : Ty) (rs : List Obj) → Belongs T os val.Null t → Belongs T rs val.Null t
    same IntType rs n = n
    same BoolType rs n = n
    same TextType rs n = n
    same NullType rs n = n
    same ObjectType rs n = n
    same RunnableType rs n = n
    same (ClassType c) rs n = n
    same AnyType rs n = n
null_suits T t os n rs (val.Int x) h = absurd (let no : ⊥ = cc in no)
null_suits T t os n rs (val.Bool x) h = absurd (let no : ⊥ = cc in no)
null_suits T t os n rs (val.Str x) h = absurd (let no : ⊥ = cc in no)
null_suits T t os n rs (val.Ref x) h = absurd (let no : ⊥ = cc in no)

-- ---- named types

null_named : (T : Types) (r : Numbers) (d : Name) → Suits T NullType (named_type r d)
null_named T r d = null_suits T (named_type r d) [] (go (rules.is_object d) (rules.is_string d) (rules.is_runnable d))
  where
    go : (a b c : Bool) → Belongs T [] val.Null (if a then ObjectType else (if b then TextType else (if c then RunnableType else ClassType (class_number r d))))
    go true b c = refl
    go false true c = refl
    go false false true = refl
    go false false false = refl

-- a declared type stands for its class
pub named_declared : (p : Program) (T : Types) (r : Numbers) (types : rules.Types) (c : Name) → NumbersFit p T r types → is_declared types c ≡ true
    → named_type r c ≡ ClassType (class_number r c)
named_declared p T r types c n h = go (rules.is_object c) (rules.is_string c) (rules.is_runnable c) (n.apart c h)
  where
    go : (a b d : Bool) → (a || (b || d)) ≡ false
        → (if a then ObjectType else (if b then TextType else (if d then RunnableType else ClassType (class_number r c)))) ≡ ClassType (class_number r c)
    go true b d e = absurd (let no : ⊥ = cc in no)
    go false true d e = absurd (let no : ⊥ = cc in no)
    go false false true e = absurd (let no : ⊥ = cc in no)
    go false false false e = refl

-- a type with a monitor suits Object
named_locks : (T : Types) (r : Numbers) (c : Name) → rules.is_string c ≡ false → Suits T (named_type r c) ObjectType
named_locks T r c h = go (rules.is_object c) (rules.is_string c) (rules.is_runnable c) h
  where
    go : (a b d : Bool) → b ≡ false → Suits T (if a then ObjectType else (if b then TextType else (if d then RunnableType else ClassType (class_number r c)))) ObjectType
    go true b d e = itself T ObjectType
    go false true d e = absurd (let no : ⊥ = cc in no)
    go false false true e = run_object T
    go false false false e = class_object T (class_number r c)

pub locks : (T : Types) (r : Numbers) (v : ValueType) → has_monitor (judged_type v) ≡ true → Suits T (value_type r v) ObjectType
locks T r value.Int h = absurd (let no : ⊥ = cc in no)
locks T r value.Boolean h = absurd (let no : ⊥ = cc in no)
locks T r value.Null h = null_suits T ObjectType [] refl
locks T r (value.Named c) h = named_locks T r c (go (rules.is_string c) h)
  where
    go : (b : Bool) → not b ≡ true → b ≡ false
    go true e = sym e
    go false e = refl

named_object : (r : Numbers) (d : Name) → rules.is_object d ≡ true → named_type r d ≡ ObjectType
named_object r d h =
    ap (λ (b : Bool). if b then ObjectType else (if rules.is_string d then TextType else (if rules.is_runnable d then RunnableType else ClassType (class_number r d)))) h

runs_named : (r : Numbers) → named_type r (codes "Runnable") ≡ RunnableType
runs_named r = refl

pub named_runnable : (r : Numbers) (d : Name) → rules.is_runnable d ≡ true → named_type r d ≡ RunnableType
named_runnable r d h = ap (named_type r) ((bytes_eq-Decides d (codes "Runnable")).0 h) ∙ runs_named r

-- a class suits Runnable where its own objects may run, and an interface that is implemented
same_number : (a b : ℕ) → (a == b) ≡ true → a ≡ b
same_number a b e = grind arith

of_runs : (T : Types) (i : ℕ) (k : ObjKind) → core.is_runnable T i ≡ true → ((j : ℕ) → has (of_class T j).implements i ≡ false) → is_of T i k ≡ true → may_run T k ≡ true
of_runs T i (kind.Holder c) h none e = e
of_runs T i (kind.Made c) h none e = go (c == i) refl (has (of_class T c).implements i) (none c) e
  where
    go : (b : Bool) → (c == i) ≡ b → (a : Bool) → a ≡ false → (b || a) ≡ true → core.is_runnable T c ≡ true
    go true is a f g = subst (λ (n : ℕ). core.is_runnable T n ≡ true) (sym (same_number c i is)) h
    go false is a f g = absurd (let no : ⊥ = cc in no)
of_runs T i kind.Plain h none e = absurd (let no : ⊥ = cc in no)

class_runs : (T : Types) (i : ℕ) → core.is_runnable T i ≡ true → ((j : ℕ) → has (of_class T j).implements i ≡ false) → Suits T (ClassType i) RunnableType
class_runs T i h none os v e = refers_wider os v (is_of T i) (may_run T) (λ (k : ObjKind). of_runs T i k h none) e

or_right : (b : Bool) → (b || true) ≡ true
or_right true = refl
or_right false = refl

of_implements : (T : Types) (i d : ℕ) (k : ObjKind) → has (of_class T i).implements d ≡ true → ((j : ℕ) → has (of_class T j).implements i ≡ false) → is_of T i k ≡ true → is_of T d k ≡ true
of_implements T i d (kind.Holder c) h none e = e
of_implements T i d (kind.Made c) h none e = go (c == i) refl (has (of_class T c).implements i) (none c) e
  where
    go : (b : Bool) → (c == i) ≡ b → (a : Bool) → a ≡ false → (b || a) ≡ true → ((c == d) || has (of_class T c).implements d) ≡ true
    go true is a f g =
        ap (λ (x : Bool). (c == d) || x) (subst (λ (n : ℕ). has (of_class T n).implements d ≡ true) (sym (same_number c i is)) h) ∙ or_right (c == d)
    go false is a f g = absurd (let no : ⊥ = cc in no)
of_implements T i d kind.Plain h none e = absurd (let no : ⊥ = cc in no)

class_implements : (T : Types) (i d : ℕ) → has (of_class T i).implements d ≡ true → ((j : ℕ) → has (of_class T j).implements i ≡ false) → Suits T (ClassType i) (ClassType d)
class_implements T i d h none os v e = refers_wider os v (is_of T i) (is_of T d) (λ (k : ObjKind). of_implements T i d k h none) e

-- ---- what suits by names

module _ (p : Program) (T : Types) (r : Numbers) (types : rules.Types) (n : NumbersFit p T r types) where
  class_is_declared : (c : Name) → is_class types c ≡ true → is_declared types c ≡ true
  class_is_declared c h = go (rules.kind_in (types c)) h
    where
      go : (o : Option TypeKind) → rules.is_class_kind o ≡ true → is_some o ≡ true
      go None e = e
      go (Some k) e = refl

  interface_is_declared : (d : Name) → rules.is_runnable d ≡ false → is_interface types d ≡ true → is_declared types d ≡ true
  interface_is_declared d plain h = go (rules.is_runnable d) (rules.kind_in (types d)) plain h
    where
      go : (b : Bool) (o : Option TypeKind) → b ≡ false → (b || rules.is_interface_kind o) ≡ true → is_some o ≡ true
      go true o e f = absurd (let no : ⊥ = cc in no)
      go false None e f = f
      go false (Some k) e f = refl

  object_kinds : (c : Name) → is_object_kind types c ≡ true → Suits T (named_type r c) ObjectType
  object_kinds c h = go (is_declared types c) refl h
    where
      go : (b : Bool) → is_declared types c ≡ b → (b || rules.is_runnable c) ≡ true → Suits T (named_type r c) ObjectType
      go true e f = subst (λ (t : Ty). Suits T t ObjectType) (sym (named_declared p T r types c n e)) (class_object T (class_number r c))
      go false e f = subst (λ (t : Ty). Suits T t ObjectType) (sym (named_runnable r c f)) (run_object T)

  runnable_named : (d : Name) → rules.is_runnable d ≡ true → d ≡ codes "Runnable"
  runnable_named d h = (bytes_eq-Decides d (codes "Runnable")).0 h

  implementing : (c d : Name) → implements types c d ≡ true → (b : Bool) → rules.is_runnable d ≡ b → Suits T (named_type r c) (named_type r d)
  implementing c d h true e =
      subst (λ (t : Ty). Suits T (named_type r c) t) (sym (named_runnable r d e))
      (subst (λ (t : Ty). Suits T t RunnableType) (sym (named_declared p T r types c n (class_is_declared c class)))
      (class_runs T (class_number r c)
      (n.runs c class (subst (λ (x : Name). lists_interface x (types c) ≡ true) (runnable_named d e) (and_second (is_interface types d) (lists_interface d (types c)) rest)))
      (λ (j : ℕ). n.above c j class)))
    where
      class : is_class types c ≡ true
      class = and_first (is_class types c) (is_interface types d && lists_interface d (types c)) h

      rest : (is_interface types d && lists_interface d (types c)) ≡ true
      rest = and_second (is_class types c) (is_interface types d && lists_interface d (types c)) h
  implementing c d h false e =
      subst (λ (t : Ty). Suits T (named_type r c) t) (sym (named_declared p T r types d n (interface_is_declared d e interface)))
      (subst (λ (t : Ty). Suits T t (ClassType (class_number r d))) (sym (named_declared p T r types c n (class_is_declared c class)))
      (class_implements T (class_number r c) (class_number r d) (n.implemented c d h e) (λ (j : ℕ). n.above c j class)))
    where
      class : is_class types c ≡ true
      class = and_first (is_class types c) (is_interface types d && lists_interface d (types c)) h

      interface : is_interface types d ≡ true
      interface = and_first (is_interface types d) (lists_interface d (types c)) (and_second (is_class types c) (is_interface types d && lists_interface d (types c)) h)

  named_suits : (c d : Name) → class_suits types c d ≡ true → Suits T (named_type r c) (named_type r d)
  named_suits c d h = go (bytes_eq c d) refl (rules.is_object d) refl (is_object_kind types c) refl (implements types c d) refl h
    where
      go : (a : Bool) → bytes_eq c d ≡ a → (b : Bool) → rules.is_object d ≡ b → (o : Bool) → is_object_kind types c ≡ o → (i : Bool) → implements types c d ≡ i
          → (a || ((b && o) || i)) ≡ true → Suits T (named_type r c) (named_type r d)
      go true same b e o f i g all = subst (λ (x : Name). Suits T (named_type r c) (named_type r x)) ((bytes_eq-Decides c d).0 same) (itself T (named_type r c))
      go false same true e true f i g all = subst (λ (t : Ty). Suits T (named_type r c) t) (sym (named_object r d e)) (object_kinds c f)
      go false same b e o f true g all = implementing c d g (rules.is_runnable d) refl
      go false same true e false f false g all = absurd (let no : ⊥ = cc in no)
      go false same false e o f false g all = absurd (let no : ⊥ = cc in no)

  pub suiting : (v : ValueType) (ty : FaceTy) → suits types (judged_type v) ty ≡ true → Suits T (value_type r v) (value_type r (type_of ty))
  suiting value.Int face.Int h = itself T IntType
  suiting value.Boolean face.Int h = absurd (let no : ⊥ = cc in no)
  suiting value.Null face.Int h = absurd (let no : ⊥ = cc in no)
  suiting (value.Named c) face.Int h = absurd (let no : ⊥ = cc in no)
  suiting value.Int face.Bool h = absurd (let no : ⊥ = cc in no)
  suiting value.Boolean face.Bool h = itself T BoolType
  suiting value.Null face.Bool h = absurd (let no : ⊥ = cc in no)
  suiting (value.Named c) face.Bool h = absurd (let no : ⊥ = cc in no)
  suiting value.Int face.Args h = absurd (let no : ⊥ = cc in no)
  suiting value.Boolean face.Args h = absurd (let no : ⊥ = cc in no)
  suiting value.Null face.Args h = itself T NullType
  suiting (value.Named c) face.Args h = absurd (let no : ⊥ = cc in no)
  suiting value.Int (face.Named d) h = absurd (let no : ⊥ = cc in no)
  suiting value.Boolean (face.Named d) h = absurd (let no : ⊥ = cc in no)
  suiting value.Null (face.Named d) h = null_named T r d
  suiting (value.Named c) (face.Named d) h = named_suits c d h

  pub starting : (v : ValueType) → can_start types (judged_type v) ≡ true → Suits T (value_type r v) RunnableType
  starting value.Int h = absurd (let no : ⊥ = cc in no)
  starting value.Boolean h = absurd (let no : ⊥ = cc in no)
  starting value.Null h = absurd (let no : ⊥ = cc in no)
  starting (value.Named c) h = go (rules.is_runnable c) refl h
    where
      go : (b : Bool) → rules.is_runnable c ≡ b → (b || (is_class types c && lists_interface (codes "Runnable") (types c))) ≡ true → Suits T (named_type r c) RunnableType
      go true e f = subst (λ (t : Ty). Suits T t RunnableType) (sym (named_runnable r c e)) (itself T RunnableType)
      go false e f =
          subst (λ (t : Ty). Suits T t RunnableType)
          (sym (named_declared p T r types c n (class_is_declared c (and_first (is_class types c) (lists_interface (codes "Runnable") (types c)) f))))
          (class_runs T (class_number r c)
          (n.runs c (and_first (is_class types c) (lists_interface (codes "Runnable") (types c)) f) (and_second (is_class types c) (lists_interface (codes "Runnable") (types c)) f))
          (λ (j : ℕ). n.above c j (and_first (is_class types c) (lists_interface (codes "Runnable") (types c)) f)))
