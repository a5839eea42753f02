-- Values keep their types as objects are made and written.
use Rattle.std.proofs.Common.{◌≡◌, ℕ, zero, suc, Bool, true, List, [], ◌∷◌, ◌++◌, Option, Some, None, length, slice_get, slice_set, refl, take, drop, ap}
use Rattle.core_model.specs.declared.object.Obj.{Obj}
use Rattle.core_model.specs.declared.object.ObjKind.{ObjKind}
use Rattle.core_model.specs.declared.value.Value.{Value}
use Rattle.core_model.specs.declared.value.Value.TheVariants as value
use Rattle.core_laws.specs.Shape.{kind_of}
use Rattle.core_types.specs.Types.{Ty, IntType, BoolType, TextType, NullType, ObjectType, RunnableType, ClassType, AnyType, Types}
use Rattle.core_types.specs.Belonging.{if_kind, refers, is_object, may_run, is_of, Belongs, AllBelong}
use Rattle.core_types.specs.Need.{AllSuit}

-- objects stay what they are
abbrev pub Grows : List Obj → List Obj → Type 0
Grows os ns = (r : ℕ) (k : ObjKind) → kind_of (slice_get os r) ≡ Some k → kind_of (slice_get ns r) ≡ Some k

kind-grows : (os ns : List Obj) (r : ℕ) (o : Option ObjKind) (test : ObjKind → Bool) → Grows os ns → kind_of (slice_get os r) ≡ o
    → if_kind o test ≡ true → if_kind (kind_of (slice_get ns r)) test ≡ true
kind-grows os ns r None test g e h = absurd (let no : ⊥ = cc in no)
kind-grows os ns r (Some k) test g e h = rw (g r k e) h

refers-grows : (os ns : List Obj) (v : Value) (test : ObjKind → Bool) → Grows os ns → refers os v test ≡ true → refers ns v test ≡ true
refers-grows os ns (value.Int x) test g h = h
refers-grows os ns (value.Bool b) test g h = h
refers-grows os ns (value.Str s) test g h = h
refers-grows os ns value.Null test g h = h
refers-grows os ns (value.Ref r) test g h = kind-grows os ns r (kind_of (slice_get os r)) test g refl h

pub belongs-grows : (T : Types) (os ns : List Obj) (v : Value) (t : Ty) → Grows os ns → Belongs T os v t → Belongs T ns v t
belongs-grows T os ns v IntType g h = h
belongs-grows T os ns v BoolType g h = h
belongs-grows T os ns v TextType g h = h
belongs-grows T os ns v NullType g h = h
belongs-grows T os ns v ObjectType g h = refers-grows os ns v is_object g h
belongs-grows T os ns v RunnableType g h = refers-grows os ns v (may_run T) g h
belongs-grows T os ns v (ClassType c) g h = refers-grows os ns v (is_of T c) g h
belongs-grows T os ns (value.Int x) AnyType g h = h
belongs-grows T os ns (value.Bool b) AnyType g h = h
belongs-grows T os ns (value.Str s) AnyType g h = h
belongs-grows T os ns value.Null AnyType g h = h
belongs-grows T os ns (value.Ref r) AnyType g h = refers-grows os ns (value.Ref r) is_object g h

pub all-grow : (T : Types) (os ns : List Obj) (vs : List Value) (ts : List Ty) → Grows os ns → AllBelong T os vs ts → AllBelong T ns vs ts
all-grow T os ns [] [] g h = tt
all-grow T os ns [] (t ∷ ts) g h = absurd h
all-grow T os ns (v ∷ vs) [] g h = absurd h
all-grow T os ns (v ∷ vs) (t ∷ ts) g h = (belongs-grows T os ns v t g h.0, all-grow T os ns vs ts g h.1)

-- ---- lists of values that belong to lists of types

pub all-long : (T : Types) (os : List Obj) (vs : List Value) (ts : List Ty) → AllBelong T os vs ts → length vs ≡ length ts
all-long T os [] [] h = refl
all-long T os [] (t ∷ ts) h = absurd h
all-long T os (v ∷ vs) [] h = absurd h
all-long T os (v ∷ vs) (t ∷ ts) h = ap suc (all-long T os vs ts h.1)

pub all-append : (T : Types) (os : List Obj) (vs ws : List Value) (ts us : List Ty) → AllBelong T os vs ts → AllBelong T os ws us
    → AllBelong T os (vs ++ ws) (ts ++ us)
all-append T os [] ws [] us h g = g
all-append T os [] ws (t ∷ ts) us h g = absurd h
all-append T os (v ∷ vs) ws [] us h g = absurd h
all-append T os (v ∷ vs) ws (t ∷ ts) us h g = (h.0, all-append T os vs ws ts us h.1 g)

pub all-take : (T : Types) (os : List Obj) (vs : List Value) (ts us : List Ty) → AllBelong T os vs (ts ++ us) → AllBelong T os (take (length ts) vs) ts
all-take T os vs [] us h = tt
all-take T os [] (t ∷ ts) us h = absurd h
all-take T os (v ∷ vs) (t ∷ ts) us h = (h.0, all-take T os vs ts us h.1)

pub all-drop : (T : Types) (os : List Obj) (vs : List Value) (ts us : List Ty) → AllBelong T os vs (ts ++ us) → AllBelong T os (drop (length ts) vs) us
all-drop T os vs [] us h = h
all-drop T os [] (t ∷ ts) us h = absurd h
all-drop T os (v ∷ vs) (t ∷ ts) us h = all-drop T os vs ts us h.1

-- a value of a list of them
abbrev pub Found : Types → List Obj → Option Value → Ty → Type 0
Found T os None t = ⊥
Found T os (Some v) t = Belongs T os v t

pub all-get : (T : Types) (os : List Obj) (vs : List Value) (ts : List Ty) (i : ℕ) (t : Ty) → slice_get ts i ≡ Some t → AllBelong T os vs ts
    → Found T os (slice_get vs i) t
all-get T os vs [] i t e h = absurd (let no : ⊥ = cc in no)
all-get T os [] (u ∷ ts) i t e h = absurd h
all-get T os (v ∷ vs) (u ∷ ts) zero t e h = let is : u ≡ t = cc in rw (← is) h.0
all-get T os (v ∷ vs) (u ∷ ts) (suc i) t e h = all-get T os vs ts i t e h.1

pub all-set : (T : Types) (os : List Obj) (vs : List Value) (ts : List Ty) (i : ℕ) (v : Value) (t : Ty) → slice_get ts i ≡ Some t → Belongs T os v t
    → AllBelong T os vs ts → AllBelong T os (slice_set vs i v) ts
all-set T os [] [] i v t e b h = tt
all-set T os [] (u ∷ ts) i v t e b h = absurd h
all-set T os (w ∷ vs) [] i v t e b h = absurd h
all-set T os (w ∷ vs) (u ∷ ts) zero v t e b h = let is : u ≡ t = cc in (rw is b, h.1)
all-set T os (w ∷ vs) (u ∷ ts) (suc i) v t e b h = (h.0, all-set T os vs ts i v t e b h.1)

-- one value more, of a type that suits the first
pub push-one : (T : Types) (os : List Obj) (v : Value) (t : Ty) (vs : List Value) (ns : List Ty) → AllSuit T (t ∷ []) ns → Belongs T os v t
    → AllBelong T os vs (drop 1 ns) → AllBelong T os (v ∷ vs) ns
push-one T os v t vs [] s b h = absurd s
push-one T os v t vs (n ∷ ns) s b h = (s.0 os v b, h)
