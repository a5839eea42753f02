-- The types that a program's fields, locals and results have, and what its classes implement.
use Rattle.std.specs.Prelude.{ℕ, ◌==◌, ◌||◌, Bool, true, false, List, [], ◌∷◌, ◌++◌, Option, Some, None, slice_get}

-- a type of values; `NullType` is that of null alone, and any value is of `AnyType`
pub data Ty : Type 0 where
  IntType : Ty
  BoolType : Ty
  TextType : Ty
  NullType : Ty
  ObjectType : Ty
  RunnableType : Ty
  ClassType : ℕ → Ty
  AnyType : Ty

-- of a class: the types of its static fields and of the others, in written order, the interfaces that it implements, and
-- whether it implements Runnable
pub record ClassTypes : Type 0 where
  pub statics : List Ty
  pub own : List Ty
  pub implements : List ℕ
  pub runnable : Bool

-- of a unit: the type of `this`, where there is one, of its parameters, of its other locals, and of its result, if it has one
pub record UnitTypes : Type 0 where
  pub this : List Ty
  pub params : List Ty
  pub others : List Ty
  pub result : Option Ty

-- the types of a program's classes and units, by their numbers
pub record Types : Type 0 where
  pub classes : List ClassTypes
  pub units : List UnitTypes

abbrev pub or_no_class : Option ClassTypes → ClassTypes
or_no_class None = record { statics = []; own = []; implements = []; runnable = false }
or_no_class (Some c) = c

abbrev pub of_class : Types → ℕ → ClassTypes
of_class T c = or_no_class (slice_get T.classes c)

abbrev pub or_no_unit : Option UnitTypes → UnitTypes
or_no_unit None = record { this = []; params = []; others = []; result = None }
or_no_unit (Some u) = u

abbrev pub of_unit : Types → ℕ → UnitTypes
of_unit T u = or_no_unit (slice_get T.units u)

-- `this` and the parameters, in the order in which a call is given them
abbrev pub args_of : UnitTypes → List Ty
args_of u = u.this ++ u.params

abbrev pub locals_of : UnitTypes → List Ty
locals_of u = args_of u ++ u.others

abbrev pub not_empty : List Ty → Bool
not_empty [] = false
not_empty (t ∷ ts) = true

-- whether the unit has a `this`
abbrev pub is_instance : UnitTypes → Bool
is_instance u = not_empty u.this

abbrev pub has : List ℕ → ℕ → Bool
has [] d = false
has (c ∷ cs) d = (c == d) || has cs d

-- whether an object made of class c is one of class or interface d
abbrev pub is_class : Types → ℕ → ℕ → Bool
is_class T d c = (c == d) || has (of_class T c).implements d

abbrev pub is_runnable : Types → ℕ → Bool
is_runnable T c = (of_class T c).runnable
