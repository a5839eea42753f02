-- What is proved of bound expressions, each as one statement.
use Rattle.std.specs.Prelude.{◌≡◌, ◌⊎◌, ℕ, Bool, false, List, [], ◌∷◌, codes, Option, Some, None}
use Rattle.std.specs.List.{Contains}
use Rattle.bound_tree.specs.declared.name.ValueType.{ValueType}
use Rattle.bound_tree.specs.declared.name.ValueType.TheVariants as value
use Rattle.bound_tree.specs.Tree.{Term, stamp_of}
use Rattle.class_faces.specs.declared.face.FaceTy.{FaceTy}
use Rattle.class_faces.specs.declared.face.FaceTy.TheVariants as face
use Rattle.tree_places.specs.PlainExpr.{PlainExpr}
use Rattle.name_rules.specs.declared.note.Note.{Note}
use Rattle.name_rules.specs.declared.note.Note.TheVariants.{Finding, Names, Calls}
use Rattle.name_rules.specs.Types.{Name, Types}
use Rattle.name_rules.specs.Types as rules
use Rattle.name_rules.specs.Scopes.{Scope}
use Rattle.name_rules.specs.Places.{Place, Anywhere, AnyValue, Of, Beside, Locked, Started}
use Rattle.expression_binding.specs.Bound.{grounded, fitted}

-- the names that are told as consulted
abbrev pub IsTold : List Note → Name → Type 0
IsTold [] c = ⊥
IsTold (Names d ∷ notes) c = (c ≡ d) ⊎ IsTold notes c
IsTold (Finding found at ∷ notes) c = IsTold notes c
IsTold (Calls d name count ∷ notes) c = IsTold notes c

-- what an answer of these notes rests on: the own class, String, and what is told
abbrev pub IsAsked : Name → List Note → Name → Type 0
IsAsked class notes c = (c ≡ class) ⊎ ((c ≡ codes "String") ⊎ IsTold notes c)

abbrev pub IsAskedType : Name → List Note → Option ValueType → Type 0
IsAskedType class notes None = Unit {0}
IsAskedType class notes (Some value.Int) = Unit {0}
IsAskedType class notes (Some value.Boolean) = Unit {0}
IsAskedType class notes (Some value.Null) = Unit {0}
IsAskedType class notes (Some (value.Named c)) = IsAsked class notes c

-- the type of an expression is one of these
abbrev pub TypesAreAsked : Type 0
TypesAreAsked = (types : Types) (class : Name) (in_static : Bool) (scope : Scope) (p : Place) (e : PlainExpr)
    → IsAskedType class (fitted (grounded types class in_static) scope p e).notes (stamp_of (fitted (grounded types class in_static) scope p e).term).ty

-- ---- one answer under two tables

abbrev pub AgreeOn : Types → Types → Name → List Note → Type 0
AgreeOn T U class notes = (c : Name) → IsAsked class notes c → T c ≡ U c

abbrev pub AgreeAtType : Types → Types → FaceTy → Type 0
AgreeAtType T U face.Int = Unit {0}
AgreeAtType T U face.Bool = Unit {0}
AgreeAtType T U face.Args = Unit {0}
AgreeAtType T U (face.Named c) = T c ≡ U c

abbrev pub AgreeAtValue : Types → Types → rules.ValueType → Type 0
AgreeAtValue T U rules.Int = Unit {0}
AgreeAtValue T U rules.Boolean = Unit {0}
AgreeAtValue T U rules.Null = Unit {0}
AgreeAtValue T U (rules.Named c) = T c ≡ U c

-- the place asks for a type of which they say one thing
abbrev pub AgreeAt : Types → Types → Place → Type 0
AgreeAt T U Anywhere = Unit {0}
AgreeAt T U AnyValue = Unit {0}
AgreeAt T U (Of ty) = AgreeAtType T U ty
AgreeAt T U (Beside ty) = AgreeAtValue T U ty
AgreeAt T U Locked = Unit {0}
AgreeAt T U Started = Unit {0}

abbrev pub OneAnswer : Type 0
OneAnswer = (T U : Types) (class : Name) (in_static : Bool) (scope : Scope) (p : Place) (e : PlainExpr)
    → AgreeOn T U class (fitted (grounded T class in_static) scope p e).notes → AgreeAt T U p
    → fitted (grounded T class in_static) scope p e ≡ fitted (grounded U class in_static) scope p e
