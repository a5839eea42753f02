-- What a list of notes tells, a longer one tells.
use Rattle.std.proofs.Common.{List, [], ◌∷◌, ◌++◌, inl, inr, Option, Some, None}
use Rattle.bound_tree.specs.declared.name.ValueType.{ValueType}
use Rattle.bound_tree.specs.declared.name.ValueType.TheVariants as value
use Rattle.name_rules.specs.declared.note.Note.{Note}
use Rattle.name_rules.specs.declared.note.Note.TheVariants.{Finding, Names, Calls}
use Rattle.name_rules.specs.Types.{Name, Types}
use Rattle.expression_binding.specs.Laws.{IsTold, IsAsked, IsAskedType, AgreeOn}

pub told-front : (ns ms : List Note) (c : Name) → IsTold ns c → IsTold (ns ++ ms) c
told-front [] ms c h = absurd h
told-front (Names d ∷ ns) ms c (inl e) = inl e
told-front (Names d ∷ ns) ms c (inr h) = inr (told-front ns ms c h)
told-front (Finding found at ∷ ns) ms c h = told-front ns ms c h
told-front (Calls d name count ∷ ns) ms c h = told-front ns ms c h

pub told-back : (ns ms : List Note) (c : Name) → IsTold ms c → IsTold (ns ++ ms) c
told-back [] ms c h = h
told-back (Names d ∷ ns) ms c h = inr (told-back ns ms c h)
told-back (Finding found at ∷ ns) ms c h = told-back ns ms c h
told-back (Calls d name count ∷ ns) ms c h = told-back ns ms c h

-- what an answer of fewer notes rests on
asked-more : (class : Name) (ns ms : List Note) → ((c : Name) → IsTold ns c → IsTold ms c) → (c : Name) → IsAsked class ns c → IsAsked class ms c
asked-more class ns ms more c (inl e) = inl e
asked-more class ns ms more c (inr (inl e)) = inr (inl e)
asked-more class ns ms more c (inr (inr h)) = inr (inr (more c h))

pub asked-front : (class : Name) (ns ms : List Note) (c : Name) → IsAsked class ns c → IsAsked class (ns ++ ms) c
asked-front class ns ms = asked-more class ns (ns ++ ms) (told-front ns ms)

pub asked-back : (class : Name) (ns ms : List Note) (c : Name) → IsAsked class ms c → IsAsked class (ns ++ ms) c
asked-back class ns ms = asked-more class ms (ns ++ ms) (told-back ns ms)

type-more : (class : Name) (ns ms : List Note) → ((c : Name) → IsAsked class ns c → IsAsked class ms c) → (ty : Option ValueType) → IsAskedType class ns ty → IsAskedType class ms ty
type-more class ns ms more None h = tt
type-more class ns ms more (Some value.Int) h = tt
type-more class ns ms more (Some value.Boolean) h = tt
type-more class ns ms more (Some value.Null) h = tt
type-more class ns ms more (Some (value.Named c)) h = more c h

pub type-front : (class : Name) (ns ms : List Note) (ty : Option ValueType) → IsAskedType class ns ty → IsAskedType class (ns ++ ms) ty
type-front class ns ms = type-more class ns (ns ++ ms) (asked-front class ns ms)

pub type-back : (class : Name) (ns ms : List Note) (ty : Option ValueType) → IsAskedType class ms ty → IsAskedType class (ns ++ ms) ty
type-back class ns ms = type-more class ms (ns ++ ms) (asked-back class ns ms)

-- who agree on what more rests on agree on what less rests on
pub agree-front : (T U : Types) (class : Name) (ns ms : List Note) → AgreeOn T U class (ns ++ ms) → AgreeOn T U class ns
agree-front T U class ns ms agree c h = agree c (asked-front class ns ms c h)

pub agree-back : (T U : Types) (class : Name) (ns ms : List Note) → AgreeOn T U class (ns ++ ms) → AgreeOn T U class ms
agree-back T U class ns ms agree c h = agree c (asked-back class ns ms c h)
