-- The names of types that a promise names, or that stand at a member that is called, made or implemented.
use Rattle.std.specs.Prelude.{ℕ, ◌==◌, ◌&&◌, not, Bool, true, false, codes, List, [], ◌∷◌, ◌++◌, Option, Some, None, flat_map, if◌then◌else◌}
use Rattle.std.specs.List.{before_first, list_any}
use Rattle.std.specs.Str.{bytes_eq}
use Rattle.desk_base.specs.declared.key.PromiseKey.{PromiseKey}
use Rattle.class_faces.specs.declared.face.FaceTy.{FaceTy}
use Rattle.class_faces.specs.declared.face.FaceTy.TheVariants as ty
use Rattle.class_faces.specs.declared.face.ParamFace.{ParamFace}
use Rattle.class_faces.specs.declared.face.MemberFace.{MemberFace}
use Rattle.promise_grammar.specs.declared.effects.EffectTarget.{EffectTarget}
use Rattle.promise_grammar.specs.declared.effects.EffectTarget.TheVariants as target
use Rattle.promise_grammar.specs.declared.tree.PromiseTree.{PromiseTree, out-PromiseTree}
use Rattle.promise_grammar.specs.declared.tree.PromiseTree.TheOpen.{PromiseTree-F}
use Rattle.promise_scrub.specs.declared.surface.Standing.{Standing}
use Rattle.views.specs.Face.{Face}
use Rattle.views.specs.Looks.{member_in, standing_at}

abbrev pub Name : Type 0
Name = List ℕ

-- what is shown of each name
abbrev pub Faces : Type 0
Faces = Name → Option Face

-- ---- types of members

abbrev pub type_names : FaceTy → List Name
type_names (ty.Named c) = c ∷ []
type_names ty.Int = []
type_names ty.Bool = []
type_names ty.Args = []

abbrev pub param_names : ParamFace → List Name
param_names p = type_names p.ty

abbrev pub result_names : Option FaceTy → List Name
result_names None = []
result_names (Some t) = type_names t

-- ---- contents of promises

abbrev pub is_args : FaceTy → Bool
is_args ty.Args = true
is_args ty.Int = false
is_args ty.Bool = false
is_args (ty.Named c) = false

-- what stands before a `:` is a parameter of that name, else a type; that of a main has no name
abbrev pub is_param : List ParamFace → Name → Bool
is_param params owner = list_any (λ p. not (is_args p.ty) && bytes_eq p.name owner) params

abbrev pub owner_names : List ParamFace → Name → List Name
owner_names params owner = if is_param params owner then [] else owner ∷ []

-- the detail of a required lock is written `owner:lock`
abbrev pub lock_owner : List ℕ → Name
lock_owner detail = before_first (λ b. b == 58) detail

abbrev pub lock_names : List ParamFace → Name → List Name
lock_names params owner = if bytes_eq owner (codes "this") then [] else owner_names params owner

abbrev pub target_names : List ParamFace → EffectTarget → List Name
target_names params (target.Bare region) = []
target_names params (target.This region) = []
target_names params (target.Of owner region) = owner_names params owner
target_names params (target.Any class region) = class ∷ []

-- a promise that requires a lock is one item of its content
abbrev pub content_names : List ParamFace → PromiseKey → PromiseTree-F PromiseTree → List Name
content_names params key (PromiseTree-F.RequiresLock items) = lock_names params (lock_owner key.detail)
content_names params key (PromiseTree-F.RegionEffects effects) =
    flat_map (target_names params) effects.reads ++ flat_map (target_names params) effects.writes
content_names params key _ = []

abbrev pub tree_names : List ParamFace → PromiseKey → PromiseTree → List Name
tree_names params key t = content_names params key (out-PromiseTree t)

abbrev pub standing_names : List ParamFace → Standing → List Name
standing_names params s = tree_names params s.key s.tree

abbrev pub standing_names_if : List ParamFace → Option Standing → List Name
standing_names_if params None = []
standing_names_if params (Some s) = standing_names params s

-- those that the promises name that stand at a unit of the type, by its parameters
abbrev pub promise_names : List ParamFace → Option Face → List ℕ → List Name
promise_names params shown unit = flat_map (standing_names params) (standing_at shown unit)

abbrev pub names_at : Option Face → List ℕ → Option MemberFace → List Name
names_at shown unit None = promise_names [] shown unit
names_at shown unit (Some m) = flat_map param_names m.params ++ (result_names m.result ++ promise_names m.params shown unit)

-- MemberNames: the types of the parameters and the result of the member that has the key, where there is
-- one, and those that the promises that stand at that unit name. What a class assumes of a member names
-- no type that is looked up for a caller: a target of an effect on a type is covered by targets on that
-- type alone, and these name it.
abbrev pub member_names : Option Face → List ℕ → List Name
member_names shown unit = names_at shown unit (member_in shown unit)
