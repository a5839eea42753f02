-- What the RequiresLock promises of a member require. The detail of such a promise is `owner:lock`: the
-- owner is the word `this`, else the name of a parameter, else a class.
use Rattle.std.specs.Prelude.{ℕ, ◌+◌, ◌==◌, ◌&&◌, not, Bool, true, false, List, [], ◌∷◌, Option, Some, None, map, filter, codes, if◌then◌else◌}
use Rattle.std.specs.List.{after_first, list_any}
use Rattle.std.specs.Str.{bytes_eq}
use Rattle.desk_base.specs.declared.key.PromiseKey.{PromiseKey}
use Rattle.class_faces.specs.declared.face.FaceTy.{FaceTy}
use Rattle.class_faces.specs.declared.face.FaceTy.TheVariants as ty
use Rattle.class_faces.specs.declared.face.MemberFace.{MemberFace}
use Rattle.class_faces.specs.declared.face.ParamFace.{ParamFace}
use Rattle.promise_grammar.specs.declared.lock.LockItem.{LockItem}
use Rattle.promise_grammar.specs.declared.lock.LockItem.TheVariants as item
use Rattle.promise_grammar.specs.declared.tree.PromiseTree.{PromiseTree, out-PromiseTree}
use Rattle.promise_grammar.specs.declared.tree.PromiseTree.TheOpen.{PromiseTree-F}
use Rattle.promise_scrub.specs.declared.surface.Standing.{Standing}
use Rattle.views.specs.Looks.{member_in, member_key, standing_at}
use Rattle.lock_findings.specs.declared.lock.Base.TheVariants as for
use Rattle.lock_findings.specs.declared.lock.Holder.{Holder}
use Rattle.lock_findings.specs.declared.lock.Need.{Need}
use Rattle.bound_unit.specs.Names.{Name, Faces, is_args, lock_owner}
use Rattle.lock_check.specs.declared.owner.Owner.{Owner}
use Rattle.lock_check.specs.Locks.{lock_holder}

-- ---- whose lock it is

-- a type by its name; of a type that isn't named the word for it
abbrev pub type_word : FaceTy → Name
type_word ty.Int = codes "int"
type_word ty.Bool = codes "boolean"
type_word (ty.Named class) = class
type_word ty.Args = []

abbrev pub is_type_name : FaceTy → Bool
is_type_name ty.Int = false
is_type_name ty.Bool = false
is_type_name (ty.Named class) = true
is_type_name ty.Args = false

-- a lock of the class itself, of the unit's own object, of the object in a parameter
abbrev pub of_class : Name → Owner
of_class class = record { class = class; has_name = true; base = for.Nobody; is_static = true }

abbrev pub of_this : Name → Owner
of_this class = record { class = class; has_name = true; base = for.This; is_static = false }

abbrev pub of_param : ℕ → ParamFace → Owner
of_param i p = record { class = type_word p.ty; has_name = is_type_name p.ty; base = for.Param i; is_static = false }

-- the parameter has the name; that of a main has none
abbrev pub is_named : Name → ParamFace → Bool
is_named name p = not (is_args p.ty) && bytes_eq p.name name

-- the first of these parameters that has the name, else a class; they are numbered from i on
abbrev pub owner_from : ℕ → List ParamFace → Name → Owner
owner_from i [] name = of_class name
owner_from i (p ∷ ps) name = if is_named name p then of_param i p else owner_from (i + 1) ps name

-- an item that is written bare
abbrev pub is_bare_item : Name → LockItem → Bool
is_bare_item name (item.Bare lock) = bytes_eq lock name
is_bare_item name (item.This lock) = false
is_bare_item name (item.Of owner lock) = false

abbrev pub has_bare : Name → PromiseTree-F PromiseTree → Bool
has_bare name (PromiseTree-F.RequiresLock items) = list_any (is_bare_item name) items
has_bare name _ = false

-- What the owner stands for at a member of the class with these parameters. A bare lock of the own class
-- that is static has the class for its owner, also where a parameter has the name of the class.
abbrev pub owner_of : Name → List ParamFace → (bare : Bool) → Name → Owner
owner_of class params bare name =
    if bytes_eq name (codes "this") then of_this class else (
    if bytes_eq name class && bare then of_class name else owner_from 0 params name)

-- the lock's own name in a detail
abbrev pub lock_word : List ℕ → Name
lock_word detail = after_first (λ b. b == 58) detail

-- ---- what a promise requires

-- ints and booleans have no locks
abbrev pub holder_for : Faces → Owner → (lock : Name) → Option Holder
holder_for faces owner lock = if owner.has_name then lock_holder (faces owner.class) lock owner.is_static else None

abbrev pub need_with : PromiseKey → Owner → Option Holder → Need
need_with key owner holder = record {
  key = key;
  lock = record { class = owner.class; name = lock_word key.detail; is_static = owner.is_static };
  base = owner.base;
  holder = holder;
}

abbrev pub need_for : Faces → PromiseKey → Owner → Need
need_for faces key owner = need_with key owner (holder_for faces owner (lock_word key.detail))

-- a promise at a member of the class with these parameters
abbrev pub owner_by : Name → List ParamFace → Standing → Owner
owner_by class params promise =
    owner_of class params (has_bare (lock_word promise.key.detail) (out-PromiseTree promise.tree)) (lock_owner promise.key.detail)

abbrev pub need_of : Faces → Name → List ParamFace → Standing → Need
need_of faces class params promise = need_for faces promise.key (owner_by class params promise)

abbrev pub is_lock_content : PromiseTree-F PromiseTree → Bool
is_lock_content (PromiseTree-F.RequiresLock items) = true
is_lock_content _ = false

-- the promise is a RequiresLock
abbrev pub asks_lock : Standing → Bool
asks_lock promise = is_lock_content (out-PromiseTree promise.tree)

abbrev pub params_of : Option MemberFace → List ParamFace
params_of None = []
params_of (Some m) = m.params

-- the parameters of the unit of the class
abbrev pub params_at : Faces → Name → List ℕ → List ParamFace
params_at faces class unit = params_of (member_in (faces class) unit)

-- Needs: what the promises that stand at a unit of the class require, in the order of its surface.
abbrev pub needs_at : Faces → Name → (unit : List ℕ) → List Need
needs_at faces class unit = map (need_of faces class (params_at faces class unit)) (filter asks_lock (standing_at (faces class) unit))

-- those of the first member of the class that has the name and so many parameters
abbrev pub needs : Faces → (class name : Name) → (count : ℕ) → List Need
needs faces class name count = needs_at faces class (member_key class name count)
