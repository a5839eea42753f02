-- What the items of a list of locks and the targets of effects name, and their codes.
use Rattle.std.specs.Prelude.{ℕ, Bool, true, false, ◌||◌, not, List, Option, Some, None, find, fold, if◌then◌else◌}
use Rattle.std.specs.Str.{bytes_eq}
use Rattle.std.specs.Ordering.{nat_cmp}
use Rattle.std.specs.Cmp.Lexicographic.{slice_cmp}
use Rattle.std.specs.BTreeMap.{BTreeMap, get}
use Rattle.class_faces.specs.declared.face.FaceTy.{FaceTy}
use Rattle.class_faces.specs.declared.face.FaceTy.TheVariants as face
use Rattle.class_faces.specs.declared.face.ParamFace.{ParamFace}
use Rattle.promise_grammar.specs.declared.lock.LockItem.{LockItem}
use Rattle.promise_grammar.specs.declared.lock.LockItem.TheVariants as lock
use Rattle.promise_grammar.specs.declared.effects.EffectTarget.{EffectTarget}
use Rattle.promise_grammar.specs.declared.effects.EffectTarget.TheVariants as effect
use Rattle.promise_grammar.specs.declared.effects.EffectsContent.{EffectsContent}
use Rattle.result_records.specs.declared.code.FindingCode.{FindingCode}
use Rattle.result_records.specs.declared.code.FindingCode.TheVariants as scrub
use Rattle.scrub_rules.specs.Code.{least}

-- Whether the own class's lock or region of a name is static, where there is one.
abbrev pub Kinds : Type 0
Kinds = List ℕ → Option Bool

-- what a map says of that
abbrev pub kinds_in : BTreeMap (List ℕ) Bool → Kinds
kinds_in map name = get (slice_cmp nat_cmp) map name

abbrev pub same : Bool → Bool → Bool
same true b = b
same false b = not b

-- A bare name: it must be there, and an instance one needs a `this`.
abbrev pub bare_code : Option Bool → Bool → FindingCode → Option FindingCode
bare_code None has_this missing = Some missing
bare_code (Some is_static) has_this missing = if is_static || has_this then None else Some scrub.BadPlace

-- A name through `this`: there must be a `this`, and the name an instance one.
abbrev pub this_code : Option Bool → Bool → FindingCode → Option FindingCode
this_code found false missing = Some scrub.BadPlace
this_code None true missing = Some missing
this_code (Some is_static) true missing = if is_static then Some scrub.BadPlace else None

-- A name through another one: of the own class it must be there, of the kind that the form asks for.
abbrev pub own_code : Option Bool → Bool → FindingCode → Option FindingCode
own_code None is_instance missing = Some missing
own_code (Some is_static) is_instance missing = if same is_static is_instance then Some scrub.BadPlace else None

-- the parameter that a name means, the first of that name
abbrev pub param_named : List ParamFace → List ℕ → Option ParamFace
param_named params name = find (λ p. bytes_eq p.name name) params

abbrev pub is_type : List ℕ → FaceTy → Bool
is_type class face.Int = false
is_type class face.Bool = false
is_type class (face.Named name) = bytes_eq name class
is_type class face.Args = false

abbrev pub assigned_code : ParamFace → Option FindingCode
assigned_code p = if p.effectively_final then None else Some scrub.AssignedParameter

-- through a parameter, or through a class
abbrev pub of_code : Kinds → List ℕ → List ℕ → List ℕ → FindingCode → Option ParamFace → Option FindingCode
of_code kinds class owner name missing (Some p) =
    least (if is_type class p.ty then own_code (kinds name) true missing else None) (assigned_code p)
of_code kinds class owner name missing None = if bytes_eq owner class then own_code (kinds name) false missing else None

-- The code of one item of a RequiresLock of a member of the class.
abbrev pub lock_code : Kinds → List ℕ → Bool → List ParamFace → LockItem → Option FindingCode
lock_code kinds class has_this params (lock.Bare name) = bare_code (kinds name) has_this scrub.UnknownLock
lock_code kinds class has_this params (lock.This name) = this_code (kinds name) has_this scrub.UnknownLock
lock_code kinds class has_this params (lock.Of owner name) =
    of_code kinds class owner name scrub.UnknownLock (param_named params owner)

-- the code of one target of effects
abbrev pub effect_code : Kinds → List ℕ → Bool → List ParamFace → EffectTarget → Option FindingCode
effect_code kinds class has_this params (effect.Bare name) = bare_code (kinds name) has_this scrub.UnknownRegion
effect_code kinds class has_this params (effect.This name) = this_code (kinds name) has_this scrub.UnknownRegion
effect_code kinds class has_this params (effect.Of owner name) =
    of_code kinds class owner name scrub.UnknownRegion (param_named params owner)
effect_code kinds class has_this params (effect.Any owner name) =
    if bytes_eq owner class then own_code (kinds name) true scrub.UnknownRegion else None

-- the first code of several: the least
abbrev pub targets_code : Kinds → List ℕ → Bool → List ParamFace → List EffectTarget → Option FindingCode
targets_code kinds class has_this params targets =
    fold (λ code target. least code (effect_code kinds class has_this params target)) None targets

abbrev pub effects_code : Kinds → List ℕ → Bool → List ParamFace → EffectsContent → Option FindingCode
effects_code kinds class has_this params e =
    least (targets_code kinds class has_this params e.reads) (targets_code kinds class has_this params e.writes)

-- The code of an InRegion of a field: the region must be there, and of the field's kind.
abbrev pub in_region_code : Option Bool → Bool → Option FindingCode
in_region_code None is_static = Some scrub.UnknownRegion
in_region_code (Some region_static) is_static = if same region_static is_static then None else Some scrub.MixedKinds
