-- The locks of a type, and those in whose region a field is.
use Rattle.std.specs.Prelude.{ℕ, Bool, List, [], ◌∷◌, Option, Some, None, flat_map, option_and_then, if◌then◌else◌}
use Rattle.class_faces.specs.Keys.{text_of}
use Rattle.promise_grammar.specs.declared.lock.LockHolder.{LockHolder}
use Rattle.promise_grammar.specs.declared.lock.LockHolder.TheVariants as by
use Rattle.promise_grammar.specs.declared.lock.RegionLockContent.{RegionLockContent}
use Rattle.promise_scrub.specs.declared.surface.Standing.{Standing}
use Rattle.desk_base.specs.declared.key.PromiseKey.{PromiseKey}
use Rattle.views.specs.Face.{Face}
use Rattle.views.specs.Looks.{lock_given, lock_in, standing_at, static_lock_in}
use Rattle.lock_findings.specs.declared.lock.Guard.{Guard}
use Rattle.lock_findings.specs.declared.lock.Holder.{Holder}
use Rattle.lock_findings.specs.declared.lock.Holder.TheVariants as held
use Rattle.lock_findings.specs.Ways.{same_kind}
use Rattle.lock_check.specs.Under.{field_is_under}

-- ---- by what a lock is held

abbrev pub field_holder : (static : Bool) → List ℕ → Holder
field_holder static field = if static then held.Static field else held.Field field

-- the holder of a lock of the type
abbrev pub holder_of : Option Face → LockHolder → Holder
holder_of shown by.This = held.This
holder_of shown by.Class = held.Class
holder_of shown (by.Field field) = field_holder (static_lock_in shown (by.Field field)) field
holder_of shown (by.ThisField field) = field_holder (static_lock_in shown (by.ThisField field)) field

abbrev pub holder_if : Option Face → (static : Bool) → Option RegionLockContent → Option Holder
holder_if shown static None = None
holder_if shown static (Some content) =
    if same_kind (static_lock_in shown content.holder) static then Some (holder_of shown content.holder) else None

-- the holder of the type's lock of the name, where it has one and that is of the kind
abbrev pub lock_holder : Option Face → (name : List ℕ) → (static : Bool) → Option Holder
lock_holder shown name static = holder_if shown static (option_and_then lock_given (lock_in shown name))

-- ---- the locks in whose region a field is

abbrev pub guard_of : Option Face → List ℕ → PromiseKey → RegionLockContent → Guard
guard_of shown class key content = record {
  key = key;
  lock = record { class = class; name = content.name; is_static = static_lock_in shown content.holder };
  holder = holder_of shown content.holder;
}

abbrev pub guard_if : Option Face → (class field : List ℕ) → PromiseKey → Option RegionLockContent → List Guard
guard_if shown class field key None = []
guard_if shown class field key (Some content) =
    if field_is_under shown field content.region then guard_of shown class key content ∷ [] else []

abbrev pub guard_by : Option Face → (class field : List ℕ) → Standing → List Guard
guard_by shown class field promise = guard_if shown class field promise.key (lock_given promise)

-- Guards: of the promises that stand at the class itself those that give a lock whose region the field's
-- own region is under, in written order.
abbrev pub guards : Option Face → (class field : List ℕ) → List Guard
guards shown class field = flat_map (guard_by shown class field) (standing_at shown (text_of class))
