-- The configuration that the named mains begin with.
use Rattle.std.specs.Prelude.{ℕ, ◌+◌, List, [], ◌∷◌, ◌++◌, Option, Some, None, length, map, replicate}
use Rattle.core_model.specs.Objects.{new_object, initial_values, static_initials, fresh_count, fresh_object}
use Rattle.core_model.specs.Units.{unit_number, call_of}
use Rattle.core_model.specs.Calling.{thread_of}
use Rattle.core_model.specs.declared.program.TheConstants.{MAIN}
use Rattle.core_model.specs.declared.program.Program.{Program}
use Rattle.core_model.specs.declared.program.ClassInfo.{ClassInfo}
use Rattle.core_model.specs.declared.start.Holders.{Holders}
use Rattle.core_model.specs.declared.object.Obj.{Obj}
use Rattle.core_model.specs.declared.object.ObjKind.TheVariants as kind
use Rattle.core_model.specs.declared.config.Call.{Call}
use Rattle.core_model.specs.declared.config.Config.{Config}
use Rattle.core_model.specs.declared.config.Thread.{Thread}
use Rattle.core_model.specs.declared.config.Gives.TheVariants.{Own}
use Rattle.core_model.specs.declared.config.Mode.TheVariants as mode
use Rattle.core_model.specs.declared.value.Value.TheVariants as value

-- how many fresh Objects the static fields of the class begin with
abbrev pub static_fresh : ClassInfo → ℕ
static_fresh info = fresh_count (static_initials info.fields)

abbrev pub all_fresh : List ClassInfo → ℕ
all_fresh [] = 0
all_fresh (info ∷ cs) = static_fresh info + all_fresh cs

-- the holders of the classes from number c on, their fresh Objects being numbered from n
abbrev pub holders_from : ℕ → ℕ → List ClassInfo → List Obj
holders_from c n [] = []
holders_from c n (info ∷ cs) =
    new_object (kind.Holder c) (initial_values n (static_initials info.fields))
    ∷ holders_from (c + 1) (n + static_fresh info) cs

-- one more holder
abbrev pub with_holder : Holders → ClassInfo → Holders
with_holder h info = record {
  objects = h.objects ++ new_object (kind.Holder (length h.objects)) (initial_values h.next (static_initials info.fields)) ∷ [];
  next = h.next + static_fresh info;
}

abbrev pub all_held : Holders → List ClassInfo → Holders
all_held h [] = h
all_held h (info ∷ cs) = all_held (with_holder h info) cs

-- the holders, in order of the classes, and then the fresh Objects of their fields
abbrev pub begun_objects : List ClassInfo → List Obj
begun_objects cs = holders_from 0 (length cs) cs ++ replicate (all_fresh cs) fresh_object

-- a thread that is over
abbrev pub no_thread : Thread
no_thread = record { calls = []; mode = mode.Over }

abbrev pub main_thread : Option Call → Thread
main_thread None = no_thread
main_thread (Some c) = thread_of c

-- the thread of the class's main, whose argument is null; without one it is over at once
abbrev pub begun_thread : Program → ℕ → Thread
begun_thread program c = main_thread (call_of program (unit_number program c MAIN 1) (value.Null ∷ []) Own)

-- Begin: one thread for each named main
abbrev pub begin : Program → List ℕ → Config
begin program mains = record {
  objects = begun_objects program.classes;
  threads = map (begun_thread program) mains;
}
