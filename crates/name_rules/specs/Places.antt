-- How what has a declared type is used, and the place that an expression's type has to suit.
use Rattle.std.specs.Prelude.{ℕ, Bool, ◌||◌, not, if◌then◌else◌, List, [], ◌∷◌, Option, Some, None}
use Rattle.class_faces.specs.declared.face.FaceTy.{FaceTy}
use Rattle.class_faces.specs.declared.face.FaceTy.TheVariants as face
use Rattle.result_records.specs.declared.code.FindingCode.{FindingCode}
use Rattle.result_records.specs.declared.code.FindingCode.TheVariants as code
use Rattle.name_rules.specs.declared.uses.Use.{Use}
use Rattle.name_rules.specs.declared.uses.Use.TheVariants as usage
use Rattle.name_rules.specs.declared.place.Place as written
use Rattle.name_rules.specs.declared.place.Place.TheVariants as place
use Rattle.name_rules.specs.declared.given.GivenType as given
use Rattle.name_rules.specs.declared.note.Note.{Note}
use Rattle.name_rules.specs.declared.note.Note.TheVariants.{Finding}
use Rattle.name_rules.specs.Types.{Types, suits, compares, has_monitor, can_start, is_known, value_type, ValueType, shown_type}

-- ---- a use of what has a declared type, or of a method without result

abbrev pub judged : Bool → Use
judged misused = if misused then usage.Misused else usage.Used

-- one whose type isn't there is found at its declaration
abbrev pub use_of : Types → Bool → Option FaceTy → Use
use_of types misused None = judged misused
use_of types misused (Some ty) = if is_known types ty then judged misused else usage.Unjudged

-- the type of the value that a use gives, if it gives one
abbrev pub given_type : Option FaceTy → Option ValueType
given_type None = None
given_type (Some ty) = Some (value_type ty)

abbrev pub use_notes : ℕ → Use → List Note
use_notes at usage.Unjudged = []
use_notes at usage.Misused = Finding code.StaticUse at ∷ []
use_notes at usage.Used = []

-- ---- places

pub data Place : Type 0 where
  Anywhere : Place  -- a call or `new` as a statement, or what nothing is asked of
  AnyValue : Place  -- before a dot, or the first operand of `==`
  Of : FaceTy → Place  -- where a type is declared or asked for
  Beside : ValueType → Place  -- the second operand of `==`
  Locked : Place  -- the head of a `synchronized` statement
  Started : Place  -- what a thread is started with

abbrev pub shown_place : written.Place → Place
shown_place place.Anywhere = Anywhere
shown_place place.AnyValue = AnyValue
shown_place place.Int = Of face.Int
shown_place place.Boolean = Of face.Bool
shown_place (place.Of ty) = Of ty.now
shown_place (place.Beside ty) = Beside (shown_type ty)
shown_place place.Locked = Locked
shown_place place.Started = Started

abbrev pub found_unless : Bool → FindingCode → Option FindingCode
found_unless fits c = if fits then None else Some c

-- the bind finding of an expression that has no value, as a call of a method without result
abbrev pub misplaced_nothing : Types → Place → Option FindingCode
misplaced_nothing types Anywhere = None
misplaced_nothing types AnyValue = Some code.WrongType
misplaced_nothing types (Of ty) = found_unless (not (is_known types ty)) code.WrongType
misplaced_nothing types (Beside ty) = Some code.WrongType
misplaced_nothing types Locked = Some code.WrongType
misplaced_nothing types Started = Some code.BadStart

-- that of one with a value of a type; a place whose type isn't there asks for nothing
abbrev pub misplaced_value : Types → Place → ValueType → Option FindingCode
misplaced_value types Anywhere v = None
misplaced_value types AnyValue v = None
misplaced_value types (Of ty) v = found_unless (not (is_known types ty) || suits types v ty) code.WrongType
misplaced_value types (Beside ty) v = found_unless (compares types ty v) code.WrongType
misplaced_value types Locked v = found_unless (has_monitor v) code.WrongType
misplaced_value types Started v = found_unless (can_start types v) code.BadStart

-- the bind finding of an expression that doesn't suit its place, by its type, if it has a value
abbrev pub misplaced : Types → Place → Option ValueType → Option FindingCode
misplaced types p None = misplaced_nothing types p
misplaced types p (Some v) = misplaced_value types p v

-- the type that is given to be judged, if there is one
abbrev pub shown_given : Option given.GivenType → Option ValueType
shown_given None = None
shown_given (Some ty) = Some (shown_type ty)
