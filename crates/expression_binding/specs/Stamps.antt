-- What stands with each bound expression: its places, its type, and whether it is faulty.
use Rattle.std.specs.Prelude.{ℕ, Bool, true, false, if◌then◌else◌, List, codes, Option, Some, None}
use Rattle.class_faces.specs.declared.face.FaceTy.{FaceTy}
use Rattle.class_faces.specs.declared.face.FaceTy.TheVariants as face
use Rattle.name_rules.specs.declared.uses.Use.{Use}
use Rattle.name_rules.specs.declared.uses.Use.TheVariants as usage
use Rattle.name_rules.specs.Types as rules
use Rattle.bound_tree.specs.declared.name.ValueType.{ValueType}
use Rattle.bound_tree.specs.declared.name.ValueType.TheVariants as value
use Rattle.bound_tree.specs.declared.tree.Stamp.{Stamp}
use Rattle.bound_tree.specs.Tree.{Term}
use Rattle.bound_tree.specs.Tree as t

-- ---- types

-- the type of a value of a declared type; nothing that can be named has that of a main's parameter
abbrev pub type_of : FaceTy → ValueType
type_of face.Int = value.Int
type_of face.Bool = value.Boolean
type_of face.Args = value.Null
type_of (face.Named c) = value.Named c

-- that of what a use gives; a method without result gives nothing
abbrev pub type_given : Option FaceTy → Option ValueType
type_given None = None
type_given (Some ty) = Some (type_of ty)

-- a type as it is judged
abbrev pub judged_type : ValueType → rules.ValueType
judged_type value.Int = rules.Int
judged_type value.Boolean = rules.Boolean
judged_type value.Null = rules.Null
judged_type (value.Named c) = rules.Named c

abbrev pub judged_given : Option ValueType → Option rules.ValueType
judged_given None = None
judged_given (Some v) = Some (judged_type v)

abbrev pub string_type : ValueType
string_type = value.Named (codes "String")

-- ---- stamps, by the number of the token that findings name and that of the first token

abbrev pub sound : ℕ → ℕ → Option ValueType → Stamp
sound at first ty = record { at = at; first = first; ty = ty; is_faulty = false; is_misplaced = false }

-- a bind finding stands at it or in it, or it uses what has an unknown type
abbrev pub faulty : ℕ → ℕ → Stamp
faulty at first = record { at = at; first = first; ty = None; is_faulty = true; is_misplaced = false }

-- that of an expression with a part that is bad, or none
abbrev pub unless_bad : Bool → ℕ → ℕ → ValueType → Stamp
unless_bad bad at first ty = if bad then faulty at first else sound at first (Some ty)

-- that of a use of what has a declared type, or of a method without result
abbrev pub used : ℕ → ℕ → Option FaceTy → Use → Stamp
used at first given usage.Unjudged = faulty at first
used at first given usage.Misused = faulty at first
used at first given usage.Used = sound at first (type_given given)

-- ---- other stamps on the same expression

-- in parentheses
abbrev pub stamp_from : ℕ → Stamp → Stamp
stamp_from first s = record { at = s.at; first = first; ty = s.ty; is_faulty = s.is_faulty; is_misplaced = s.is_misplaced }

-- it doesn't suit its place; where parentheses stand around it the finding is theirs, and what is in
-- them isn't faulty by that
abbrev pub spoilt_stamp : Bool → Stamp → Stamp
spoilt_stamp true s = record { at = s.at; first = s.first; ty = None; is_faulty = s.is_faulty; is_misplaced = true }
spoilt_stamp false s = record { at = s.at; first = s.first; ty = None; is_faulty = true; is_misplaced = s.is_misplaced }

abbrev pub restamped : (Stamp → Stamp) → Term → Term
restamped change (t.Const s l) = t.Const (change s) l
restamped change (t.This s) = t.This (change s)
restamped change (t.Local s x) = t.Local (change s) x
restamped change (t.Field s b f) = t.Field (change s) b f
restamped change (t.Static s f) = t.Static (change s) f
restamped change (t.New s c es) = t.New (change s) c es
restamped change (t.Call s r m es) = t.Call (change s) r m es
restamped change (t.CallStatic s m es) = t.CallStatic (change s) m es
restamped change (t.Unknown s n es) = t.Unknown (change s) n es
restamped change (t.UnknownField s b n) = t.UnknownField (change s) b n
restamped change (t.UnknownCall s r n es) = t.UnknownCall (change s) r n es
restamped change (t.Unary s o a) = t.Unary (change s) o a
restamped change (t.And s a b) = t.And (change s) a b
restamped change (t.Or s a b) = t.Or (change s) a b
restamped change (t.Binary s o a b) = t.Binary (change s) o a b
