-- What is asked of a class and what a view shows of it, and that its units are typed.
use Rattle.std.specs.Prelude.{◌≡◌, ℕ, true, false, List, Option, Some, None}
use Rattle.desk_base.specs.declared.span.Span.{Span}
use Rattle.java_tree.specs.declared.file.ClassTree.{ClassTree}
use Rattle.java_tree.specs.declared.member.MemberTree.{MemberTree}
use Rattle.java_tree.specs.declared.member.MemberTree.TheVariants as member
use Rattle.java_tree.specs.declared.stmt.Block.{Block}
use Rattle.class_faces.specs.Faces.{face_of, field_face, is_static}
use Rattle.class_faces.specs.Keys.{key_with}
use Rattle.tree_places.specs.Plain.{plain_block}
use Rattle.name_rules.specs.Types.{Name, Types, field_of, member_in, is_declared}
use Rattle.statement_binding.specs.Bodies.{items_of}
use Rattle.views.specs.Face.{Seen, face}
use Rattle.bound_unit.specs.UnitFacts.{UnitFacts}
use Rattle.unit_rules.specs.Shown.{types_shown}
use Rattle.binder.specs.Units.{IsBound, bound_under}
use Rattle.typed_units.specs.Standing.{TypesStand}
use Rattle.typed_units.specs.Units.{TypedUnit}
use Rattle.binding_types.specs.Silent.{Silent}
use Rattle.binding_types.specs.Written.{AllWritten}

-- the statements of a block are as the grammar has them
abbrev pub BlockWritten : Block → Type 0
BlockWritten b = (number : Span → ℕ) → AllWritten (items_of (plain_block number b))

-- so are those of a member; a method of an interface isn't static
abbrev pub MemberWritten : MemberTree → Type 0
MemberWritten (member.Field f) = Unit {0}
MemberWritten (member.Method m) = BlockWritten m.body
MemberWritten (member.Sig s) = is_static s.mods ≡ false
MemberWritten (member.Ctor c) = BlockWritten c.body
MemberWritten (member.Main m) = BlockWritten m.body

-- the class shows the member under its key, and a field that isn't repeated under its name
abbrev pub MemberSeen : Types → Name → (key : List ℕ) → MemberTree → Type 0
MemberSeen types class key (member.Field f) = key ≡ key_with class (member.Field f) 1 → field_of types class f.name.text ≡ Some (field_face f)
MemberSeen types class key m = member_in key (types class) ≡ face_of key m

abbrev pub UnitStands : Types → Name → (key : List ℕ) → Option MemberTree → Type 0
UnitStands types class key None = Unit {0}
UnitStands types class key (Some m) = MemberWritten m × MemberSeen types class key m

-- a unit that is bound with nothing found is typed, where the types of the project stand, the class is declared, and its view
-- shows the member
abbrev pub UnitsTyped : Type 0
UnitsTyped = (class : ClassTree) (m : Option MemberTree) (key : List ℕ) (seen : Seen) (u : UnitFacts) (b : IsBound class m key seen u)
    → Silent (bound_under class m key seen b.marks).notes → TypesStand (types_shown (face seen)) → is_declared (types_shown (face seen)) class.name.text ≡ true
    → UnitStands (types_shown (face seen)) class.name.text key m → TypedUnit (face seen) u
