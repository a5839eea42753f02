-- The program of a project's types and units.
use Rattle.std.specs.Prelude.{ℕ, ◌+◌, Bool, true, false, List, [], ◌∷◌, Option, Some, None, length, map, find, if◌then◌else◌}
use Rattle.std.specs.List.{list_any, position_from}
use Rattle.std.specs.Str.{bytes_eq}
use Rattle.core_model.specs.declared.program.Program.{Program}
use Rattle.core_model.specs.declared.program.ClassInfo.{ClassInfo}
use Rattle.core_model.specs.declared.program.FieldInfo.{FieldInfo}
use Rattle.core_model.specs.declared.program.UnitName.{UnitName}
use Rattle.core_model.specs.declared.program.UnitCode.{UnitCode}
use Rattle.core_model.specs.declared.program.Initial.{Initial}
use Rattle.core_model.specs.declared.program.Initial.TheVariants.{Held, FreshObject}
use Rattle.core_model.specs.declared.value.Value.TheVariants as value
use Rattle.bound_tree.specs.declared.unit.Initial.{Initial as BoundInitial}
use Rattle.bound_tree.specs.declared.unit.Initial.TheVariants as bound
use Rattle.bound_tree.specs.declared.unit.Part.{Part}
use Rattle.bound_tree.specs.declared.unit.Part.TheVariants as part
use Rattle.class_faces.specs.Keys.{member_key}
use Rattle.class_faces.specs.declared.face.FieldFace.{FieldFace}
use Rattle.class_faces.specs.declared.face.MemberFace.{MemberFace}
use Rattle.class_faces.specs.declared.face.ParamFace.{ParamFace}
use Rattle.promise_scrub.specs.declared.surface.Surface.{Surface}
use Rattle.result_records.specs.declared.finding.Finding.{Finding}
use Rattle.bound_unit.specs.Names.{is_args}
use Rattle.bound_unit.specs.UnitFacts.{UnitFacts}
use Rattle.lowering.specs.Numbers.{Numbers, or_zero, class_number, numbered}
use Rattle.program_maker.specs.Seen.{Name}
use Rattle.program_maker.specs.Naming.{numbers_of, name_of_member, member_names, standing_names}
use Rattle.program_maker.specs.Locals.{is_static_part, part_locals, param_count}

-- ---- units by their keys

abbrev pub key_is : Name → UnitFacts → Bool
key_is key u = bytes_eq u.key key

-- the place of the first unit of the key, which is its number
abbrev pub unit_place : List UnitFacts → Name → Option ℕ
unit_place units key = position_from (key_is key) 0 units

-- the first unit of the key
abbrev pub unit_keyed : List UnitFacts → Name → Option UnitFacts
unit_keyed units key = find (key_is key) units

-- ---- fields

abbrev pub initial_number : Numbers → BoundInitial → Initial
initial_number r (bound.Int x) = Held (value.Int x)
initial_number r (bound.Boolean b) = Held (value.Bool b)
initial_number r bound.Null = Held value.Null
initial_number r (bound.Str t) = Held (value.Str (r.text t))
initial_number r bound.FreshObject = FreshObject

abbrev pub initial_of_part : Numbers → Part → Initial
initial_of_part r (part.Field ty i) = initial_number r i
initial_of_part r _ = Held value.Null

abbrev pub initial_of_unit : Numbers → Option UnitFacts → Initial
initial_of_unit r None = Held value.Null
initial_of_unit r (Some u) = initial_of_part r u.tree.part

-- a field of the class, with the initial value that its unit gives
abbrev pub field_info : Numbers → List UnitFacts → Name → FieldFace → FieldInfo
field_info r units class f = record {
  name = f.name;
  is_static = f.is_static;
  is_final = f.is_final;
  initial = initial_of_unit r (unit_keyed units (member_key class f.name None 1));
}

-- ---- classes

-- a member: the number of its name, how many parameters it has, and its unit
abbrev pub member_info : Numbers → List UnitFacts → MemberFace → UnitName
member_info r units m = record {
  name = r.member (name_of_member m);
  params = length m.params;
  unit = or_zero (unit_place units m.key);
}

-- a class or interface, its fields and members in written order
abbrev pub class_info : Numbers → List UnitFacts → Surface → ClassInfo
class_info r units s = record {
  name = s.name;
  fields = map (field_info r units s.name) s.fields;
  units = map (member_info r units) s.members;
}

abbrev pub is_main : MemberFace → Bool
is_main m = list_any (λ (p : ParamFace). is_args p.ty) m.params

abbrev pub has_main : Surface → Bool
has_main s = list_any is_main s.members

-- the numbers of the classes with a main, the first class having number c
abbrev pub mains_from : ℕ → List Surface → List ℕ
mains_from c [] = []
mains_from c (s ∷ ss) = if has_main s then c ∷ mains_from (c + 1) ss else mains_from (c + 1) ss

-- ---- code

abbrev pub unit_code : Numbers → List Surface → UnitFacts → UnitCode
unit_code r surfaces u = record {
  key = u.key;
  class = class_number r u.tree.class;
  is_static = is_static_part u.tree.part;
  locals = part_locals (param_count surfaces u.tree.class u.key) u.tree.part;
  code = numbered r u.code;
}

-- ---- programs

abbrev pub is_faulty : List Finding → Bool
is_faulty [] = false
is_faulty (f ∷ fs) = true

abbrev pub has_findings : UnitFacts → Bool
has_findings u = is_faulty u.findings

-- no class, no unit and no main
abbrev pub empty_program : Program
empty_program = record { classes = []; units = []; mains = []; members = standing_names }

abbrev pub program_by : Numbers → List Surface → List UnitFacts → Program
program_by r surfaces units = record {
  classes = map (class_info r units) surfaces;
  units = map (unit_code r surfaces) units;
  mains = mains_from 0 surfaces;
  members = member_names surfaces;
}

abbrev pub whole_program : List Surface → List UnitFacts → Program
whole_program surfaces units = program_by (numbers_of surfaces units) surfaces units

-- ProgramOf: the program of these types and units; the empty one where any of the units has a bind finding
abbrev pub program_of : List Surface → List UnitFacts → Program
program_of surfaces units =
    if list_any has_findings units then empty_program else whole_program surfaces units
