-- What the numbers of a program say of the types that are declared: by them each name stands for what it names.
use Rattle.std.specs.Prelude.{◌≡◌, ℕ, true, false, ◌∷◌, [], Some, None, codes, reverse, is_some}
use Rattle.std.specs.List.{slice_get}
use Rattle.std.specs.Option.{option_to_list}
use Rattle.core_model.specs.declared.program.Program.{Program}
use Rattle.core_model.specs.declared.program.TheConstants.{RUN}
use Rattle.core_model.specs.declared.instr.Known.TheVariants as known
use Rattle.core_types.specs.Types.{Ty, ClassType, Types, of_class, has}
use Rattle.core_types.specs.Types as core
use Rattle.core_types.specs.Uses.{Goes, of_make, of_call, called_static, unless_new}
use Rattle.core_model.specs.Units.{unit_number}
use Rattle.class_faces.specs.declared.face.FieldFace.{FieldFace}
use Rattle.lowering.specs.Numbers.{Numbers, class_number}
use Rattle.name_rules.specs.Types.{Name, is_built_in, is_runnable, is_object, is_class, is_declared, lists_interface, implements, field_of}
use Rattle.name_rules.specs.Types as rules
use Rattle.expression_binding.specs.Stamps.{type_given}
use Rattle.expression_binding.specs.Methods.{NamedMethod, method_in, is_made, maker, maker_params}
use Rattle.program_types.specs.Types.{field_type, param_types, result_type}

-- the class of the name has a number, which is that of a class of the program
pub record HasClass (p : Program) (r : Numbers) (c : Name) : Type 0 where
  pub number : ℕ
  pub is : r.class c ≡ Some number
  pub there : is_some (slice_get p.classes number) ≡ true

pub record NumbersFit (p : Program) (T : Types) (r : Numbers) (types : rules.Types) : Type 0 where
  pub declared : (c : Name) → is_declared types c ≡ true → HasClass p r c
  -- no declared type has the name of one that is there without a declaration, which has no number
  pub apart : (c : Name) → is_declared types c ≡ true → is_built_in c ≡ false
  pub runnable : r.class (codes "Runnable") ≡ None
  pub implemented : (c d : Name) → implements types c d ≡ true → is_runnable d ≡ false
      → has (of_class T (class_number r c)).implements (class_number r d) ≡ true
  pub runs : (c : Name) → is_class types c ≡ true → lists_interface (codes "Runnable") (types c) ≡ true
      → core.is_runnable T (class_number r c) ≡ true
  -- nothing implements a class
  pub above : (c : Name) (k : ℕ) → is_class types c ≡ true → has (of_class T k).implements (class_number r c) ≡ false
  pub own : (c name : Name) (f : FieldFace) → field_of types c name ≡ Some f → f.is_static ≡ false
      → slice_get (of_class T (class_number r c)).own (r.field c name) ≡ Some (field_type r f)
  pub statics : (c name : Name) (f : FieldFace) → field_of types c name ≡ Some f → f.is_static ≡ true
      → slice_get (of_class T (class_number r c)).statics (r.field c name) ≡ Some (field_type r f)
  pub makes : (c : Name) (n : ℕ) → is_made types c n ≡ true → is_object c ≡ false
      → of_make p T (class_number r c) n (slice_get p.classes (class_number r c))
      ≡ Goes (reverse (param_types r (maker_params (maker types c)))) (ClassType (class_number r c) ∷ [])
  pub calls : (c name : Name) (n : ℕ) (m : NamedMethod) → is_declared types c ≡ true → method_in types c name n ≡ Some m → m.is_static ≡ false
      → of_call p T (known.Class (class_number r c)) (r.member name) n
      ≡ Goes (reverse (ClassType (class_number r c) ∷ param_types r m.params)) (option_to_list (result_type r (type_given m.result)))
  pub calls_static : (c name : Name) (n : ℕ) (m : NamedMethod) → is_declared types c ≡ true → method_in types c name n ≡ Some m → m.is_static ≡ true
      → unless_new (r.member name) (called_static T (unit_number p (class_number r c) (r.member name) n))
      ≡ Goes (reverse (param_types r m.params)) (option_to_list (result_type r (type_given m.result)))
  pub run : r.member (codes "run") ≡ RUN
