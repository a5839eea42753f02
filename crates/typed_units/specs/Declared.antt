-- The types of a unit's locals: of `this`, where there is one, of the parameters, and of those that its body declares.
use Rattle.std.specs.Prelude.{Bool, true, false, List, [], ◌∷◌, ◌++◌, map}
use Rattle.class_faces.specs.declared.face.ParamFace.{ParamFace}
use Rattle.bound_tree.specs.declared.name.ValueType.{ValueType}
use Rattle.bound_tree.specs.declared.name.ValueType.TheVariants as value
use Rattle.bound_tree.specs.Tree.{Statement, Statements}
use Rattle.bound_tree.specs.Tree as t
use Rattle.name_rules.specs.Types.{Name}
use Rattle.expression_binding.specs.Stamps.{type_of}

abbrev pub this_types : (is_static : Bool) → Name → List ValueType
this_types true c = []
this_types false c = value.Named c ∷ []

-- that of the parameter of a main is none that a name can have
abbrev pub param_type : ParamFace → ValueType
param_type p = type_of p.ty

-- `this` and the parameters
abbrev pub args_types : (is_static : Bool) → Name → List ParamFace → List ValueType
args_types is_static c params = this_types is_static c ++ map param_type params

-- of the locals that a statement declares, in written order
abbrev mutual
  pub declared_types : Statement → List ValueType
  declared_types (t.Block ss) = all_declared ss
  declared_types (t.Declare p x ty v) = ty ∷ []
  declared_types (t.Assign to v) = []
  declared_types (t.Compound to o v) = []
  declared_types (t.Perform v) = []
  declared_types (t.Start p v) = []
  declared_types (t.If v a b) = declared_types a ++ declared_types b
  declared_types (t.While v a) = declared_types a
  declared_types (t.Sync v a) = declared_types a
  declared_types (t.SyncClass p c a) = declared_types a
  declared_types (t.Return p) = []
  declared_types (t.ReturnValue p v) = []

  pub all_declared : Statements → List ValueType
  all_declared t.no_statements = []
  all_declared (t.statement s ss) = declared_types s ++ all_declared ss
