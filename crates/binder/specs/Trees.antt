-- Bound trees of units with their bodies as plain data.
use Rattle.std.specs.Prelude.{ℕ, Bool, List, Option}
use Rattle.bound_tree.specs.declared.name.ValueType.{ValueType}
use Rattle.bound_tree.specs.declared.unit.Body.{Body as KeptBody}
use Rattle.bound_tree.specs.declared.unit.BoundTree.{BoundTree}
use Rattle.bound_tree.specs.declared.unit.Initial.{Initial}
use Rattle.bound_tree.specs.declared.unit.Part.{Part}
use Rattle.bound_tree.specs.declared.unit.Part.TheVariants as part
use Rattle.bound_tree.specs.declared.unit.Variable.{Variable}
use Rattle.bound_tree.specs.declared.unit.Word.{Word}
use Rattle.bound_tree.specs.Reading.{statement_of}
use Rattle.bound_tree.specs.Tree.{Statement}
use Rattle.bound_unit.specs.Names.{Name}

pub record PlainBody : Type 0 where
  pub name : Name
  pub is_static : Bool
  pub is_synchronized : Bool
  pub params : List Variable
  pub result : Option ValueType
  pub block : Statement

pub data PlainPart : Type 0 where
  Header : List Word → PlainPart
  Field : ValueType → Initial → PlainPart
  Sig : List Variable → Option ValueType → PlainPart
  Body : PlainBody → PlainPart

pub record PlainTree : Type 0 where
  pub class : Name
  pub annotations : List ℕ
  pub standing : List ℕ
  pub part : PlainPart

abbrev pub body_as : KeptBody → PlainBody
body_as b = record {
  name = b.name;
  is_static = b.is_static;
  is_synchronized = b.is_synchronized;
  params = b.params;
  result = b.result;
  block = statement_of b.block;
}

abbrev pub part_as : Part → PlainPart
part_as (part.Header names) = Header names
part_as (part.Field ty initial) = Field ty initial
part_as (part.Sig params result) = Sig params result
part_as (part.Body b) = Body (body_as b)

-- the tree of a unit, so seen
abbrev pub tree_as : BoundTree → PlainTree
tree_as t = record { class = t.class; annotations = t.annotations; standing = t.standing; part = part_as t.part }
