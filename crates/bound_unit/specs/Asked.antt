-- The names of types whose faces an analysis may look up to judge a unit.
use Rattle.std.specs.Prelude.{◌≡◌, ℕ, List, [], ◌∷◌, ◌++◌, map, Option, Some, None, Contains, flat_map, codes}
use Rattle.bound_tree.specs.declared.name.ValueType.{ValueType}
use Rattle.bound_tree.specs.declared.name.ValueType.TheVariants as value
use Rattle.bound_tree.specs.declared.unit.BoundTree.{BoundTree}
use Rattle.bound_tree.specs.declared.unit.Part.{Part}
use Rattle.bound_tree.specs.declared.unit.Part.TheVariants as part
use Rattle.bound_tree.specs.declared.unit.Variable.{Variable}
use Rattle.bound_tree.specs.declared.unit.Word.{Word}
use Rattle.bound_tree.specs.Places.{Place, What, Reads, Writes, Calls, Makes, Starts, Locks, Flows, places_of}
use Rattle.bound_tree.specs.Reading.{statement_of}
use Rattle.bound_tree.specs.Tree.{Statement, Statements}
use Rattle.bound_tree.specs.Tree as t
use Rattle.lowering.specs.Lower.{count}
use Rattle.views.specs.Face.{Seen, face}
use Rattle.views.specs.Looks.{interfaces_in, member_key}
use Rattle.bound_unit.specs.UnitFacts.{UnitFacts}
use Rattle.bound_unit.specs.Names.{Name, Faces, member_names}
use Rattle.bound_unit.specs.Implemented.{Above, implemented}

-- ---- types that stand in the tree

abbrev pub value_names : ValueType → List Name
value_names (value.Named c) = c ∷ []
value_names value.Int = []
value_names value.Boolean = []
value_names value.Null = []

abbrev pub value_names_if : Option ValueType → List Name
value_names_if None = []
value_names_if (Some ty) = value_names ty

abbrev pub variable_names : Variable → List Name
variable_names v = value_names v.ty

abbrev pub word_name : Word → Name
word_name w = w.name

-- of locals, and before `.class`
abbrev mutual
  pub statement_names : Statement → List Name
  statement_names (t.Block ss) = statements_names ss
  statement_names (t.Declare p x ty v) = value_names ty
  statement_names (t.Assign to v) = []
  statement_names (t.Compound to o v) = []
  statement_names (t.Perform v) = []
  statement_names (t.Start p v) = []
  statement_names (t.If v a b) = statement_names a ++ statement_names b
  statement_names (t.While v a) = statement_names a
  statement_names (t.Sync v a) = statement_names a
  statement_names (t.SyncClass p c a) = c ∷ statement_names a
  statement_names (t.Return p) = []
  statement_names (t.ReturnValue p v) = []

  pub statements_names : Statements → List Name
  statements_names t.no_statements = []
  statements_names (t.statement s ss) = statement_names s ++ statements_names ss

abbrev pub part_names : Part → List Name
part_names (part.Header names) = map word_name names
part_names (part.Field ty initial) = value_names ty
part_names (part.Sig params result) = flat_map variable_names params ++ value_names_if result
part_names (part.Body b) = flat_map variable_names b.params ++ (value_names_if b.result ++ statement_names (statement_of b.block))

-- ---- at a place

-- the member of the type that has the name and so many parameters
abbrev pub called_names : Faces → Name → Name → ℕ → List Name
called_names faces class name n = class ∷ member_names (faces class) (member_key class name n)

abbrev pub what_names : Faces → What → List Name
what_names faces (Reads f owner) = f.class ∷ []
what_names faces (Writes f owner) = f.class ∷ []
what_names faces (Calls m owner es) = called_names faces m.class m.name (count es)
what_names faces (Makes c es) = called_names faces c (codes "new") (count es)
what_names faces (Starts e) = []
what_names faces (Locks e) = []
what_names faces (Flows e goal) = []

abbrev pub place_names : Faces → Place → List Name
place_names faces p = what_names faces p.what

-- ---- of the unit

abbrev pub above_names : Faces → Above → List Name
above_names faces a = member_names (faces a.interface) a.member.key

-- Asked: the own class and the names that it implements; the types that stand in the unit; at each place
-- the class whose field is used or whose member is called or made, with that member's names; those of the
-- unit itself and of the methods that it implements.
abbrev pub asked : Faces → (key : List ℕ) → BoundTree → List Name
asked faces key tree =
    tree.class ∷ (interfaces_in (faces tree.class)
    ++ (part_names tree.part
    ++ (flat_map (place_names faces) (places_of tree)
    ++ (member_names (faces tree.class) key
    ++ flat_map (above_names faces) (implemented faces key tree)))))

-- the unit consults each name that may be asked of it under the view
abbrev pub Covers : UnitFacts → Seen → Type 0
Covers u v = (n : Name) → Contains (asked (face v) u.key u.tree) n → Contains u.consulted n

-- the two views are those of one class, and show the same of each of the names
abbrev pub Agree : List Name → Seen → Seen → Type 0
Agree names v w = (v.class ≡ w.class) × ((n : Name) → Contains names n → face v n ≡ face w n)
