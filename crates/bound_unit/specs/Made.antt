-- A unit's code and its places are those of its tree.
use Rattle.std.specs.Prelude.{◌≡◌, ℕ, List}
use Rattle.bound_tree.specs.declared.unit.BoundTree.{BoundTree}
use Rattle.lowering.specs.Code.{Code}
use Rattle.lowering.specs.Lower.{code_of}
use Rattle.lowering.specs.Steps.{steps_of}
use Rattle.result_records.specs.declared.finding.Finding.{Finding}
use Rattle.bound_unit.specs.UnitFacts.{UnitFacts}

pub record IsMade (tree : BoundTree) (code : Code) (places : List ℕ) : Type 0 where
  pub lowered : code ≡ code_of tree
  pub placed : places ≡ steps_of code

-- what is known of a unit by its tree, its bind findings and what it consults
abbrev pub made : List ℕ → BoundTree → List Finding → List (List ℕ) → UnitFacts
made key tree findings consulted = record {
  key = key;
  tree = tree;
  code = code_of tree;
  places = steps_of (code_of tree);
  findings = findings;
  consulted = consulted;
}
