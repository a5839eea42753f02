-- What is known of a bound unit.
use Rattle.std.specs.Prelude.{ℕ, List}
use Rattle.bound_tree.specs.declared.unit.BoundTree.{BoundTree}
use Rattle.lowering.specs.Code.{Code}
use Rattle.result_records.specs.declared.finding.Finding.{Finding}

-- its key; its tree; its code and the places of the code's steps; its bind findings; the names of types
-- that it consults, whether there is such a type or not
pub record UnitFacts : Type 0 where
  pub key : List ℕ
  pub tree : BoundTree
  pub code : Code
  pub places : List ℕ
  pub findings : List Finding
  pub consulted : List (List ℕ)
