-- Statements that are bound.
use Rattle.std.specs.Prelude.{List, [], ◌∷◌, ◌++◌}
use Rattle.bound_tree.specs.Tree.{Statement}
use Rattle.bound_tree.specs.Tree as t
use Rattle.bound_tree.specs.Reading as reading
use Rattle.name_rules.specs.declared.note.Note.{Note}

-- a bound statement and what is told of it
pub record Done : Type 0 where
  pub made : Statement
  pub notes : List Note

pub record DoneAll : Type 0 where
  pub made : List Statement
  pub notes : List Note

abbrev pub none_done : DoneAll
none_done = record { made = []; notes = [] }

abbrev pub one_done : Done → DoneAll
one_done d = record { made = d.made ∷ []; notes = d.notes }

abbrev pub before_others : Done → DoneAll → DoneAll
before_others d ds = record { made = d.made ∷ ds.made; notes = d.notes ++ ds.notes }

abbrev pub block_of : List Statement → Statement
block_of ss = t.Block (reading.statements ss)

abbrev pub block : DoneAll → Done
block ds = record { made = block_of ds.made; notes = ds.notes }

-- an empty statement, and what stands for an `else` that isn't written
abbrev pub nothing : Done
nothing = record { made = block_of []; notes = [] }
