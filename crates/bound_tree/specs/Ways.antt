-- Flows as the program has them: lists of ways, the last of which comes first.
use Rattle.std.specs.Prelude.{List, [], ◌∷◌, map}
use Rattle.bound_tree.specs.Flows.{Flow, End, Names, Sets, Leaves, Either, Again}
use Rattle.bound_tree.specs.declared.way.Way.{Way}
use Rattle.bound_tree.specs.declared.way.Way.TheOpen.{Way-F}
use Rattle.bound_tree.specs.declared.way.Way.TheFolds.{fold-Way}

abbrev pub onto : List (Flow → Flow) → Flow → Flow
onto [] k = k
onto (w ∷ ws) k = onto ws (w k)

-- a way with what comes after it
abbrev pub way_layer : Way-F (Flow → Flow) → Flow → Flow
way_layer (Way-F.Names x p) k = Names x p k
way_layer (Way-F.Sets x) k = Sets x k
way_layer Way-F.Leaves k = Leaves k
way_layer (Way-F.Either a b) k = Either (onto a End) (onto b End) k
way_layer (Way-F.Again a) k = Again (onto a End) k

unfoldable pub way_of : Way → Flow → Flow
way_of = fold-Way (Flow → Flow) way_layer

-- the flow of the ways, with what comes after them
abbrev pub flow_from : List Way → Flow → Flow
flow_from ws k = onto (map way_of ws) k

abbrev pub whole : List Way → Flow
whole ws = flow_from ws End
