-- How much there is of a project, and its paths.
use Rattle.std.specs.Prelude.{ℕ, List, length, map}
use Rattle.project_answers.specs.declared.answers.Sizes.{Sizes}
use Rattle.project_files.specs.Trees.{TreeFile, types_of}
use Rattle.project_judge.specs.Units.{all_units}

-- of so many units
abbrev pub sizes_with : List TreeFile → ℕ → Sizes
sizes_with trees units = record { files = length trees; types = length (types_of trees); units = units }

abbrev pub sizes_of : List TreeFile → Sizes
sizes_of trees = sizes_with trees (length (all_units trees))

-- the paths of files, by their numbers
abbrev pub paths_of : List TreeFile → List (List ℕ)
paths_of trees = map (λ (f : TreeFile). f.path) trees
