use Rattle.std.proofs.Common.{◌++◌, List, map, take}
use Rattle.project_files.specs.Kept.{tree_file}
use Rattle.project_files.specs.Repeats.{NoRepeat}
use Rattle.project_files.specs.Trees.{ClassText, class_in}
use Rattle.project_surfaces.specs.Gathered.{AreGathered}
use Rattle.project_surfaces.proofs.gather.ProjectSurfaces.add_types.Given as goal

-- the types of the file so far
abbrev pub invariant-loop-class : goal.invariant-loop-class
invariant-loop-class l =
    (types : List ClassText) → NoRepeat (types ++ map (class_in (tree_file l.read)) (take l.class-index l.class-items)) → AreGathered types l.fn.self
    → AreGathered (types ++ map (class_in (tree_file l.read)) (take l.class-index l.class-items)) l.self
