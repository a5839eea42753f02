use Rattle.std.proofs.Common.{◌≡◌, ◌++◌, None, List, map, take}
use Rattle.project_files.specs.Trees.{ClassText}
use Rattle.project_files.specs.Trees.{class_in}
use Rattle.project_files.specs.Kept.{tree_file, AreNamed}
use Rattle.project_files.proofs.repeats.TypeNames.add_types.Given as goal

-- the types of the file so far
abbrev pub invariant-loop-class : goal.invariant-loop-class
invariant-loop-class l = record {
  named : (types : List ClassText) → AreNamed types l.fn.self → AreNamed (types ++ map (class_in (tree_file l.read)) (take l.class-index l.class-items)) l.self;
  none : l.self.repeat ≡ None → l.fn.self.repeat ≡ None;
}
