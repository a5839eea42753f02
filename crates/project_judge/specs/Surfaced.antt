-- Classes that are among surfaces.
use Rattle.std.specs.Prelude.{List, All, IsSome}
use Rattle.java_tree.specs.declared.file.ClassTree.{ClassTree}
use Rattle.promise_scrub.specs.declared.surface.Surface.{Surface}
use Rattle.views.specs.Face.{surface_named}
use Rattle.project_files.specs.Trees.{TreeFile}

abbrev pub IsSurfaced : List Surface → ClassTree → Type 0
IsSurfaced surfaces class = IsSome (surface_named surfaces class.name.text)

abbrev pub AreSurfaced : List Surface → List TreeFile → Type 0
AreSurfaced surfaces trees = All (λ (f : TreeFile). All (IsSurfaced surfaces) f.tree.types) trees
