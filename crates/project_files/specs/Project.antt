-- Which files are a project, and why others are none.
use Rattle.std.specs.Prelude.{◌≡◌, ◌≢◌, List, Some, None, map, AllPairs}
use Rattle.bundle.specs.Entry.{Entry}
use Rattle.project_files.specs.declared.error.FilesError.{FilesError}
use Rattle.project_files.specs.declared.error.FilesError.TheVariants as error
use Rattle.project_files.specs.Limits.{passed_limit}
use Rattle.project_files.specs.Trees.{TreeFile, AreReadAs, IsUnread, types_of}
use Rattle.project_files.specs.Repeats.{NoRepeat, FirstRepeat}

-- no two files have one path
abbrev pub PathsDiffer : List Entry → Type 0
PathsDiffer files = AllPairs ◌≢◌ (map (λ (e : Entry). e.path) files)

-- the files are within the limits, and read as these trees
pub record AreTaken (files : List Entry) (trees : List TreeFile) : Type 0 where
  pub within : passed_limit files ≡ None
  pub read : AreReadAs files trees

-- they are so, and their types have names of their own
pub record AreProject (files : List Entry) (trees : List TreeFile) : Type 0 where
  pub taken : AreTaken files trees
  pub apart : NoRepeat (types_of trees)

-- the files are within the limits and read as trees, of which P holds
pub record Taken (files : List Entry) (P : List TreeFile → Type 0) : Type 0 where
  pub trees : List TreeFile
  pub taken : AreTaken files trees
  pub holds : P trees

-- why the files are no project, the first cause of these: a limit, a file that isn't read, a name that is
-- used twice; memory may be wanting at any files
abbrev pub IsCauseOf : List Entry → FilesError → Type 0
IsCauseOf files (error.Limit which) = passed_limit files ≡ Some which
IsCauseOf files (error.Unread path why) = (passed_limit files ≡ None) × IsUnread files path.now why
IsCauseOf files (error.Repeated name first second) = Taken files (λ trees. FirstRepeat (types_of trees) name first second)
IsCauseOf files error.OutOfMemory = Unit {0}
