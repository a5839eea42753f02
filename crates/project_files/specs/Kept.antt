-- Files that were read, as the code keeps them.
use Rattle.std.specs.Prelude.{◌≡◌, ℕ, List, Option, Some, None, map, MatchOption, All}
use Rattle.std.specs.Borrow.{Bor}
use Rattle.std.specs.List.{Contains}
use Rattle.std.specs.Ordering.{nat_cmp}
use Rattle.std.specs.Cmp.Lexicographic.{slice_cmp}
use Rattle.std.specs.BTreeMap.{BTreeMap, get}
use Rattle.bundle.specs.Entry.{Entry}
use Rattle.bundle.specs.File.{file_of}
use Rattle.bundle.specs.declared.entry.FileEntry.{FileEntry}
use Rattle.java_tree.specs.declared.file.ClassTree.{ClassTree}
use Rattle.java_reader.specs.declared.error.ReadError.{ReadError}
use Rattle.java_reader.specs.declared.error.ReadError.TheVariants as fault
use Rattle.project_files.specs.declared.reading.ReadFile.{ReadFile}
use Rattle.project_files.specs.declared.repeats.Repeat.{Repeat}
use Rattle.project_files.specs.declared.repeats.TypeNames.{TypeNames}
use Rattle.project_files.specs.declared.error.FilesError.{FilesError}
use Rattle.project_files.specs.declared.error.FilesError.TheVariants as error
use Rattle.project_files.specs.Trees.{ClassText, TreeFile, IsReadAs, IsRefused, FirstRefused, entry_of}
use Rattle.project_files.specs.Repeats.{NoRepeat, FirstRepeat, name_of}

abbrev pub files_of : List FileEntry → List Entry
files_of files = map file_of files

abbrev pub tree_file : ReadFile → TreeFile
tree_file r = record { path = r.file.path.now; text = r.file.text.now; tree = r.tree }

-- what is said of a file that isn't read
abbrev pub refusal_for : Bor (List ℕ) → ReadError → FilesError
refusal_for path fault.OutOfMemory = error.OutOfMemory
refusal_for path why = error.Unread path why

-- why a file isn't read
abbrev pub IsRefusal : Entry → FilesError → Type 0
IsRefusal e (error.Unread path why) = (path.now ≡ e.path) × IsRefused e.text why
IsRefusal e error.OutOfMemory = Unit {0}
IsRefusal e _ = ⊥

-- why files, in their order, aren't read
abbrev pub IsRefusalIn : List Entry → FilesError → Type 0
IsRefusalIn sorted (error.Unread path why) = FirstRefused sorted path.now why
IsRefusalIn sorted error.OutOfMemory = Unit {0}
IsRefusalIn sorted _ = ⊥

-- a type of a file
abbrev pub class_of : FileEntry → ClassTree → ClassText
class_of f class = record { path = f.path.now; text = f.text.now; class = class }

-- ---- the file of a type of each name, as a map

-- a type with this name and path
pub record IsNamed (types : List ClassText) (name path : List ℕ) : Type 0 where
  pub type : ClassText
  pub among : Contains types type
  pub named : name_of type ≡ name
  pub placed : path ≡ type.path

abbrev pub ArePaths : List ClassText → BTreeMap (List ℕ) (Bor (List ℕ)) → Type 0
ArePaths types m = (q : List ℕ) → MatchOption (get (slice_cmp nat_cmp) m q) ((c : ClassText) → Contains types c → name_of c ≡ q → ⊥) (λ p. IsNamed types q p.now)

-- ---- what is known of files so far

-- all types have names of their own, and these are the paths of their files; or this is the first repeat
abbrev pub NamedBy : List ClassText → BTreeMap (List ℕ) (Bor (List ℕ)) → Option Repeat → Type 0
NamedBy types paths None = NoRepeat types × ArePaths types paths
NamedBy types paths (Some r) = FirstRepeat types r.name r.first.now r.second.now

abbrev pub AreNamed : List ClassText → TypeNames → Type 0
AreNamed types names = NamedBy types names.paths names.repeat

-- the first type whose name is used before, if there is one
abbrev pub RepeatOf : List ClassText → Option Repeat → Type 0
RepeatOf types None = NoRepeat types
RepeatOf types (Some r) = FirstRepeat types r.name r.first.now r.second.now

-- the files are read as these, one after another
pub record AreReadTo (files : List Entry) (read : List ReadFile) : Type 0 where
  pub same : map entry_of (map tree_file read) ≡ files
  pub each : All IsReadAs (map tree_file read)
