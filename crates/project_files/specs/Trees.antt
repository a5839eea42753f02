-- What files read as.
use Rattle.std.specs.Prelude.{◌≡◌, ◌≢◌, ℕ, List, ◌∷◌, ◌++◌, map, All}
use Rattle.std.specs.List.{flat_map}
use Rattle.bundle.specs.Entry.{Entry}
use Rattle.java_tree.specs.declared.file.FileTree.{FileTree}
use Rattle.java_tree.specs.declared.file.ClassTree.{ClassTree}
use Rattle.java_reader.specs.declared.error.ReadError.{ReadError}
use Rattle.java_reader.specs.declared.error.ReadError.TheVariants as error
use Rattle.java_reader.specs.Reads.{Reads, IsCauseOf}
use Rattle.project_files.specs.Order.{InOrder}

-- a type with its file
pub record ClassText : Type 0 where
  pub path : List ℕ
  pub text : List ℕ
  pub class : ClassTree

-- a file with a tree
pub record TreeFile : Type 0 where
  pub path : List ℕ
  pub text : List ℕ
  pub tree : FileTree

abbrev pub entry_of : TreeFile → Entry
entry_of f = record { path = f.path; text = f.text }

-- the tree is what the text reads as
abbrev pub IsReadAs : TreeFile → Type 0
IsReadAs f = Reads f.text f.tree

-- the files in the order of their paths, each with the tree that its text reads as
pub record AreReadAs (files : List Entry) (trees : List TreeFile) : Type 0 where
  pub order : InOrder files (map entry_of trees)
  pub each : All IsReadAs trees

-- the text isn't read, and this is why
pub record IsRefused (text : List ℕ) (why : ReadError) : Type 0 where
  pub unread : (tree : FileTree) → Reads text tree → ⊥
  pub cause : IsCauseOf text why
  pub told : why ≢ error.OutOfMemory

-- the path of the first of the files whose text isn't read, and why
pub record FirstRefused (sorted : List Entry) (path : List ℕ) (why : ReadError) : Type 0 where
  pub front : List TreeFile
  pub file : Entry
  pub rest : List Entry
  pub is : sorted ≡ map entry_of front ++ file ∷ rest
  pub each : All IsReadAs front
  pub refused : IsRefused file.text why
  pub named : path ≡ file.path

-- the same, of files in any order
pub record IsUnread (files : List Entry) (path : List ℕ) (why : ReadError) : Type 0 where
  pub sorted : List Entry
  pub order : InOrder files sorted
  pub first : FirstRefused sorted path why

-- a type of a file
abbrev pub class_in : TreeFile → ClassTree → ClassText
class_in f class = record { path = f.path; text = f.text; class = class }

-- all types of files, in the order in which they are written
abbrev pub types_of : List TreeFile → List ClassText
types_of trees = flat_map (λ f. map (class_in f) f.tree.types) trees
