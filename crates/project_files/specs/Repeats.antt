-- Types whose names are used before.
use Rattle.std.specs.Prelude.{◌≡◌, ◌≢◌, ℕ, List, ◌∷◌, ◌++◌, map, AllPairs}
use Rattle.std.specs.List.{Contains}
use Rattle.project_files.specs.Trees.{ClassText}

abbrev pub name_of : ClassText → List ℕ
name_of c = c.class.name.text

-- all types have names of their own
abbrev pub NoRepeat : List ClassText → Type 0
NoRepeat types = AllPairs ◌≢◌ (map name_of types)

-- the first type whose name is used before: its name, the path of the type before it with the name, and
-- its own path
pub record FirstRepeat (types : List ClassText) (name first second : List ℕ) : Type 0 where
  pub front : List ClassText
  pub type : ClassText
  pub rest : List ClassText
  pub is : types ≡ front ++ type ∷ rest
  pub apart : NoRepeat front
  pub earlier : ClassText
  pub among : Contains front earlier
  pub same : name_of earlier ≡ name_of type
  pub named : name ≡ name_of type
  pub first_path : first ≡ earlier.path
  pub second_path : second ≡ type.path
