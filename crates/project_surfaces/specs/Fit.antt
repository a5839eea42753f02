-- Types that are judged so far.
use Rattle.std.specs.Prelude.{◌≡◌, ℕ, List, ◌∷◌, ◌++◌, All}
use Rattle.judged_form.specs.Form.{IsJudged}
use Rattle.promise_scrub.specs.Surfaces.{Surface}
use Rattle.promise_scrub.specs.declared.surface.Surface.{Surface as Face}
use Rattle.project_files.specs.Trees.{ClassText}

-- the surface of the type is judged
pub record IsFit (t : ClassText) : Type 0 where
  pub face : Face
  pub surface : Surface t.class face
  pub judged : IsJudged face

-- the path of the first type that isn't
pub record FirstUnfit (types : List ClassText) (path : List ℕ) : Type 0 where
  pub front : List ClassText
  pub type : ClassText
  pub rest : List ClassText
  pub is : types ≡ front ++ type ∷ rest
  pub fit : All IsFit front
  pub unfit : ¬ IsFit type
  pub named : path ≡ type.path
