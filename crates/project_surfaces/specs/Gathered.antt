-- SurfacesOf: the surfaces of types.
use Rattle.std.specs.Prelude.{◌≡◌, ℕ, List, [], Option, Some, None, fold, All}
use Rattle.std.specs.Borrow.{Bor}
use Rattle.std.specs.List.{AllZip, flat_map}
use Rattle.desk_base.specs.declared.key.PromiseKey.{PromiseKey}
use Rattle.promise_scrub.specs.Surfaces.{Surface}
use Rattle.promise_scrub.specs.declared.surface.Surface.{Surface as Face}
use Rattle.project_files.specs.Trees.{ClassText}
use Rattle.views.specs.Filed.{with_surface}
use Rattle.project_surfaces.specs.Fit.{FirstUnfit, IsFit}
use Rattle.project_surfaces.specs.Keys.{keys_of}
use Rattle.project_surfaces.specs.declared.gather.ProjectSurfaces.{ProjectSurfaces}

-- the surface of the type
abbrev pub IsFace : ClassText → Face → Type 0
IsFace t face = Surface t.class face

-- surfaces in the order of their names, each put at the place of its name
abbrev pub filed : List Face → List Face
filed faces = fold with_surface [] faces

-- the keys of all their promises
abbrev pub all_keys : List Face → List PromiseKey
all_keys faces = flat_map keys_of faces

-- of each type its surface, in order of names, and the keys of the promises of all
pub record SurfacesOf (types : List ClassText) (surfaces : List Face) (keys : List PromiseKey) : Type 0 where
  pub faces : List Face
  pub each : AllZip IsFace types faces
  pub in_order : surfaces ≡ filed faces
  pub promises : keys ≡ all_keys faces

-- all types are judged so far, or this is the path of the first that isn't
abbrev pub UnfitOf : List ClassText → Option (Bor (List ℕ)) → Type 0
UnfitOf types None = All IsFit types
UnfitOf types (Some path) = FirstUnfit types path.now

pub record AreGathered (types : List ClassText) (made : ProjectSurfaces) : Type 0 where
  pub surfaces : SurfacesOf types made.surfaces made.keys.items
  pub form : UnfitOf types made.unfit
