-- What is found in units, one after another.
use Rattle.std.specs.Prelude.{ℕ, List, [], ◌∷◌, ◌++◌, fold, if◌then◌else◌}
use Rattle.promise_scrub.specs.Surfaces.{UnitAnnotations, standing_at, aside_at, vouched_at}
use Rattle.promise_scrub.specs.declared.found.Found.{Found}
use Rattle.promise_scrub.specs.declared.unit.Unit.{Unit as Target}

abbrev pub found_nothing : Found
found_nothing = record { standing = []; aside = []; vouched = [] }

-- a unit more
abbrev pub found_more : Found → UnitAnnotations → Found
found_more f u = record {
  standing = f.standing ++ standing_at u;
  aside = f.aside ++ aside_at u;
  vouched = f.vouched ++ vouched_at u;
}

abbrev pub found_in : Found → List UnitAnnotations → Found
found_in f units = fold found_more f units

-- the same, by what is kept of the unit
abbrev pub found_of : List ℕ → Target → Found → Found
found_of key u f = record {
  standing = f.standing ++ u.standing;
  aside = f.aside ++ u.aside;
  vouched = f.vouched ++ (if u.vouched then key ∷ [] else []);
}
