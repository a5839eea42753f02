-- Promises by their places in a list.
use Rattle.std.specs.Prelude.{◌≡◌, ℕ, List, [], ◌∷◌, ◌++◌, Some, map}
use Rattle.std.specs.List.{slice_get}
use Rattle.std.specs.Option.{option_to_list}
use Rattle.promise_scrub.specs.declared.surface.Standing.{Standing}

-- those that stand at the places
abbrev pub gathered : List Standing → List ℕ → List Standing
gathered standing [] = []
gathered standing (k ∷ ks) = option_to_list (slice_get standing k) ++ gathered standing ks

-- at each of the places there is one
pub record AreThere (standing : List Standing) (places : List ℕ) : Type 0 where
  pub there : map (slice_get standing) places ≡ map (λ (s : Standing). Some s) (gathered standing places)
