-- The names of the two roots of regions.
use Rattle.std.specs.Prelude.{◌≡◌, codes}
use Rattle.views.specs.declared.regions.Roots.{Roots as Pair}

pub record AreRoots (roots : Pair) : Type 0 where
  pub instance : roots.instance ≡ codes "Instance"
  pub class : roots.class ≡ codes "Static"
