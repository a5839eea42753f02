-- A list that begins with another: what was there stays in front.
use Rattle.std.specs.Prelude.{◌≡◌, List, ◌++◌}

unfoldable pub Begins : {X : Type 0} → (old new : List X) → Type 0
Begins {X} old new = (more : List X) × (new ≡ old ++ more)
