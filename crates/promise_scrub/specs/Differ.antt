-- Lists whose keys differ.
use Rattle.std.specs.Prelude.{◌≢◌, List, [], ◌∷◌}
use Rattle.desk_base.specs.declared.key.PromiseKey.{PromiseKey}
use Rattle.promise_scrub.specs.declared.surface.Standing.{Standing}

-- no promise of these has the key
abbrev pub LacksKey : PromiseKey → List Standing → Type 0
LacksKey key [] = Unit {0}
LacksKey key (s ∷ ss) = (key ≢ s.key) × LacksKey key ss

-- no two of these promises have one key
abbrev pub KeysDiffer : List Standing → Type 0
KeysDiffer [] = Unit {0}
KeysDiffer (s ∷ ss) = LacksKey s.key ss × KeysDiffer ss
