-- The keys of the promises of a surface.
use Rattle.std.specs.Prelude.{List, ◌++◌, map}
use Rattle.desk_base.specs.declared.key.PromiseKey.{PromiseKey}
use Rattle.promise_scrub.specs.declared.surface.Aside.{Aside}
use Rattle.promise_scrub.specs.declared.surface.Standing.{Standing}
use Rattle.promise_scrub.specs.declared.surface.Surface.{Surface}

abbrev pub standing_key : Standing → PromiseKey
standing_key s = s.key

abbrev pub aside_key : Aside → PromiseKey
aside_key a = a.key

-- of those that stand, then of those that are set aside
abbrev pub keys_of : Surface → List PromiseKey
keys_of s = map standing_key s.standing ++ map aside_key s.aside
