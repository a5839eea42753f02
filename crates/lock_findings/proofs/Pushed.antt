-- A loop that puts something for each that it has seen.
use Rattle.std.proofs.Common.{◌≡◌, ℕ, ◌+◌, ◌<◌, List, [], ◌∷◌, ◌++◌, length, map, take, get_or, arith}
use Rattle.std.specs.List.{flat_map}
use Rattle.std.proofs.lemmas.Grind.{common_steps, flat_map-append}
use Rattle.lock_findings.proofs.Front.{begins_same, begins_more, begins_on}

pub pushed : {X Y : Type 0} (f : X → Y) (xs : List X) (i : ℕ) (x : X) (old mid new : List Y) (y : Y)
    → i < length xs → x ≡ get_or xs i x → mid ≡ old ++ map f (take i xs) → y ≡ f x → new ≡ mid ++ y ∷ []
    → new ≡ old ++ map f (take (i + 1) xs)
pushed f xs i x old mid new y less is before gives put = grind (arith, common_steps)

pub appended : {X Y : Type 0} (f : X → List Y) (xs : List X) (i : ℕ) (x : X) (old mid new : List Y)
    → i < length xs → x ≡ get_or xs i x → mid ≡ old ++ flat_map f (take i xs) → new ≡ mid ++ f x
    → new ≡ old ++ flat_map f (take (i + 1) xs)
appended f xs i x old mid new less is before put = grind (arith, common_steps, flat_map-append)

pub ruleset loops = (begins_same, begins_more, begins_on, appended)
