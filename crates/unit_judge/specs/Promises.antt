-- The promises of a unit: those that stand there, then those that are set aside there.
use Rattle.std.specs.Prelude.{ℕ, zero, suc, ◌+◌, Bool, List, [], ◌∷◌, ◌++◌, Option, Some, None, map, filter, unwrap_or, if◌then◌else◌}
use Rattle.std.specs.List.{slice_get}
use Rattle.std.specs.Str.{bytes_eq}
use Rattle.promise_scrub.specs.Verdicts.{numbered}
use Rattle.promise_scrub.specs.declared.surface.Aside.{Aside}
use Rattle.promise_scrub.specs.declared.surface.Standing.{Standing}
use Rattle.unit_findings.specs.declared.promise.UnitPromise.{UnitPromise}
use Rattle.views.specs.Face.{Face}
use Rattle.views.specs.Looks.{standing_at}

-- ---- what stands

abbrev pub standing_promise : Standing → UnitPromise
standing_promise s = record { key = s.key; place = 1; fault = None }

-- ---- what is set aside

-- The token at which an annotation of the unit begins, of those that are numbered from n on: the one whose
-- number the detail says. What is none of these was spread to the unit, and is at its first token.
abbrev pub place_from : (detail : List ℕ) → ℕ → (places : List ℕ) → ℕ
place_from detail n [] = 1
place_from detail n (at ∷ places) = if bytes_eq detail (numbered n) then at else place_from detail (n + 1) places

abbrev pub aside_promise : (places : List ℕ) → Aside → UnitPromise
aside_promise places a = record { key = a.key; place = place_from a.key.detail 1 places; fault = Some a.code }

abbrev pub is_at : (unit : List ℕ) → Aside → Bool
is_at unit a = bytes_eq a.key.target unit

abbrev pub aside_promises : (unit places : List ℕ) → List Aside → List UnitPromise
aside_promises unit places asides = map (aside_promise places) (filter (is_at unit) asides)

-- ---- of the unit

-- `places` has the first tokens of the annotations that are written at the unit, `asides` is what its class
-- sets aside
abbrev pub unit_promises : Option Face → (unit places : List ℕ) → List Aside → List UnitPromise
unit_promises shown unit places asides = map standing_promise (standing_at shown unit) ++ aside_promises unit places asides

-- ---- what the code does at once

-- by its number, from 1
abbrev pub place_at : List ℕ → ℕ → ℕ
place_at places zero = 1
place_at places (suc before) = unwrap_or (slice_get places before) 1

abbrev pub promise_if : Option Standing → List UnitPromise
promise_if None = []
promise_if (Some s) = standing_promise s ∷ []

abbrev pub aside_if : (unit places : List ℕ) → Aside → List UnitPromise
aside_if unit places a = if is_at unit a then aside_promise places a ∷ [] else []
