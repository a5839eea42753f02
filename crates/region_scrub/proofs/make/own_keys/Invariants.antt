use Rattle.std.proofs.Common.{◌≡◌, ◌∷◌, map, take}
use Rattle.std.specs.Prelude.{Some}
use Rattle.region_scrub.proofs.Beginning.{own_of}
use Rattle.region_scrub.proofs.make.own_keys.Given as goal

abbrev pub invariant-loop-decl : goal.invariant-loop-decl
invariant-loop-decl l = l.own.items ≡ Some 0 ∷ Some 1 ∷ map (own_of l.declared) (take l.decl-index l.declared)
