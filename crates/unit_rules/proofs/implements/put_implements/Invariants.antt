use Rattle.std.proofs.Common.{◌≡◌, ◌++◌, ℕ, List, [], drop, take}
use Rattle.views.specs.Face.{face}
use Rattle.tree_places.specs.Numbers.{number_of}
use Rattle.promise_scrub.specs.Surfaces.{names_of}
use Rattle.bound_unit.specs.Aboves.{has_name}
use Rattle.bound_unit.specs.Implemented.{is_among}
use Rattle.unit_rules.specs.Implements.{implements_after}
use Rattle.unit_rules.proofs.implements.put_implements.Given as goal

-- the names before are met, and the notes so far and those of the names that are left are all
abbrev pub invariant-loop-word : goal.invariant-loop-word
invariant-loop-word l = record {
  met : (q : List ℕ) → has_name l.met q ≡ is_among (names_of (take l.word-index l.names)) q;
  notes : l.notes ++ implements_after (face l.view) (number_of l.places) l.class (names_of (take l.word-index l.names)) (drop l.word-index l.names)
      ≡ l.fn.notes ++ implements_after (face l.view) (number_of l.places) l.class [] l.names;
}
