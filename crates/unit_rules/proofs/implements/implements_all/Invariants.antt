use Rattle.std.proofs.Common.{◌≡◌, take, true}
use Rattle.std.specs.List.{list_all}
use Rattle.views.specs.Face.{face}
use Rattle.unit_rules.specs.Implements.{is_answered}
use Rattle.unit_rules.proofs.implements.implements_all.Given as goal

-- the class has each of those so far
abbrev pub invariant-loop-member : goal.invariant-loop-member
invariant-loop-member l = list_all (is_answered (face l.view) l.class l.interface) (take l.member-index l.member-items) ≡ true
