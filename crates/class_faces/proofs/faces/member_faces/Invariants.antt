use Rattle.std.proofs.Common.{◌≡◌, ◌++◌, [], map, take, drop}
use Rattle.class_faces.specs.Keys.{Counts, slot_of}
use Rattle.class_faces.specs.Faces.{faces_after}
use Rattle.class_faces.proofs.faces.member_faces.Given as goal

-- the members so far and those that are left are all, and the slots so far are counted
abbrev pub invariant-loop-member : goal.invariant-loop-member
invariant-loop-member l = record {
  so_far : l.faces ++ faces_after l.class.name.text (map slot_of (take l.member-index l.member-items)) (drop l.member-index l.member-items)
      ≡ faces_after l.class.name.text [] l.member-items;
  counts : Counts l.counts (map slot_of (take l.member-index l.member-items));
}
