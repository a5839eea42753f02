use Rattle.std.proofs.Common.{◌≡◌, ◌++◌, [], map, take, drop}
use Rattle.class_faces.specs.Keys.{Counts, slot_of, keys_after}
use Rattle.class_faces.proofs.key.member_keys.Given as goal

-- the keys so far and those of the members that are left are all, and the slots so far are counted
abbrev pub invariant-loop-member : goal.invariant-loop-member
invariant-loop-member l = record {
  so_far : l.keys ++ keys_after l.class.name.text (map slot_of (take l.member-index l.member-items)) (drop l.member-index l.member-items)
      ≡ keys_after l.class.name.text [] l.member-items;
  counts : Counts l.counts (map slot_of (take l.member-index l.member-items));
}
