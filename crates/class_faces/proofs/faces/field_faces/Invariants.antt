use Rattle.std.proofs.Common.{◌≡◌, ◌++◌, drop}
use Rattle.class_faces.specs.Faces.{fields_of}
use Rattle.class_faces.proofs.faces.field_faces.Given as goal

-- the fields so far and those of the members that are left are all
abbrev pub invariant-loop-member : goal.invariant-loop-member
invariant-loop-member l = l.faces ++ fields_of (drop l.member-index l.member-items) ≡ fields_of l.member-items
