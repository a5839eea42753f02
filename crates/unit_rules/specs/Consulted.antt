-- The names of types that a unit consults, whether there is such a type or not.
use Rattle.std.specs.Prelude.{ℕ, List, [], ◌∷◌, ◌++◌}
use Rattle.std.specs.List.{flat_map}
use Rattle.std.specs.Ordering.{nat_cmp}
use Rattle.std.specs.Cmp.Lexicographic.{slice_cmp}
use Rattle.std.specs.BTreeSet.{insert_key}
use Rattle.bound_tree.specs.declared.unit.BoundTree.{BoundTree}
use Rattle.views.specs.Looks.{interfaces_in, member_key}
use Rattle.name_rules.specs.declared.note.Note.{Note}
use Rattle.name_rules.specs.declared.note.Note.TheVariants as note
use Rattle.bound_unit.specs.Names.{Name, Faces, member_names}
use Rattle.bound_unit.specs.Implemented.{implemented}
use Rattle.bound_unit.specs.Asked.{above_names}

-- names by their bytes, each once: these put among such
abbrev pub put_among : List Name → List Name → List Name
put_among [] kept = kept
put_among (n ∷ ns) kept = insert_key (slice_cmp nat_cmp) (put_among ns kept) n

abbrev pub each_in_order : List Name → List Name
each_in_order names = put_among names []

-- A name that is told is consulted; of a member that is called its type and, under what that shows, the
-- types of its parameters and result and those that its promises name.
abbrev pub told_names : Faces → Note → List Name
told_names faces (note.Finding c at) = []
told_names faces (note.Names n) = n ∷ []
told_names faces (note.Calls c name count) = c ∷ member_names (faces c) (member_key c name count)

-- The own class and what it implements; what is told; what the unit's own promises and those of the
-- methods that it implements name.
abbrev pub all_names : Faces → (key : List ℕ) → BoundTree → List Note → List Name
all_names faces key tree notes =
    tree.class ∷ (interfaces_in (faces tree.class)
    ++ (flat_map (told_names faces) notes
    ++ (member_names (faces tree.class) key
    ++ flat_map (above_names faces) (implemented faces key tree))))

-- Consulted: in order, each once.
abbrev pub consulted : Faces → (key : List ℕ) → BoundTree → List Note → List Name
consulted faces key tree notes = each_in_order (all_names faces key tree notes)
