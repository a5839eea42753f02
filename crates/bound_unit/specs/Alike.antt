-- Where the names come from that may be asked of a unit, and how what an analysis finds under one view is
-- what it finds under another that agrees. These stand here since the law of an analysis cites them.
use Rattle.std.specs.Prelude.{◌≡◌, ℕ, List, [], ◌∷◌, ◌++◌, Contains, flat_map, refl}
use Rattle.std.proofs.Common.{ap, ◌∙◌}
use Rattle.std.proofs.lemmas.List.Elements.{Contains-append_left, Contains-append_right, Contains-push}
use Rattle.bound_tree.specs.declared.unit.BoundTree.{BoundTree}
use Rattle.bound_tree.specs.Places.{Place, places_of}
use Rattle.views.specs.Face.{Seen, face}
use Rattle.views.specs.Looks.{interfaces_in}
use Rattle.bound_unit.specs.UnitFacts.{UnitFacts}
use Rattle.bound_unit.specs.Names.{Name, Faces, member_names}
use Rattle.bound_unit.specs.Implemented.{implemented}
use Rattle.bound_unit.specs.Asked.{part_names, place_names, above_names, asked, Covers, Agree}

pub first_of_all : (x : Name) (xs : List Name) → Contains (x ∷ xs) x
first_of_all x xs = Contains-append_left (x ∷ []) xs x (Contains-push [] x)

pub one_later : (y : Name) (xs : List Name) (x : Name) → Contains xs x → Contains (y ∷ xs) x
one_later y xs x at = Contains-append_right (y ∷ []) xs x at

-- ---- the parts of what is asked

asked_parts : Faces → List ℕ → BoundTree → List Name
asked_parts faces key tree =
    interfaces_in (faces tree.class)
    ++ (part_names tree.part
    ++ (flat_map (place_names faces) (places_of tree)
    ++ (member_names (faces tree.class) key
    ++ flat_map (above_names faces) (implemented faces key tree))))

pub asks_class : (faces : Faces) (key : List ℕ) (tree : BoundTree) → Contains (asked faces key tree) tree.class
unfolding asked_parts
asks_class faces key tree = first_of_all tree.class (asked_parts faces key tree)

pub asks_interface : (faces : Faces) (key : List ℕ) (tree : BoundTree) (n : Name)
    → Contains (interfaces_in (faces tree.class)) n → Contains (asked faces key tree) n
unfolding asked_parts
asks_interface faces key tree n at =
    one_later tree.class (asked_parts faces key tree) n (Contains-append_left (interfaces_in (faces tree.class)) _ n at)

pub asks_part : (faces : Faces) (key : List ℕ) (tree : BoundTree) (n : Name)
    → Contains (part_names tree.part) n → Contains (asked faces key tree) n
unfolding asked_parts
asks_part faces key tree n at =
    one_later tree.class (asked_parts faces key tree) n
    (Contains-append_right (interfaces_in (faces tree.class)) _ n
    (Contains-append_left (part_names tree.part) _ n at))

pub asks_places : (faces : Faces) (key : List ℕ) (tree : BoundTree) (n : Name)
    → Contains (flat_map (place_names faces) (places_of tree)) n → Contains (asked faces key tree) n
unfolding asked_parts
asks_places faces key tree n at =
    one_later tree.class (asked_parts faces key tree) n
    (Contains-append_right (interfaces_in (faces tree.class)) _ n
    (Contains-append_right (part_names tree.part) _ n
    (Contains-append_left (flat_map (place_names faces) (places_of tree)) _ n at)))

pub asks_own : (faces : Faces) (key : List ℕ) (tree : BoundTree) (n : Name)
    → Contains (member_names (faces tree.class) key) n → Contains (asked faces key tree) n
unfolding asked_parts
asks_own faces key tree n at =
    one_later tree.class (asked_parts faces key tree) n
    (Contains-append_right (interfaces_in (faces tree.class)) _ n
    (Contains-append_right (part_names tree.part) _ n
    (Contains-append_right (flat_map (place_names faces) (places_of tree)) _ n
    (Contains-append_left (member_names (faces tree.class) key) _ n at))))

pub asks_above : (faces : Faces) (key : List ℕ) (tree : BoundTree) (n : Name)
    → Contains (flat_map (above_names faces) (implemented faces key tree)) n → Contains (asked faces key tree) n
unfolding asked_parts
asks_above faces key tree n at =
    one_later tree.class (asked_parts faces key tree) n
    (Contains-append_right (interfaces_in (faces tree.class)) _ n
    (Contains-append_right (part_names tree.part) _ n
    (Contains-append_right (flat_map (place_names faces) (places_of tree)) _ n
    (Contains-append_right (member_names (faces tree.class) key) _ n at))))

-- ---- agreeing views

-- each name that may be asked of the unit shows the same
pub shown_alike : (u : UnitFacts) (v w : Seen) → Covers u v → Agree u.consulted v w
    → (n : Name) → Contains (asked (face v) u.key u.tree) n → face v n ≡ face w n
shown_alike u v w covers agree n at = agree.1 n (covers n at)

-- what is found at each place by what the names at that place show
pub places_alike : {X : Type 0} (found : Faces → Place → List X)
    → ((faces others : Faces) (p : Place) → ((n : Name) → Contains (place_names faces p) n → faces n ≡ others n) → found faces p ≡ found others p)
    → (faces others : Faces) (ps : List Place) → ((n : Name) → Contains (flat_map (place_names faces) ps) n → faces n ≡ others n)
    → flat_map (found faces) ps ≡ flat_map (found others) ps
places_alike found each faces others [] same = refl
places_alike found each faces others (p ∷ ps) same =
    ap (λ l. l ++ flat_map (found faces) ps)
    (each faces others p (λ n at. same n (Contains-append_left (place_names faces p) (flat_map (place_names faces) ps) n at)))
    ∙ ap (λ l. found others p ++ l)
    (places_alike found each faces others ps (λ n at. same n (Contains-append_right (place_names faces p) (flat_map (place_names faces) ps) n at)))
