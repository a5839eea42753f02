-- What a unit is, is the same where the same is shown of what may be asked of it.
use Rattle.std.proofs.Common.{◌≡◌, ℕ, Bool, true, false, cond, List, [], ◌∷◌, ◌++◌, map, length, refl, sym, ◌∙◌, ap, subst}
use mathlib.Core.Bool.{◌&&◌, not}
use Rattle.std.specs.Prelude.{Option, Some, None, is_some}
use Rattle.std.specs.List.{flat_map}
use Rattle.std.specs.Str.{bytes_eq}
use Rattle.std.proofs.lemmas.List.{map-append}
use Rattle.std.proofs.lemmas.Grind.{flat_map-append}
use Rattle.bound_tree.specs.declared.unit.BoundTree.{BoundTree}
use Rattle.bound_tree.specs.declared.unit.Part.{Part}
use Rattle.bound_tree.specs.declared.unit.Part.TheVariants as part
use Rattle.class_faces.specs.declared.face.MemberFace.{MemberFace}
use Rattle.views.specs.Face.{Face}
use Rattle.views.specs.Looks.{field_in, interfaces_in, kind_in, member_in, member_key, standing_in}
use Rattle.lock_findings.specs.declared.lock.Need.{Need}
use Rattle.lock_findings.specs.declared.role.Above.{Above}
use Rattle.lock_findings.specs.declared.role.Role.TheVariants as role
use Rattle.bound_unit.specs.Asked.{above_names}
use Rattle.bound_unit.specs.Implemented.{above_if, above_in, above_member, above_part, each_once, implemented, is_among, is_class_kind, is_interface_kind, new_names, same_shape}
use Rattle.bound_unit.specs.Implemented.{Above as Method}
use Rattle.bound_unit.specs.Names.{Faces, Name}
use Rattle.lock_check.specs.Needs.{params_at, params_of}
use Rattle.lock_check.specs.Roles.{above_of, aboves, field_word, is_main, part_role, role_of, unique_value}
use Rattle.lock_check.specs.SameNeeds.{Same, needs_same, same_first, same_left, same_rest, same_right}

above_same : (F G : Faces) (a : Method) → F a.interface ≡ G a.interface → Same F G (above_names F a) → above_of F a ≡ above_of G a
above_same F G a own names =
    ap (λ (ns : List Need). let made : Above = record { interface = a.interface; needs = ns } in made) (needs_same F G a.interface a.member.key own names)

-- the method of one interface
in_same : (F G : Faces) (m : MemberFace) (name : Name) (count : ℕ) (n : Name) → F n ≡ G n
    → Same F G (flat_map (above_names F) (above_in F m name count n)) → map (above_of F) (above_in F m name count n) ≡ map (above_of G) (above_in G m name count n)
in_same F G m name count n own names =
    go (is_interface_kind (kind_in (F n))) (member_in (F n) (member_key n name count)) names
    ∙ ap (λ (f : Option Face). map (above_of G) (cond (is_interface_kind (kind_in f)) (above_if n m (member_in f (member_key n name count))) [])) own
  where
    one : (other : MemberFace) (b : Bool) → (let a : Method = record { interface = n; member = other } in
        Same F G (flat_map (above_names F) (cond b (a ∷ []) [])) → map (above_of F) (cond b (a ∷ []) []) ≡ map (above_of G) (cond b (a ∷ []) []))
    one other true s =
        let a : Method = record { interface = n; member = other } in
        ap (λ (x : Above). x ∷ []) (above_same F G a own (same_left F G (above_names F a) [] s))
    one other false s = refl

    go : (b : Bool) (o : Option MemberFace) → Same F G (flat_map (above_names F) (cond b (above_if n m o) []))
        → map (above_of F) (cond b (above_if n m o) []) ≡ map (above_of G) (cond b (above_if n m o) [])
    go false o s = refl
    go true None s = refl
    go true (Some other) s = one other (same_shape m other) s

-- those of several, each once
new_same : (F G : Faces) (m : MemberFace) (name : Name) (count : ℕ) (before ns : List Name) → Same F G ns
    → Same F G (flat_map (above_names F) (flat_map (above_in F m name count) (new_names before ns)))
    → map (above_of F) (flat_map (above_in F m name count) (new_names before ns)) ≡ map (above_of G) (flat_map (above_in G m name count) (new_names before ns))
new_same F G m name count before [] shown names = refl
new_same F G m name count before (n ∷ ns) shown names =
    go (is_among before n) names (λ s. new_same F G m name count (before ++ n ∷ []) ns (same_rest F G n ns shown) s)
  where
    rest : List Name
    rest = new_names (before ++ n ∷ []) ns

    go : (b : Bool) → Same F G (flat_map (above_names F) (flat_map (above_in F m name count) (cond b rest (n ∷ rest))))
        → (Same F G (flat_map (above_names F) (flat_map (above_in F m name count) rest))
        → map (above_of F) (flat_map (above_in F m name count) rest) ≡ map (above_of G) (flat_map (above_in G m name count) rest))
        → map (above_of F) (flat_map (above_in F m name count) (cond b rest (n ∷ rest))) ≡ map (above_of G) (flat_map (above_in G m name count) (cond b rest (n ∷ rest)))
    go true s more = more s
    go false s more =
        let split : flat_map (above_names F) (above_in F m name count n ++ flat_map (above_in F m name count) rest)
        ≡ flat_map (above_names F) (above_in F m name count n) ++ flat_map (above_names F) (flat_map (above_in F m name count) rest) =
        flat_map-append (above_names F) (above_in F m name count n) (flat_map (above_in F m name count) rest) in
        let parts = subst (Same F G) split s in
        map-append (above_of F) (above_in F m name count n) (flat_map (above_in F m name count) rest)
        ∙ ap (λ (xs : List Above). xs ++ map (above_of F) (flat_map (above_in F m name count) rest))
        (in_same F G m name count n (same_first F G n ns shown) (same_left F G _ _ parts))
        ∙ ap (λ (xs : List Above). map (above_of G) (above_in G m name count n) ++ xs) (more (same_right F G _ _ parts))
        ∙ sym (map-append (above_of G) (above_in G m name count n) (flat_map (above_in G m name count) rest))

member_same : (F G : Faces) (class name : Name) (count : ℕ) (o : Option MemberFace) → F class ≡ G class → Same F G (interfaces_in (F class))
    → Same F G (flat_map (above_names F) (above_member F class name count o))
    → map (above_of F) (above_member F class name count o) ≡ map (above_of G) (above_member G class name count o)
member_same F G class name count None own shown names = refl
member_same F G class name count (Some m) own shown names =
    go (not m.is_static && is_class_kind (kind_in (F class))) names
    ∙ ap (λ (f : Option Face). map (above_of G) (cond (not m.is_static && is_class_kind (kind_in f)) (flat_map (above_in G m name count) (each_once (interfaces_in f))) [])) own
  where
    go : (b : Bool) → Same F G (flat_map (above_names F) (cond b (flat_map (above_in F m name count) (each_once (interfaces_in (F class)))) []))
        → map (above_of F) (cond b (flat_map (above_in F m name count) (each_once (interfaces_in (F class)))) [])
        ≡ map (above_of G) (cond b (flat_map (above_in G m name count) (each_once (interfaces_in (F class)))) [])
    go true s = new_same F G m name count [] (interfaces_in (F class)) shown s
    go false s = refl

part_same : (F G : Faces) (class key : Name) (p : Part) → F class ≡ G class → Same F G (interfaces_in (F class))
    → Same F G (flat_map (above_names F) (above_part F class key p)) → map (above_of F) (above_part F class key p) ≡ map (above_of G) (above_part G class key p)
part_same F G class key (part.Header names) own shown s = refl
part_same F G class key (part.Field ty initial) own shown s = refl
part_same F G class key (part.Sig params result) own shown s = refl
part_same F G class key (part.Body b) own shown s = go (bytes_eq key (member_key class b.name (length b.params))) s
  where
    go : (t : Bool) → Same F G (flat_map (above_names F) (cond t (above_member F class b.name (length b.params) (member_in (F class) key)) []))
        → map (above_of F) (cond t (above_member F class b.name (length b.params) (member_in (F class) key)) [])
        ≡ map (above_of G) (cond t (above_member G class b.name (length b.params) (member_in (G class) key)) [])
    go true s =
        member_same F G class b.name (length b.params) (member_in (F class) key) own shown s
        ∙ ap (λ (f : Option Face). map (above_of G) (above_member G class b.name (length b.params) (member_in f key))) own
    go false s = refl

pub role_same : (F G : Faces) (key : Name) (tree : BoundTree) → F tree.class ≡ G tree.class → Same F G (interfaces_in (F tree.class))
    → Same F G (flat_map (above_names F) (implemented F key tree)) → role_of F key tree ≡ role_of G key tree
role_same F G key tree own shown s = go tree.part
  where
    methods : aboves F key tree ≡ aboves G key tree
    methods = part_same F G tree.class key tree.part own shown s

    go : (p : Part) → part_role F key tree p ≡ part_role G key tree p
    go (part.Header names) = refl
    go (part.Field ty initial) =
        ap (λ (f : Option Face). cond (is_some (standing_in f (unique_value key)) && is_some (field_in f (field_word tree.class key)))
        (role.UniqueField tree.class (field_word tree.class key) (unique_value key)) role.Plain) own
    go (part.Sig params result) = refl
    go (part.Body b) =
        ap (λ (f : Option Face). cond (is_main (params_of (member_in f key))) role.Main (role.Method (aboves F key tree))) own
        ∙ ap (λ (list : List Above). cond (is_main (params_at G tree.class key)) role.Main (role.Method list)) methods
