-- Two views that agree on what a unit consults, which covers what may be asked of it, give the same findings.
use Rattle.std.proofs.Common.{◌≡◌, cond, List, ◌++◌, ◌∙◌, ap}
use Rattle.std.specs.Prelude.{Option, None}
use Rattle.std.specs.List.{flat_map}
use Rattle.bound_tree.specs.declared.unit.BoundTree.{BoundTree}
use Rattle.bound_tree.specs.Places.{places_of}
use Rattle.result_records.specs.declared.finding.Finding.{Finding}
use Rattle.result_records.specs.declared.finding.FindingLink.{FindingLink}
use Rattle.finding_order.specs.Numbers.{in_order}
use Rattle.views.specs.Face.{Face, Seen, face}
use Rattle.views.specs.Looks.{interfaces_in}
use Rattle.lock_findings.specs.declared.own.Own.{Own}
use Rattle.lock_findings.specs.declared.own.OwnNeed.{OwnNeed}
use Rattle.lock_findings.specs.declared.role.Role.{Role}
use Rattle.lock_findings.specs.LockFindings.{absent_findings, lock_findings, part_varies, places_findings, role_findings}
use Rattle.bound_unit.specs.Asked.{Agree, Covers, above_names, asked, part_names, place_names}
use Rattle.bound_unit.specs.Implemented.{implemented}
use Rattle.bound_unit.specs.Names.{Faces, Name, member_names}
use Rattle.bound_unit.specs.UnitFacts.{UnitFacts}
use Rattle.lock_check.specs.Judged.{findings, found, promises_of}
use Rattle.lock_check.specs.Owned.{borrowed_this, confined, is_constructor, is_static_part, link_of, own_needs, own_of}
use Rattle.lock_check.specs.Roles.{role_of}
use Rattle.lock_check.specs.SameNeeds.{Same, own_needs_same, same_first, same_left, same_rest, same_right}
use Rattle.lock_check.specs.SameRoles.{role_same}
use Rattle.lock_check.specs.SameRows.{places_same, roles_same}

-- what may be asked of a unit, by its parts
record Shown (F G : Faces) (key : Name) (tree : BoundTree) : Type 0 where
  own : F tree.class ≡ G tree.class
  interfaces : Same F G (interfaces_in (F tree.class))
  places : Same F G (flat_map (place_names F) (places_of tree))
  member : Same F G (member_names (F tree.class) key)
  aboves : Same F G (flat_map (above_names F) (implemented F key tree))

shown_of : (F G : Faces) (key : Name) (tree : BoundTree) → Same F G (asked F key tree) → Shown F G key tree
shown_of F G key tree s =
    let behind_class = same_rest F G tree.class _ s in
    let behind_interfaces = same_right F G (interfaces_in (F tree.class)) _ behind_class in
    let behind_part = same_right F G (part_names tree.part) _ behind_interfaces in
    let behind_places = same_right F G (flat_map (place_names F) (places_of tree)) _ behind_part in
    record {
      own = same_first F G tree.class _ s;
      interfaces = same_left F G (interfaces_in (F tree.class)) _ behind_class;
      places = same_left F G (flat_map (place_names F) (places_of tree)) _ behind_part;
      member = same_left F G (member_names (F tree.class) key) _ behind_places;
      aboves = same_right F G (member_names (F tree.class) key) _ behind_places;
    }

own_same : (u : UnitFacts) (v w : Seen) → v.class ≡ w.class → Shown (face v) (face w) u.key u.tree → own_of v u ≡ own_of w u
own_same u v w class s = made (own_needs_same (face v) (face w) u.tree.class u.key u.tree.standing s.own s.member) links
  where
    links : confined v u ≡ confined w u
    links =
        ap (λ (f : Option Face). cond (is_constructor u.tree.part) (link_of f v.class (borrowed_this u.key)) None) s.own
        ∙ ap (λ (c : Name). cond (is_constructor u.tree.part) (link_of (face w u.tree.class) c (borrowed_this u.key)) None) class

    with : List OwnNeed → Option FindingLink → Own
    with needs link = record { key = u.key; is_static = is_static_part u.tree.part; needs = needs; confined = link }

    made : own_needs (face v) u.tree.class u.key u.tree.standing ≡ own_needs (face w) u.tree.class u.key u.tree.standing → confined v u ≡ confined w u
        → with (own_needs (face v) u.tree.class u.key u.tree.standing) (confined v u) ≡ with (own_needs (face w) u.tree.class u.key u.tree.standing) (confined w u)
    made p q = ap (λ (ns : List OwnNeed). with ns (confined v u)) p ∙ ap (with (own_needs (face w) u.tree.class u.key u.tree.standing)) q

-- with the same promises of the unit and the same role
same_with : (F G : Faces) (own : Own) (key : Name) (tree : BoundTree) → Shown F G key tree
    → lock_findings (promises_of F) own (role_of F key tree) tree ≡ lock_findings (promises_of G) own (role_of F key tree) tree
same_with F G own key tree s =
    ap (λ (fs : List Finding). absent_findings own ++ (fs ++ places_findings (promises_of F) own tree)) (roles_same F G own key tree s.own)
    ∙ ap (λ (fs : List Finding). absent_findings own ++ (role_findings (promises_of G) own (role_of F key tree) ++ fs))
    (places_same F G own (part_varies tree.part) (places_of tree) s.places)

found_same : (u : UnitFacts) (v w : Seen) → v.class ≡ w.class → Shown (face v) (face w) u.key u.tree → found u v ≡ found u w
found_same u v w class s =
    same_with (face v) (face w) (own_of v u) u.key u.tree s
    ∙ ap (λ (own : Own). lock_findings (promises_of (face w)) own (role_of (face v) u.key u.tree) u.tree) (own_same u v w class s)
    ∙ ap (λ (r : Role). lock_findings (promises_of (face w)) (own_of w u) r u.tree) (role_same (face v) (face w) u.key u.tree s.own s.interfaces s.aboves)

pub findings_local : (u : UnitFacts) (v w : Seen) → Covers u v → Agree u.consulted v w → findings u v ≡ findings u w
unfolding findings
findings_local u v w covers agree =
    ap in_order (found_same u v w agree.0 (shown_of (face v) (face w) u.key u.tree (λ n h. agree.1 n (covers n h))))
