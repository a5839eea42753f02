-- The consulted names of a bound unit cover whatever an analysis may ask of it.
use Rattle.std.proofs.Common.{◌≡◌, sym, ap, subst, ℕ, Bool, true, false, List, [], ◌∷◌, ◌++◌, inl, inr, codes, Option, Some, None}
use Rattle.std.specs.List.{flat_map, Contains}
use Rattle.tree_places.specs.Numbers.{number_of}
use Rattle.bound_tree.specs.declared.unit.BoundTree.{BoundTree}
use Rattle.bound_tree.specs.declared.unit.Part.{Part}
use Rattle.bound_tree.specs.declared.unit.Part.TheVariants as part
use Rattle.bound_tree.specs.declared.name.ValueType.{ValueType}
use Rattle.bound_tree.specs.Places.{Place, What, Reads, Writes, Calls, Makes, Starts, Locks, Flows, InMember, InClass, member_places, part_places, places_of, places}
use Rattle.bound_tree.specs.Reading.{statement_of}
use Rattle.lowering.specs.Lower as lower
use Rattle.promise_scrub.specs.declared.surface.Surface.{Surface}
use Rattle.views.specs.Face.{Seen, face, face_of, assumptions_of, declared_or}
use Rattle.std.specs.Option.{option_map}
use Rattle.views.specs.Looks.{interfaces_in}
use Rattle.name_rules.specs.declared.note.Note.{Note}
use Rattle.name_rules.specs.declared.note.Note.TheVariants as note
use Rattle.expression_binding.specs.Laws.{IsTold}
use Rattle.bound_unit.specs.Names.{Name, Faces, member_names}
use Rattle.bound_unit.specs.Implemented.{implemented}
use Rattle.bound_unit.specs.Asked.{value_names_if, variable_names, statement_names, part_names, called_names, what_names, place_names, above_names, asked, Covers}
use Rattle.bound_unit.specs.UnitFacts.{UnitFacts}
use Rattle.unit_rules.specs.Consulted.{told_names, all_names, consulted}
use Rattle.unit_rules.specs.Shown.{type_shown, types_shown}
use Rattle.binder.specs.Trees.{PlainTree, part_as, tree_as}
use Rattle.binder.specs.Units.{bound_under, tokens_in}
use Rattle.binding_laws.specs.Laws.{DeclaresNoString, BindingCovers}
use Rattle.binding_laws.proofs.Covered.{IsCalled, IsOwnOrTold, IsCovered, Each}
use Rattle.binding_laws.proofs.EachStatement.{Every, every-both, every-front, every-back, value-every, statement-every, statement-places, under-places}
use Rattle.binding_laws.proofs.InOrder.{every-contains, in-order}
use Rattle.binding_laws.proofs.CoveredUnit.{ResultEach, PartEach, TreeEach, bound-covers}

-- ---- String

-- it is shown, and as no declared type
pub no-string : (seen : Seen) → DeclaresNoString seen → types_shown (face seen) (codes "String") ≡ None
unfolding face
no-string seen none =
    ap (λ (s : Option Surface). type_shown (option_map (face_of (assumptions_of seen) seen.class) (declared_or s (codes "String")))) none

-- ---- what is told is among the names

module _ (N : Name → Type 0) (faces : Faces) where
  pub told-named : (notes : List Note) → Every N (flat_map (told_names faces) notes) → (c : Name) → IsTold notes c → N c
  told-named [] h c k = absurd k
  told-named (note.Names d ∷ notes) h c (inl e) = subst N (sym e) h.0
  told-named (note.Names d ∷ notes) h c (inr k) = told-named notes h.1 c k
  told-named (note.Finding found at ∷ notes) h c k = told-named notes h c k
  told-named (note.Calls d name count ∷ notes) h c k =
      told-named notes (every-back N (called_names faces d name count) (flat_map (told_names faces) notes) h) c k

  called-named : (notes : List Note) → Every N (flat_map (told_names faces) notes) → (c name : Name) (n : ℕ) → IsCalled notes c name n → Every N (called_names faces c name n)
  called-named [] h c name n k = absurd k
  called-named (note.Names d ∷ notes) h c name n k = called-named notes h.1 c name n k
  called-named (note.Finding found at ∷ notes) h c name n k = called-named notes h c name n k
  called-named (note.Calls d other count ∷ notes) h c name n (inl e) =
      subst (λ (x : Name). Every N (called_names faces x name n)) (sym e.0)
      (subst (λ (x : Name). Every N (called_names faces d x n)) (sym e.1)
      (subst (λ (k : ℕ). Every N (called_names faces d other k)) (sym e.2) (every-front N (called_names faces d other count) (flat_map (told_names faces) notes) h)))
  called-named (note.Calls d other count ∷ notes) h c name n (inr k) =
      called-named notes (every-back N (called_names faces d other count) (flat_map (told_names faces) notes) h) c name n k

  module _ (class : Name) (own : N class) (notes : List Note) (told : Every N (flat_map (told_names faces) notes)) where
    own-or-told : (c : Name) → IsOwnOrTold class notes c → N c
    own-or-told c (inl e) = subst N (sym e) own
    own-or-told c (inr k) = told-named notes told c k

    what-named : (w : What) → IsCovered class notes w → Every N (what_names faces w)
    what-named (Reads f owner) h = (own-or-told f.class h, tt)
    what-named (Writes f owner) h = (own-or-told f.class h, tt)
    what-named (Calls m owner es) h = called-named notes told m.class m.name (lower.count es) h
    what-named (Makes c es) h = called-named notes told c (codes "new") (lower.count es) h
    what-named (Starts e) h = tt
    what-named (Locks e) h = tt
    what-named (Flows e goal) h = tt

    places-named : (ps : List Place) → Each (IsCovered class notes) ps → Every N (flat_map (place_names faces) ps)
    places-named [] h = tt
    places-named (p ∷ ps) h = every-both N (place_names faces p) (flat_map (place_names faces) ps) (what-named p.what h.0) (places-named ps h.1)

-- ---- the parts of a tree

result-every : (N : Name → Type 0) (r : Option ValueType) → ResultEach N r → Every N (value_names_if r)
result-every N None h = tt
result-every N (Some ty) h = value-every N ty h

part-every : (P : What → Type 0) (N : Name → Type 0) (x : Part) → PartEach P N (part_as x) → Every N (part_names x)
part-every P N (part.Header words) h = h
part-every P N (part.Field ty initial) h = value-every N ty h
part-every P N (part.Sig params result) h = every-both N (flat_map variable_names params) (value_names_if result) h.0 (result-every N result h.1)
part-every P N (part.Body b) h =
    every-both N (flat_map variable_names b.params) _ h.0
    (every-both N (value_names_if b.result) (statement_names (statement_of b.block)) (result-every N b.result h.1) (statement-every P N (statement_of b.block) h.2))

around-places : (P : What → Type 0) (c : Name) (synchronized static : Bool) (ps : List Place) → Each P ps → Each P (member_places c synchronized static ps)
around-places P c false static ps h = h
around-places P c true false ps h = under-places P InMember ps h
around-places P c true true ps h = under-places P (InClass c) ps h

part-places : (class : Name) (notes : List Note) (x : Part) → PartEach (IsCovered class notes) (IsTold notes) (part_as x) → Each (IsCovered class notes) (part_places class x)
part-places class notes (part.Header words) h = tt
part-places class notes (part.Field ty initial) h = tt
part-places class notes (part.Sig params result) h = tt
part-places class notes (part.Body b) h =
    around-places (IsCovered class notes) class b.is_synchronized b.is_static (places (statement_of b.block))
    (statement-places (IsCovered class notes) (IsTold notes) (λ e g. tt) (λ e. tt) (λ e. tt) (λ f o k. k) (statement_of b.block) h.2)

-- ---- all that is asked

every-told : (N : Name → Type 0) (faces : Faces) (notes : List Note) → Every N (flat_map (told_names faces) notes) → (ns : List Name) → Every (IsTold notes) ns → Every N ns
every-told N faces notes told [] h = tt
every-told N faces notes told (n ∷ ns) h = (told-named N faces notes told n h.0, every-told N faces notes told ns h.1)

asked-every : (N : Name → Type 0) (faces : Faces) (key : List ℕ) (tree : BoundTree) (notes : List Note) → TreeEach notes (tree_as tree)
    → Every N (all_names faces key tree notes) → Every N (asked faces key tree)
asked-every N faces key tree notes each all =
    let shown = interfaces_in (faces tree.class) in
    let told = flat_map (told_names faces) notes in
    let behind = member_names (faces tree.class) key ++ flat_map (above_names faces) (implemented faces key tree) in
    let later = every-back N shown (told ++ behind) all.1 in
    let tells = every-front N told behind later in (
      all.0,
      every-both N shown _ (every-front N shown (told ++ behind) all.1)
          (every-both N (part_names tree.part) _
          (every-told N faces notes tells (part_names tree.part) (part-every (IsCovered tree.class notes) (IsTold notes) tree.part each))
          (every-both N (flat_map (place_names faces) (places_of tree)) behind
          (places-named N faces tree.class all.0 notes tells (places_of tree) (part-places tree.class notes tree.part each))
          (every-back N told behind later))),
    )

-- ---- bound units

pub binding-covers : BindingCovers
binding-covers class m key seen u none bound =
    let made_of = bound.is in
    let b = bound_under class m key seen bound.marks in
    let each : TreeEach b.notes (tree_as u.tree) =
    subst (λ (t : PlainTree). TreeEach b.notes t) (sym made_of.tree) (bound-covers (face seen) (number_of (tokens_in class m)) class m key bound.marks (no-string seen none)) in
    let told = consulted (face seen) key u.tree b.notes in
    let every = asked-every (Contains told) (face seen) key u.tree b.notes each (in-order (all_names (face seen) key u.tree b.notes)) in
    subst (λ (x : UnitFacts). Covers x seen) (sym made_of.is) (λ n at. every-contains (Contains told) (asked (face seen) key u.tree) n every at)
