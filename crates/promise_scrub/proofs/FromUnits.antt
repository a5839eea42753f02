-- The units that promises of a surface stand at, and the annotations that give them.
use Rattle.std.proofs.Common.{◌≡◌, ℕ, suc, List, [], ◌∷◌, ◌++◌, map, refl, sym, ◌∙◌, ap, subst, inl, inr, Bool, true, false}
use Rattle.std.specs.Prelude.{◌⊎◌, Option, Some, None, if◌then◌else◌}
use Rattle.std.specs.List.{flat_map, slice_get}
use Rattle.java_tree.specs.declared.file.ClassTree.{ClassTree}
use Rattle.java_tree.specs.declared.member.MemberTree.{MemberTree}
use Rattle.promise_grammar.specs.Kind.{name_of}
use Rattle.promise_grammar.specs.declared.tree.PromiseTree.{PromiseTree, out-PromiseTree}
use Rattle.promise_marks.specs.declared.mark.Mark.{Mark}
use Rattle.result_records.specs.declared.code.FindingCode.{FindingCode}
use Rattle.scrub_rules.specs.declared.offer.Offer.{Offer}
use Rattle.scrub_rules.specs.declared.place.Site.{Site}
use Rattle.scrub_rules.specs.Facts.{Facts}
use Rattle.scrub_rules.specs.Offers.{offers_of, param_name}
use Rattle.scrub_rules.specs.Place.{first_code, place_code, site_of}
use Rattle.scrub_rules.specs.Scope.{selects}
use Rattle.scrub_rules.specs.Target.{Kinds}
use Rattle.class_faces.specs.Keys.{member_keys}
use Rattle.header_scrub.specs.Kinds.{region_kind}
use Rattle.promise_scrub.specs.Members.{annotation_by, content_by, header_annotations, member_annotations, spread_to, tree_name, written}
use Rattle.promise_scrub.specs.Standing.{IsOneOf}
use Rattle.promise_scrub.specs.Surfaces.{Surface, UnitAnnotations, class_locks, member_facts, member_units, standing_at, units_of}
use Rattle.promise_scrub.specs.Verdicts.{Annotation, Bad, Content, Gives}
use Rattle.promise_scrub.specs.declared.member.Scoped.{Scoped}
use Rattle.promise_scrub.specs.declared.surface.Standing.{Standing}
use Rattle.promise_scrub.specs.declared.surface.Surface.{Surface as Face}
use Rattle.promise_scrub.proofs.Origins.{IsGiven, is_given, one_flat, one_split}

-- ---- contents

-- a content that gives promises has no code
pub record Spelled (at : Facts) (site : Site) (param : List ℕ) (code : Option FindingCode) (tree : Option PromiseTree) (t : PromiseTree) (offers : List Offer) : Type 0 where
  pub none : code ≡ None
  pub some : tree ≡ Some t
  pub offered : offers ≡ offers_of at site param (out-PromiseTree t)

pub spelled : (at : Facts) (site : Site) (param : List ℕ) (code : Option FindingCode) (tree : Option PromiseTree) (t : PromiseTree) (offers : List Offer)
    → content_by at site param code tree ≡ Gives t offers → Spelled at site param code tree t offers
spelled at site param (Some c) tree t offers e = absurd (cc)
spelled at site param None None t offers e = absurd (cc)
spelled at site param None (Some u) t offers e =
    let same : u ≡ t = cc in
    let os : offers_of at site param (out-PromiseTree u) ≡ offers = cc in
    record {
      none = refl;
      some = ap (λ (z : PromiseTree). Some z) same;
      offered = sym os ∙ ap (λ (z : PromiseTree). offers_of at site param (out-PromiseTree z)) same;
    }

-- ---- annotations

one_map : {A B : Type 0} (f : A → B) (y : B) (xs : List A) → IsOneOf y (map f xs) → (x : A) × (y ≡ f x)
one_map f y [] h = absurd h
one_map f y (x ∷ xs) (inl e) = (x, e)
one_map f y (x ∷ xs) (inr h) = one_map f y xs h

-- an annotation of a member, by where it stands there
pub record OfMember (at : Facts) (m : MemberTree) (a : Annotation) : Type 0 where
  pub place : Option ℕ
  pub param : List ℕ
  pub tree : Option PromiseTree
  pub content : a.content ≡ content_by at (site_of m place) param (first_code (site_of m place) tree) tree

spread_of : (at : Facts) (m : MemberTree) (s : Scoped) (a : Annotation) → IsOneOf a (spread_to at m s) → OfMember at m a
spread_of at m s a h = go (selects s.scope m) h
  where
    go : (b : Bool)
        → IsOneOf a (if b then annotation_by at (site_of m None) [] true (tree_name (out-PromiseTree s.inner)) (place_code (site_of m None) (out-PromiseTree s.inner)) (Some s.inner) ∷ [] else [])
        → OfMember at m a
    go true (inl e) = record { place = None; param = []; tree = Some s.inner; content = ap (λ (z : Annotation). z.content) e }
    go true (inr h) = absurd h
    go false h = absurd h

pub of_member : (at : Facts) (m : MemberTree) (marks : List Mark) (scoped : List Scoped) (a : Annotation) → IsOneOf a (member_annotations at m marks scoped) → OfMember at m a
of_member at m marks scoped a h = elim (one_split a (map (written at m) marks) (flat_map (spread_to at m) scoped) h) [
  | inl w ↦ (let r = one_map (written at m) a marks w in record {
    place = (r.0).param;
    param = param_name m (r.0).param;
    tree = (r.0).tree;
    content = ap (λ (z : Annotation). z.content) r.1;
  })
  | inr s ↦ (let r = one_flat (spread_to at m) a scoped s in spread_of at m r.0 a r.2)
]

-- an annotation of the header, by its number and code
pub record OfHeader (at : Facts) (site : Site) (marks : List Mark) (codes : List (Option FindingCode)) (a : Annotation) : Type 0 where
  pub number : ℕ
  pub mark : Mark
  pub code : Option FindingCode
  pub there : slice_get marks number ≡ Some mark
  pub coded : slice_get codes number ≡ Some code
  pub content : a.content ≡ content_by at site [] code mark.tree

pub of_header : (at : Facts) (site : Site) (marks : List Mark) (codes : List (Option FindingCode)) (a : Annotation)
    → IsOneOf a (header_annotations at site marks codes) → OfHeader at site marks codes a
of_header at site [] codes a h = absurd h
of_header at site (m ∷ ms) [] a h = absurd h
of_header at site (m ∷ ms) (c ∷ cs) a (inl e) = record {
  number = 0;
  mark = m;
  code = c;
  there = refl;
  coded = refl;
  content = ap (λ (z : Annotation). z.content) e;
}
of_header at site (m ∷ ms) (c ∷ cs) a (inr h) =
    let r = of_header at site ms cs a h in
    record { number = suc r.number; mark = r.mark; code = r.code; there = r.there; coded = r.coded; content = r.content }

-- ---- units

-- the units of a class by its surface
abbrev pub units_in : (class : ClassTree) (face : Face) → Surface class face → List UnitAnnotations
units_in class face s = units_of class s.header s.members (region_kind s.regions) (class_locks class s.header s.codes) s.codes

pub unit_of : (class : ClassTree) (face : Face) (s : Surface class face) (p : Standing) → IsOneOf p face.standing
    → (u : UnitAnnotations) × IsOneOf u (units_in class face s) × IsGiven u p
unit_of class face s p h =
    let r = one_flat standing_at p (units_in class face s) (subst (λ (f : Face). IsOneOf p f.standing) s.is h) in
    (r.0, r.1, is_given r.0 p r.2)

-- a unit that is a member
pub record IsMember (class : List ℕ) (regions locks : Kinds) (scoped : List Scoped) (u : UnitAnnotations) : Type 0 where
  pub member : MemberTree
  pub marks : List Mark
  pub annotations : u.annotations ≡ member_annotations (member_facts class regions locks member) member marks scoped

pub is_member : (class : List ℕ) (regions locks : Kinds) (scoped : List Scoped) (ks : List (List ℕ)) (marks : List (List Mark)) (ms : List MemberTree) (u : UnitAnnotations)
    → IsOneOf u (member_units class regions locks scoped ks marks ms) → IsMember class regions locks scoped u
is_member class regions locks scoped ks marks [] u h = absurd h
is_member class regions locks scoped [] marks (m ∷ ms) u h = absurd h
is_member class regions locks scoped (k ∷ ks) [] (m ∷ ms) u h = absurd h
is_member class regions locks scoped (k ∷ ks) (a ∷ marks) (m ∷ ms) u (inl e) = record { member = m; marks = a; annotations = ap (λ (z : UnitAnnotations). z.annotations) e }
is_member class regions locks scoped (k ∷ ks) (a ∷ marks) (m ∷ ms) u (inr h) = is_member class regions locks scoped ks marks ms u h

-- an annotation of a member that gives a promise, by where it stands
pub record MemberGives (at : Facts) (m : MemberTree) (p : Standing) (offers : List Offer) : Type 0 where
  pub place : Option ℕ
  pub param : List ℕ
  pub may : first_code (site_of m place) (Some p.tree) ≡ None
  pub offered : offers ≡ offers_of at (site_of m place) param (out-PromiseTree p.tree)

pub member_gives : (at : Facts) (m : MemberTree) (marks : List Mark) (scoped : List Scoped) (u : UnitAnnotations) (p : Standing)
    → u.annotations ≡ member_annotations at m marks scoped → (g : IsGiven u p) → MemberGives at m p g.offers
member_gives at m marks scoped u p is g =
    let a = of_member at m marks scoped g.annotation (subst (λ (z : List Annotation). IsOneOf g.annotation z) is g.there) in
    let w = spelled at (site_of m a.place) a.param (first_code (site_of m a.place) a.tree) a.tree p.tree g.offers (sym a.content ∙ g.content) in
    record {
      place = a.place;
      param = a.param;
      may = ap (first_code (site_of m a.place)) (sym w.some) ∙ w.none;
      offered = w.offered;
    }
