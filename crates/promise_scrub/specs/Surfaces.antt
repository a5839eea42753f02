-- Surface: what a class says to the others, from its tree alone.
use Rattle.std.specs.Prelude.{◌≡◌, ℕ, Bool, true, false, List, [], ◌∷◌, ◌++◌, Option, Some, None, map, codes, if◌then◌else◌}
use Rattle.std.specs.List.{flat_map}
use Rattle.java_tree.specs.declared.file.ClassTree.{ClassTree}
use Rattle.java_tree.specs.declared.member.MemberTree.{MemberTree}
use Rattle.java_tree.specs.declared.token.Lexeme.{Lexeme}
use Rattle.desk_base.specs.declared.key.PromiseKey.{PromiseKey}
use Rattle.promise_grammar.specs.declared.member.MemberContent.{MemberContent}
use Rattle.promise_grammar.specs.declared.member.MemberName.{MemberName}
use Rattle.promise_grammar.specs.declared.member.MemberName.TheVariants as member_of
use Rattle.promise_grammar.specs.declared.tree.PromiseTree.{PromiseTree, out-PromiseTree}
use Rattle.promise_grammar.specs.declared.tree.PromiseTree.TheOpen.{PromiseTree-F}
use Rattle.class_faces.specs.Keys.{text_of, member_key, member_keys, counted}
use Rattle.class_faces.specs.Faces.{field_faces, member_faces, named_params}
use Rattle.promise_marks.specs.declared.mark.Mark.{Mark}
use Rattle.promise_marks.specs.Given.{by_header, by_member}
use Rattle.promise_marks.specs.Marks.{AreMarks}
use Rattle.region_tree.specs.declared.decl.RegionDecl.{RegionDecl}
use Rattle.result_records.specs.declared.code.FindingCode.{FindingCode}
use Rattle.scrub_rules.specs.declared.offer.Offer.{Offer}
use Rattle.scrub_rules.specs.declared.place.SiteKind.{SiteKind}
use Rattle.scrub_rules.specs.declared.place.SiteKind.TheVariants as at
use Rattle.scrub_rules.specs.declared.place.TypeSort.TheVariants as sort
use Rattle.scrub_rules.specs.declared.place.Site.{Site}
use Rattle.scrub_rules.specs.Facts.{Facts}
use Rattle.scrub_rules.specs.Offers.{offers_of, flat}
use Rattle.scrub_rules.specs.Place.{header_site}
use Rattle.scrub_rules.specs.Target.{Kinds}
use Rattle.header_scrub.specs.Fields.{fields_by}
use Rattle.header_scrub.specs.Header.{Header}
use Rattle.header_scrub.specs.Kinds.{region_kind, lock_kind}
use Rattle.header_scrub.specs.Locks.{locks_in}
use Rattle.promise_scrub.specs.Members.{field_static, header_annotations, member_annotations, scoped_of}
use Rattle.promise_scrub.specs.Verdicts.{Annotation, asides, judged, standings, vouched}
use Rattle.promise_scrub.specs.declared.member.Scoped.{Scoped}
use Rattle.promise_scrub.specs.declared.surface.Aside.{Aside}
use Rattle.promise_scrub.specs.declared.surface.Assumption.{Assumption}
use Rattle.promise_scrub.specs.declared.surface.Standing.{Standing}
use Rattle.promise_scrub.specs.declared.surface.Surface.{Surface as Face}

-- ---- assumptions

-- the member that an assumption names
abbrev pub member_name : MemberName → List ℕ
member_name (member_of.Named name) = name
member_name member_of.New = codes "new"

abbrev pub assumed_site : MemberName → SiteKind
assumed_site (member_of.Named name) = at.Method
assumed_site member_of.New = at.Ctor

abbrev pub member_text : MemberContent → List ℕ
member_text m = counted (member_name m.name) m.count

abbrev pub shown_member : MemberContent → List ℕ
shown_member m = text_of (member_text m)

-- the key of an assumed promise, at the first member of that name and number of parameters
abbrev pub assumed_key : MemberContent → Offer → PromiseKey
assumed_key m offer = record { target = member_key m.class (member_name m.name) (Some m.count) 1; name = offer.name; detail = offer.detail }

-- an assumed promise, under the key that it has at the member
abbrev pub assumption_with : MemberContent → Offer → Option PromiseTree → List Assumption
assumption_with m offer None = []
assumption_with m offer (Some tree) = record {
  class = m.class;
  member = shown_member m;
  key = assumed_key m offer;
  tree = tree;
} ∷ []

-- where the member is, as far as the promise that is assumed tells
abbrev pub assumed_at : MemberName → Site
assumed_at name = record { kind = assumed_site name; sort = sort.Nothing; has_this = true }

abbrev pub assumptions_for : Facts → MemberContent → PromiseTree → List Assumption
assumptions_for at m inner =
    flat_map (λ offer. assumption_with m offer (flat inner)) (offers_of at (assumed_at m.name) [] (out-PromiseTree inner))

abbrev pub assumptions_in : Facts → PromiseTree-F PromiseTree → List Assumption
assumptions_in at (PromiseTree-F.Assume inner member) = assumptions_for at member inner
assumptions_in at _ = []

abbrev pub assumptions_by : Facts → Option FindingCode → Option PromiseTree → List Assumption
assumptions_by at None (Some tree) = assumptions_in at (out-PromiseTree tree)
assumptions_by at _ _ = []

-- the assumptions of a header that stand, in written order
abbrev pub assumptions_of : Facts → List Mark → List (Option FindingCode) → List Assumption
assumptions_of at [] codes = []
assumptions_of at (m ∷ ms) [] = []
assumptions_of at (m ∷ ms) (c ∷ cs) = assumptions_by at c m.tree ++ assumptions_of at ms cs

-- ---- units

-- A unit: its key and its annotations, the written ones first, then those that are spread to it.
pub record UnitAnnotations : Type 0 where
  pub key : List ℕ
  pub annotations : List Annotation

abbrev pub standing_at : UnitAnnotations → List Standing
standing_at u = standings u.key (judged u.annotations)

abbrev pub aside_at : UnitAnnotations → List Aside
aside_at u = asides u.key 0 (judged u.annotations)

abbrev pub vouched_at : UnitAnnotations → List (List ℕ)
vouched_at u = if vouched (judged u.annotations) then u.key ∷ [] else []

-- what promises of the class and of its members are judged in
abbrev pub class_facts : List ℕ → Kinds → Kinds → Facts
class_facts class regions locks = record { class = class; regions = regions; locks = locks; field_static = false; params = [] }

abbrev pub member_facts : List ℕ → Kinds → Kinds → MemberTree → Facts
member_facts class regions locks m = record {
  class = class;
  regions = regions;
  locks = locks;
  field_static = field_static m;
  params = named_params m;
}

-- the annotations of each member
abbrev pub AreMemberMarks : List MemberTree → List (List Mark) → Type 0
AreMemberMarks [] [] = Unit {0}
AreMemberMarks (m ∷ ms) (marks ∷ rest) = AreMarks (by_member m) marks × AreMemberMarks ms rest
AreMemberMarks _ _ = ⊥

-- the members, each under its key with its own annotations and what is spread to it
abbrev pub member_units : List ℕ → Kinds → Kinds → List Scoped → List (List ℕ) → List (List Mark) → List MemberTree → List UnitAnnotations
member_units class regions locks scoped keys marks [] = []
member_units class regions locks scoped [] marks (m ∷ ms) = []
member_units class regions locks scoped (k ∷ ks) [] (m ∷ ms) = []
member_units class regions locks scoped (k ∷ ks) (a ∷ rest) (m ∷ ms) =
    record { key = k; annotations = member_annotations (member_facts class regions locks m) m a scoped }
    ∷ member_units class regions locks scoped ks rest ms

abbrev pub header_unit_in : ClassTree → Facts → List Mark → List (Option FindingCode) → UnitAnnotations
header_unit_in class at header codes = record {
  key = text_of class.name.text;
  annotations = header_annotations at (header_site class.kind) header codes;
}

-- the units of a class: the header, then the members in written order
abbrev pub units_of : ClassTree → List Mark → List (List Mark) → Kinds → Kinds → List (Option FindingCode) → List UnitAnnotations
units_of class header members regions locks codes =
    header_unit_in class (class_facts class.name.text regions locks) header codes
    ∷ member_units class.name.text regions locks (scoped_of (header_site class.kind) header) (member_keys class) members class.members

-- ---- the surface

abbrev pub names_of : List Lexeme → List (List ℕ)
names_of words = map (λ w. w.text) words

-- the surface of a class with these regions, units and assumptions
abbrev pub face_by : ClassTree → List RegionDecl → List UnitAnnotations → List Assumption → Face
face_by class regions units assumptions = record {
  kind = class.kind;
  name = class.name.text;
  implements = names_of class.implements;
  fields = field_faces class;
  members = member_faces class;
  regions = regions;
  standing = flat_map standing_at units;
  aside = flat_map aside_at units;
  assumptions = assumptions;
  vouched = flat_map vouched_at units;
}

-- by its annotations, the regions and locks that stand, and the header's codes
abbrev pub face_with : ClassTree → List Mark → List (List Mark) → List RegionDecl → Kinds → Kinds → List (Option FindingCode) → Face
face_with class header members regions region_kinds lock_kinds codes =
    face_by class regions (units_of class header members region_kinds lock_kinds codes)
    (assumptions_of (class_facts class.name.text region_kinds lock_kinds) header codes)

-- the locks that stand, of a class whose header has these annotations and codes
abbrev pub class_locks : ClassTree → List Mark → List (Option FindingCode) → Kinds
class_locks class header codes = lock_kind (locks_in (fields_by (field_faces class)) header codes)

-- Surface: the annotations are read from the class's tree, those of the header are scrubbed, and the
-- promises of all units are judged.
pub record Surface (class : ClassTree) (face : Face) : Type 0 where
  pub header : List Mark
  pub header_read : AreMarks (by_header class) header
  pub members : List (List Mark)
  pub members_read : AreMemberMarks class.members members
  pub regions : List RegionDecl
  pub codes : List (Option FindingCode)
  pub scrubbed : Header (header_site class.kind) (field_faces class) header regions codes
  pub is : face ≡ face_with class header members regions (region_kind regions) (class_locks class header codes) codes
