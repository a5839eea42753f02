-- The regions of a surface and of its fields have no fault.
use Rattle.std.proofs.Common.{◌≡◌, ℕ, zero, suc, ◌+◌, ◌<◌, ◌≤◌, ◌^◌, List, [], ◌∷◌, ◌++◌, length, map, refl, sym, ◌∙◌, ap, subst, inl, inr, arith, append_assoc, length-append, Bool, true, false, cond}
use Rattle.std.specs.Prelude.{◌⊎◌, Option, Some, None, codes, option_and_then, if◌then◌else◌}
use Rattle.std.specs.List.{AllByRecursion, position_from, slice_get}
use Rattle.std.specs.Cmp.{both_ways}
use Rattle.std.specs.Str.{bytes_eq}
use Rattle.std.proofs.lemmas.List.Sums.{count_by-le-length}
use Rattle.std.proofs.lemmas.Slice.Eq.{bytes_eq-Decides}
use Rattle.java_tree.specs.declared.file.ClassTree.{ClassTree}
use Rattle.java_tree.specs.declared.member.MemberTree.{MemberTree}
use Rattle.java_tree.specs.declared.member.MemberTree.TheVariants as member
use Rattle.java_tree.specs.declared.member.Field.{Field}
use Rattle.class_faces.specs.declared.face.FieldFace.{FieldFace}
use Rattle.class_faces.specs.Faces.{field_face, field_faces, fields_of}
use Rattle.class_faces.specs.Keys.{HasNames, IsNamed, IsPlain, key_count, key_name, key_with, keys_after, member_key, slot_of, times}
use Rattle.class_faces.proofs.Counting.{times_more}
use Rattle.class_faces.proofs.KeyLaws.{header_other, key_parts, named_few, named_plain}
use Rattle.promise_marks.specs.declared.mark.Mark.{Mark}
use Rattle.region_tree.specs.declared.decl.RegionDecl.{RegionDecl}
use Rattle.region_tree.specs.declared.decl.FieldPut.{FieldPut}
use Rattle.region_tree.specs.declared.fault.RegionError.{RegionError}
use Rattle.region_tree.specs.declared.fault.RegionError.TheVariants as fault
use Rattle.region_tree.specs.Faults.{IsFault, IsPlaced}
use Rattle.region_tree.specs.Regions.{decl_kind, decl_name, kind_of, name_or_root, number_of, region_kinds, root_name}
use Rattle.scrub_rules.specs.declared.offer.Offer.{Offer}
use Rattle.scrub_rules.specs.Facts.{Facts}
use Rattle.scrub_rules.specs.Offers.{offers_of, region_offer}
use Rattle.scrub_rules.specs.Place.{header_site, site_of}
use Rattle.scrub_rules.specs.Target.{Kinds, in_region_code}
use Rattle.header_scrub.specs.Fields.{field_named}
use Rattle.header_scrub.specs.Kinds.{declared_kind, region_kind}
use Rattle.header_scrub.proofs.Lawful.{no_fault}
use Rattle.promise_scrub.specs.Members.{member_annotations, scoped_of}
use Rattle.promise_scrub.specs.Standing.{HasContent, IsInRegion, IsOneOf, IsPut}
use Rattle.promise_scrub.specs.Surfaces.{Surface, UnitAnnotations, class_locks, member_facts, member_units}
use Rattle.promise_scrub.specs.declared.member.Scoped.{Scoped}
use Rattle.promise_scrub.specs.declared.surface.Standing.{Standing}
use Rattle.promise_scrub.specs.declared.surface.Surface.{Surface as Face}
use Rattle.promise_scrub.proofs.Origins.{IsGiven}
use Rattle.promise_scrub.proofs.FromUnits.{member_gives, unit_of, units_in}

-- ---- the kind of a region by its name

-- the kind of the first of these names that passes
abbrev first_kind : (List ℕ → Bool) → List RegionDecl → Option Bool
first_kind test [] = None
first_kind test (d ∷ ds) = if test d.name then Some d.is_static else first_kind test ds

at_place : (before after : List Bool) (k : Bool) → slice_get (before ++ k ∷ after) (length before) ≡ Some k
at_place [] after k = refl
at_place (b ∷ before) after k = at_place before after k

kind_at : (test : List ℕ → Bool) (before : List Bool) (ds : List RegionDecl) (i : ℕ) → i ≡ length before
    → option_and_then (slice_get (before ++ map decl_kind ds)) (position_from test i (map decl_name ds)) ≡ first_kind test ds
kind_at test before [] i is = refl
kind_at test before (d ∷ ds) i is =
    let next : i + 1 ≡ length (before ++ d.is_static ∷ []) = omega (arith, length-append before (d.is_static ∷ [])) in
    go (test d.name)
    (ap (λ (z : List Bool). option_and_then (slice_get z) (position_from test (i + 1) (map decl_name ds))) (sym (append_assoc before (d.is_static ∷ []) (map decl_kind ds)))
    ∙ kind_at test (before ++ d.is_static ∷ []) ds (i + 1) next)
  where
    go : (b : Bool)
        → option_and_then (slice_get (before ++ d.is_static ∷ map decl_kind ds)) (position_from test (i + 1) (map decl_name ds)) ≡ first_kind test ds
        → option_and_then (slice_get (before ++ d.is_static ∷ map decl_kind ds)) (cond b (Some i) (position_from test (i + 1) (map decl_name ds)))
        ≡ (if b then Some d.is_static else first_kind test ds)
    go true rest = ap (slice_get (before ++ d.is_static ∷ map decl_kind ds)) is ∙ at_place before (map decl_kind ds) d.is_static
    go false rest = rest

declared_first : (name : List ℕ) (ds : List RegionDecl) → declared_kind ds name ≡ first_kind (λ n. bytes_eq n name) ds
declared_first name [] = refl
declared_first name (d ∷ ds) = ap (λ (z : Option Bool). if bytes_eq d.name name then Some d.is_static else z) (declared_first name ds)

-- the kind by names and that by numbers are one
same_kind : (declared : List RegionDecl) (name : List ℕ) → kind_of declared name ≡ region_kind declared name
unfolding kind_of number_of
same_kind declared name = go (bytes_eq (codes "Instance") name) (bytes_eq (codes "Static") name) (bytes_eq name (codes "Instance")) (bytes_eq name (codes "Static"))
    (turned (codes "Instance") name) (turned (codes "Static") name)
  where
    turned : (a b : List ℕ) → bytes_eq a b ≡ bytes_eq b a
    turned a b = both_ways (bytes_eq a b) (bytes_eq b a) (λ e. (bytes_eq-Decides b a).1 (sym ((bytes_eq-Decides a b).0 e))) (λ e. (bytes_eq-Decides a b).1 (sym ((bytes_eq-Decides b a).0 e)))

    found : option_and_then (slice_get (region_kinds declared)) (position_from (λ n. bytes_eq n name) 2 (map decl_name declared)) ≡ declared_kind declared name
    found = kind_at (λ n. bytes_eq n name) (false ∷ true ∷ []) declared 2 refl ∙ sym (declared_first name declared)

    go : (a b c d : Bool) → a ≡ c → b ≡ d
        → option_and_then (slice_get (region_kinds declared)) (cond a (Some 0) (cond b (Some 1) (position_from (λ n. bytes_eq n name) 2 (map decl_name declared))))
        ≡ (if c then Some false else (if d then Some true else declared_kind declared name))
    go true b true d e f = refl
    go true b false d e f = absurd (cc)
    go false b true d e f = absurd (cc)
    go false true false true e f = refl
    go false true false false e f = absurd (cc)
    go false false false true e f = absurd (cc)
    go false false false false e f = found

root_kind : (declared : List RegionDecl) (is_static : Bool) → kind_of declared (root_name is_static) ≡ Some is_static
unfolding kind_of number_of
root_kind declared false = refl
root_kind declared true = refl

-- ---- the first field of a name

-- the member of that key: the first field of the name, none before it having the name
pub record IsFirstField (class : List ℕ) (regions locks : Kinds) (scoped : List Scoped) (slots : List (List ℕ)) (ms : List MemberTree) (field : List ℕ) (u : UnitAnnotations) : Type 0 where
  pub tree : Field
  pub marks : List Mark
  pub annotations : u.annotations ≡ member_annotations (member_facts class regions locks (member.Field tree)) (member.Field tree) marks scoped
  pub first : field_named (fields_of ms) field ≡ Some (field_face tree)
  pub none : times slots field ≡ 0

key_of_field : (class : List ℕ) (m : MemberTree) (k : ℕ) (field : List ℕ) → IsPlain class → IsNamed m → IsPlain field → 0 < k → k < 2 ^ 64
    → key_with class m k ≡ member_key class field None 1 → (key_name m ≡ field) × (key_count m ≡ None) × (k ≡ 1)
key_of_field class m k field p h q low few e =
    key_parts class (key_name m) field (key_count m) None k 1 p (named_plain m h) q (named_few m h) tt low (omega arith) few (omega arith) e

apart : (b : Bool) (n : ℕ) → n + cond b 1 0 ≡ 0 → b ≡ false
apart true n e = absurd (omega arith)
apart false n e = refl

not_first : (m : MemberTree) (ms : List MemberTree) (field : List ℕ) → bytes_eq (slot_of m) field ≡ false
    → field_named (fields_of (m ∷ ms)) field ≡ field_named (fields_of ms) field
not_first (member.Field f) ms field e = ap (λ (b : Bool). cond b (Some (field_face f)) (field_named (fields_of ms) field)) e
not_first (member.Method m) ms field e = refl
not_first (member.Sig m) ms field e = refl
not_first (member.Ctor m) ms field e = refl
not_first (member.Main m) ms field e = refl

module _ (class : List ℕ) (regions locks : Kinds) (scoped : List Scoped) where
  -- the first member is the field
  here : (slots : List (List ℕ)) (m : MemberTree) (a : List Mark) (ms : List MemberTree) (field : List ℕ) (u : UnitAnnotations)
      → key_name m ≡ field → key_count m ≡ None → times slots (slot_of m) + 1 ≡ 1
      → u.annotations ≡ member_annotations (member_facts class regions locks m) m a scoped
      → IsFirstField class regions locks scoped slots (m ∷ ms) field u
  here slots (member.Field f) a ms field u name count one is =
      let none : times slots f.name.text ≡ 0 = omega arith in
      record {
        tree = f;
        marks = a;
        annotations = is;
        first = ap (λ (b : Bool). cond b (Some (field_face f)) (field_named (fields_of ms) field)) ((bytes_eq-Decides f.name.text field).1 name);
        none = ap (times slots) (sym name) ∙ none;
      }
  here slots (member.Method m) a ms field u name count one is = absurd (cc)
  here slots (member.Sig m) a ms field u name count one is = absurd (cc)
  here slots (member.Ctor m) a ms field u name count one is = absurd (cc)
  here slots (member.Main m) a ms field u name count one is = absurd (cc)

  -- a member before it isn't it
  skipped : (slots : List (List ℕ)) (m : MemberTree) (ms : List MemberTree) (field : List ℕ) → times (slots ++ slot_of m ∷ []) field ≡ 0
      → (field_named (fields_of (m ∷ ms)) field ≡ field_named (fields_of ms) field) × (times slots field ≡ 0)
  skipped slots m ms field none =
      let more : times (slots ++ slot_of m ∷ []) field ≡ times slots field + cond (bytes_eq (slot_of m) field) 1 0 = times_more slots (slot_of m) field in (
        not_first m ms field (apart (bytes_eq (slot_of m) field) (times slots field) (sym more ∙ none)),
        omega arith,
      )

  first_field : (slots : List (List ℕ)) (marks : List (List Mark)) (ms : List MemberTree) (field : List ℕ) (u : UnitAnnotations)
      → IsPlain class → AllByRecursion IsNamed ms → IsPlain field → length slots + length ms < 2 ^ 64
      → IsOneOf u (member_units class regions locks scoped (keys_after class slots ms) marks ms) → u.key ≡ member_key class field None 1
      → IsFirstField class regions locks scoped slots ms field u
  first_field slots marks [] field u p all q few h at = absurd h
  first_field slots [] (m ∷ ms) field u p all q few h at = absurd h
  first_field slots (a ∷ marks) (m ∷ ms) field u p all q few (inl e) at =
      let within : times slots (slot_of m) ≤ length slots = count_by-le-length (λ s. bytes_eq s (slot_of m)) slots in
      let parts = key_of_field class m (times slots (slot_of m) + 1) field p all.0 q (omega arith) (omega arith) (sym (ap (λ (z : UnitAnnotations). z.key) e) ∙ at) in
      here slots m a ms field u parts.0 parts.1 parts.2 (ap (λ (z : UnitAnnotations). z.annotations) e)
  first_field slots (a ∷ marks) (m ∷ ms) field u p all q few (inr later) at =
      let long : length (slots ++ slot_of m ∷ []) ≡ length slots + 1 = length-append slots (slot_of m ∷ []) in
      let r = first_field (slots ++ slot_of m ∷ []) marks ms field u p all.1 q (omega arith) later at in
      let past = skipped slots m ms field r.none in
      record { tree = r.tree; marks = r.marks; annotations = r.annotations; first = past.0 ∙ r.first; none = past.1 }

-- ---- a put

named_field : (ms : List MemberTree) (name : List ℕ) (f : FieldFace) → AllByRecursion IsNamed ms → field_named (fields_of ms) name ≡ Some f → IsPlain name
named_field [] name f all e = absurd (cc)
named_field (member.Field g ∷ ms) name f all e = go (bytes_eq g.name.text name) refl (λ k. named_field ms name f all.1 k) e
  where
    go : (b : Bool) → bytes_eq g.name.text name ≡ b → (field_named (fields_of ms) name ≡ Some f → IsPlain name)
        → cond b (Some (field_face g)) (field_named (fields_of ms) name) ≡ Some f → IsPlain name
    go true is later e = subst IsPlain ((bytes_eq-Decides g.name.text name).0 is) all.0
    go false is later e = later e
named_field (member.Method m ∷ ms) name f all e = named_field ms name f all.1 e
named_field (member.Sig m ∷ ms) name f all e = named_field ms name f all.1 e
named_field (member.Ctor m ∷ ms) name f all e = named_field ms name f all.1 e
named_field (member.Main m ∷ ms) name f all e = named_field ms name f all.1 e

in_region_none : (found : Option Bool) (is_static : Bool) → in_region_code found is_static ≡ None → found ≡ Some is_static
in_region_none None is_static e = absurd (cc)
in_region_none (Some true) true e = refl
in_region_none (Some true) false e = absurd (cc)
in_region_none (Some false) true e = absurd (cc)
in_region_none (Some false) false e = refl

region_known : (at : Facts) (region : List ℕ) (u : UnitAnnotations) (p : Standing) (g : IsGiven u p) → g.offers ≡ region_offer at region ∷ [] → at.regions region ≡ Some at.field_static
region_known at region u p g is = go (subst (λ (z : List Offer). IsOneOf g.offer z) is g.offered)
  where
    go : IsOneOf g.offer (region_offer at region ∷ []) → at.regions region ≡ Some at.field_static
    go (inl e) = in_region_none (at.regions region) at.field_static (sym (ap (λ (o : Offer). o.code) e) ∙ g.coded)
    go (inr h) = absurd h

known_region : (class : ClassTree) (face : Face) (s : Surface class face) → HasNames class → (field region : List ℕ) (f : FieldFace)
    → field_named face.fields field ≡ Some f → IsInRegion face field (Some region) → region_kind s.regions region ≡ Some f.is_static
known_region class face s names field region f first (p, h, target) =
    let r = unit_of class face s p h.stands in
    let at : r.0.key ≡ member_key class.name.text field None 1 =
    sym (ap (λ (z : Standing). z.key.target) (r.2).is) ∙ target ∙ ap (λ (z : Face). member_key z.name field None 1) s.is in
    let found : field_named (field_faces class) field ≡ Some f = sym (ap (λ (z : Face). field_named z.fields field) s.is) ∙ first in
    let plain = named_field class.members field f names.members found in
    go r.0 r.1 r.2 at found plain
  where
    go : (u : UnitAnnotations) → IsOneOf u (units_in class face s) → (g : IsGiven u p) → u.key ≡ member_key class.name.text field None 1
        → field_named (field_faces class) field ≡ Some f → IsPlain field → region_kind s.regions region ≡ Some f.is_static
    go u (inl e) g at found plain =
        absurd (header_other class.name.text field None 1 names.own plain tt (omega arith) (sym (ap (λ (z : UnitAnnotations). z.key) e) ∙ at))
    go u (inr later) g at found plain =
        let o = first_field class.name.text (region_kind s.regions) (class_locks class s.header s.codes) (scoped_of (header_site class.kind) s.header) [] s.members class.members field u
        names.own names.members plain (omega arith) later at in
        let facts = member_facts class.name.text (region_kind s.regions) (class_locks class s.header s.codes) (member.Field o.tree) in
        let gives = member_gives facts (member.Field o.tree) o.marks (scoped_of (header_site class.kind) s.header) u p o.annotations g in
        let offers : g.offers ≡ region_offer facts region ∷ [] = gives.offered ∙ ap (offers_of facts (site_of (member.Field o.tree) gives.place) gives.param) h.holds in
        let face_is : Some f ≡ Some (field_face o.tree) = sym found ∙ o.first in
        let same : f ≡ field_face o.tree = cc in
        region_known facts region u p g offers ∙ ap (λ (z : FieldFace). Some z.is_static) (sym same)

region_faults : (class : ClassTree) (face : Face) (error : RegionError) → Surface class face → IsFault face.regions [] error → error ≡ fault.OutOfMemory
region_faults class face error s f =
    no_fault (header_site class.kind) (field_faces class) s.header s.regions s.codes error s.scrubbed (subst (λ (z : Face). IsFault z.regions [] error) s.is f)

pub is_placed : (class : ClassTree) (face : Face) (put : FieldPut) → HasNames class → Surface class face → IsPut face put → IsPlaced face.regions put
is_placed class face put names s h = go put.region refl h.region
  where
    go : (o : Option (List ℕ)) → put.region ≡ o → IsInRegion face put.field o → IsPlaced face.regions put
    go None e no_region = ap (λ (z : Option (List ℕ)). kind_of face.regions (name_or_root z put.is_static)) e ∙ root_kind face.regions put.is_static
    go (Some region) e inside =
        ap (λ (z : Option (List ℕ)). kind_of face.regions (name_or_root z put.is_static)) e
        ∙ same_kind face.regions region
        ∙ ap (λ (z : Face). region_kind z.regions region) s.is
        ∙ known_region class face s names put.field region h.field h.first inside
        ∙ ap (λ (b : Bool). Some b) (sym h.kind)

all_at : {A : Type 0} (P : A → Type 0) (xs : List A) (i : ℕ) (x : A) → AllByRecursion P xs → slice_get xs i ≡ Some x → P x
all_at P [] i x all e = absurd (cc)
all_at P (y ∷ ys) zero x all e = let same : y ≡ x = cc in subst P same all.0
all_at P (y ∷ ys) (suc i) x all e = all_at P ys i x all.1 e

pub no_build_fault : (class : ClassTree) (face : Face) (puts : List FieldPut) (error : RegionError) → HasNames class → Surface class face → AllByRecursion (IsPut face) puts
    → IsFault face.regions puts error → error ≡ fault.OutOfMemory
no_build_fault class face puts (fault.Repeated name) names s all f = region_faults class face (fault.Repeated name) s f
no_build_fault class face puts (fault.UnknownParent name) names s all f = region_faults class face (fault.UnknownParent name) s f
no_build_fault class face puts (fault.Mixed name) names s all f = region_faults class face (fault.Mixed name) s f
no_build_fault class face puts (fault.Cycle name) names s all f = region_faults class face (fault.Cycle name) s f
no_build_fault class face puts (fault.FieldRegion name) names s all (good, (i, put, at, before, is, faulty)) =
    absurd (faulty (is_placed class face put names s (all_at (IsPut face) puts i put all at)))
no_build_fault class face puts fault.OutOfMemory names s all f = refl
