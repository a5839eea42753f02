-- The locks that stand in a surface.
use Rattle.std.proofs.Common.{◌≡◌, ℕ, zero, suc, ◌<◌, List, [], ◌∷◌, refl, sym, ◌∙◌, ap, subst, inl, inr, arith, Bool, true, false}
use Rattle.std.specs.Prelude.{◌≢◌, ◌⊎◌, ◌&&◌, Option, Some, None, if◌then◌else◌}
use Rattle.std.specs.List.{slice_get}
use Rattle.java_tree.specs.declared.file.ClassTree.{ClassTree}
use Rattle.java_tree.specs.declared.member.MemberTree.{MemberTree}
use Rattle.java_tree.specs.declared.member.MemberTree.TheVariants as member
use Rattle.desk_base.specs.declared.key.PromiseKey.{PromiseKey}
use Rattle.desk_base.specs.declared.key.PromiseName.TheVariants as kind
use Rattle.class_faces.specs.Faces.{field_faces}
use Rattle.class_faces.specs.Keys.{member_keys, text_of}
use Rattle.promise_grammar.specs.declared.lock.RegionLockContent.{RegionLockContent}
use Rattle.promise_grammar.specs.declared.tree.PromiseTree.{PromiseTree, out-PromiseTree}
use Rattle.promise_grammar.specs.declared.tree.PromiseTree.TheOpen.{PromiseTree-F}
use Rattle.promise_marks.specs.declared.mark.Mark.{Mark}
use Rattle.region_tree.specs.declared.decl.RegionDecl.{RegionDecl}
use Rattle.result_records.specs.declared.code.FindingCode.{FindingCode}
use Rattle.result_records.specs.declared.code.FindingCode.TheVariants as scrub
use Rattle.scrub_rules.specs.declared.offer.Offer.{Offer}
use Rattle.scrub_rules.specs.Offers.{offers_of, plain}
use Rattle.scrub_rules.specs.Place.{first_code, header_site, is_class, place_code, site_of}
use Rattle.header_scrub.specs.Fields.{fields_by}
use Rattle.header_scrub.specs.Kinds.{region_kind}
use Rattle.header_scrub.specs.Locks.{Overlap, StandsAt, fits_lock, lock_by, lock_in}
use Rattle.header_scrub.proofs.Lawful.{field_fits, regions_apart}
use Rattle.promise_scrub.specs.Members.{scoped_of}
use Rattle.promise_scrub.specs.Standing.{HasContent, HasLock, IsOneOf}
use Rattle.promise_scrub.specs.Surfaces.{Surface, UnitAnnotations, class_facts, class_locks, member_facts}
use Rattle.promise_scrub.specs.declared.surface.Standing.{Standing}
use Rattle.promise_scrub.specs.declared.surface.Surface.{Surface as Face}
use Rattle.promise_scrub.proofs.Origins.{IsGiven}
use Rattle.promise_scrub.proofs.FromUnits.{is_member, member_gives, of_header, spelled, unit_of, units_in}

-- no RegionLock stands at a member

not_class : (m : MemberTree) (place : Option ℕ) → is_class (site_of m place).kind ≡ false
not_class (member.Field f) None = refl
not_class (member.Method m) None = refl
not_class (member.Sig s) None = refl
not_class (member.Ctor c) None = refl
not_class (member.Main m) None = refl
not_class m (Some i) = refl

no_lock : (m : MemberTree) (place : Option ℕ) (t : PromiseTree) (content : RegionLockContent)
    → out-PromiseTree t ≡ PromiseTree-F.RegionLock content → first_code (site_of m place) (Some t) ≡ None → ⊥
no_lock m place t content is may =
    let here : place_code (site_of m place) (PromiseTree-F.RegionLock content) ≡ None = ap (place_code (site_of m place)) (sym is) ∙ may in
    by (is_class (site_of m place).kind) (not_class m place) here
  where
    by : (b : Bool) → b ≡ false → (if b && true then None else Some scrub.BadPlace) ≡ None → ⊥
    by true e k = absurd (cc)
    by false e k = absurd (cc)

abbrev lock_key : List ℕ → RegionLockContent → PromiseKey
lock_key class content = record { target = text_of class; name = kind.RegionLock; detail = text_of content.name }

-- where a lock that stands is written
record IsWritten (class : ClassTree) (face : Face) (s : Surface class face) (p : Standing) (content : RegionLockContent) : Type 0 where
  number : ℕ
  stands : StandsAt s.header s.codes number content
  key : p.key ≡ lock_key class.name.text content

key_is : (class : List ℕ) (content : RegionLockContent) (u : UnitAnnotations) (p : Standing) (g : IsGiven u p)
    → u.key ≡ text_of class → g.offers ≡ plain kind.RegionLock (text_of content.name) ∷ [] → p.key ≡ lock_key class content
key_is class content u p g at is = go (subst (λ (z : List Offer). IsOneOf g.offer z) is g.offered)
  where
    go : IsOneOf g.offer (plain kind.RegionLock (text_of content.name) ∷ []) → p.key ≡ lock_key class content
    go (inl e) = ap (λ (z : Standing). z.key) g.is ∙ (λ i. record { target = at i; name = (e i).name; detail = (e i).detail })
    go (inr h) = absurd h

is_written : (class : ClassTree) (face : Face) (s : Surface class face) (p : Standing) (content : RegionLockContent) → HasLock face p content → IsWritten class face s p content
is_written class face s p content h =
    let r = unit_of class face s p h.stands in
    go r.0 r.1 r.2
  where
    go : (u : UnitAnnotations) → IsOneOf u (units_in class face s) → IsGiven u p → IsWritten class face s p content
    go u (inl e) g =
        let at = class_facts class.name.text (region_kind s.regions) (class_locks class s.header s.codes) in
        let a = of_header at (header_site class.kind) s.header s.codes g.annotation (subst (λ (z : UnitAnnotations). IsOneOf g.annotation z.annotations) e g.there) in
        let w = spelled at (header_site class.kind) [] a.code a.mark.tree p.tree g.offers (sym a.content ∙ g.content) in
        record {
          number = a.number;
          stands = record {
            mark = a.mark;
            there = a.there;
            stands = a.coded ∙ ap (λ (z : Option FindingCode). Some z) w.none;
            holds = ap (lock_by None) w.some ∙ ap lock_in h.holds;
          };
          key = key_is class.name.text content u p g (ap (λ (z : UnitAnnotations). z.key) e)
              (w.offered ∙ ap (offers_of at (header_site class.kind) []) h.holds);
        }
    go u (inr later) g =
        let m = is_member class.name.text (region_kind s.regions) (class_locks class s.header s.codes) (scoped_of (header_site class.kind) s.header) (member_keys class) s.members class.members u later in
        let facts = member_facts class.name.text (region_kind s.regions) (class_locks class s.header s.codes) m.member in
        let gives = member_gives facts m.member m.marks (scoped_of (header_site class.kind) s.header) u p m.annotations g in
        absurd (no_lock m.member gives.place p.tree content h.holds gives.may)

pub lock_fits : (class : ClassTree) (face : Face) (p : Standing) (content : RegionLockContent) → Surface class face → HasLock face p content
    → fits_lock (fields_by face.fields) content.holder ≡ true
lock_fits class face p content s h =
    let w = is_written class face s p content h in
    subst (λ (f : Face). fits_lock (fields_by f.fields) content.holder ≡ true) (sym s.is)
    (field_fits (header_site class.kind) (field_faces class) s.header s.regions s.codes w.number content s.scrubbed w.stands)

order : (i j : ℕ) → (i < j) ⊎ ((i ≡ j) ⊎ (j < i))
order zero zero = inr (inl refl)
order zero (suc j) = inl (omega arith)
order (suc i) zero = inr (inr (omega arith))
order (suc i) (suc j) = elim (order i j) [ inl h ↦ inl (omega arith) | inr o ↦ elim o [ inl e ↦ inr (inl (ap suc e)) | inr h ↦ inr (inr (omega arith)) ] ]

flipped : (declared : List RegionDecl) (a b : List ℕ) → Overlap declared a b → Overlap declared b a
flipped declared a b (x, y, at_a, at_b, inl under) = (y, x, at_b, at_a, inr under)
flipped declared a b (x, y, at_a, at_b, inr under) = (y, x, at_b, at_a, inl under)

one_content : (marks : List Mark) (codes : List (Option FindingCode)) (i j : ℕ) (one other : RegionLockContent) → i ≡ j
    → StandsAt marks codes i one → StandsAt marks codes j other → one ≡ other
one_content marks codes i j one other same s t =
    let marked : Some s.mark ≡ Some t.mark = sym s.there ∙ ap (slice_get marks) same ∙ t.there in
    let mark : s.mark ≡ t.mark = cc in
    let both : Some one ≡ Some other = sym s.holds ∙ ap (λ (m : Mark). lock_by None m.tree) mark ∙ t.holds in
    cc

pub locks_apart : (class : ClassTree) (face : Face) (p q : Standing) (one other : RegionLockContent) → Surface class face → HasLock face p one → HasLock face q other
    → p.key ≢ q.key → Overlap face.regions one.region other.region → ⊥
locks_apart class face p q one other s h g differ overlaps =
    let w = is_written class face s p one h in
    let v = is_written class face s q other g in
    let here : Overlap s.regions one.region other.region = subst (λ (f : Face). Overlap f.regions one.region other.region) s.is overlaps in
    elim (order w.number v.number) [
      | inl low ↦ regions_apart (header_site class.kind) (field_faces class) s.header s.regions s.codes w.number v.number one other s.scrubbed low w.stands v.stands (flipped s.regions one.region other.region here)
      | inr o ↦ elim o [
        | inl same ↦ differ (w.key ∙ ap (lock_key class.name.text) (one_content s.header s.codes w.number v.number one other same w.stands v.stands) ∙ sym v.key)
        | inr low ↦ regions_apart (header_site class.kind) (field_faces class) s.header s.regions s.codes v.number w.number other one s.scrubbed low v.stands w.stands here
      ]
    ]
