-- A class has one surface.
use Rattle.std.proofs.Common.{◌≡◌, ℕ, zero, suc, ◌+◌, ◌<◌, List, [], ◌∷◌, ◌++◌, length, take, refl, sym, ◌∙◌, ap, subst, arith}
use Rattle.std.specs.Prelude.{Option, Some, None}
use Rattle.std.specs.List.{slice_get}
use Rattle.java_tree.specs.declared.file.ClassTree.{ClassTree}
use Rattle.java_tree.specs.declared.member.MemberTree.{MemberTree}
use Rattle.class_faces.specs.declared.face.FieldFace.{FieldFace}
use Rattle.class_faces.specs.Faces.{field_faces}
use Rattle.promise_grammar.specs.declared.kind.PromiseKind.{PromiseKind}
use Rattle.promise_grammar.specs.declared.lock.RegionLockContent.{RegionLockContent}
use Rattle.promise_grammar.specs.declared.tree.PromiseTree.{PromiseTree}
use Rattle.promise_marks.specs.declared.mark.Mark.{Mark}
use Rattle.promise_marks.specs.Given.{Given, by_header, by_member}
use Rattle.promise_marks.specs.Marks.{AreMarks, IsMark, IsTree}
use Rattle.region_tree.specs.declared.decl.RegionDecl.{RegionDecl}
use Rattle.region_scrub.specs.declared.fault.RegionFault.{RegionFault}
use Rattle.region_scrub.specs.Clearing.{left}
use Rattle.region_scrub.proofs.OneWay.{clears_same}
use Rattle.result_records.specs.declared.code.FindingCode.{FindingCode}
use Rattle.scrub_rules.specs.declared.place.Site.{Site}
use Rattle.scrub_rules.specs.Place.{header_site}
use Rattle.scrub_rules.specs.Target.{Kinds}
use Rattle.header_scrub.specs.declared.lock.Lock.{Lock}
use Rattle.header_scrub.specs.Fields.{Fields, fields_by}
use Rattle.header_scrub.specs.Header.{Header}
use Rattle.header_scrub.specs.Kinds.{region_kind}
use Rattle.header_scrub.specs.Locks.{AreLockCodes, IsCodeAfter, IsLateCode, code_at, early_code, lock_by, locks_in}
use Rattle.header_scrub.specs.Regions.{codes_with, decls_of, RegionsScrubbed}
use Rattle.promise_scrub.specs.declared.surface.Surface.{Surface as Face}
use Rattle.promise_scrub.specs.Surfaces.{AreMemberMarks, Surface, class_locks, face_with}

-- ---- the annotations

tree_same : (k : PromiseKind) (c : Option (List ℕ)) (t u : Option PromiseTree) → IsTree k c t → IsTree k c u → t ≡ u
tree_same k None t u a b = a ∙ sym b
tree_same k (Some c) None None a b = refl
tree_same k (Some c) None (Some u) a b = absurd (a u b.0)
tree_same k (Some c) (Some t) None a b = absurd (b t a.0)
tree_same k (Some c) (Some t) (Some u) a b = ap (λ (x : PromiseTree). Some x) (b.1 t a.0)

mark_same : (g : Given) (m n : Mark) → IsMark g m → IsMark g n → m ≡ n
mark_same g m n a b =
    let p : m.param ≡ n.param = a.param ∙ sym b.param in
    let k : m.kind ≡ n.kind = a.kind ∙ sym b.kind in
    let t : m.tree ≡ n.tree = tree_same g.kind g.content m.tree n.tree a.tree b.tree in
    λ i. record { param = p i; kind = k i; tree = t i }

marks_same : (gs : List Given) (ms ns : List Mark) → AreMarks gs ms → AreMarks gs ns → ms ≡ ns
marks_same [] [] [] a b = refl
marks_same [] [] (n ∷ ns) a b = absurd b
marks_same [] (m ∷ ms) ns a b = absurd a
marks_same (g ∷ gs) [] ns a b = absurd a
marks_same (g ∷ gs) (m ∷ ms) [] a b = absurd b
marks_same (g ∷ gs) (m ∷ ms) (n ∷ ns) a b =
    let h : m ≡ n = mark_same g m n a.0 b.0 in
    let t : ms ≡ ns = marks_same gs ms ns a.1 b.1 in
    λ i. h i ∷ t i

member_marks_same : (ts : List MemberTree) (ms ns : List (List Mark)) → AreMemberMarks ts ms → AreMemberMarks ts ns → ms ≡ ns
member_marks_same [] [] [] a b = refl
member_marks_same [] [] (n ∷ ns) a b = absurd b
member_marks_same [] (m ∷ ms) ns a b = absurd a
member_marks_same (t ∷ ts) [] ns a b = absurd a
member_marks_same (t ∷ ts) (m ∷ ms) [] a b = absurd b
member_marks_same (t ∷ ts) (m ∷ ms) (n ∷ ns) a b =
    let h : m ≡ n = marks_same (by_member t) m n a.0 b.0 in
    let r : ms ≡ ns = member_marks_same ts ms ns a.1 b.1 in
    λ i. h i ∷ r i

-- ---- the regions

abbrev Both : List RegionDecl → List RegionDecl → List (Option FindingCode) → List (Option FindingCode) → Type 0
Both one other after after' = (one ≡ other) × (after ≡ after')

scrubs_same : (site : Site) (marks : List Mark) (one other : List RegionDecl) (after after' : List (Option FindingCode))
    → RegionsScrubbed site marks one after → RegionsScrubbed site marks other after' → Both one other after after'
scrubs_same site marks one other after after' a b =
    let same : a.aside ≡ b.aside = clears_same a.clears.0 b.clears.0 (decls_of site marks) _ a.aside b.aside a.clears.1 b.clears.1 in
    (a.are_left ∙ ap (left (decls_of site marks)) same ∙ sym b.are_left, a.coded ∙ ap (codes_with site marks) same ∙ sym b.coded)

-- ---- the locks

late_same : (declared : List RegionDecl) (locks : List Lock) (content : RegionLockContent) (early a b : Option FindingCode)
    → IsLateCode declared locks content early a → IsLateCode declared locks content early b → a ≡ b
late_same declared locks content (Some e) a b f g = f ∙ sym g
late_same declared locks content None (Some x) (Some y) f g = ap (λ (c : FindingCode). Some c) (f.0 ∙ sym g.0)
late_same declared locks content None (Some x) None f g = absurd (g f.1)
late_same declared locks content None None (Some y) f g = absurd (f g.1)
late_same declared locks content None None None f g = refl

code_same : (declared : List RegionDecl) (kinds : Kinds) (fields : Fields) (locks : List Lock) (before : Option FindingCode) (o : Option RegionLockContent) (a b : Option FindingCode)
    → IsCodeAfter declared kinds fields locks before o a → IsCodeAfter declared kinds fields locks before o b → a ≡ b
code_same declared kinds fields locks before None a b f g = f ∙ sym g
code_same declared kinds fields locks before (Some content) a b f g = late_same declared locks content (early_code kinds fields locks content) a b f g

-- lists of one length whose elements are equal as far as those before them are
prefixes : {A : Type 0} (xs ys : List A) → length xs ≡ length ys
    → ((i : ℕ) (x y : A) → take i xs ≡ take i ys → slice_get xs i ≡ Some x → slice_get ys i ≡ Some y → x ≡ y) → xs ≡ ys
prefixes [] [] long h = refl
prefixes [] (y ∷ ys) long h = absurd (omega arith)
prefixes (x ∷ xs) [] long h = absurd (omega arith)
prefixes (x ∷ xs) (y ∷ ys) long h =
    let head : x ≡ y = h 0 x y refl refl refl in
    let rest : xs ≡ ys = prefixes xs ys (omega arith) (λ i a b front at_a at_b. h (suc i) a b (λ j. head j ∷ front j) at_a at_b) in
    λ i. head i ∷ rest i

mark_at : {A B : Type 0} (xs : List A) (ys : List B) (i : ℕ) (y : B) → length ys ≡ length xs → slice_get ys i ≡ Some y → (x : A) × (slice_get xs i ≡ Some x)
mark_at [] [] i y long e = absurd (cc)
mark_at [] (b ∷ ys) i y long e = absurd (omega arith)
mark_at (a ∷ xs) [] i y long e = absurd (cc)
mark_at (a ∷ xs) (b ∷ ys) zero y long e = (a, refl)
mark_at (a ∷ xs) (b ∷ ys) (suc i) y long e = mark_at xs ys i y (omega arith) e

codes_same : (declared : List RegionDecl) (kinds : Kinds) (fields : Fields) (marks : List Mark) (before one other : List (Option FindingCode))
    → AreLockCodes declared kinds fields marks before one → AreLockCodes declared kinds fields marks before other → one ≡ other
codes_same declared kinds fields marks before one other a b = prefixes one other (a.long ∙ sym b.long) (λ i x y front at_one at_other.
    let m = mark_at marks one i x a.long at_one in
    code_same declared kinds fields (locks_in fields (take i marks) (take i other)) (code_at before i) (lock_by (code_at before i) m.0.tree) x y
    (subst (λ (z : List (Option FindingCode)). IsCodeAfter declared kinds fields (locks_in fields (take i marks) z) (code_at before i) (lock_by (code_at before i) m.0.tree) x) front
    (a.each i m.0 x m.1 at_one)) (b.each i m.0 y m.1 at_other))

-- ---- the surface

header_same : (site : Site) (fields : List FieldFace) (marks : List Mark) (regions regions' : List RegionDecl) (codes codes' : List (Option FindingCode))
    → Header site fields marks regions codes → Header site fields marks regions' codes' → Both regions regions' codes codes'
header_same site fields marks regions regions' codes codes' h k =
    let r = scrubs_same site marks regions regions' h.between k.between h.scrubbed k.scrubbed in (
      r.0,
      codes_same regions (region_kind regions) (fields_by fields) marks h.between codes codes' h.locks
          (subst (λ (x : List (Option FindingCode)). AreLockCodes regions (region_kind regions) (fields_by fields) marks x codes') (sym r.1)
          (subst (λ (x : List RegionDecl). AreLockCodes x (region_kind x) (fields_by fields) marks k.between codes') (sym r.0) k.locks)),
    )

pub one_face : (class : ClassTree) (a b : Face) → Surface class a → Surface class b → a ≡ b
one_face class a b s t =
    let headers : s.header ≡ t.header = marks_same (by_header class) s.header t.header s.header_read t.header_read in
    let members : s.members ≡ t.members = member_marks_same class.members s.members t.members s.members_read t.members_read in
    let all = header_same (header_site class.kind) (field_faces class) t.header s.regions t.regions s.codes t.codes
    (subst (λ (x : List Mark). Header (header_site class.kind) (field_faces class) x s.regions s.codes) headers s.scrubbed) t.scrubbed in
    let faces : face_with class s.header s.members s.regions (region_kind s.regions) (class_locks class s.header s.codes) s.codes
    ≡ face_with class t.header t.members t.regions (region_kind t.regions) (class_locks class t.header t.codes) t.codes =
    λ i. face_with class (headers i) (members i) (all.0 i) (region_kind (all.0 i)) (class_locks class (headers i) (all.1 i)) (all.1 i) in
    s.is ∙ faces ∙ sym t.is
