-- Classes that others see alike have one surface.
use Rattle.std.proofs.Common.{◌≡◌, ℕ, zero, suc, ◌+◌, List, [], ◌∷◌, ◌++◌, length, map, refl, ◌∙◌, ap, subst, Bool, true, false, ◌&&◌, not}
use Rattle.std.specs.Prelude.{Option, Some, None, codes, if◌then◌else◌}
use Rattle.std.specs.List.{flat_map, slice_get}
use Rattle.std.specs.Option.{option_map, option_to_list}
use Rattle.std.specs.Str.{bytes_eq}
use Rattle.java_tree.specs.declared.file.ClassTree.{ClassTree}
use Rattle.java_tree.specs.declared.file.TypeKind.{TypeKind}
use Rattle.java_tree.specs.declared.member.Ty.{Ty}
use Rattle.java_tree.specs.declared.member.Ty.TheVariants as ty
use Rattle.java_tree.specs.declared.member.Field.{Field}
use Rattle.java_tree.specs.declared.member.Param.{Param}
use Rattle.java_tree.specs.declared.member.MemberTree.{MemberTree}
use Rattle.java_tree.specs.declared.member.MemberTree.TheVariants as member
use Rattle.class_faces.specs.declared.face.FaceTy.{FaceTy}
use Rattle.class_faces.specs.declared.face.FieldFace.{FieldFace}
use Rattle.class_faces.specs.Assigned.{Names, is_among, block_names}
use Rattle.class_faces.specs.Faces.{face_ty, field_face, is_static, field_of, fields_of, field_faces, param_face, face_of, faces_after, member_faces, named_params}
use Rattle.class_faces.specs.Keys.{text_of, counted, slot_of, short_key, repeat_mark, key_with, times, keys_after, member_keys}
use Rattle.promise_grammar.specs.declared.tree.PromiseTree.{PromiseTree, out-PromiseTree}
use Rattle.promise_grammar.specs.declared.scope.ScopeContent.{ScopeContent}
use Rattle.promise_grammar.specs.declared.scope.ScopeContent.TheVariants as scope
use Rattle.promise_marks.specs.declared.mark.Mark.{Mark}
use Rattle.promise_marks.specs.Given.{Given, by_mods, by_params, by_member}
use Rattle.promise_marks.specs.Marks.{AreMarks}
use Rattle.promise_grammar.specs.Kind.{name_of}
use Rattle.region_tree.specs.declared.decl.RegionDecl.{RegionDecl}
use Rattle.result_records.specs.declared.code.FindingCode.{FindingCode}
use Rattle.scrub_rules.specs.declared.place.Site.{Site}
use Rattle.scrub_rules.specs.declared.place.SiteKind.TheVariants as at_kind
use Rattle.scrub_rules.specs.declared.place.TypeSort.{TypeSort}
use Rattle.scrub_rules.specs.Facts.{Facts}
use Rattle.scrub_rules.specs.Offers.{name_in, param_name}
use Rattle.scrub_rules.specs.Place.{first_code, header_site, sort_of, made, member_site, params_of, param_sort, place_code, site_of}
use Rattle.scrub_rules.specs.Scope.{matches, is_nil, selects}
use Rattle.scrub_rules.specs.Target.{Kinds}
use Rattle.header_scrub.specs.Header.{Header}
use Rattle.header_scrub.specs.Fields.{fields_by}
use Rattle.header_scrub.specs.Kinds.{lock_kind, region_kind}
use Rattle.header_scrub.specs.Locks.{locks_in}
use Rattle.promise_scrub.specs.declared.member.Scoped.{Scoped}
use Rattle.promise_scrub.specs.declared.surface.Assumption.{Assumption}
use Rattle.promise_scrub.specs.declared.surface.Surface.{Surface as Face}
use Rattle.promise_scrub.specs.Alike.{AlikeParam, AlikeParams, AlikeMember, AllAlike, Alike}
use Rattle.promise_scrub.specs.Members.{annotation_by, field_static, header_annotations, member_annotations, scoped_of, spread_to, tree_name, written}
use Rattle.promise_scrub.specs.Surfaces.{AreMemberMarks, Surface, UnitAnnotations, aside_at, assumptions_of, class_facts, class_locks, face_by, face_with, header_unit_in, member_facts, member_units, names_of, standing_at, units_of, vouched_at}
use Rattle.promise_scrub.specs.Verdicts.{Annotation}

-- ---- parameters

params_given : (xs ys : Names) (k : ℕ) (ps qs : List Param) → AlikeParams xs ys ps qs → by_params k ps ≡ by_params k qs
params_given xs ys k [] [] a = refl
params_given xs ys k [] (q ∷ qs) a = absurd a
params_given xs ys k (p ∷ ps) [] a = absurd a
params_given xs ys k (p ∷ ps) (q ∷ qs) a =
    let h : by_mods (Some k) p.mods ≡ by_mods (Some k) q.mods = a.0.promises (Some k) in
    let t : by_params (k + 1) ps ≡ by_params (k + 1) qs = params_given xs ys (k + 1) ps qs a.1 in
    λ i. h i ++ t i

lengths : (xs ys : Names) (ps qs : List Param) → AlikeParams xs ys ps qs → length ps ≡ length qs
lengths xs ys [] [] a = refl
lengths xs ys [] (q ∷ qs) a = absurd a
lengths xs ys (p ∷ ps) [] a = absurd a
lengths xs ys (p ∷ ps) (q ∷ qs) a = ap (λ (n : ℕ). suc n) (lengths xs ys ps qs a.1)

nils : (xs ys : Names) (ps qs : List Param) → AlikeParams xs ys ps qs → is_nil ps ≡ is_nil qs
nils xs ys [] [] a = refl
nils xs ys [] (q ∷ qs) a = absurd a
nils xs ys (p ∷ ps) [] a = absurd a
nils xs ys (p ∷ ps) (q ∷ qs) a = refl

faces_same : (xs ys : Names) (ps qs : List Param) → AlikeParams xs ys ps qs
    → map (param_face xs) ps ≡ map (param_face ys) qs
faces_same xs ys [] [] a = refl
faces_same xs ys [] (q ∷ qs) a = absurd a
faces_same xs ys (p ∷ ps) [] a = absurd a
faces_same xs ys (p ∷ ps) (q ∷ qs) a =
    let n : p.name.text ≡ q.name.text = a.0.name in
    let t : face_ty p.ty ≡ face_ty q.ty = a.0.ty in
    let e : is_among p.name.text xs ≡ is_among q.name.text ys = a.0.assigned in
    let one : param_face xs p ≡ param_face ys q = λ i. record { name = n i; ty = t i; effectively_final = not (e i) } in
    let more : map (param_face xs) ps ≡ map (param_face ys) qs = faces_same xs ys ps qs a.1 in
    λ i. one i ∷ more i

abbrev AlikeAt : Names → Names → Option Param → Option Param → Type 0
AlikeAt xs ys None None = Unit {0}
AlikeAt xs ys (Some p) (Some q) = AlikeParam xs ys p q
AlikeAt xs ys _ _ = ⊥

at_index : (xs ys : Names) (ps qs : List Param) (k : ℕ) → AlikeParams xs ys ps qs → AlikeAt xs ys (slice_get ps k) (slice_get qs k)
at_index xs ys [] [] k a = tt
at_index xs ys [] (q ∷ qs) k a = absurd a
at_index xs ys (p ∷ ps) [] k a = absurd a
at_index xs ys (p ∷ ps) (q ∷ qs) zero a = a.0
at_index xs ys (p ∷ ps) (q ∷ qs) (suc k) a = at_index xs ys ps qs k a.1

names_in : (xs ys : Names) (p q : Option Param) → AlikeAt xs ys p q → name_in p ≡ name_in q
names_in xs ys None None a = refl
names_in xs ys None (Some q) a = absurd a
names_in xs ys (Some p) None a = absurd a
names_in xs ys (Some p) (Some q) a = a.name

sorts : (t u : Ty) → face_ty t ≡ face_ty u → sort_of t ≡ sort_of u
sorts (ty.Int s) (ty.Int r) e = refl
sorts (ty.Int s) (ty.Boolean r) e = refl
sorts (ty.Int s) (ty.Named w) e = absurd (cc)
sorts (ty.Boolean s) (ty.Int r) e = refl
sorts (ty.Boolean s) (ty.Boolean r) e = refl
sorts (ty.Boolean s) (ty.Named w) e = absurd (cc)
sorts (ty.Named v) (ty.Int r) e = absurd (cc)
sorts (ty.Named v) (ty.Boolean r) e = absurd (cc)
sorts (ty.Named v) (ty.Named w) e =
    let n : v.text ≡ w.text = cc in
    ap (λ (z : List ℕ). sort_of (ty.Named (record w { text = z }))) n

sorts_in : (xs ys : Names) (p q : Option Param) → AlikeAt xs ys p q → param_sort p ≡ param_sort q
sorts_in xs ys None None a = refl
sorts_in xs ys None (Some q) a = absurd a
sorts_in xs ys (Some p) None a = absurd a
sorts_in xs ys (Some p) (Some q) a = sorts p.ty q.ty a.ty

-- ---- members

-- the cases of members that are alike
abbrev Holds : (MemberTree → MemberTree → Type 0) → Type 0
Holds P = (m n : MemberTree) → AlikeMember m n → P m n

given_same : Holds (λ m n. by_member m ≡ by_member n)
given_same (member.Field f) (member.Field g) a = a.promises None
given_same (member.Method m) (member.Method n) a =
    let h = a.promises None in let t = params_given _ _ 0 m.params n.params a.params in λ i. h i ++ t i
given_same (member.Sig m) (member.Sig n) a =
    let h = a.promises None in let t = params_given _ _ 0 m.params n.params a.params in λ i. h i ++ t i
given_same (member.Ctor m) (member.Ctor n) a =
    let h = a.promises None in let t = params_given _ _ 0 m.params n.params a.params in λ i. h i ++ t i
given_same (member.Main m) (member.Main n) a = a.promises None
given_same _ _ a = absurd a

counted_same : (xs ys : Names) (x y : List ℕ) (ps qs : List Param) → x ≡ y → AlikeParams xs ys ps qs → counted x (length ps) ≡ counted y (length qs)
counted_same xs ys x y ps qs e a = let l : length ps ≡ length qs = lengths xs ys ps qs a in λ i. counted (e i) (l i)

slot_same : Holds (λ m n. slot_of m ≡ slot_of n)
slot_same (member.Field f) (member.Field g) a = ap (λ (x : FieldFace). x.name) a.face
slot_same (member.Method m) (member.Method n) a = counted_same _ _ m.name.text n.name.text m.params n.params a.name a.params
slot_same (member.Sig m) (member.Sig n) a = counted_same _ _ m.name.text n.name.text m.params n.params a.name a.params
slot_same (member.Ctor m) (member.Ctor n) a = refl
slot_same (member.Main m) (member.Main n) a = refl
slot_same _ _ a = absurd a

short_same : Holds (λ m n. short_key m ≡ short_key n)
short_same (member.Field f) (member.Field g) a = ap (λ (x : FieldFace). x.name) a.face
short_same (member.Method m) (member.Method n) a = counted_same _ _ m.name.text n.name.text m.params n.params a.name a.params
short_same (member.Sig m) (member.Sig n) a = counted_same _ _ m.name.text n.name.text m.params n.params a.name a.params
short_same (member.Ctor m) (member.Ctor n) a = counted_same _ _ (codes "new") (codes "new") m.params n.params refl a.params
short_same (member.Main m) (member.Main n) a = refl
short_same _ _ a = absurd a

key_same : (class : List ℕ) (slots : List (List ℕ)) → Holds (λ m n. key_with class m (times slots (slot_of m) + 1) ≡ key_with class n (times slots (slot_of n) + 1))
key_same class slots m n a =
    let slot : slot_of m ≡ slot_of n = slot_same m n a in
    let short : short_key m ≡ short_key n = short_same m n a in
    λ i. text_of (class ++ codes "." ++ (short i ++ repeat_mark (times slots (slot i) + 1)))

field_same : Holds (λ m n. field_of m ≡ field_of n)
field_same (member.Field f) (member.Field g) a = ap (λ (x : FieldFace). x ∷ []) a.face
field_same (member.Method m) (member.Method n) a = refl
field_same (member.Sig m) (member.Sig n) a = refl
field_same (member.Ctor m) (member.Ctor n) a = refl
field_same (member.Main m) (member.Main n) a = refl
field_same _ _ a = absurd a

face_same : (key : List ℕ) → Holds (λ m n. face_of key m ≡ face_of key n)
face_same key (member.Field f) (member.Field g) a = refl
face_same key (member.Method m) (member.Method n) a =
    let ps = faces_same (block_names m.body) (block_names n.body) m.params n.params a.params in
    let r : option_map face_ty m.result ≡ option_map face_ty n.result = a.result in
    let s : is_static m.mods ≡ is_static n.mods = a.static_word in
    λ i. Some (record { key = key; params = ps i; result = r i; is_static = s i })
face_same key (member.Sig m) (member.Sig n) a =
    let ps = faces_same [] [] m.params n.params a.params in
    let r : option_map face_ty m.result ≡ option_map face_ty n.result = a.result in
    let s : is_static m.mods ≡ is_static n.mods = a.static_word in
    λ i. Some (record { key = key; params = ps i; result = r i; is_static = s i })
face_same key (member.Ctor m) (member.Ctor n) a =
    let ps = faces_same (block_names m.body) (block_names n.body) m.params n.params a.params in
    λ i. Some (record { key = key; params = ps i; result = None; is_static = false })
face_same key (member.Main m) (member.Main n) a =
    let p : m.param.text ≡ n.param.text = a.param in
    ap (λ (z : List ℕ). face_of key (member.Main (record m { param = record m.param { text = z } }))) p
face_same key _ _ a = absurd a

params_same : Holds (λ m n. named_params m ≡ named_params n)
params_same (member.Field f) (member.Field g) a = refl
params_same (member.Method m) (member.Method n) a = faces_same (block_names m.body) (block_names n.body) m.params n.params a.params
params_same (member.Sig m) (member.Sig n) a = faces_same [] [] m.params n.params a.params
params_same (member.Ctor m) (member.Ctor n) a = faces_same (block_names m.body) (block_names n.body) m.params n.params a.params
params_same (member.Main m) (member.Main n) a = refl
params_same _ _ a = absurd a

static_same : Holds (λ m n. field_static m ≡ field_static n)
static_same (member.Field f) (member.Field g) a = ap (λ (x : FieldFace). x.is_static) a.face
static_same (member.Method m) (member.Method n) a = refl
static_same (member.Sig m) (member.Sig n) a = refl
static_same (member.Ctor m) (member.Ctor n) a = refl
static_same (member.Main m) (member.Main n) a = refl
static_same _ _ a = absurd a

own_site_same : Holds (λ m n. member_site m ≡ member_site n)
own_site_same (member.Field f) (member.Field g) a = ap (λ (s : TypeSort). made at_kind.Field s false) (sorts f.ty g.ty (ap (λ (x : FieldFace). x.ty) a.face))
own_site_same (member.Method m) (member.Method n) a = ap (λ (b : Bool). member_site_of b) a.static_word
  where
    member_site_of : Bool → Site
    member_site_of b = record { kind = at_kind.Method; sort = (member_site (member.Method m)).sort; has_this = not b }
own_site_same (member.Sig m) (member.Sig n) a = refl
own_site_same (member.Ctor m) (member.Ctor n) a = refl
own_site_same (member.Main m) (member.Main n) a = refl
own_site_same _ _ a = absurd a

-- the names that the body of a member assigns to
abbrev assigned_in : MemberTree → Names
assigned_in (member.Method m) = block_names m.body
assigned_in (member.Ctor c) = block_names c.body
assigned_in _ = []

list_same : Holds (λ m n. AlikeParams (assigned_in m) (assigned_in n) (params_of m) (params_of n))
list_same (member.Field f) (member.Field g) a = tt
list_same (member.Method m) (member.Method n) a = a.params
list_same (member.Sig m) (member.Sig n) a = a.params
list_same (member.Ctor m) (member.Ctor n) a = a.params
list_same (member.Main m) (member.Main n) a = tt
list_same _ _ a = absurd a

site_same : (p : Option ℕ) → Holds (λ m n. site_of m p ≡ site_of n p)
site_same None m n a = own_site_same m n a
site_same (Some k) m n a =
    let own : member_site m ≡ member_site n = own_site_same m n a in
    let s : param_sort (slice_get (params_of m) k) ≡ param_sort (slice_get (params_of n) k) =
    sorts_in (assigned_in m) (assigned_in n) _ _ (at_index (assigned_in m) (assigned_in n) (params_of m) (params_of n) k (list_same m n a)) in
    λ i. made at_kind.Param (s i) (own i).has_this

name_same : (p : Option ℕ) → Holds (λ m n. param_name m p ≡ param_name n p)
name_same None m n a = refl
name_same (Some k) m n a = names_in (assigned_in m) (assigned_in n) _ _ (at_index (assigned_in m) (assigned_in n) (params_of m) (params_of n) k (list_same m n a))

selected_same : (s : ScopeContent) → Holds (λ m n. selects s m ≡ selects s n)
selected_same (scope.Fields p) (member.Field f) (member.Field g) a = ap (λ (x : FieldFace). matches p x.name) a.face
selected_same (scope.Fields p) (member.Method m) (member.Method n) a = refl
selected_same (scope.Fields p) (member.Sig m) (member.Sig n) a = refl
selected_same (scope.Fields p) (member.Ctor m) (member.Ctor n) a = refl
selected_same (scope.Fields p) (member.Main m) (member.Main n) a = refl
selected_same (scope.Methods p) (member.Field f) (member.Field g) a = refl
selected_same (scope.Methods p) (member.Method m) (member.Method n) a = ap (λ (z : List ℕ). matches p z) a.name
selected_same (scope.Methods p) (member.Sig m) (member.Sig n) a = refl
selected_same (scope.Methods p) (member.Ctor m) (member.Ctor n) a = refl
selected_same (scope.Methods p) (member.Main m) (member.Main n) a = refl
selected_same (scope.PlainMethods p) (member.Field f) (member.Field g) a = refl
selected_same (scope.PlainMethods p) (member.Method m) (member.Method n) a =
    let nil : is_nil m.params ≡ is_nil n.params = nils _ _ m.params n.params a.params in
    let name : m.name.text ≡ n.name.text = a.name in
    λ i. nil i && matches p (name i)
selected_same (scope.PlainMethods p) (member.Sig m) (member.Sig n) a = refl
selected_same (scope.PlainMethods p) (member.Ctor m) (member.Ctor n) a = refl
selected_same (scope.PlainMethods p) (member.Main m) (member.Main n) a = refl
selected_same scope.Constructors (member.Field f) (member.Field g) a = refl
selected_same scope.Constructors (member.Method m) (member.Method n) a = refl
selected_same scope.Constructors (member.Sig m) (member.Sig n) a = refl
selected_same scope.Constructors (member.Ctor m) (member.Ctor n) a = refl
selected_same scope.Constructors (member.Main m) (member.Main n) a = refl
selected_same _ _ _ a = absurd a

-- ---- the annotations of a member

written_same : (at : Facts) (mark : Mark) → Holds (λ m n. written at m mark ≡ written at n mark)
written_same at mark m n a =
    let site : site_of m mark.param ≡ site_of n mark.param = site_same mark.param m n a in
    let param : param_name m mark.param ≡ param_name n mark.param = name_same mark.param m n a in
    λ i. annotation_by at (site i) (param i) false (name_of mark.kind) (first_code (site i) mark.tree) mark.tree

all_written : (at : Facts) (marks : List Mark) → Holds (λ m n. map (written at m) marks ≡ map (written at n) marks)
all_written at [] m n a = refl
all_written at (k ∷ ks) m n a =
    let one : written at m k ≡ written at n k = written_same at k m n a in
    let more : map (written at m) ks ≡ map (written at n) ks = all_written at ks m n a in
    λ i. one i ∷ more i

spread_same : (at : Facts) (s : Scoped) → Holds (λ m n. spread_to at m s ≡ spread_to at n s)
spread_same at s m n a =
    let sel : selects s.scope m ≡ selects s.scope n = selected_same s.scope m n a in
    let site : site_of m None ≡ site_of n None = site_same None m n a in
    λ i. if sel i then annotation_by at (site i) [] true (tree_name (out-PromiseTree s.inner)) (place_code (site i) (out-PromiseTree s.inner)) (Some s.inner) ∷ [] else []

all_spread : (at : Facts) (scoped : List Scoped) → Holds (λ m n. flat_map (spread_to at m) scoped ≡ flat_map (spread_to at n) scoped)
all_spread at [] m n a = refl
all_spread at (s ∷ ss) m n a =
    let one : spread_to at m s ≡ spread_to at n s = spread_same at s m n a in
    let more : flat_map (spread_to at m) ss ≡ flat_map (spread_to at n) ss = all_spread at ss m n a in
    λ i. one i ++ more i

annotated : (at : Facts) (marks : List Mark) (scoped : List Scoped) → Holds (λ m n. member_annotations at m marks scoped ≡ member_annotations at n marks scoped)
annotated at marks scoped m n a =
    let one : map (written at m) marks ≡ map (written at n) marks = all_written at marks m n a in
    let two : flat_map (spread_to at m) scoped ≡ flat_map (spread_to at n) scoped = all_spread at scoped m n a in
    λ i. one i ++ two i

facts_same : (class : List ℕ) (regions locks : Kinds) → Holds (λ m n. member_facts class regions locks m ≡ member_facts class regions locks n)
facts_same class regions locks m n a =
    let s : field_static m ≡ field_static n = static_same m n a in
    let ps : named_params m ≡ named_params n = params_same m n a in
    λ i. record { class = class; regions = regions; locks = locks; field_static = s i; params = ps i }

-- ---- lists of members

all_fields : (ms ns : List MemberTree) → AllAlike ms ns → fields_of ms ≡ fields_of ns
all_fields [] [] a = refl
all_fields [] (n ∷ ns) a = absurd a
all_fields (m ∷ ms) [] a = absurd a
all_fields (m ∷ ms) (n ∷ ns) a =
    let h : field_of m ≡ field_of n = field_same m n a.0 in
    let t : fields_of ms ≡ fields_of ns = all_fields ms ns a.1 in
    λ i. h i ++ t i

all_keys : (class : List ℕ) (slots : List (List ℕ)) (ms ns : List MemberTree) → AllAlike ms ns → keys_after class slots ms ≡ keys_after class slots ns
all_keys class slots [] [] a = refl
all_keys class slots [] (n ∷ ns) a = absurd a
all_keys class slots (m ∷ ms) [] a = absurd a
all_keys class slots (m ∷ ms) (n ∷ ns) a =
    let h = key_same class slots m n a.0 in
    let t : keys_after class (slots ++ slot_of m ∷ []) ms ≡ keys_after class (slots ++ slot_of n ∷ []) ns =
    all_keys class (slots ++ slot_of m ∷ []) ms ns a.1 ∙ ap (λ (s : List ℕ). keys_after class (slots ++ s ∷ []) ns) (slot_same m n a.0) in
    λ i. h i ∷ t i

all_faces : (class : List ℕ) (slots : List (List ℕ)) (ms ns : List MemberTree) → AllAlike ms ns → faces_after class slots ms ≡ faces_after class slots ns
all_faces class slots [] [] a = refl
all_faces class slots [] (n ∷ ns) a = absurd a
all_faces class slots (m ∷ ms) [] a = absurd a
all_faces class slots (m ∷ ms) (n ∷ ns) a =
    let key = key_with class m (times slots (slot_of m) + 1) in
    let h : face_of key m ≡ face_of (key_with class n (times slots (slot_of n) + 1)) n =
    face_same key m n a.0 ∙ ap (λ (k : List ℕ). face_of k n) (key_same class slots m n a.0) in
    let t : faces_after class (slots ++ slot_of m ∷ []) ms ≡ faces_after class (slots ++ slot_of n ∷ []) ns =
    all_faces class (slots ++ slot_of m ∷ []) ms ns a.1 ∙ ap (λ (s : List ℕ). faces_after class (slots ++ s ∷ []) ns) (slot_same m n a.0) in
    λ i. option_to_list (h i) ++ t i

all_marks : (ms ns : List MemberTree) (marks : List (List Mark)) → AllAlike ms ns → AreMemberMarks ms marks → AreMemberMarks ns marks
all_marks [] [] marks a are = are
all_marks [] (n ∷ ns) marks a are = absurd a
all_marks (m ∷ ms) [] marks a are = absurd a
all_marks (m ∷ ms) (n ∷ ns) [] a are = absurd are
all_marks (m ∷ ms) (n ∷ ns) (k ∷ ks) a are = (subst (λ (g : List Given). AreMarks g k) (given_same m n a.0) are.0, all_marks ms ns ks a.1 are.1)

all_units : (class : List ℕ) (regions locks : Kinds) (scoped : List Scoped) (keys : List (List ℕ)) (marks : List (List Mark)) (ms ns : List MemberTree)
    → AllAlike ms ns → member_units class regions locks scoped keys marks ms ≡ member_units class regions locks scoped keys marks ns
all_units class regions locks scoped keys marks [] [] a = refl
all_units class regions locks scoped keys marks [] (n ∷ ns) a = absurd a
all_units class regions locks scoped keys marks (m ∷ ms) [] a = absurd a
all_units class regions locks scoped [] marks (m ∷ ms) (n ∷ ns) a = refl
all_units class regions locks scoped (k ∷ ks) [] (m ∷ ms) (n ∷ ns) a = refl
all_units class regions locks scoped (k ∷ ks) (j ∷ rest) (m ∷ ms) (n ∷ ns) a =
    let facts : member_facts class regions locks m ≡ member_facts class regions locks n = facts_same class regions locks m n a.0 in
    let one : member_annotations (member_facts class regions locks m) m j scoped ≡ member_annotations (member_facts class regions locks n) n j scoped =
    annotated (member_facts class regions locks m) j scoped m n a.0 ∙ ap (λ (x : Facts). member_annotations x n j scoped) facts in
    let more : member_units class regions locks scoped ks rest ms ≡ member_units class regions locks scoped ks rest ns = all_units class regions locks scoped ks rest ms ns a.1 in
    λ i. record { key = k; annotations = one i } ∷ more i

-- ---- the surface

units_same : (a b : ClassTree) (header : List Mark) (marks : List (List Mark)) (regions locks : Kinds) (codes : List (Option FindingCode)) → Alike a b
    → units_of a header marks regions locks codes ≡ units_of b header marks regions locks codes
units_same a b header marks regions locks codes alike =
    let kind : a.kind ≡ b.kind = alike.kind in
    let name : a.name.text ≡ b.name.text = alike.name in
    let keys : member_keys a ≡ member_keys b =
    all_keys a.name.text [] a.members b.members alike.members ∙ ap (λ (n : List ℕ). keys_after n [] b.members) name in
    let first : header_unit_in a (class_facts a.name.text regions locks) header codes ≡ header_unit_in b (class_facts b.name.text regions locks) header codes =
    λ i. record { key = text_of (name i); annotations = header_annotations (class_facts (name i) regions locks) (header_site (kind i)) header codes } in
    let others : member_units a.name.text regions locks (scoped_of (header_site a.kind) header) (member_keys a) marks a.members
    ≡ member_units b.name.text regions locks (scoped_of (header_site b.kind) header) (member_keys b) marks b.members =
    all_units a.name.text regions locks (scoped_of (header_site a.kind) header) (member_keys a) marks a.members b.members alike.members
    ∙ (λ i. member_units (name i) regions locks (scoped_of (header_site (kind i)) header) (keys i) marks b.members) in
    λ i. first i ∷ others i

face_alike : (a b : ClassTree) (header : List Mark) (marks : List (List Mark)) (regions : List RegionDecl) (rk lk : Kinds) (codes : List (Option FindingCode)) → Alike a b
    → face_with a header marks regions rk lk codes ≡ face_with b header marks regions rk lk codes
face_alike a b header marks regions rk lk codes alike =
    let kind : a.kind ≡ b.kind = alike.kind in
    let name : a.name.text ≡ b.name.text = alike.name in
    let implements : names_of a.implements ≡ names_of b.implements = alike.implements in
    let fields : field_faces a ≡ field_faces b = all_fields a.members b.members alike.members in
    let members : member_faces a ≡ member_faces b =
    all_faces a.name.text [] a.members b.members alike.members ∙ ap (λ (n : List ℕ). faces_after n [] b.members) name in
    let units : units_of a header marks rk lk codes ≡ units_of b header marks rk lk codes = units_same a b header marks rk lk codes alike in
    let assumed : assumptions_of (class_facts a.name.text rk lk) header codes ≡ assumptions_of (class_facts b.name.text rk lk) header codes =
    ap (λ (n : List ℕ). assumptions_of (class_facts n rk lk) header codes) name in
    λ i. record {
      kind = kind i;
      name = name i;
      implements = implements i;
      fields = fields i;
      members = members i;
      regions = regions;
      standing = flat_map standing_at (units i);
      aside = flat_map aside_at (units i);
      assumptions = assumed i;
      vouched = flat_map vouched_at (units i);
    }

locks_same : (a b : ClassTree) (header : List Mark) (codes : List (Option FindingCode)) → Alike a b → class_locks a header codes ≡ class_locks b header codes
locks_same a b header codes alike =
    ap (λ (fs : List FieldFace). lock_kind (locks_in (fields_by fs) header codes)) (all_fields a.members b.members alike.members)

pub same_surface : (a b : ClassTree) (face : Face) → Alike a b → Surface a face → Surface b face
same_surface a b face alike s = record {
  header = s.header;
  header_read = subst (λ (g : List Given). AreMarks g s.header) (alike.promises None) s.header_read;
  members = s.members;
  members_read = all_marks a.members b.members s.members alike.members s.members_read;
  regions = s.regions;
  codes = s.codes;
  scrubbed =
      subst (λ (fs : List FieldFace). Header (header_site b.kind) fs s.header s.regions s.codes) (all_fields a.members b.members alike.members)
      (subst (λ (k : TypeKind). Header (header_site k) (field_faces a) s.header s.regions s.codes) alike.kind s.scrubbed);
  is = s.is ∙ face_alike a b s.header s.members s.regions (region_kind s.regions) (class_locks a s.header s.codes) s.codes alike
      ∙ ap (λ (k : Kinds). face_with b s.header s.members s.regions (region_kind s.regions) k s.codes) (locks_same a b s.header s.codes alike);
}
