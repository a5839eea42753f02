-- The law of binding: a unit is bound to what its tokens and the names that it consults say.
use Rattle.std.proofs.Common.{◌≡◌, refl, sym, ℕ, zero, suc, ◌-◌, List, [], ◌∷◌, codes, if◌then◌else◌, Option, Some, None, ap, ap₂, ◌∙◌, subst}
use Rattle.std.specs.List.{flat_map, slice_get, Contains}
use Rattle.std.specs.Option.{option_map}
use Rattle.desk_base.specs.declared.span.Span.{Span}
use Rattle.java_tree.specs.declared.file.ClassTree.{ClassTree}
use Rattle.java_tree.specs.declared.file.TypeKind.{TypeKind}
use Rattle.java_tree.specs.declared.member.MemberTree.{MemberTree}
use Rattle.java_tree.specs.declared.token.Token.{Token}
use Rattle.java_heads.specs.declared.header.Header.{Header}
use Rattle.java_members.specs.Spelling.{tokens_of}
use Rattle.java_reader.specs.Alike.{Alike}
use Rattle.java_reader.specs.Spelling.{header_of}
use Rattle.tree_places.specs.Numbers.{number_of, span_number, numbered_span, numbered_member, numbered_header}
use Rattle.tree_places.specs.Units.{HasHeader, HasMember}
use Rattle.promise_marks.specs.declared.mark.Mark.{Mark}
use Rattle.promise_marks.specs.Given.{Given, by_mods, by_member}
use Rattle.promise_marks.specs.Marks.{AreMarks}
use Rattle.promise_scrub.specs.declared.surface.Surface.{Surface}
use Rattle.result_records.specs.declared.code.FindingCode.{FindingCode}
use Rattle.result_records.specs.declared.finding.Finding.{Finding}
use Rattle.class_faces.specs.Keys.{text_of}
use Rattle.views.specs.Face.{Seen, face, face_of, assumptions_of, declared_or}
use Rattle.views.specs.Looks.{interfaces_in}
use Rattle.name_rules.specs.declared.note.Note.{Note}
use Rattle.name_rules.specs.declared.note.Note.TheVariants as note
use Rattle.name_rules.specs.Types.{Name}
use Rattle.bound_tree.specs.declared.unit.BoundTree.{BoundTree}
use Rattle.bound_unit.specs.Asked.{Agree}
use Rattle.bound_unit.specs.Made.{made}
use Rattle.bound_unit.specs.Names.{Faces}
use Rattle.bound_unit.specs.UnitFacts.{UnitFacts}
use Rattle.finding_order.specs.Numbers.{in_order}
use Rattle.unit_rules.specs.Consulted.{told_names, all_names, each_in_order, consulted}
use Rattle.unit_rules.specs.Faults.{program_key, bytes_if_any, told_fault, firsts, faults, is_assume}
use Rattle.unit_rules.specs.Shown.{type_shown, types_shown}
use Rattle.binder.specs.Bound.{Bound, bound}
use Rattle.binder.specs.Trees.{PlainTree}
use Rattle.binder.specs.Units.{IsBoundBy, bound_under, given_of, tokens_in}
use Rattle.binder.proofs.Single.{one_tree}
use Rattle.binding_laws.specs.Laws.{DeclaresNoString, DeclaresNoObject, AlikeUnits, HasUnit, OneBinding}
use Rattle.binding_laws.proofs.EachStatement.{Every, every-front, every-back, every-more}
use Rattle.binding_laws.proofs.InOrder.{in-order}
use Rattle.binding_laws.proofs.Covering.{no-string, told-named}
use Rattle.binding_laws.proofs.MovedMarks.{mods-moved, member-moved, marks-one}
use Rattle.binding_laws.proofs.MovedUnit as moved
use Rattle.binding_laws.proofs.OneUnit.{ShownOn, OneBuiltIn, bound-one}
use Rattle.binding_laws.proofs.OneConsulted.{all-one}

-- ---- what is there without a declaration

no-object : (seen : Seen) → DeclaresNoObject seen → types_shown (face seen) (codes "Object") ≡ None
unfolding face
no-object seen none =
    ap (λ (s : Option Surface). type_shown (option_map (face_of (assumptions_of seen) seen.class) (declared_or s (codes "Object")))) none

-- ---- bind findings

alike-bytes : (ts us : List Token) → Alike ts us → (k : ℕ) → bytes_if_any (slice_get ts k) ≡ bytes_if_any (slice_get us k)
alike-bytes [] [] h k = refl
alike-bytes [] (u ∷ us) h k = absurd h
alike-bytes (t ∷ ts) [] h k = absurd h
alike-bytes (t ∷ ts) (u ∷ us) h zero = h.1
alike-bytes (t ∷ ts) (u ∷ us) h (suc k) = alike-bytes ts us h.2 k

abbrev fault_by : (key : List ℕ) → FindingCode → ℕ → List ℕ → Finding
fault_by key c at bytes = record {
  key = record { code = c; number = 0; unit = key; on = program_key };
  place = at;
  subject = if is_assume c then codes "Assume" else text_of bytes;
  alternatives = [];
}

module _ (key : List ℕ) (ts us : List Token) (alike : (k : ℕ) → bytes_if_any (slice_get ts k) ≡ bytes_if_any (slice_get us k)) where
  told-alike : (notes : List Note) → flat_map (told_fault key ts) notes ≡ flat_map (told_fault key us) notes
  told-alike [] = refl
  told-alike (note.Finding c at ∷ notes) = ap₂ (λ (bytes : List ℕ) (l : List Finding). fault_by key c at bytes ∷ l) (alike (at - 1)) (told-alike notes)
  told-alike (note.Names n ∷ notes) = told-alike notes
  told-alike (note.Calls c name count ∷ notes) = told-alike notes

  faults-alike : (notes : List Note) → faults key ts notes ≡ faults key us notes
  faults-alike notes = ap (λ (l : List Finding). in_order (firsts (in_order l))) (told-alike notes)

-- ---- units of equal tokens

abbrev pub OneMember : Type 0
OneMember = (first second : List ℕ) (kind : TypeKind) (name : List ℕ) (m n : MemberTree) → HasMember first kind name m → HasMember second kind name n
    → Alike (tokens_of m) (tokens_of n) → numbered_member m ≡ numbered_member n

abbrev pub OneHeader : Type 0
OneHeader = (first second : List ℕ) (g h : Header) → HasHeader first g → HasHeader second h → Alike g.tokens h.tokens → numbered_header g ≡ numbered_header h

-- the same annotations, bound alike under each view, and the same texts of tokens
record IsAlike (c : ClassTree) (m : Option MemberTree) (d : ClassTree) (n : Option MemberTree) : Type 0 where
  given : given_of c m ≡ given_of d n
  bounds : (faces : Faces) (key : List ℕ) (marks : List Mark) → bound faces (number_of (tokens_in c m)) c m key marks ≡ bound faces (number_of (tokens_in d n)) d n key marks
  texts : (k : ℕ) → bytes_if_any (slice_get (tokens_in c m) k) ≡ bytes_if_any (slice_get (tokens_in d n) k)

members-alike : (c : ClassTree) (m : MemberTree) (d : ClassTree) (n : MemberTree) → c.name.text ≡ d.name.text → Alike (tokens_of m) (tokens_of n) → numbered_member m ≡ numbered_member n
    → IsAlike c (Some m) d (Some n)
members-alike c m d n name alike same = record {
  given = sym (member-moved (numbered_span (tokens_of m)) m) ∙ ap by_member same ∙ member-moved (numbered_span (tokens_of n)) n;
  bounds = λ faces key marks.
      sym (moved.member-moved (numbered_span (tokens_of m)) span_number faces c.name.text m key marks)
      ∙ ap₂ (λ (class : Name) (x : MemberTree). moved.member_bound (numbered_span (tokens_of m)) span_number faces class span_number x key marks) name same
      ∙ moved.member-moved (numbered_span (tokens_of n)) span_number faces d.name.text n key marks;
  texts = alike-bytes (tokens_of m) (tokens_of n) alike;
}

headers-alike : (c d : ClassTree) → Alike c.tokens d.tokens → numbered_header (header_of c) ≡ numbered_header (header_of d) → IsAlike c None d None
headers-alike c d alike same = record {
  given = sym (mods-moved (numbered_span c.tokens) None c.mods) ∙ ap (λ (h : Header). by_mods None h.mods) same ∙ mods-moved (numbered_span d.tokens) None d.mods;
  bounds = λ faces key marks.
      sym (moved.header-moved (numbered_span c.tokens) span_number faces (header_of c) key marks)
      ∙ ap (λ (h : Header). moved.header_bound (numbered_span c.tokens) span_number faces span_number h key marks) same
      ∙ moved.header-moved (numbered_span d.tokens) span_number faces (header_of d) key marks;
  texts = alike-bytes c.tokens d.tokens alike;
}

units-alike : OneMember → OneHeader → (first second : List ℕ) (c : ClassTree) (m : Option MemberTree) (d : ClassTree) (n : Option MemberTree) → HasUnit first c m → HasUnit second d n → c.kind ≡ d.kind → c.name.text ≡ d.name.text
    → AlikeUnits c m d n → IsAlike c m d n
units-alike member header first second c None d None a b kind name alike =
    headers-alike c d alike
    (header first second (header_of c) (header_of d) record { file = a.file; reads = a.reads; type = c; is_type = a.is_type; is_header = refl } record { file = b.file; reads = b.reads; type = d; is_type = b.is_type; is_header = refl } alike)
units-alike member header first second c None d (Some n) a b kind name alike = absurd alike
units-alike member header first second c (Some m) d None a b kind name alike = absurd alike
units-alike member header first second c (Some m) d (Some n) a b kind name alike =
    members-alike c m d n name alike
    (member first second c.kind c.name.text m n record { file = a.file; reads = a.reads; type = c; is_type = a.is_type; is_kind = refl; is_name = refl; is_member = a.is_member }
    record { file = b.file; reads = b.reads; type = d; is_type = b.is_type; is_kind = sym kind; is_name = sym name; is_member = b.is_member } alike)

-- ---- two views

bound-class : (faces : Faces) (number : Span → ℕ) (class : ClassTree) (m : Option MemberTree) (key : List ℕ) (marks : List Mark) → (bound faces number class m key marks).tree.class ≡ class.name.text
bound-class faces number class None key marks = refl
bound-class faces number class (Some m) key marks = refl

one-built-in : (v w : Seen) → DeclaresNoString v → DeclaresNoObject v → DeclaresNoString w → DeclaresNoObject w → OneBuiltIn (types_shown (face v)) (types_shown (face w))
one-built-in v w a b c d = (no-string v a ∙ sym (no-string w c), no-object v b ∙ sym (no-object w d))

-- what they show of all names that are consulted
consulted-each : (key : List ℕ) (v w : Seen) (tree : BoundTree) (notes : List Note) → Agree (consulted (face v) key tree notes) v w
    → Every (λ (n : Name). face v n ≡ face w n) (all_names (face v) key tree notes)
consulted-each key v w tree notes agree =
    every-more (Contains (consulted (face v) key tree notes)) (λ (n : Name). face v n ≡ face w n) agree.1 (all_names (face v) key tree notes) (in-order (all_names (face v) key tree notes))

shown-on : (key : List ℕ) (v w : Seen) (tree : BoundTree) (class : Name) (notes : List Note) → tree.class ≡ class → Every (λ (n : Name). face v n ≡ face w n) (all_names (face v) key tree notes)
    → ShownOn (face v) (face w) class notes
shown-on key v w tree class notes own all =
    let one : Name → Type 0 = λ n. face v n ≡ face w n in (
      subst one own all.0,
      told-named one (face v) notes
          (every-front one (flat_map (told_names (face v)) notes) _ (every-back one (interfaces_in (face v tree.class)) _ all.1)),
    )

-- one unit under two views
views-one : (class : ClassTree) (m : Option MemberTree) (key : List ℕ) (v w : Seen) (marks : List Mark) (u : UnitFacts) → OneBuiltIn (types_shown (face v)) (types_shown (face w))
    → IsBoundBy class m key v marks u → Agree u.consulted v w
    → (bound_under class m key v marks ≡ bound_under class m key w marks) × (consulted (face v) key u.tree (bound_under class m key v marks).notes ≡ consulted (face w) key u.tree (bound_under class m key v marks).notes)
views-one class m key v w marks u same a agree =
    let b = bound_under class m key v marks in
    let all = consulted-each key v w u.tree b.notes (subst (λ (l : List Name). Agree l v w) (ap (λ (x : UnitFacts). x.consulted) a.is) agree) in
    let own : u.tree.class ≡ class.name.text = ap (λ (t : PlainTree). t.class) a.tree ∙ bound-class (face v) (number_of (tokens_in class m)) class m key marks in (
      bound-one (face v) (face w) same (number_of (tokens_in class m)) class m key marks (shown-on key v w u.tree class.name.text b.notes own all),
      ap each_in_order (all-one (face v) (face w) key u.tree b.notes all),
    )

-- ---- the law

units-one : (c : ClassTree) (m : Option MemberTree) (d : ClassTree) (n : Option MemberTree) (key : List ℕ) (v w : Seen) (marks : List Mark) (u x : UnitFacts) → IsAlike c m d n → OneBuiltIn (types_shown (face v)) (types_shown (face w))
    → IsBoundBy c m key v marks u → IsBoundBy d n key w marks x → Agree u.consulted v w → u ≡ x
units-one c m d n key v w marks u x alike same a b agree =
    let views = views-one c m key v w marks u same a agree in
    let first = bound_under c m key v marks in
    let second = bound_under d n key w marks in
    let one : first ≡ second = views.0 ∙ alike.bounds (face w) key marks in
    let tree : u.tree ≡ x.tree = one_tree u.tree x.tree (a.tree ∙ ap (λ (y : Bound). y.tree) one ∙ sym b.tree) in
    a.is
    ∙ ap₂ (λ (f : List Finding) (l : List Name). made key u.tree f l) (faults-alike key (tokens_in c m) (tokens_in d n) alike.texts first.notes) views.1
    ∙ ap₂ (λ (t : BoundTree) (y : Bound). made key t (faults key (tokens_in d n) y.notes) (consulted (face w) key t y.notes)) tree one
    ∙ sym b.is

pub one-binding : OneMember → OneHeader → OneBinding
one-binding member header first second c m d n key v w u x one s o t p a b agree =
    let alike = units-alike member header first second c m d n one.has one.holds one.kind one.name one.alike in
    let marks = marks-one (given_of d n) a.marks b.marks (subst (λ (gs : List Given). AreMarks gs a.marks) alike.given a.read) b.read in
    units-one c m d n key v w b.marks u x alike (one-built-in v w s o t p) (subst (λ (ms : List Mark). IsBoundBy c m key v ms u) marks a.is) b.is agree
