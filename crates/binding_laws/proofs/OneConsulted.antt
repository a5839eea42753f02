-- What a unit consults is told by what is shown of the names that it consults.
use Rattle.std.proofs.Common.{◌≡◌, refl, ℕ, Bool, true, false, not, ◌&&◌, if◌then◌else◌, List, [], ◌∷◌, ◌++◌, length, Option, Some, None, ap, ap₂, ◌∙◌}
use Rattle.std.specs.List.{flat_map}
use Rattle.std.specs.Str.{bytes_eq}
use Rattle.class_faces.specs.declared.face.MemberFace.{MemberFace}
use Rattle.bound_tree.specs.declared.unit.BoundTree.{BoundTree}
use Rattle.bound_tree.specs.declared.unit.Part.{Part}
use Rattle.bound_tree.specs.declared.unit.Part.TheVariants as part
use Rattle.views.specs.Face.{Face}
use Rattle.views.specs.Looks.{kind_in, interfaces_in, member_in, member_key}
use Rattle.name_rules.specs.declared.note.Note.{Note}
use Rattle.name_rules.specs.declared.note.Note.TheVariants as note
use Rattle.bound_unit.specs.Names.{Name, Faces, member_names}
use Rattle.bound_unit.specs.Implemented.{Above, is_among, new_names, each_once, is_class_kind, is_interface_kind, above_if, above_in, above_member, above_unit, above_part, implemented}
use Rattle.bound_unit.specs.Asked.{called_names, above_names}
use Rattle.unit_rules.specs.Consulted.{told_names, all_names}
use Rattle.binding_laws.proofs.EachStatement.{Every, every-front, every-back}

module _ (F G : Faces) where
  -- they show one thing of the name
  abbrev pub IsOne : Name → Type 0
  IsOne n = F n ≡ G n

  -- ---- what is told

  told-one : (notes : List Note) → Every IsOne (flat_map (told_names F) notes) → flat_map (told_names F) notes ≡ flat_map (told_names G) notes
  told-one [] h = refl
  told-one (note.Names d ∷ notes) h = ap (λ (l : List Name). d ∷ l) (told-one notes h.1)
  told-one (note.Finding found at ∷ notes) h = told-one notes h
  told-one (note.Calls d name count ∷ notes) h =
      ap₂ (λ (shown : Option Face) (l : List Name). (d ∷ member_names shown (member_key d name count)) ++ l) h.0
      (told-one notes (every-back IsOne (called_names F d name count) (flat_map (told_names F) notes) h))

  -- ---- methods that are implemented

  pick-each : (b : Bool) (n : Name) (ns : List Name) → IsOne n → Every IsOne ns → Every IsOne (if b then ns else n ∷ ns)
  pick-each true n ns h k = k
  pick-each false n ns h k = (h, k)

  new-each : (before ns : List Name) → Every IsOne ns → Every IsOne (new_names before ns)
  new-each before [] h = tt
  new-each before (n ∷ ns) h = pick-each (is_among before n) n (new_names (before ++ n ∷ []) ns) h.0 (new-each (before ++ n ∷ []) ns h.1)

  abbrev above_by : MemberFace → Name → ℕ → Name → Option Face → List Above
  above_by m name count interface shown =
      if is_interface_kind (kind_in shown) then above_if interface m (member_in shown (member_key interface name count)) else []

  aboves-one : (m : MemberFace) (name : Name) (count : ℕ) (ns : List Name) → Every IsOne ns → flat_map (above_in F m name count) ns ≡ flat_map (above_in G m name count) ns
  aboves-one m name count [] h = refl
  aboves-one m name count (n ∷ ns) h = ap₂ (λ (shown : Option Face) (l : List Above). above_by m name count n shown ++ l) h.0 (aboves-one m name count ns h.1)

  abbrev member_by : Name → ℕ → MemberFace → Option Face → List Above → List Above
  member_by name count m shown aboves = if not m.is_static && is_class_kind (kind_in shown) then aboves else []

  member-one : (class name : Name) (count : ℕ) (found : Option MemberFace) → IsOne class → Every IsOne (interfaces_in (F class))
      → above_member F class name count found ≡ above_member G class name count found
  member-one class name count None h k = refl
  member-one class name count (Some m) h k =
      ap (λ (l : List Above). member_by name count m (F class) l) (aboves-one m name count (each_once (interfaces_in (F class))) (new-each [] (interfaces_in (F class)) k))
      ∙ ap (λ (shown : Option Face). member_by name count m shown (flat_map (above_in G m name count) (each_once (interfaces_in shown)))) h

  unit-one : (class : Name) (key : List ℕ) (name : Name) (count : ℕ) → IsOne class → Every IsOne (interfaces_in (F class))
      → above_unit F class key name count ≡ above_unit G class key name count
  unit-one class key name count h k =
      ap (λ (l : List Above). if bytes_eq key (member_key class name count) then l else [])
      (member-one class name count (member_in (F class) key) h k ∙ ap (λ (shown : Option Face). above_member G class name count (member_in shown key)) h)

  part-one : (class : Name) (key : List ℕ) (x : Part) → IsOne class → Every IsOne (interfaces_in (F class)) → above_part F class key x ≡ above_part G class key x
  part-one class key (part.Header words) h k = refl
  part-one class key (part.Field ty initial) h k = refl
  part-one class key (part.Sig params result) h k = refl
  part-one class key (part.Body b) h k = unit-one class key b.name (length b.params) h k

  -- each of them is of an interface that the class implements
  abbrev AboveEach : List Above → Type 0
  AboveEach [] = Unit {0}
  AboveEach (a ∷ more) = IsOne a.interface × AboveEach more

  both-above : (xs ys : List Above) → AboveEach xs → AboveEach ys → AboveEach (xs ++ ys)
  both-above [] ys h k = k
  both-above (x ∷ xs) ys h k = (h.0, both-above xs ys h.1 k)

  if-above : (b : Bool) (xs : List Above) → AboveEach xs → AboveEach (if b then xs else [])
  if-above true xs h = h
  if-above false xs h = tt

  above_if-each : (n : Name) (m : MemberFace) (found : Option MemberFace) → IsOne n → AboveEach (above_if n m found)
  above_if-each n m None h = tt
  above_if-each n m (Some other) h = if-above _ (record { interface = n; member = other } ∷ []) (h, tt)

  aboves-each : (m : MemberFace) (name : Name) (count : ℕ) (ns : List Name) → Every IsOne ns → AboveEach (flat_map (above_in F m name count) ns)
  aboves-each m name count [] h = tt
  aboves-each m name count (n ∷ ns) h =
      both-above (above_in F m name count n) (flat_map (above_in F m name count) ns)
      (if-above (is_interface_kind (kind_in (F n))) (above_if n m (member_in (F n) (member_key n name count))) (above_if-each n m (member_in (F n) (member_key n name count)) h.0))
      (aboves-each m name count ns h.1)

  member-each : (class name : Name) (count : ℕ) (found : Option MemberFace) → Every IsOne (interfaces_in (F class)) → AboveEach (above_member F class name count found)
  member-each class name count None k = tt
  member-each class name count (Some m) k =
      if-above (not m.is_static && is_class_kind (kind_in (F class))) (flat_map (above_in F m name count) (each_once (interfaces_in (F class))))
      (aboves-each m name count (each_once (interfaces_in (F class))) (new-each [] (interfaces_in (F class)) k))

  part-each : (class : Name) (key : List ℕ) (x : Part) → Every IsOne (interfaces_in (F class)) → AboveEach (above_part F class key x)
  part-each class key (part.Header words) k = tt
  part-each class key (part.Field ty initial) k = tt
  part-each class key (part.Sig params result) k = tt
  part-each class key (part.Body b) k =
      if-above (bytes_eq key (member_key class b.name (length b.params))) (above_member F class b.name (length b.params) (member_in (F class) key))
      (member-each class b.name (length b.params) (member_in (F class) key) k)

  names-one : (list : List Above) → AboveEach list → flat_map (above_names F) list ≡ flat_map (above_names G) list
  names-one [] h = refl
  names-one (a ∷ list) h = ap₂ (λ (shown : Option Face) (l : List Name). member_names shown a.member.key ++ l) h.0 (names-one list h.1)

  implemented-one : (key : List ℕ) (tree : BoundTree) → IsOne tree.class → Every IsOne (interfaces_in (F tree.class))
      → flat_map (above_names F) (implemented F key tree) ≡ flat_map (above_names G) (implemented G key tree)
  implemented-one key tree h k =
      names-one (implemented F key tree) (part-each tree.class key tree.part k)
      ∙ ap (λ (l : List Above). flat_map (above_names G) l) (part-one tree.class key tree.part h k)

  -- ---- all

  abbrev names_by : (key : List ℕ) → BoundTree → Option Face → List Name → List Name → List Name
  names_by key tree shown told aboves = tree.class ∷ (interfaces_in shown ++ (told ++ (member_names shown key ++ aboves)))

  pub all-one : (key : List ℕ) (tree : BoundTree) (notes : List Note) → Every IsOne (all_names F key tree notes) → all_names F key tree notes ≡ all_names G key tree notes
  all-one key tree notes all =
      let shown = interfaces_in (F tree.class) in
      let told = flat_map (told_names F) notes in
      let aboves = flat_map (above_names F) (implemented F key tree) in
      let own = member_names (F tree.class) key in
      let tells = every-front IsOne told (own ++ aboves) (every-back IsOne shown (told ++ (own ++ aboves)) all.1) in
      ap (λ (f : Option Face). names_by key tree f told aboves) all.0
      ∙ ap₂ (names_by key tree (G tree.class)) (told-one notes tells)
      (implemented-one key tree all.0 (every-front IsOne shown (told ++ (own ++ aboves)) all.1))
