-- Names that are seen one after another.
use Rattle.std.proofs.Common.{◌≡◌, ℕ, suc, ◌+◌, ◌-◌, ◌<◌, ◌≤◌, List, [], ◌∷◌, ◌++◌, length, map, take, drop, get_or, refl, sym, ◌∙◌, ap, subst, arith, Bool, true, false, cond, add-one, append_assoc}
use Rattle.std.specs.Prelude.{Some, is_some, flat_map}
use Rattle.std.specs.List.{list_any}
use Rattle.std.specs.Ordering.{nat_cmp}
use Rattle.std.specs.Cmp.Lexicographic.{slice_cmp}
use Rattle.std.specs.Borrow.{Bor}
use Rattle.std.specs.BTreeMap.{BTreeMap, Updates}
use Rattle.std.proofs.lemmas.List.{take_more, map-append, length-map, append-nil}
use Rattle.std.proofs.lemmas.Grind.{flat_map-append}
use Rattle.std.proofs.Math.Seq.{drop-cons}
use Rattle.class_faces.specs.declared.face.MemberFace.{MemberFace}
use Rattle.promise_scrub.specs.declared.surface.Surface.{Surface}
use Rattle.views.proofs.Finding.{is_some-position}
use Rattle.lowering.specs.declared.code.NamedInstr.{NamedInstr}
use Rattle.lowering.specs.declared.code.NamedInstr.TheVariants as i
use Rattle.lowering.specs.Code.{Code, Done}
use Rattle.lowering.specs.CodeOf.{before, code_onto}
use Rattle.bound_unit.specs.UnitFacts.{UnitFacts}
use Rattle.program_maker.specs.Seen.{Name, is_name, with_new, seen_after}
use Rattle.program_maker.specs.declared.numbering.SeenNames.{SeenNames}
use Rattle.program_maker.specs.Naming.{name_of_member, names_of_members, texts_of}
use Rattle.program_maker.specs.Numbered.{lent, number_at, AreSeen}
use Rattle.program_maker.specs.Kept.{surfaces_lent, units_lent}
use Rattle.program_maker.specs.Texts.{code_texts, instr_texts, list_texts, unit_texts}
use Rattle.program_maker.proofs.Placing.{puts_new, numbered_more, lent_more}

-- ---- one name

among : (kept : SeenNames) (list : List Name) (name : Name) → AreSeen kept list → is_some (number_at kept.numbers name) ≡ list_any (is_name name) list
among kept list name k = ap is_some (k.numbers.has name) ∙ is_some-position (is_name name) 0 list

pub seen_old : (kept : SeenNames) (list : List Name) (name : Name) → AreSeen kept list → is_some (number_at kept.numbers name) ≡ true
    → AreSeen kept (with_new list name)
seen_old kept list name k there =
    subst (AreSeen kept) (sym (ap (λ (b : Bool). cond b list (list ++ name ∷ [])) (sym (among kept list name k) ∙ there))) k

seen_added : (kept : SeenNames) (names : List (Bor Name)) (numbers : BTreeMap (Bor Name) ℕ) (name : Bor Name) (n : ℕ) (list : List Name) → AreSeen kept list
    → is_some (number_at kept.numbers name.now) ≡ false → names ≡ kept.names ++ name ∷ [] → n ≡ length kept.names
    → Updates (λ (x y : Bor Name). slice_cmp nat_cmp x.now y.now) kept.numbers numbers name (Some n)
    → AreSeen (record { names = names; numbers = numbers }) (list ++ name.now ∷ [])
seen_added kept names numbers name n list k absent grown number u = record {
  names = ap lent grown ∙ map-append (λ (b : Bor Name). b.now) kept.names (name ∷ []) ∙ ap (λ (l : List Name). l ++ name.now ∷ []) k.names;
  numbers = numbered_more is_name list name.now kept.numbers numbers name.now (λ q. refl) k.numbers
      (puts_new kept.numbers numbers name (length list)
      (subst (λ (m : ℕ). Updates (λ (x y : Bor Name). slice_cmp nat_cmp x.now y.now) kept.numbers numbers name (Some m))
      (number ∙ sym (length-map kept.names (λ (b : Bor Name). b.now)) ∙ ap length k.names) u)
      absent);
}

pub seen_new : (kept : SeenNames) (names : List (Bor Name)) (numbers : BTreeMap (Bor Name) ℕ) (name : Bor Name) (n : ℕ) (list : List Name)
    → is_some (number_at kept.numbers name.now) ≡ false → names ≡ kept.names ++ name ∷ [] → n ≡ length kept.names
    → Updates (λ (x y : Bor Name). slice_cmp nat_cmp x.now y.now) kept.numbers numbers name (Some n)
    → AreSeen kept list
    → AreSeen (record { names = names; numbers = numbers }) (with_new list name.now)
seen_new kept names numbers name n list absent grown number u k =
    subst (AreSeen (record { names = names; numbers = numbers }))
    (sym (ap (λ (b : Bool). cond b list (list ++ name.now ∷ [])) (sym (among kept list name.now k) ∙ absent)))
    (seen_added kept names numbers name n list k absent grown number u)

-- ---- several names

pub seen-append : (before xs ys : List Name) → seen_after before (xs ++ ys) ≡ seen_after (seen_after before xs) ys
seen-append before [] ys = refl
seen-append before (x ∷ xs) ys = seen-append (with_new before x) xs ys

pub members_more : (before : List Name) (members : List MemberFace) (at : ℕ) (m : MemberFace) → at < length members → m ≡ get_or members at m
    → seen_after before (map name_of_member (take (at + 1) members)) ≡ with_new (seen_after before (map name_of_member (take at members))) (name_of_member m)
members_more before members at m low is =
    ap (λ (l : List MemberFace). seen_after before (map name_of_member l)) (take_more members at m low)
    ∙ ap (seen_after before) (map-append name_of_member (take at members) (get_or members at m ∷ []))
    ∙ seen-append before (map name_of_member (take at members)) (name_of_member (get_or members at m) ∷ [])
    ∙ ap (λ (x : MemberFace). with_new (seen_after before (map name_of_member (take at members))) (name_of_member x)) (sym is)

-- of one more in a list of what is lent
lent_seen : {X : Type 0} (before : List Name) (f : X → List Name) (list : List (Bor X)) (at : ℕ) (b : Bor X) → at < length list → b ≡ get_or list at b
    → seen_after before (flat_map f (map (λ (x : Bor X). x.now) (take (at + 1) list)))
    ≡ seen_after (seen_after before (flat_map f (map (λ (x : Bor X). x.now) (take at list)))) (f b.now)
lent_seen {X} before f list at b low is =
    ap (λ (l : List X). seen_after before (flat_map f l)) (lent_more list at b low is)
    ∙ ap (seen_after before) (flat_map-append f (map (λ (x : Bor X). x.now) (take at list)) (b.now ∷ []))
    ∙ seen-append before (flat_map f (map (λ (x : Bor X). x.now) (take at list))) (flat_map f (b.now ∷ []))
    ∙ ap (seen_after (seen_after before (flat_map f (map (λ (x : Bor X). x.now) (take at list))))) (append-nil (f b.now))

pub surfaces_seen : (before : List Name) (list : List (Bor Surface)) (at : ℕ) (b : Bor Surface) → at < length list → b ≡ get_or list at b
    → seen_after before (flat_map names_of_members (surfaces_lent (take (at + 1) list)))
    ≡ seen_after (seen_after before (flat_map names_of_members (surfaces_lent (take at list)))) (names_of_members b.now)
surfaces_seen before list at b low is = lent_seen before names_of_members list at b low is

pub units_seen : (list : List (Bor UnitFacts)) (at : ℕ) (b : Bor UnitFacts) → at < length list → b ≡ get_or list at b
    → texts_of (units_lent (take (at + 1) list)) ≡ seen_after (texts_of (units_lent (take at list))) (unit_texts b.now)
units_seen list at b low is = lent_seen [] unit_texts list at b low is

-- ---- code

texts-before : (x : NamedInstr) (k : Code) → code_texts (before x k) ≡ instr_texts x ++ code_texts k
texts-before (i.Do n p) k = refl
texts-before (i.If n a b) k = sym (append_assoc (code_texts a) (code_texts b) (code_texts k))
texts-before (i.While n a b) k = sym (append_assoc (code_texts a) (code_texts b) (code_texts k))
texts-before (i.Enter n b) k = refl
texts-before (i.EnterClass n c b) k = refl

texts-onto : (xs : List NamedInstr) (k : Code) → code_texts (code_onto k xs) ≡ list_texts xs ++ code_texts k
texts-onto [] k = refl
texts-onto (x ∷ xs) k =
    texts-onto xs (before x k)
    ∙ ap (λ (l : List Name). list_texts xs ++ l) (texts-before x k)
    ∙ sym (append_assoc (list_texts xs) (instr_texts x) (code_texts k))

pub texts-listed : (xs : List NamedInstr) → code_texts (code_onto Done xs) ≡ list_texts xs
texts-listed xs = texts-onto xs Done ∙ append-nil (list_texts xs)

-- one instruction more, before those that are seen
pub texts_more : (before : List Name) (xs : List NamedInstr) (at : ℕ) (x : NamedInstr) → 0 < at → at ≤ length xs → x ≡ get_or xs (at - 1) x
    → seen_after before (list_texts (drop (at - 1) xs)) ≡ seen_after (seen_after before (list_texts (drop at xs))) (instr_texts x)
texts_more before xs at x some low is =
    ap (λ (l : List NamedInstr). seen_after before (list_texts l)) rest ∙ seen-append before (list_texts (drop at xs)) (instr_texts x)
  where
    back : (at - 1) + 1 ≡ at
    back = omega arith

    below : at - 1 < length xs
    below = omega arith

    rest : drop (at - 1) xs ≡ x ∷ drop at xs
    rest = drop-cons xs (at - 1) x below ∙ ap (λ (y : NamedInstr). y ∷ drop (suc (at - 1)) xs) (sym is) ∙ ap (λ (n : ℕ). x ∷ drop n xs) (sym (add-one (at - 1)) ∙ back)

-- all instructions are seen
pub texts_all : (before : List Name) (xs : List NamedInstr) (at : ℕ) (code : Code) → at ≡ 0 → code_onto Done xs ≡ code
    → seen_after before (list_texts (drop at xs)) ≡ seen_after before (code_texts code)
texts_all before xs at code none all =
    ap (λ (n : ℕ). seen_after before (list_texts (drop n xs))) none
    ∙ ap (seen_after before) (sym (texts-listed xs))
    ∙ ap (λ (k : Code). seen_after before (code_texts k)) all
