-- That the numbers that are kept are those of the program's names, and what is found by them.
use Rattle.std.proofs.Common.{◌≡◌, ℕ, zero, suc, ◌+◌, ◌<◌, ◌≤◌, drop, get_or, add-one, List, [], ◌∷◌, length, map, refl, sym, ◌∙◌, ap, Bool, true, false, cond, ◌||◌}
use Rattle.std.specs.Prelude.{Option, Some, None, is_some, find, MatchOption, IfSome}
use Rattle.std.specs.List.{position_from, list_any, slice_get, HoldsAt}
use Rattle.std.proofs.lemmas.Option.{slice_get_past, slice_get_read}
use Rattle.std.specs.Option.{option_and_then, option_copied}
use Rattle.std.specs.Borrow.{Bor}
use Rattle.std.specs.BTreeMap.{BTreeMap}
use Rattle.std.proofs.Math.Seq.{drop-cons}
use mathlib.Core.Path.{fun_ext}
use Rattle.core_model.specs.declared.program.Program.{Program}
use Rattle.core_model.specs.declared.program.ClassInfo.{ClassInfo}
use Rattle.core_model.specs.declared.program.UnitCode.{UnitCode}
use Rattle.class_faces.specs.declared.face.MemberFace.{MemberFace}
use Rattle.promise_scrub.specs.declared.surface.Surface.{Surface}
use Rattle.views.specs.Face.{Seen, face, surface_named, kind_of, declared_or}
use Rattle.views.specs.Looks.{keyed, member_in}
use Rattle.views.proofs.Finding.{find_at}
use Rattle.views.proofs.Showing.{face-some}
use Rattle.bound_unit.specs.UnitFacts.{UnitFacts}
use Rattle.lowering.specs.Numbers.{Numbers, or_zero}
use Rattle.program_maker.specs.declared.numbers.NameNumbers.{NameNumbers}
use Rattle.program_maker.specs.Seen.{Name, place_of}
use Rattle.program_maker.specs.Naming.{class_is, class_place, place_in_class, member_names, texts_of, numbers_of}
use Rattle.program_maker.specs.Numbered.{lent, number_at}
use Rattle.program_maker.specs.Locals.{face_keyed, count_in, param_count}
use Rattle.program_maker.specs.Program.{key_is, unit_place, unit_keyed, has_findings, class_info, unit_code, mains_from, whole_program}
use Rattle.program_maker.specs.Kept.{surfaces_lent, units_lent, number_in, numbers_at, field_at, numbers_as, FieldsNumbered, AreNumbers}

-- ---- lists of what is lent

-- whether any unit of what is left has findings: the first of it, or any behind it
any_step : (units : List (Bor UnitFacts)) (at : ℕ) (unit : Bor UnitFacts) → at < length units → unit ≡ get_or units at unit
    → list_any has_findings (units_lent (drop at units)) ≡ (has_findings unit.now || list_any has_findings (units_lent (drop (at + 1) units)))
any_step units at unit low is =
    ap (λ (list : List (Bor UnitFacts)). list_any has_findings (units_lent list))
    (drop-cons units at unit low ∙ ap (λ (b : Bor UnitFacts). b ∷ drop (suc at) units) (sym is) ∙ ap (λ (n : ℕ). unit ∷ drop n units) (sym (add-one at)))

pub any_here : (units : List (Bor UnitFacts)) (at : ℕ) (unit : Bor UnitFacts) → at < length units → unit ≡ get_or units at unit → has_findings unit.now ≡ true
    → true ≡ list_any has_findings (units_lent (drop at units))
any_here units at unit low is found =
    sym (any_step units at unit low is ∙ ap (λ (b : Bool). b || list_any has_findings (units_lent (drop (at + 1) units))) found)

pub any_later : (units : List (Bor UnitFacts)) (at : ℕ) (unit : Bor UnitFacts) → at < length units → unit ≡ get_or units at unit → has_findings unit.now ≡ false
    → list_any has_findings (units_lent (drop at units)) ≡ list_any has_findings (units_lent (drop (at + 1) units))
any_later units at unit low is none =
    any_step units at unit low is ∙ ap (λ (b : Bool). b || list_any has_findings (units_lent (drop (at + 1) units))) none

pub lent_at : {X : Type 0} (xs : List (Bor X)) (at : ℕ) → option_copied (slice_get xs at) ≡ slice_get (map (λ (b : Bor X). b.now) xs) at
lent_at [] at = refl
lent_at (x ∷ xs) zero = refl
lent_at (x ∷ xs) (suc at) = lent_at xs at

-- what stands at a place, copied
pub copied_at : {X : Type 0} (xs : List (Bor X)) (at : ℕ) (o : Option (Bor (Bor X)))
    → MatchOption o (length xs ≤ at) (λ (b : Bor (Bor X)). (at < length xs) × HoldsAt {X = Bor X} (λ (y : Bor X). b.now ≡ y) xs at)
    → IfSome o (λ (b : Bor (Bor X)). b.now ≡ get_or xs at b.now)
    → option_copied o ≡ slice_get xs at
copied_at xs at None past h = sym (slice_get_past xs at past)
copied_at xs at (Some b) low is = sym (slice_get_read xs (length xs) at b.now refl low.0 is)

-- ---- units

none_step : {X : Type 0} (b : Bool) (t : X → Bool) (i : ℕ) (x : X) (xs : List X) → cond b (Some i) (position_from t (i + 1) xs) ≡ None
    → (position_from t (i + 1) xs ≡ None → find t xs ≡ None) → cond b (Some x) (find t xs) ≡ None
none_step true t i x xs e h = absurd (cc)
none_step false t i x xs e h = h e

none_found : {X : Type 0} (t : X → Bool) (i : ℕ) (xs : List X) → position_from t i xs ≡ None → find t xs ≡ None
none_found t i [] e = refl
none_found t i (x ∷ xs) e = none_step (t x) t i x xs e (none_found t (i + 1) xs)

pub unit_absent : (units : List (Bor UnitFacts)) (key : Name) → unit_place (units_lent units) key ≡ None → unit_keyed (units_lent units) key ≡ None
unit_absent units key e = none_found (key_is key) 0 (units_lent units) e

pub unit_found : (units : List (Bor UnitFacts)) (key : Name) (place : ℕ) → unit_place (units_lent units) key ≡ Some place
    → option_copied (slice_get units place) ≡ unit_keyed (units_lent units) key
unit_found units key place e = lent_at units place ∙ find_at (key_is key) place (units_lent units) e

-- ---- parameters

face_found : (o : Option Surface) (surfaces : List Surface) (class key : Name) → surface_named surfaces class ≡ o → is_some o ≡ true
    → member_in (face (record { surfaces = surfaces; class = class }) class) key ≡ face_keyed surfaces class key
face_found None surfaces class key e some = absurd (cc)
face_found (Some s) surfaces class key e some =
    ap (λ f. member_in f key)
    (face-some (record { surfaces = surfaces; class = class }) class (record { kind = kind_of s.kind; surface = s }) (ap (λ (o : Option Surface). declared_or o class) e))
    ∙ sym (ap (λ (o : Option Surface). option_and_then (λ (t : Surface). keyed t.members key) o) e)

pub params_found : (surfaces : List Surface) (class key : Name) (seen : Seen) (o : Option (Bor MemberFace)) (m : Bor MemberFace) (n : ℕ)
    → is_some (surface_named surfaces class) ≡ true → seen ≡ record { surfaces = surfaces; class = class }
    → option_copied o ≡ member_in (face seen class) key → o ≡ Some m → n ≡ length m.now.params → n ≡ param_count surfaces class key
params_found surfaces class key seen o m n some same found is counted =
    counted
    ∙ ap count_in
    (ap option_copied (sym is) ∙ found ∙ ap (λ (v : Seen). member_in (face v class) key) same
    ∙ face_found (surface_named surfaces class) surfaces class key refl some)

pub params_absent : (surfaces : List Surface) (class key : Name) (seen : Seen) (o : Option (Bor MemberFace))
    → is_some (surface_named surfaces class) ≡ true → seen ≡ record { surfaces = surfaces; class = class }
    → option_copied o ≡ member_in (face seen class) key → o ≡ None → 0 ≡ param_count surfaces class key
params_absent surfaces class key seen o some same found is =
    ap count_in
    (ap option_copied (sym is) ∙ found ∙ ap (λ (v : Seen). member_in (face v class) key) same
    ∙ face_found (surface_named surfaces class) surfaces class key refl some)

-- ---- numbers

fields_at : (ms : List (BTreeMap (Bor Name) ℕ)) (types : List Surface) (at : ℕ) (f : Name) → FieldsNumbered ms types
    → number_in (slice_get ms at) f ≡ place_in_class (slice_get types at) f
fields_at [] [] at f h = refl
fields_at [] (s ∷ ss) at f h = absurd h
fields_at (m ∷ ms) [] at f h = absurd h
fields_at (m ∷ ms) (s ∷ ss) zero f h = h.0.has f
fields_at (m ∷ ms) (s ∷ ss) (suc at) f h = fields_at ms ss at f h.1

fields_of : (ms : List (BTreeMap (Bor Name) ℕ)) (types : List Surface) (c f : Name) (o : Option ℕ) → FieldsNumbered ms types → class_place types c ≡ o
    → number_in (numbers_at ms o) f ≡ place_in_class (surface_named types c) f
fields_of ms types c f None h e = ap (λ (s : Option Surface). place_in_class s f) (sym (none_found (class_is c) 0 types e))
fields_of ms types c f (Some i) h e = fields_at ms types i f h ∙ ap (λ (s : Option Surface). place_in_class s f) (find_at (class_is c) i types e)

fields_are : (n : NameNumbers) (types : List Surface) (added : List UnitFacts) → AreNumbers n types added → (c f : Name)
    → field_at n c f ≡ place_in_class (surface_named types c) f
fields_are n types added h c f =
    ap (λ (o : Option ℕ). number_in (numbers_at n.fields o) f) (h.classes.has c)
    ∙ fields_of n.fields types c f (class_place types c) h.fields refl

the_numbers : (Name → Option ℕ) → (Name → Name → ℕ) → (Name → ℕ) → (Name → ℕ) → Numbers
the_numbers classes fields members texts = record { class = classes; field = fields; member = members; text = texts }

same_numbers : (classes others : Name → Option ℕ) (fields more : Name → Name → ℕ) (members names texts words : Name → ℕ)
    → classes ≡ others → fields ≡ more → members ≡ names → texts ≡ words
    → the_numbers classes fields members texts ≡ the_numbers others more names words
same_numbers classes others fields more members names texts words a b c d = cc

-- they are those of the types and units
pub numbers-are : (n : NameNumbers) (types : List Surface) (added : List UnitFacts) → AreNumbers n types added → numbers_as n ≡ numbers_of types added
unfolding the_numbers
numbers-are n types added h =
    same_numbers (number_at n.classes) (class_place types)
    (λ (c f : Name). or_zero (field_at n c f)) (λ (c f : Name). or_zero (place_in_class (surface_named types c) f))
    (λ (m : Name). or_zero (number_at n.members.numbers m)) (λ (m : Name). or_zero (place_of (member_names types) m))
    (λ (t : Name). or_zero (number_at n.texts.numbers t)) (λ (t : Name). or_zero (place_of (texts_of added) t))
    (fun_ext h.classes.has)
    (fun_ext (λ (c : Name). fun_ext (λ (f : Name). ap or_zero (fields_are n types added h c f))))
    (fun_ext (λ (m : Name). ap or_zero (h.members.numbers.has m)))
    (fun_ext (λ (t : Name). ap or_zero (h.texts.numbers.has t)))

-- ---- the whole program

the_program : List ClassInfo → List UnitCode → List ℕ → List Name → Program
the_program classes codes mains members = record { classes = classes; units = codes; mains = mains; members = members }

same_program : (classes infos : List ClassInfo) (codes units : List UnitCode) (mains starts : List ℕ) (members names : List Name)
    → classes ≡ infos → codes ≡ units → mains ≡ starts → members ≡ names
    → the_program classes codes mains members ≡ the_program infos units starts names
same_program classes infos codes units mains starts members names a b c d = cc

pub program-is : (n : NameNumbers) (surfaces : List Surface) (types : List (Bor Surface)) (units : List UnitFacts)
    (classes : List ClassInfo) (codes : List UnitCode) (mains : List ℕ) (members : List Name)
    → surfaces_lent types ≡ surfaces → AreNumbers n (surfaces_lent types) units
    → classes ≡ map (class_info (numbers_as n) units) (surfaces_lent types)
    → codes ≡ map (unit_code (numbers_as n) surfaces) units
    → mains ≡ mains_from 0 (surfaces_lent types)
    → members ≡ lent n.members.names
    → (record { classes = classes; units = codes; mains = mains; members = members }) ≡ whole_program surfaces units
unfolding the_program
program-is n surfaces types units classes codes mains members shown h a b c d =
    same_program classes (map (class_info (numbers_of surfaces units) units) surfaces)
    codes (map (unit_code (numbers_of surfaces units) surfaces) units)
    mains (mains_from 0 surfaces) members (member_names surfaces)
    (a ∙ ap (λ (r : Numbers). map (class_info r units) (surfaces_lent types)) numbered ∙ ap (map (class_info (numbers_of surfaces units) units)) shown)
    (b ∙ ap (λ (r : Numbers). map (unit_code r surfaces) units) numbered)
    (c ∙ ap (mains_from 0) shown)
    (d ∙ h.members.names ∙ ap member_names shown)
  where
    numbered : numbers_as n ≡ numbers_of surfaces units
    numbered = numbers-are n (surfaces_lent types) units h ∙ ap (λ (list : List Surface). numbers_of list units) shown
