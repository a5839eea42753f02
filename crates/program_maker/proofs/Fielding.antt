-- The places of fields among those of their kind, in a list that grows at its end.
use Rattle.std.proofs.Common.{◌≡◌, ℕ, ◌+◌, ◌<◌, List, [], ◌∷◌, ◌++◌, length, take, get_or, refl, sym, ◌∙◌, ap, subst, arith, Bool, true, false, cond, ◌||◌}
use Rattle.std.specs.Prelude.{Option, Some, None, is_some, find, filter, not}
use Rattle.std.specs.List.{position_from, list_any}
use Rattle.std.specs.Option.{option_or}
use Rattle.std.specs.Borrow.{Bor}
use Rattle.std.specs.BTreeMap.{BTreeMap}
use Rattle.std.specs.Str.{bytes_eq}
use Rattle.std.proofs.lemmas.List.{take_more, length-append}
use Rattle.std.proofs.lemmas.List.Elements.{filter-append}
use Rattle.std.proofs.lemmas.List.Folds.{find-append}
use Rattle.core_model.specs.Operators.{same_bool}
use Rattle.class_faces.specs.declared.face.FieldFace.{FieldFace}
use Rattle.promise_scrub.specs.declared.surface.Surface.{Surface}
use Rattle.views.proofs.Finding.{is_some-position}
use Rattle.program_maker.specs.Seen.{Name}
use Rattle.program_maker.specs.Naming.{field_is, faces_of_kind, place_of_field, field_place}
use Rattle.program_maker.specs.Numbered.{number_at, PutsFirst, HasNumbers}
use Rattle.program_maker.specs.Kept.{FieldsNumbered, surfaces_lent}
use Rattle.program_maker.proofs.Placing.{position-grown, lent_more}

same_self : (b : Bool) → same_bool b b ≡ true
same_self true = refl
same_self false = refl

abbrev of_kind : Bool → FieldFace → Bool
of_kind s f = same_bool s f.is_static

-- ---- a test that no element passes, or that an element of a kind passes

find_none : {X : Type 0} (p : X → Bool) (xs : List X) → find p xs ≡ None → list_any p xs ≡ false
find_none p [] e = refl
find_none {X} p (x ∷ xs) e = step (p x) e (find_none p xs) where
  step : (b : Bool) → cond b (Some x) (find p xs) ≡ None → (find p xs ≡ None → list_any p xs ≡ false) → (b || list_any p xs) ≡ false
  step true e h = absurd (cc)
  step false e h = h e

none_in_filter : {X : Type 0} (p k : X → Bool) (xs : List X) → list_any p xs ≡ false → list_any p (filter k xs) ≡ false
none_in_filter p k [] e = refl
none_in_filter {X} p k (x ∷ xs) e = step (p x) (k x) refl e (none_in_filter p k xs) where
  step : (b c : Bool) → p x ≡ b → (b || list_any p xs) ≡ false → (list_any p xs ≡ false → list_any p (filter k xs) ≡ false)
      → list_any p (cond c (x ∷ filter k xs) (filter k xs)) ≡ false
  step true c is e h = absurd (cc)
  step false true is e h = ap (λ (b : Bool). b || list_any p (filter k xs)) is ∙ h e
  step false false is e h = h e

some_in_filter : (p : FieldFace → Bool) (f : FieldFace) (xs : List FieldFace) → find p xs ≡ Some f → list_any p (faces_of_kind f.is_static xs) ≡ true
some_in_filter p f [] e = absurd (cc)
some_in_filter p f (x ∷ xs) e = step (p x) (of_kind f.is_static x) refl refl e (some_in_filter p f xs) where
  step : (b c : Bool) → p x ≡ b → of_kind f.is_static x ≡ c → cond b (Some x) (find p xs) ≡ Some f
      → (find p xs ≡ Some f → list_any p (faces_of_kind f.is_static xs) ≡ true)
      → list_any p (cond c (x ∷ faces_of_kind f.is_static xs) (faces_of_kind f.is_static xs)) ≡ true
  step true true is kind e h = ap (λ (b : Bool). b || list_any p (faces_of_kind f.is_static xs)) is
  step true false is kind e h =
      let same : x ≡ f = cc in
      let one : of_kind f.is_static x ≡ true = ap (of_kind f.is_static) same ∙ same_self f.is_static in
      absurd (cc)
  step false true is kind e h = ap (λ (b : Bool). b || list_any p (faces_of_kind f.is_static xs)) is ∙ h e
  step false false is kind e h = h e

-- ---- positions

some-kept : (o p : Option ℕ) → is_some o ≡ true → option_or o p ≡ o
some-kept None p e = absurd (cc)
some-kept (Some x) p e = refl

none-gone : (o p : Option ℕ) → is_some o ≡ false → option_or o p ≡ p
none-gone None p e = refl
none-gone (Some x) p e = absurd (cc)

-- with one more of the kind, or none
abbrev kind_more : Bool → FieldFace → List FieldFace
kind_more b f = cond b (f ∷ []) []

kind-grown : (s : Bool) (xs : List FieldFace) (f : FieldFace) → faces_of_kind s (xs ++ f ∷ []) ≡ faces_of_kind s xs ++ kind_more (of_kind s f) f
kind-grown s xs f = filter-append (of_kind s) xs (f ∷ [])

append-none : (xs : List FieldFace) → xs ++ [] ≡ xs
append-none [] = refl
append-none (x ∷ xs) = ap (λ (l : List FieldFace). x ∷ l) (append-none xs)

-- where the place is there already
place-kept : (t : FieldFace → Bool) (xs : List FieldFace) (b : Bool) (f : FieldFace) → list_any t xs ≡ true
    → position_from t 0 (xs ++ kind_more b f) ≡ position_from t 0 xs
place-kept t xs true f there = position-grown t 0 xs f ∙ some-kept (position_from t 0 xs) (cond (t f) (Some (0 + length xs)) None) (is_some-position t 0 xs ∙ there)
place-kept t xs false f there = ap (position_from t 0) (append-none xs)

-- where it is that of the new one
place-new : (t : FieldFace → Bool) (xs : List FieldFace) (f : FieldFace) → list_any t xs ≡ false → t f ≡ true
    → position_from t 0 (xs ++ f ∷ []) ≡ Some (length xs)
place-new t xs f none is =
    position-grown t 0 xs f
    ∙ none-gone (position_from t 0 xs) (cond (t f) (Some (0 + length xs)) None) (is_some-position t 0 xs ∙ none)
    ∙ ap (λ (b : Bool). cond b (Some (0 + length xs)) None) is
    ∙ ap (λ (n : ℕ). Some n) (let e : 0 + length xs ≡ length xs = omega arith in e)

grown-some : (xs : List FieldFace) (f g : FieldFace) (q : Name) (more : Option ℕ) → find (field_is q) xs ≡ Some g
    → place_of_field (xs ++ f ∷ []) q (Some g) ≡ option_or (place_of_field xs q (Some g)) more
grown-some xs f g q more e =
    ap (position_from (field_is q) 0) (kind-grown g.is_static xs f)
    ∙ place-kept (field_is q) (faces_of_kind g.is_static xs) (of_kind g.is_static f) f (some_in_filter (field_is q) g xs e)
    ∙ sym (some-kept (position_from (field_is q) 0 (faces_of_kind g.is_static xs)) more
    (is_some-position (field_is q) 0 (faces_of_kind g.is_static xs) ∙ some_in_filter (field_is q) g xs e))

grown-none : (xs : List FieldFace) (f : FieldFace) (q : Name) (b : Bool) → list_any (field_is q) xs ≡ false → field_is q f ≡ b
    → place_of_field (xs ++ f ∷ []) q (cond b (Some f) None) ≡ cond b (Some (length (faces_of_kind f.is_static xs))) None
grown-none xs f q true none is =
    ap (position_from (field_is q) 0) (kind-grown f.is_static xs f ∙ ap (λ (b : Bool). faces_of_kind f.is_static xs ++ kind_more b f) (same_self f.is_static))
    ∙ place-new (field_is q) (faces_of_kind f.is_static xs) f (none_in_filter (field_is q) (of_kind f.is_static) xs none) is
grown-none xs f q false none is = refl

grown-by : (xs : List FieldFace) (f : FieldFace) (q : Name) (o : Option FieldFace) → find (field_is q) xs ≡ o
    → place_of_field (xs ++ f ∷ []) q (option_or o (find (field_is q) (f ∷ [])))
    ≡ option_or (place_of_field xs q o) (cond (bytes_eq f.name q) (Some (length (faces_of_kind f.is_static xs))) None)
grown-by xs f q (Some g) e = grown-some xs f g q (cond (bytes_eq f.name q) (Some (length (faces_of_kind f.is_static xs))) None) e
grown-by xs f q None e = grown-none xs f q (bytes_eq f.name q) (find_none (field_is q) xs e) refl

field-grown : (xs : List FieldFace) (f : FieldFace) (q : Name)
    → field_place (xs ++ f ∷ []) q ≡ option_or (field_place xs q) (cond (bytes_eq f.name q) (Some (length (faces_of_kind f.is_static xs))) None)
field-grown xs f q = ap (place_of_field (xs ++ f ∷ []) q) (find-append (field_is q) xs (f ∷ [])) ∙ grown-by xs f q (find (field_is q) xs) refl

-- ---- the loop over fields

pub field_more : (fields : List FieldFace) (at : ℕ) (f : FieldFace) (old new : BTreeMap (Bor Name) ℕ) (name : Name) (n : ℕ)
    → at < length fields → f ≡ get_or fields at f → name ≡ f.name → n ≡ length (faces_of_kind f.is_static (take at fields))
    → HasNumbers old (field_place (take at fields)) → PutsFirst old new name n → HasNumbers new (field_place (take (at + 1) fields))
field_more fields at f old new name n low is named number h p = record {
  has = λ (q : Name).
      p.puts q
      ∙ ap (λ (k : Name). option_or (number_at old q) (cond (bytes_eq k q) (Some n) None)) named
      ∙ ap (λ (o : Option ℕ). option_or o (cond (bytes_eq f.name q) (Some n) None)) (h.has q)
      ∙ ap (λ (m : ℕ). option_or (field_place (take at fields) q) (cond (bytes_eq f.name q) (Some m) None)) number
      ∙ sym (field-grown (take at fields) f q)
      ∙ ap (λ (l : List FieldFace). field_place l q) (ap (λ (x : FieldFace). take at fields ++ x ∷ []) is ∙ sym (take_more fields at f low));
}

abbrev one_if : Bool → ℕ
one_if b = cond b 1 0

length-more : (b : Bool) (f : FieldFace) → length (kind_more b f) ≡ one_if b
length-more true f = refl
length-more false f = refl

pub kind_counted : (s : Bool) (fields : List FieldFace) (at : ℕ) (f : FieldFace) → at < length fields → f ≡ get_or fields at f
    → length (faces_of_kind s (take (at + 1) fields)) ≡ length (faces_of_kind s (take at fields)) + one_if (same_bool s f.is_static)
kind_counted s fields at f low is =
    ap (λ (l : List FieldFace). length (faces_of_kind s l)) (take_more fields at f low ∙ ap (λ (x : FieldFace). take at fields ++ x ∷ []) (sym is))
    ∙ ap length (kind-grown s (take at fields) f)
    ∙ length-append (faces_of_kind s (take at fields)) (kind_more (of_kind s f) f)
    ∙ ap (λ (n : ℕ). length (faces_of_kind s (take at fields)) + n) (length-more (of_kind s f) f)

-- ---- the fields of all classes

pub fields_grown : (ms : List (BTreeMap (Bor Name) ℕ)) (ss : List Surface) (m : BTreeMap (Bor Name) ℕ) (s : Surface)
    → FieldsNumbered ms ss → HasNumbers m (field_place s.fields) → FieldsNumbered (ms ++ m ∷ []) (ss ++ s ∷ [])
fields_grown [] [] m s h n = (n, tt)
fields_grown [] (x ∷ xs) m s h n = absurd h
fields_grown (x ∷ xs) [] m s h n = absurd h
fields_grown (x ∷ xs) (y ∷ ys) m s h n = (h.0, fields_grown xs ys m s h.1 n)

pub fields_more : (list : List (Bor Surface)) (at : ℕ) (b : Bor Surface) (ms new : List (BTreeMap (Bor Name) ℕ)) (m : BTreeMap (Bor Name) ℕ)
    → at < length list → b ≡ get_or list at b → FieldsNumbered ms (surfaces_lent (take at list)) → HasNumbers m (field_place b.now.fields)
    → new ≡ ms ++ m ∷ [] → FieldsNumbered new (surfaces_lent (take (at + 1) list))
fields_more list at b ms new m low is h n grown =
    subst (λ (l : List (BTreeMap (Bor Name) ℕ)). FieldsNumbered l (surfaces_lent (take (at + 1) list))) (sym grown)
    (subst (FieldsNumbered (ms ++ m ∷ [])) (sym (lent_more list at b low is)) (fields_grown ms (surfaces_lent (take at list)) m b.now h n))

-- ---- one field more of a kind

pub kind_gains : (s : Bool) (fields : List FieldFace) (at : ℕ) (f : FieldFace) (n m : ℕ) → at < length fields → f ≡ get_or fields at f → f.is_static ≡ s
    → n ≡ length (faces_of_kind s (take at fields)) → m ≡ n + 1 → m ≡ length (faces_of_kind s (take (at + 1) fields))
kind_gains s fields at f n m low is kind counted more =
    let one : one_if (same_bool s f.is_static) ≡ 1 = ap one_if (ap (same_bool s) kind ∙ same_self s) in
    omega (arith, kind_counted s fields at f low is)

same_not : (s : Bool) → same_bool s (not s) ≡ false
same_not true = refl
same_not false = refl

pub kind_stays : (s : Bool) (fields : List FieldFace) (at : ℕ) (f : FieldFace) (n m : ℕ) → at < length fields → f ≡ get_or fields at f → f.is_static ≡ not s
    → n ≡ length (faces_of_kind s (take at fields)) → m ≡ n → m ≡ length (faces_of_kind s (take (at + 1) fields))
kind_stays s fields at f n m low is kind counted same =
    let none : one_if (same_bool s f.is_static) ≡ 0 = ap one_if (ap (same_bool s) kind ∙ same_not s) in
    omega (arith, kind_counted s fields at f low is)

pub kind_number : (s : Bool) (fields : List FieldFace) (f : FieldFace) (n : ℕ) → f.is_static ≡ s → n ≡ length (faces_of_kind s fields)
    → n ≡ length (faces_of_kind f.is_static fields)
kind_number s fields f n kind counted = counted ∙ ap (λ (b : Bool). length (faces_of_kind b fields)) (sym kind)
