-- The places of names in lists that grow at their ends, and maps that have them.
use Rattle.std.proofs.Common.{◌≡◌, ℕ, ◌+◌, List, [], ◌∷◌, ◌++◌, length, map, refl, sym, ◌∙◌, ap, arith, Bool, true, false, cond}
use Rattle.std.specs.Prelude.{Option, Some, None, is_some}
use Rattle.std.specs.List.{position_from}
use Rattle.std.specs.Option.{option_or}
use Rattle.std.specs.Ordering.{nat_cmp}
use Rattle.std.specs.Cmp.Lexicographic.{slice_cmp}
use Rattle.std.specs.Borrow.{Bor}
use Rattle.std.specs.BTreeMap.{BTreeMap, Updates, IsEmpty, is_at}
use Rattle.std.specs.Map.{lookup}
use Rattle.std.specs.Str.{bytes_eq}
use Rattle.std.proofs.lemmas.Map.Text.{btree_map_updates_str}
use Rattle.std.proofs.lemmas.Slice.Eq.{bytes_eq-Decides}
use Rattle.std.proofs.Common.{◌<◌, take, get_or, subst}
use Rattle.std.proofs.lemmas.List.{take_more, map-append, length-map, length-take-le}
use Rattle.promise_scrub.specs.declared.surface.Surface.{Surface}
use Rattle.bound_unit.specs.UnitFacts.{UnitFacts}
use Rattle.program_maker.specs.Seen.{Name}
use Rattle.program_maker.specs.Naming.{class_is, class_place}
use Rattle.program_maker.specs.Program.{key_is, unit_place}
use Rattle.program_maker.specs.Kept.{surfaces_lent, units_lent}
use Rattle.program_maker.specs.Numbered.{number_at, PutsFirst, HasNumbers}

or_none : (o : Option ℕ) → o ≡ option_or o None
or_none None = refl
or_none (Some x) = refl

put_where : (b : Bool) (o : Option ℕ) (w : ℕ) → (b ≡ true → o ≡ None) → cond b (Some w) o ≡ option_or o (cond b (Some w) None)
put_where true o w h = sym (ap (λ (p : Option ℕ). option_or p (Some w)) (h refl))
put_where false o w h = or_none o

kept_where : (b : Bool) (o : Option ℕ) (w : ℕ) → (b ≡ true → is_some o ≡ true) → o ≡ option_or o (cond b (Some w) None)
kept_where b (Some x) w h = refl
kept_where true None w h = absurd (let e : false ≡ true = h refl in cc)
kept_where false None w h = refl

none_of : (o : Option ℕ) → is_some o ≡ false → o ≡ None
none_of None e = refl
none_of (Some x) e = absurd (cc)

-- a name that was not there is put
pub puts_new : (old new : BTreeMap (Bor Name) ℕ) (name : Bor Name) (number : ℕ)
    → Updates (λ (x y : Bor Name). slice_cmp nat_cmp x.now y.now) old new name (Some number)
    → is_some (number_at old name.now) ≡ false → PutsFirst old new name.now number
puts_new old new name number u absent = record {
  puts = λ (q : Name).
      btree_map_updates_str name.now old new (Some number) u q
      ∙ put_where (bytes_eq name.now q) (number_at old q) number
      (λ e. ap (number_at old) (sym ((bytes_eq-Decides name.now q).0 e)) ∙ none_of (number_at old name.now) absent);
}

-- a name that was there stays
pub puts_none : (old : BTreeMap (Bor Name) ℕ) (name : Name) (number : ℕ) → is_some (number_at old name) ≡ true → PutsFirst old old name number
puts_none old name number there = record {
  puts = λ (q : Name).
      kept_where (bytes_eq name q) (number_at old q) number
      (λ e. ap (λ (n : Name). is_some (number_at old n)) (sym ((bytes_eq-Decides name q).0 e)) ∙ there);
}

-- an empty map has no number
pub none_numbered : (numbers : BTreeMap (Bor Name) ℕ) (number : Name → Option ℕ) → IsEmpty numbers → ((q : Name) → number q ≡ None) → HasNumbers numbers number
none_numbered numbers number empty none = record {
  has = λ (q : Name). ap (λ (es : List (Bor Name × ℕ)). lookup (is_at (λ (k : Bor Name). slice_cmp nat_cmp q k.now)) es) empty ∙ sym (none q);
}

grown_step : {X : Type 0} (b : Bool) (t : X → Bool) (i : ℕ) (x : X) (y : X) (ys : List X) (more : Option ℕ)
    → more ≡ option_or (position_from t (i + 1) ys) (cond (t x) (Some ((i + 1) + length ys)) None)
    → cond b (Some i) more ≡ option_or (cond b (Some i) (position_from t (i + 1) ys)) (cond (t x) (Some (i + length (y ∷ ys))) None)
grown_step true t i x y ys more h = refl
grown_step false t i x y ys more h =
    h ∙ ap (λ (n : ℕ). option_or (position_from t (i + 1) ys) (cond (t x) (Some n) None)) (let e : (i + 1) + length ys ≡ i + length (y ∷ ys) = omega arith in e)

-- the place in a list that grows
pub position-grown : {X : Type 0} (t : X → Bool) (i : ℕ) (xs : List X) (x : X)
    → position_from t i (xs ++ x ∷ []) ≡ option_or (position_from t i xs) (cond (t x) (Some (i + length xs)) None)
position-grown {X} t i [] x = ap (λ (n : ℕ). cond (t x) (Some n) None) (let e : i ≡ i + 0 = omega arith in e)
position-grown {X} t i (y ∷ ys) x = grown_step (t y) t i x y ys (position_from t (i + 1) (ys ++ x ∷ [])) (position-grown t (i + 1) ys x)

-- one element more, with the number of its place
pub numbered_more : {X : Type 0} (test : Name → X → Bool) (xs : List X) (x : X) (old new : BTreeMap (Bor Name) ℕ) (name : Name)
    → ((q : Name) → bytes_eq name q ≡ test q x) → HasNumbers old (λ q. position_from (test q) 0 xs) → PutsFirst old new name (length xs)
    → HasNumbers new (λ q. position_from (test q) 0 (xs ++ x ∷ []))
numbered_more test xs x old new name same h p = record {
  has = λ (q : Name).
      p.puts q
      ∙ ap (λ (o : Option ℕ). option_or o (cond (bytes_eq name q) (Some (length xs)) None)) (h.has q)
      ∙ ap (λ (b : Bool). option_or (position_from (test q) 0 xs) (cond b (Some (length xs)) None)) (same q)
      ∙ ap (λ (n : ℕ). option_or (position_from (test q) 0 xs) (cond (test q x) (Some n) None)) (let e : length xs ≡ 0 + length xs = omega arith in e)
      ∙ sym (position-grown (test q) 0 xs x);
}

-- ---- what is lent

-- one more of a list of what is lent
pub lent_more : {X : Type 0} (list : List (Bor X)) (at : ℕ) (b : Bor X) → at < length list → b ≡ get_or list at b
    → map (λ (x : Bor X). x.now) (take (at + 1) list) ≡ map (λ (x : Bor X). x.now) (take at list) ++ b.now ∷ []
lent_more {X} list at b low is =
    ap (map (λ (x : Bor X). x.now)) (take_more list at b low)
    ∙ map-append (λ (x : Bor X). x.now) (take at list) (get_or list at b ∷ [])
    ∙ ap (λ (y : Bor X). map (λ (x : Bor X). x.now) (take at list) ++ y.now ∷ []) (sym is)

lent_length : {X : Type 0} (list : List (Bor X)) (at : ℕ) → at < length list → at ≡ length (map (λ (x : Bor X). x.now) (take at list))
lent_length {X} list at low = sym (length-map (take at list) (λ (x : Bor X). x.now) ∙ length-take-le at list (omega arith))

place_more : {X : Type 0} (test : Name → X → Bool) (list : List (Bor X)) (at : ℕ) (b : Bor X) (old new : BTreeMap (Bor Name) ℕ) (name : Name) (n : ℕ)
    → at < length list → b ≡ get_or list at b → ((q : Name) → bytes_eq name q ≡ test q b.now) → n ≡ at
    → HasNumbers old (λ q. position_from (test q) 0 (map (λ (x : Bor X). x.now) (take at list))) → PutsFirst old new name n
    → HasNumbers new (λ q. position_from (test q) 0 (map (λ (x : Bor X). x.now) (take (at + 1) list)))
place_more {X} test list at b old new name n low is same number h p =
    subst (λ (xs : List X). HasNumbers new (λ q. position_from (test q) 0 xs)) (sym (lent_more list at b low is))
    (numbered_more test (map (λ (x : Bor X). x.now) (take at list)) b.now old new name same h
    (subst (PutsFirst old new name) (number ∙ lent_length list at low) p))

pub class_more : (list : List (Bor Surface)) (at : ℕ) (b : Bor Surface) (old new : BTreeMap (Bor Name) ℕ) (name : Name) (n : ℕ)
    → at < length list → b ≡ get_or list at b → name ≡ b.now.name → n ≡ at
    → HasNumbers old (class_place (surfaces_lent (take at list))) → PutsFirst old new name n
    → HasNumbers new (class_place (surfaces_lent (take (at + 1) list)))
class_more list at b old new name n low is named number h p =
    place_more class_is list at b old new name n low is (λ q. ap (λ (k : Name). bytes_eq k q) named) number h p

pub unit_more : (list : List (Bor UnitFacts)) (at : ℕ) (b : Bor UnitFacts) (old new : BTreeMap (Bor Name) ℕ) (name : Name) (n : ℕ)
    → at < length list → b ≡ get_or list at b → name ≡ b.now.key → n ≡ at
    → HasNumbers old (unit_place (units_lent (take at list))) → PutsFirst old new name n
    → HasNumbers new (unit_place (units_lent (take (at + 1) list)))
unit_more list at b old new name n low is named number h p =
    place_more key_is list at b old new name n low is (λ q. ap (λ (k : Name). bytes_eq k q) named) number h p
