-- The kinds of regions and locks, one by one.
use Rattle.std.proofs.Common.{◌≡◌, ℕ, ◌+◌, ◌<◌, List, [], ◌∷◌, ◌++◌, length, take, get_or, refl, sym, ◌∙◌, ap, subst, Bool, true, false, cond}
use Rattle.std.specs.Prelude.{Option, Some, None, codes, is_some}
use Rattle.std.specs.Option.{option_or}
use Rattle.std.specs.Str.{bytes_eq}
use Rattle.std.specs.Map.{lookup}
use Rattle.std.specs.Ordering.{nat_cmp, is_eq}
use Rattle.std.specs.Cmp.Lexicographic.{slice_cmp}
use Rattle.std.specs.BTreeMap.{BTreeMap, Updates, IsEmpty, is_at}
use Rattle.std.proofs.lemmas.List.{take_more}
use Rattle.std.proofs.lemmas.Map.Text.{is_eq-slice_cmp}
use Rattle.std.proofs.lemmas.Slice.Eq.{bytes_eq-Decides}
use Rattle.region_tree.specs.declared.decl.RegionDecl.{RegionDecl}
use Rattle.scrub_rules.specs.Target.{kinds_in}
use Rattle.header_scrub.specs.declared.lock.Lock.{Lock}
use Rattle.header_scrub.specs.Kinds.{declared_kind, region_kind, lock_kind, PutsKind, HasKinds}

or_none : (o : Option Bool) → option_or o None ≡ o
or_none None = refl
or_none (Some x) = refl

-- a name that was not there has a kind now
pub inserted_first : (old new : BTreeMap (List ℕ) Bool) (name : List ℕ) (kind : Bool) → Updates (slice_cmp nat_cmp) old new name (Some kind)
    → kinds_in old name ≡ None → PutsKind old new name kind
inserted_first old new name kind u absent = record { puts = λ q. go q (bytes_eq name q) refl }
  where
    go : (q : List ℕ) (b : Bool) → bytes_eq name q ≡ b → kinds_in new q ≡ option_or (kinds_in old q) (cond (bytes_eq name q) (Some kind) None)
    go q true e =
        let test : is_eq (slice_cmp nat_cmp name q) ≡ true = is_eq-slice_cmp name q ∙ e in
        let none : kinds_in old q ≡ None = subst (λ (z : List ℕ). kinds_in old z ≡ None) ((bytes_eq-Decides name q).0 e) absent in
        u.0 q ∙ ap (λ (b : Bool). cond b (Some kind) (kinds_in old q)) test
        ∙ sym (ap (λ (z : Option Bool). option_or z (cond (bytes_eq name q) (Some kind) None)) none ∙ ap (λ (b : Bool). cond b (Some kind) None) e)
    go q false e =
        let test : is_eq (slice_cmp nat_cmp name q) ≡ false = is_eq-slice_cmp name q ∙ e in
        u.0 q ∙ ap (λ (b : Bool). cond b (Some kind) (kinds_in old q)) test
        ∙ sym (ap (λ (b : Bool). option_or (kinds_in old q) (cond b (Some kind) None)) e ∙ or_none (kinds_in old q))

-- a name that was there stays
pub stays_first : (map_ : BTreeMap (List ℕ) Bool) (name : List ℕ) (kind : Bool) → is_some (kinds_in map_ name) ≡ true → PutsKind map_ map_ name kind
stays_first map_ name kind there = record { puts = λ q. go q (bytes_eq name q) refl }
  where
    keeps : (o p : Option Bool) → is_some o ≡ true → o ≡ option_or o p
    keeps None p h = absurd (cc)
    keeps (Some x) p h = refl

    go : (q : List ℕ) (b : Bool) → bytes_eq name q ≡ b → kinds_in map_ q ≡ option_or (kinds_in map_ q) (cond (bytes_eq name q) (Some kind) None)
    go q true e = keeps (kinds_in map_ q) (cond (bytes_eq name q) (Some kind) None) (subst (λ (z : List ℕ). is_some (kinds_in map_ z) ≡ true) ((bytes_eq-Decides name q).0 e) there)
    go q false e = sym (ap (λ (b : Bool). option_or (kinds_in map_ q) (cond b (Some kind) None)) e ∙ or_none (kinds_in map_ q))

lock_push : (ls : List Lock) (l : Lock) (q : List ℕ) → lock_kind (ls ++ l ∷ []) q ≡ option_or (lock_kind ls q) (cond (bytes_eq l.name q) (Some l.is_static) None)
lock_push [] l q = refl
lock_push (k ∷ ks) l q = elim (bytes_eq k.name q) as (λ b. cond b (Some k.is_static) (lock_kind (ks ++ l ∷ []) q)
    ≡ option_or (cond b (Some k.is_static) (lock_kind ks q)) (cond (bytes_eq l.name q) (Some l.is_static) None)) [ true ↦ refl | false ↦ lock_push ks l q ]

pub kinds_none : (map_ : BTreeMap (List ℕ) Bool) → IsEmpty map_ → HasKinds map_ (lock_kind [])
kinds_none map_ empty = record { has = λ q. ap (λ (es : List (List ℕ × Bool)). lookup (is_at (slice_cmp nat_cmp q)) es) empty }

-- the kind of one lock more
pub locks_more : (ls : List Lock) (i : ℕ) (l : Lock) (old new : BTreeMap (List ℕ) Bool) (name : List ℕ) → i < length ls → l ≡ get_or ls i l → name ≡ l.name
    → HasKinds old (lock_kind (take i ls)) → PutsKind old new name l.is_static → HasKinds new (lock_kind (take (i + 1) ls))
locks_more ls i l old new name low is named has puts = record {
  has = λ q.
      puts.puts q ∙ ap (λ (z : Option Bool). option_or z (cond (bytes_eq name q) (Some l.is_static) None)) (has.has q)
      ∙ ap (λ (z : List ℕ). option_or (lock_kind (take i ls) q) (cond (bytes_eq z q) (Some l.is_static) None)) named
      ∙ sym (lock_push (take i ls) l q)
      ∙ ap (λ (z : List Lock). lock_kind z q) (ap (λ (x : Lock). take i ls ++ x ∷ []) is ∙ sym (take_more ls i l low));
}

declared_push : (ds : List RegionDecl) (d : RegionDecl) (q : List ℕ) → declared_kind (ds ++ d ∷ []) q ≡ option_or (declared_kind ds q) (cond (bytes_eq d.name q) (Some d.is_static) None)
declared_push [] d q = refl
declared_push (k ∷ ks) d q = elim (bytes_eq k.name q) as (λ b. cond b (Some k.is_static) (declared_kind (ks ++ d ∷ []) q)
    ≡ option_or (cond b (Some k.is_static) (declared_kind ks q)) (cond (bytes_eq d.name q) (Some d.is_static) None)) [ true ↦ refl | false ↦ declared_push ks d q ]

two_tests : (a b : Bool) (x y p : Option Bool) → x ≡ option_or y p → cond a (Some false) (cond b (Some true) x) ≡ option_or (cond a (Some false) (cond b (Some true) y)) p
two_tests true b x y p h = refl
two_tests false true x y p h = refl
two_tests false false x y p h = h

region_push : (ds : List RegionDecl) (d : RegionDecl) (q : List ℕ) → region_kind (ds ++ d ∷ []) q ≡ option_or (region_kind ds q) (cond (bytes_eq d.name q) (Some d.is_static) None)
region_push ds d q = two_tests (bytes_eq q (codes "Instance")) (bytes_eq q (codes "Static")) _ _ _ (declared_push ds d q)

-- the kind of one region more
pub regions_more : (ds : List RegionDecl) (i : ℕ) (d : RegionDecl) (old new : BTreeMap (List ℕ) Bool) (name : List ℕ) → i < length ds → d ≡ get_or ds i d → name ≡ d.name
    → HasKinds old (region_kind (take i ds)) → PutsKind old new name d.is_static → HasKinds new (region_kind (take (i + 1) ds))
regions_more ds i d old new name low is named has puts = record {
  has = λ q.
      puts.puts q ∙ ap (λ (z : Option Bool). option_or z (cond (bytes_eq name q) (Some d.is_static) None)) (has.has q)
      ∙ ap (λ (z : List ℕ). option_or (region_kind (take i ds) q) (cond (bytes_eq z q) (Some d.is_static) None)) named
      ∙ sym (region_push (take i ds) d q)
      ∙ ap (λ (z : List RegionDecl). region_kind z q) (ap (λ (x : RegionDecl). take i ds ++ x ∷ []) is ∙ sym (take_more ds i d low));
}

symmetric : (xs ys : List ℕ) → bytes_eq xs ys ≡ bytes_eq ys xs
symmetric xs ys = go (bytes_eq xs ys) (bytes_eq ys xs) refl refl
  where
    go : (a b : Bool) → bytes_eq xs ys ≡ a → bytes_eq ys xs ≡ b → a ≡ b
    go true true p q = refl
    go false false p q = refl
    go true false p q = let e : ys ≡ xs = sym ((bytes_eq-Decides xs ys).0 p) in let h : bytes_eq ys xs ≡ true = (bytes_eq-Decides ys xs).1 e in cc
    go false true p q = let e : xs ≡ ys = sym ((bytes_eq-Decides ys xs).0 q) in let h : bytes_eq xs ys ≡ true = (bytes_eq-Decides xs ys).1 e in cc

roots_by : (a b : Bool) → option_or {T = Bool} (option_or {T = Bool} None (cond a (Some false) None)) (cond b (Some true) None) ≡ cond a (Some false) (cond b (Some true) None)
roots_by true b = refl
roots_by false true = refl
roots_by false false = refl

-- the kinds of the roots
pub roots_kinds : (m0 m1 m2 : BTreeMap (List ℕ) Bool) (first second : List ℕ) → IsEmpty m0 → first ≡ codes "Instance" → second ≡ codes "Static"
    → PutsKind m0 m1 first false → PutsKind m1 m2 second true → HasKinds m2 (region_kind [])
roots_kinds m0 m1 m2 first second empty is_first is_second one two = record {
  has = λ q.
      two.puts q
      ∙ ap (λ (z : Option Bool). option_or z (cond (bytes_eq second q) (Some true) None))
      (one.puts q ∙ ap (λ (z : Option Bool). option_or z (cond (bytes_eq first q) (Some false) None)) (ap (λ (es : List (List ℕ × Bool)). lookup (is_at (slice_cmp nat_cmp q)) es) empty))
      ∙ roots_by (bytes_eq first q) (bytes_eq second q)
      ∙ ap (λ (z : Bool). cond z (Some false) (cond (bytes_eq second q) (Some true) None)) (ap (λ (z : List ℕ). bytes_eq z q) is_first ∙ symmetric (codes "Instance") q)
      ∙ ap (λ (z : Bool). cond (bytes_eq q (codes "Instance")) (Some false) (cond z (Some true) None)) (ap (λ (z : List ℕ). bytes_eq z q) is_second ∙ symmetric (codes "Static") q);
}

pub none_of : (o : Option Bool) → is_some o ≡ false → o ≡ None
none_of None h = refl
none_of (Some x) h = absurd (cc)
