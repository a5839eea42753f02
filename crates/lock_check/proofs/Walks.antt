-- Walks over the promises of a unit by their numbers.
use Rattle.std.proofs.Common.{◌≡◌, ℕ, zero, suc, ◌+◌, List, [], ◌∷◌, ◌++◌, ◌<◌, ◌≤◌, length, get_or, map, take, drop, refl, sym, ◌∙◌, ap, arith, add-one, append_assoc, append-nil, Bool, true, false, cond}
use Rattle.std.specs.Prelude.{Option, Some, filter}
use Rattle.std.specs.List.{flat_map, slice_get}
use Rattle.std.specs.Option.{option_to_list}
use Rattle.std.proofs.lemmas.List.{drop_more, map-append}
use Rattle.std.proofs.lemmas.Grind.{common_steps, flat_map-append}
use Rattle.promise_scrub.specs.declared.surface.Standing.{Standing}
use Rattle.lock_findings.specs.declared.lock.Need.{Need}
use Rattle.lock_findings.specs.declared.own.OwnNeed.{OwnNeed}
use Rattle.class_faces.specs.declared.face.ParamFace.{ParamFace}
use Rattle.lock_check.specs.Needs.{is_named, of_param, owner_from}
use Rattle.lock_check.specs.Owned.{own_need_in, own_needs_from, place_at}

take_more : {X : Type 0} (xs : List X) (i : ℕ) → take (suc i) xs ≡ take i xs ++ option_to_list (slice_get xs i)
take_more [] zero = refl
take_more [] (suc i) = refl
take_more (x ∷ xs) zero = refl
take_more (x ∷ xs) (suc i) = ap (λ ys. x ∷ ys) (take_more xs i)

-- one element more, where there is one
pub take_next : {X : Type 0} (xs : List X) (i : ℕ) → take (i + 1) xs ≡ take i xs ++ option_to_list (slice_get xs i)
take_next xs i = ap (λ n. take n xs) (add-one i) ∙ take_more xs i

pub flat_next : {X Y : Type 0} (f : X → List Y) (xs : List X) (i : ℕ) (o : Option X) (mid new : List Y) → o ≡ slice_get xs i
    → mid ≡ flat_map f (take i xs) → new ≡ mid ++ flat_map f (option_to_list o) → new ≡ flat_map f (take (i + 1) xs)
flat_next f xs i o mid new is before put =
    put ∙ ap (λ ys. ys ++ flat_map f (option_to_list o)) before
    ∙ ap (λ p. flat_map f (take i xs) ++ flat_map f (option_to_list p)) is
    ∙ sym (ap (flat_map f) (take_next xs i) ∙ flat_map-append f (take i xs) (option_to_list (slice_get xs i)))

filter-append : {X : Type 0} (p : X → Bool) (xs ys : List X) → filter p (xs ++ ys) ≡ filter p xs ++ filter p ys
filter-append p [] ys = refl
filter-append {X} p (x ∷ xs) ys = go (p x) (filter-append p xs ys)
  where
    go : (b : Bool) → filter p (xs ++ ys) ≡ filter p xs ++ filter p ys
        → cond b (x ∷ filter p (xs ++ ys)) (filter p (xs ++ ys)) ≡ cond b (x ∷ filter p xs) (filter p xs) ++ filter p ys
    go true more = ap (λ (zs : List X). x ∷ zs) more
    go false more = more

pub map_next : {X Y : Type 0} (f : X → Y) (p : X → Bool) (xs : List X) (i : ℕ) (o : Option X) (mid new : List Y) → o ≡ slice_get xs i
    → mid ≡ map f (filter p (take i xs)) → new ≡ mid ++ map f (filter p (option_to_list o)) → new ≡ map f (filter p (take (i + 1) xs))
map_next f p xs i o mid new is before put =
    put ∙ ap (λ ys. ys ++ map f (filter p (option_to_list o))) before
    ∙ ap (λ q. map f (filter p (take i xs)) ++ map f (filter p (option_to_list q))) is
    ∙ sym (ap (λ zs. map f (filter p zs)) (take_next xs i)
    ∙ ap (map f) (filter-append p (take i xs) (option_to_list (slice_get xs i)))
    ∙ map-append f (filter p (take i xs)) (filter p (option_to_list (slice_get xs i))))

-- ---- with places

one_there : {X : Type 0} (xs : List X) (i : ℕ) → i < length xs → (x : X) × (slice_get xs i ≡ Some x) × (drop i xs ≡ x ∷ drop (suc i) xs)
one_there [] i low = absurd (omega arith)
one_there (x ∷ xs) zero low = (x, refl, refl)
one_there (x ∷ xs) (suc i) low = one_there xs i (omega arith)

pub own_start : (need : Standing → Need) (places : List ℕ) (ss : List Standing) (none : List OwnNeed) → none ≡ []
    → none ++ own_needs_from need places 0 (drop 0 ss) ≡ own_needs_from need places 0 ss
own_start need places ss none is = ap (λ (ns : List OwnNeed). ns ++ own_needs_from need places 0 ss) is

-- the promise of a number, and those behind it
pub own_next : (need : Standing → Need) (places : List ℕ) (ss : List Standing) (i p : ℕ) (o : Option Standing) (mid new all : List OwnNeed)
    → i < length ss → o ≡ slice_get ss i → p ≡ place_at places i → mid ++ own_needs_from need places i (drop i ss) ≡ all
    → new ≡ mid ++ own_need_in need p o → new ++ own_needs_from need places (i + 1) (drop (i + 1) ss) ≡ all
own_next need places ss i p o mid new all low is at before put =
    let one = one_there ss i low in
    let s : Standing = one.0 in
    let rest : List Standing = drop (suc i) ss in
    let found : o ≡ Some s = is ∙ one.1 in
    ap (λ (ns : List OwnNeed). ns ++ own_needs_from need places (i + 1) (drop (i + 1) ss)) put
    ∙ append_assoc mid (own_need_in need p o) (own_needs_from need places (i + 1) (drop (i + 1) ss))
    ∙ ap (λ (q : Option Standing). mid ++ (own_need_in need p q ++ own_needs_from need places (i + 1) (drop (i + 1) ss))) found
    ∙ ap (λ (k : ℕ). mid ++ (own_need_in need k (Some s) ++ own_needs_from need places (i + 1) (drop (i + 1) ss))) at
    ∙ ap (λ (k : ℕ). mid ++ (own_need_in need (place_at places i) (Some s) ++ own_needs_from need places (i + 1) (drop k ss))) (add-one i)
    ∙ sym (ap (λ (xs : List Standing). mid ++ own_needs_from need places i xs) one.2)
    ∙ before

drop_past : {X : Type 0} (xs : List X) (i : ℕ) → length xs ≤ i → drop i xs ≡ []
drop_past xs i done = grind (arith, common_steps)

pub own_all : (need : Standing → Need) (places : List ℕ) (ss : List Standing) (i : ℕ) (mid : List OwnNeed) → length ss ≤ i
    → mid ++ own_needs_from need places i (drop i ss) ≡ own_needs_from need places 0 ss → mid ≡ own_needs_from need places 0 ss
own_all need places ss i mid done e =
    sym (append-nil mid) ∙ ap (λ (xs : List Standing). mid ++ own_needs_from need places i xs) (sym (drop_past ss i done)) ∙ e

-- ---- over a list

pub mapped : {X Y Z : Type 0} (f : Y → Z) (g : X → Y) (xs : List X) (i : ℕ) (x : X) (mid new : List Z) (z : Z) → i < length xs → x ≡ get_or xs i x
    → mid ≡ map f (map g (take i xs)) → z ≡ f (g x) → new ≡ mid ++ z ∷ [] → new ≡ map f (map g (take (i + 1) xs))
mapped f g xs i x mid new z low is before made put = grind (arith, common_steps)

-- the first parameter that is left
pub first_left : (params : List ParamFace) (i : ℕ) (p : ParamFace) (name : List ℕ) (b : Bool) → i < length params → p ≡ get_or params i p → b ≡ is_named name p
    → owner_from i (drop i params) name ≡ cond b (of_param i p) (owner_from (i + 1) (drop (i + 1) params) name)
first_left params i p name b low is e =
    ap (λ (ps : List ParamFace). owner_from i ps name) (drop_more params i p low ∙ ap (λ (x : ParamFace). x ∷ drop (i + 1) params) (sym is))
    ∙ ap (λ (t : Bool). cond t (of_param i p) (owner_from (i + 1) (drop (i + 1) params) name)) (sym e)
