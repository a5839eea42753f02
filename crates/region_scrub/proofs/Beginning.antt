-- What holds before a declaration is set aside.
use Rattle.std.proofs.Common.{◌≡◌, ◌≢◌, ℕ, zero, suc, ◌+◌, ◌<◌, ◌≤◌, List, [], ◌∷◌, ◌++◌, length, get_or, map, take, refl, sym, ◌∙◌, ap, subst, inl, inr, arith, ◌⊎◌}
use Rattle.std.specs.Prelude.{Option, Some, None, replicate}
use Rattle.std.proofs.lemmas.Grind.{common_steps}
use Rattle.std.proofs.lemmas.List.{take_more, map-append}
use Rattle.region_tree.specs.declared.decl.RegionDecl.{RegionDecl}
use Rattle.region_tree.specs.Chains.{parent_at, IsUnder, IsRooted}
use Rattle.region_tree.specs.Regions.{number_of, region_names, decl_name, parents_of}
use Rattle.region_tree.proofs.Numbers.{number_below}
use Rattle.region_scrub.specs.declared.fault.RegionFault.{RegionFault}
use Rattle.region_scrub.specs.declared.fault.RegionFault.TheVariants as fault
use Rattle.region_scrub.specs.declared.chain_state.ChainState.{ChainState}
use Rattle.region_scrub.specs.declared.chain_state.ChainState.TheVariants as mark
use Rattle.region_scrub.specs.Indexes.{IsIndexed, LeastFrom}
use Rattle.region_scrub.specs.Numbers.{Heads, Links, IsLeft, key_at, fault_at, link_if, head_at, own_numbers}
use Rattle.region_scrub.specs.Rooting.{IsMarked, mark_at}
use Rattle.region_scrub.specs.Stages.{faults_by}
use Rattle.region_scrub.proofs.Indexing.{key_past}
use Rattle.region_scrub.proofs.Standing.{roots_free}

abbrev pub own_of : List RegionDecl → RegionDecl → Option ℕ
own_of declared d = number_of declared d.name

map_twice : (declared ds : List RegionDecl) → map (number_of declared) (map decl_name ds) ≡ map (own_of declared) ds
map_twice declared [] = refl
map_twice declared (d ∷ ds) = ap (λ (z : List (Option ℕ)). number_of declared d.name ∷ z) (map_twice declared ds)

pub own_roots : (declared : List RegionDecl) → Some 0 ∷ Some 1 ∷ map (own_of declared) declared ≡ own_numbers declared
unfolding number_of
own_roots declared = ap (λ (z : List (Option ℕ)). Some 0 ∷ Some 1 ∷ z) (sym (map_twice declared declared))

pub own_more : (declared : List RegionDecl) (i : ℕ) (d : RegionDecl) (own : List (Option ℕ)) (o : Option ℕ) → i < length declared → d ≡ get_or declared i d
    → o ≡ number_of declared d.name → own ≡ Some 0 ∷ Some 1 ∷ map (own_of declared) (take i declared)
    → own ++ o ∷ [] ≡ Some 0 ∷ Some 1 ∷ map (own_of declared) (take (i + 1) declared)
own_more declared i d own o low is found so_far =
    let here : o ≡ own_of declared (get_or declared i d) = found ∙ ap (own_of declared) is in
    ap (λ (z : List (Option ℕ)). z ++ o ∷ []) so_far ∙ ap (λ (z : Option ℕ). (Some 0 ∷ Some 1 ∷ map (own_of declared) (take i declared)) ++ z ∷ []) here
    ∙ ap (λ (z : List (Option ℕ)). Some 0 ∷ Some 1 ∷ z) (sym (map-append (own_of declared) (take i declared) (get_or declared i d ∷ [])))
    ∙ ap (λ (z : List RegionDecl). Some 0 ∷ Some 1 ∷ map (own_of declared) z) (sym (take_more declared i d low))

read_own : {X : Type 0} (f : X → Option ℕ) (xs : List X) (k key : ℕ) → key_at (map f xs) k ≡ Some key → (x : X) × (f x ≡ Some key)
read_own f [] k key e = absurd (cc)
read_own f (x ∷ xs) zero key e = (x, e)
read_own f (x ∷ xs) (suc k) key e = read_own f xs k key e

-- the keys of names are in range
pub own_within : (declared : List RegionDecl) (own : List (Option ℕ)) → own ≡ own_numbers declared → (k key : ℕ) → key_at own k ≡ Some key → key < length own
own_within declared own is k key e =
    let r = read_own (number_of declared) (region_names declared) k key (ap (λ (z : List (Option ℕ)). key_at z k) (sym is) ∙ e) in
    let low : key < length (region_names declared) = number_below declared r.0 key r.1 in
    let long : length (own_numbers declared) ≡ length (region_names declared) = grind (arith, common_steps) in
    omega (arith, ap length is)

fault_none : (n k : ℕ) → k < n → fault_at (replicate n None) k ≡ None
fault_none zero k low = absurd (omega arith)
fault_none (suc n) zero low = refl
fault_none (suc n) (suc k) low = fault_none n k (omega arith)

fault_past : (n k : ℕ) → n ≤ k → fault_at (replicate n None) k ≡ Some fault.Repeated
fault_past zero k up = refl
fault_past (suc n) zero up = absurd (omega arith)
fault_past (suc n) (suc k) up = fault_past n k (omega arith)

-- all regions are left
pub all_left : (n k : ℕ) → k < n + 2 → IsLeft (faults_by (replicate n None)) k
all_left n zero low = refl
all_left n (suc zero) low = refl
all_left n (suc (suc k)) low = fault_none n k (omega arith)

none_past : (n k : ℕ) → n + 2 ≤ k → fault_at (faults_by (replicate n None)) k ≡ Some fault.Repeated
none_past n zero up = absurd (omega arith)
none_past n (suc zero) up = absurd (omega arith)
none_past n (suc (suc k)) up = fault_past n k (omega arith)

least_of : (own : List (Option ℕ)) (g : ℕ) (o : Option ℕ) (k : ℕ) → LeastFrom own g 0 o → o ≡ Some k → LeastFrom own g 0 (Some k)
least_of own g o k least e = subst (LeastFrom own g 0) e least

least_none : (own : List (Option ℕ)) (g : ℕ) (o : Option ℕ) → LeastFrom own g 0 o → o ≡ None → LeastFrom own g 0 None
least_none own g o least e = subst (LeastFrom own g 0) e least

-- the first region of each key
pub first_heads : (own first next : List (Option ℕ)) (n : ℕ) → length own ≡ n + 2 → IsIndexed own first next → Heads own (faults_by (replicate n None)) first
first_heads own first next n long i = record {
  long = i.long_first;
  left = λ g k e. let here = found g k e in let low : k < length own = key_past own k g here.0 in all_left n k (omega arith);
  owns = λ g k e. (found g k e).0;
  first = λ g k j e left is. (found g k e).2 j (omega arith) is;
  none = λ g j e left is. least_none own g (key_at first g) (i.first_is g (i.within j g is)) e j (omega arith) is;
}
  where
    found : (g k : ℕ) → key_at first g ≡ Some k → LeastFrom own g 0 (Some k)
    found g k e = let low : g < length first = key_past first g k e in let long_first = i.long_first in least_of own g (key_at first g) k (i.first_is g (omega arith)) e

map_at : (heads up : List (Option ℕ)) (k : ℕ) → parent_at (map (head_at heads) up) k ≡ head_at heads (key_at up k)
map_at heads [] k = refl
map_at heads (u ∷ us) zero = refl
map_at heads (u ∷ us) (suc k) = map_at heads us k

past_none : (up : List (Option ℕ)) (k : ℕ) → length up ≤ k → key_at up k ≡ None
past_none [] k up = refl
past_none (u ∷ us) zero up = absurd (omega arith)
past_none (u ∷ us) (suc k) up = past_none us k (omega arith)

link_none : (f : Option RegionFault) (o : Option ℕ) → o ≡ None → o ≡ link_if f o
link_none None o e = refl
link_none (Some why) o e = e

-- the parents are the first regions of their keys
pub first_links : (up heads parents : List (Option ℕ)) (n : ℕ) → length up ≡ n + 2 → parents ≡ map (head_at heads) up
    → Links up heads (faults_by (replicate n None)) parents
first_links up heads parents n long is = record {
  long = ap length is ∙ grind (arith, common_steps);
  links = λ k. ap (λ (z : List (Option ℕ)). parent_at z k) is ∙ map_at heads up k ∙ elim (cases k (n + 2)) [
    | inl low ↦ sym (ap (λ z. link_if z (head_at heads (key_at up k))) (all_left n k low))
    | inr past ↦ link_none (fault_at (faults_by (replicate n None)) k) (head_at heads (key_at up k)) (ap (head_at heads) (past_none up k (omega arith)))
  ];
}
  where
    cases : (i j : ℕ) → (i < j) ⊎ (j ≤ i)
    cases i j = grind arith

mark_fresh : (n k : ℕ) → mark_at (replicate n mark.Fresh) k ≡ mark.Fresh
mark_fresh zero k = refl
mark_fresh (suc n) zero = refl
mark_fresh (suc n) (suc k) = mark_fresh n k

root_rooted : (parents : List (Option ℕ)) (k : ℕ) → k < 2 → IsRooted parents k
unfolding IsRooted IsUnder
root_rooted parents k low = (k, low, ([], refl))

-- only of the roots something is known
pub begin_marked : (declared : List RegionDecl) (up heads parents : List (Option ℕ)) (faults : List (Option RegionFault)) (n : ℕ) → up ≡ parents_of declared
    → length parents ≡ n + 2 → Links up heads faults parents → IsMarked parents (mark.Rooted ∷ mark.Rooted ∷ replicate n mark.Fresh)
begin_marked declared up heads parents faults n is long l = record {
  long = grind (arith, common_steps);
  settled = settled;
  roots = roots;
  rooted = rooted;
  lost = lost;
  closed = closed;
}
  where
    marks : List ChainState
    marks = mark.Rooted ∷ mark.Rooted ∷ replicate n mark.Fresh

    settled : (k : ℕ) → mark_at (mark.Rooted ∷ mark.Rooted ∷ replicate n mark.Fresh) k ≢ mark.Passing
    settled zero e = cc
    settled (suc zero) e = cc
    settled (suc (suc k)) e = let both : mark.Fresh ≡ mark.Passing = sym (mark_fresh n k) ∙ e in cc

    roots : (k : ℕ) → k < 2 → mark_at (mark.Rooted ∷ mark.Rooted ∷ replicate n mark.Fresh) k ≡ mark.Rooted
    roots zero low = refl
    roots (suc zero) low = refl
    roots (suc (suc k)) low = absurd (omega arith)

    rooted : (k : ℕ) → mark_at (mark.Rooted ∷ mark.Rooted ∷ replicate n mark.Fresh) k ≡ mark.Rooted → IsRooted parents k
    rooted zero e = root_rooted parents 0 (omega arith)
    rooted (suc zero) e = root_rooted parents 1 (omega arith)
    rooted (suc (suc k)) e = let both : mark.Fresh ≡ mark.Rooted = sym (mark_fresh n k) ∙ e in absurd (cc)

    lost : (k : ℕ) → mark_at (mark.Rooted ∷ mark.Rooted ∷ replicate n mark.Fresh) k ≡ mark.Lost → ¬ (IsRooted parents k)
    lost zero e = absurd (cc)
    lost (suc zero) e = absurd (cc)
    lost (suc (suc k)) e = let both : mark.Fresh ≡ mark.Lost = sym (mark_fresh n k) ∙ e in absurd (cc)

    parentless : (k : ℕ) → k < 2 → parent_at parents k ≡ None
    parentless k low = l.links k ∙ sym (link_none (fault_at faults k) (head_at heads (key_at up k)) (ap (head_at heads) (roots_free declared up k is low)))
        ∙ ap (head_at heads) (roots_free declared up k is low)

    closed : (k x : ℕ) → mark_at (mark.Rooted ∷ mark.Rooted ∷ replicate n mark.Fresh) k ≢ mark.Fresh → parent_at parents k ≡ Some x
        → mark_at (mark.Rooted ∷ mark.Rooted ∷ replicate n mark.Fresh) x ≢ mark.Fresh
    closed zero x known e = absurd (let both : None ≡ Some x = sym (parentless 0 (omega arith)) ∙ e in cc)
    closed (suc zero) x known e = absurd (let both : None ≡ Some x = sym (parentless 1 (omega arith)) ∙ e in cc)
    closed (suc (suc k)) x known e = absurd (known (mark_fresh n k))

take_past : (ds : List RegionDecl) (i : ℕ) → length ds ≤ i → take i ds ≡ ds
take_past [] zero past = refl
take_past [] (suc i) past = refl
take_past (d ∷ ds) zero past = absurd (omega arith)
take_past (d ∷ ds) (suc i) past = ap (λ (z : List RegionDecl). d ∷ z) (take_past ds i (omega arith))

pub own_all : (declared : List RegionDecl) (i : ℕ) (own : List (Option ℕ)) → length declared ≤ i
    → own ≡ Some 0 ∷ Some 1 ∷ map (own_of declared) (take i declared) → own ≡ own_numbers declared
own_all declared i own past is =
    is ∙ ap (λ (z : List RegionDecl). Some 0 ∷ Some 1 ∷ map (own_of declared) z) (take_past declared i past) ∙ own_roots declared

pub length_replicate : (n : ℕ) → length (replicate {A = Option RegionFault} n None) ≡ n
length_replicate n = grind (arith, common_steps)
